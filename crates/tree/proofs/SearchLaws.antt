-- The search of an accepted row within the limits: every point of its grid is in range for the code, and its numbers are small.
-- Assumes nothing.
use Rattle.std.specs.Prelude.{◌≡◌, refl, ◌⊎◌, List, [], ◌∷◌, ℕ, zero, suc, ◌≤◌, ◌<◌, ◌^◌}
use Rattle.std.proofs.Common.{ap, inl, inr, arith}
use Rattle.std.proofs.Math.ListN.{length, get_or}
use Rattle.ground.proofs.OrderLaws.{le_or_lt}
use Rattle.tandem.specs.Tandem.{Tandem, Path}
use Rattle.row.specs.Groups.{groups}
use Rattle.tandem.specs.Sound.{Limits}
use Rattle.row.specs.Accepted.{Accepted}
use Rattle.tree.specs.Grid.{steps_of, points_of, found_of}
use Rattle.tree.specs.Bound.{waits, extra_of, answer_at, searched}
use Rattle.ground.specs.Each.{Each}
use Rattle.tree.specs.Searched.{First}
use Rattle.tree.proofs.SizeLaws.{start_small}
use Rattle.tree.proofs.PruneLaws.{wait_le_delay}
use Rattle.tree.proofs.GridLaws.{search_first, found_at, found_le_start}

waits_length : (row : Tandem) (extra : ℕ → ℕ) (gs : List Path) (k : ℕ) → length (waits row extra k gs) ≡ length gs
unfolding waits
waits_length row extra [] k = refl
waits_length row extra (g ∷ gs) k = ap suc (waits_length row extra gs (suc k))

-- a wait for each group
pub answer_waits : (row : Tandem) (es : List ℕ) → length (answer_at row es).waits ≡ length (groups row)
unfolding answer_at
answer_waits row es = waits_length row (extra_of es) (groups row) 0

-- behind the end of a list
past_end : (l : List ℕ) (k : ℕ) → length l ≤ k → get_or l k 0 ≤ 0
past_end [] k h = omega arith
past_end (x ∷ l) zero h = absurd (omega arith)
past_end (x ∷ l) (suc k) h = past_end l k (omega arith)

-- an entry of a list of which none is above s
each_le : (s : ℕ) (l : List ℕ) → Each (λ e. e ≤ s) l → (k : ℕ) → get_or l k 0 ≤ s
each_le s [] h k = omega arith
each_le s (x ∷ l) h zero = h.0
each_le s (x ∷ l) h (suc k) = each_le s l h.1 k

-- "mode 0": the searched answer is the first point of the row's grid with the least delay
pub searched_first : (row : Tandem) (g : ℕ) → 1 ≤ g
    → First (answer_at row) (points_of (steps_of (searched row 0 g).start g) (length (groups row))) (searched row 0 g).best
unfolding searched found_of
searched_first row g h = search_first (answer_at row) (length (groups row)) g h

pub searched_le_start : (row : Tandem) (mode g : ℕ) → (searched row mode g).best.delay ≤ (searched row mode g).start
unfolding searched
searched_le_start row mode g = found_le_start (answer_at row) (length (groups row)) mode g

module _ (row : Tandem) (ok : Accepted row) where
  -- at each point, each wait is at most the delay
  pub answer_wait_le : (es : List ℕ) (k : ℕ) → get_or (answer_at row es).waits k 0 ≤ (answer_at row es).delay
  unfolding answer_at
  answer_wait_le es k = go (le_or_lt (length (groups row)) k)
    where
      go : (length (groups row) ≤ k) ⊎ (k < length (groups row)) → get_or (answer_at row es).waits k 0 ≤ (answer_at row es).delay
      go (inl h) = omega (arith, past_end (answer_at row es).waits k (omega (arith, answer_waits row es)))
      go (inr h) = wait_le_delay row ok (extra_of es) k h

  -- the waits of the answer are at most its delay
  pub searched_wait_le : (mode g : ℕ) → 2 ≤ g → (k : ℕ) → get_or (searched row mode g).best.waits k 0 ≤ (searched row mode g).best.delay
  unfolding searched
  searched_wait_le mode g h k =
      let f = found_at (answer_at row) (length (groups row)) mode g h in
      rw f.2 (answer_wait_le f.0 k)

  module _ (limits : Limits row) where
    pub searched_start_small : (mode g : ℕ) → (searched row mode g).start < 2 ^ 30
    unfolding searched found_of
    searched_start_small mode g = start_small row ok limits (length (groups row))
