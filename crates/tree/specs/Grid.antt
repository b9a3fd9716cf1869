-- The grid (document 01, "Groups, tree and grid"): its points in order, and the first with the least delay.
-- Assumes nothing.
use Rattle.std.specs.Prelude.{ℕ, zero, suc, ◌-◌, ◌*◌, ◌/◌, cond, List, [], ◌∷◌, ◌++◌, ltb, eqb, replicate}
use Rattle.tandem.specs.OfSheet.{listed}

-- "e runs over floor(i·start / (g − 1)), i = 0..g − 1"
unfoldable pub steps_of : ℕ → ℕ → List ℕ
steps_of start g = listed g (λ i. i * start / (g - 1))

abbrev pub flat : {A B : Type 0} → (A → List B) → List A → List B
flat h [] = []
flat h (e ∷ l) = h e ++ flat h l

-- "All combinations are points, the last group in the order moving fastest": those that begin with `fixed` and have n extras more
abbrev pub points_from : List ℕ → List ℕ → ℕ → List (List ℕ)
points_from steps fixed zero = fixed ∷ []
points_from steps fixed (suc n) = flat (λ (e : ℕ). points_from steps (fixed ++ (e ∷ [])) n) steps

-- the points of n groups
unfoldable pub points_of : List ℕ → ℕ → List (List ℕ)
points_of steps n = points_from steps [] n

-- what stands at a point: the delay, and each group's wait
pub record Answer : Type 0 where
  pub delay : ℕ
  pub waits : List ℕ

-- "The bound is the least delay; on a tie the first point stands."
unfoldable pub better : Answer → Answer → Answer
better a b = cond (ltb b.delay a.delay) b a

abbrev pub best_of : (List ℕ → Answer) → Answer → List (List ℕ) → Answer
best_of at a [] = a
best_of at a (p ∷ ps) = best_of at (better a (at p)) ps

-- what a row's search gives
pub record Found : Type 0 where
  pub start : ℕ
  pub best : Answer

-- "With every e = 0 the delay is called start." "Mode 0 searches. Mode 1, quick, answers start and every e = 0."
unfoldable pub found_of : (List ℕ → Answer) → ℕ → ℕ → ℕ → Found
found_of at n mode g =
    let first = at (replicate n 0) in
    record { start = first.delay; best = cond (eqb mode 0) (best_of at first (points_of (steps_of first.delay g) n)) first }
