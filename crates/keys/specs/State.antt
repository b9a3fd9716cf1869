-- The states of the search: the row with the groups chosen so far taken out of it, and the number that stands for them. And what a branch is
-- ended by beside the slots so far: whether each server can still give, in the slots that are left below the best, what is wanted of it.
-- Assumes nothing.
use Rattle.std.specs.Prelude.{Bool, true, ◌&&◌, List, [], ◌∷◌, ℕ, suc, ◌+◌, ◌-◌, ◌*◌, ◌/◌, ◌≤◌, leb, length, get_or, take, drop}
use Rattle.std.proofs.Math.Seq.{slice}
use Rattle.tandem.specs.Tandem.{no_flow}
use Rattle.ground.specs.Each.{Each}
use Rattle.curves.specs.declared.Stage.{Stage}
use Rattle.curves.specs.Curve.{Shape, line, delay, Rates}
use Rattle.tandem.specs.declared.Server.{Server}
use Rattle.tandem.specs.declared.Flow.{Flow}
use Rattle.keys.specs.Choose.{Climb}
use Rattle.keys.specs.Left.{row_curve, lag_of, left_by, left_of, bursts_on}

-- what the groups chosen so far leave of the row, the number of their digits, and what a digit of the next group counts
pub record State : Type 0 where
  pub curve : Shape
  pub number : ℕ
  pub weight : ℕ

abbrev pub state : Shape → ℕ → ℕ → State
state c number weight = record { curve = c; number = number; weight = weight }

-- no group is chosen yet
abbrev pub whole : List Server → State
whole ss = state (row_curve ss) 0 1

-- the next group is taken out, with its lag and the step of digit d
abbrev pub chosen : (ℕ → ℕ) → ℕ → Flow → State → ℕ → State
chosen step g f s d = state (left_by s.curve f (lag_of s.curve f + step d)) (s.number + d * s.weight) (s.weight * g)

-- the search of the groups gs, numbered from 0, for the watched flow w
abbrev pub climb : ℕ → Flow → List Flow → (ℕ → ℕ) → ℕ → Climb State
climb M w gs step g = record { next = λ k s d. chosen step g (get_or gs k no_flow) s d; key = λ s. delay s.curve w.burst w.rate * M + s.number }

-- what the groups behind the first k leave of the row, with the extras `done`
abbrev pub left_at : List Server → List Flow → ℕ → List ℕ → Shape
left_at ss gs k done = left_of (row_curve ss) (drop k gs) done

-- what the first k groups, and `bytes` behind them, want of server j
abbrev pub want_of : List Flow → ℕ → ℕ → ℕ → ℕ
want_of gs bytes k j = bursts_on (take k gs) j + bytes

-- each stage, the first of them that of server j, has in `rest` slots what is wanted of it
unfoldable pub gives : (ℕ → ℕ) → ℕ → ℕ → List Stage → Bool
gives wants rest j [] = true
gives wants rest j (s ∷ l) = leb (wants j) (line rest s) && gives wants rest (suc j) l

-- the slots from `now` to the greatest delay whose key with `number` is below `best`, and one more
unfoldable pub rest_of : ℕ → ℕ → ℕ → ℕ → ℕ
rest_of M best now number = (best - 1 - number) / M - now + 1

-- each server beside the path of f has in `rest` slots what is wanted of it
unfoldable pub gives_beside : (ℕ → ℕ) → ℕ → Flow → List Stage → Bool
gives_beside wants rest f l = gives wants rest 0 (slice 0 (f.first - 1) l) && gives wants rest f.last (slice f.last (length l) l)

-- each server under it
unfoldable pub gives_under : (ℕ → ℕ) → ℕ → Flow → List Stage → Bool
gives_under wants rest f l = gives wants rest (f.first - 1) (slice (f.first - 1) f.last l)

-- k groups are still to come, and once they are taken out every server still moves, whatever their extras: a rate does not depend on these
pub record Moving (gs : List Flow) (k : ℕ) (s : State) : Type 0 where
  pub few : k ≤ length gs
  pub moves : Rates 1 (left_of s.curve (take k gs) []).stages

-- where no server is faster than B: no stage has more than such a server gives in the slots so far
pub record Small (B : ℕ) (c : Shape) : Type 0 where
  pub stages : Each (λ s. (s.rate ≤ B) × (s.burst ≤ B * c.offset)) c.stages
