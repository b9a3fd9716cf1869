-- Refusal 9 (document 01): "an offset, stage, wait or delay would pass 2^63 − 1", at a point of the grid. LargeLaws.antt proves that it
-- never happens.
-- Assumes nothing.
use Rattle.std.specs.Prelude.{ℕ, Bool, false, cond, ◌||◌, List, [], ◌∷◌, ltb, eqb, length, replicate}
use Rattle.curves.specs.Curve.{Shape}
use Rattle.curves.specs.declared.Stage.{Stage}
use Rattle.tandem.specs.Tandem.{Tandem}
use Rattle.row.specs.Groups.{groups, reads}
use Rattle.tree.specs.Grid.{steps_of, points_of}
use Rattle.tree.specs.Plan.{Node, plan}
use Rattle.tree.specs.Bound.{answer_at}

-- some element passes
unfoldable pub some : {A : Type 0} → (A → Bool) → List A → Bool
some p [] = false
some p (x ∷ xs) = p x || some p xs

-- a number passes 2^63 − 1
abbrev pub large : ℕ → Bool
large n = ltb 9223372036854775807 n

-- an offset or a stage
unfoldable pub large_curve : Shape → Bool
large_curve c = large c.offset || some (λ (s : Stage). large s.burst || large s.rate) c.stages

-- a node's offsets, stages or wait
unfoldable pub large_node : Node → Bool
large_node n = large_curve n.curve || (large n.wait || large_curve n.left)

-- a number worked out at a point, the delay included
unfoldable pub large_at : Tandem → List ℕ → Bool
large_at row es = some large_node (plan row.servers (reads row) (0 ∷ es)) || large (answer_at row es).delay

-- the points that are worked out: the first, and in mode 0 all others
unfoldable pub too_large : Tandem → ℕ → ℕ → Bool
too_large row mode g =
    large_at row (replicate (length (groups row)) 0)
    || cond (eqb mode 0) (some (large_at row) (points_of (steps_of (answer_at row (replicate (length (groups row)) 0)).delay g) (length (groups row)))) false
