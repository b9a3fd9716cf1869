-- DEMAND 2 of a row: where on the grid the answer of a search stands, and what its bound bounds (document 01, "Groups, tree and grid").
-- Assumes nothing.
use Rattle.std.specs.Prelude.{ℕ, ◌≡◌, List, length, replicate}
use Rattle.curves.specs.Slots.{Covers, Least}
use Rattle.tandem.specs.Tandem.{Tandem, flow}
use Rattle.row.specs.Groups.{groups}
use Rattle.tree.specs.Grid.{steps_of, points_of, Answer}
use Rattle.tree.specs.Searched.{First}
use Rattle.tree.specs.Tree.{tree}
use Rattle.tree.specs.Bound.{extra_of, answer_at}
use Rattle.tree.specs.Meaning.{meaning}

-- "every e = 0"
abbrev pub no_extras : Tandem → List ℕ
no_extras row = replicate (length (groups row)) 0

-- the start, and the answer that stands at the chosen point, in a mode and on the grid g
pub record Chosen (row : Tandem) (mode g start : ℕ) (best : Answer) : Type 0 where
  -- each group's extra
  pub point : List ℕ
  -- the delay and the waits are those of that point
  pub there : best ≡ answer_at row point
  -- "With every e = 0 the delay is called start."
  pub begins : start ≡ (answer_at row (no_extras row)).delay
  -- "Mode 0 searches": of all points of the grid it is the first with the least delay
  pub searches : mode ≡ 0 → (f : First (answer_at row) (points_of (steps_of start g) (length (groups row))) best) × (f.point ≡ point)
  -- "Mode 1, quick, answers start and every e = 0."
  pub quick : mode ≡ 1 → point ≡ no_extras row
  -- "The delay of a bucket (σ, ρ) over a curve is the least d such that for every s ≥ 0 the bucket at s is at most the curve at s + d": over what the
  -- nesting tree guarantees the watched flow at that point, slot by slot
  pub least : Least (Covers (meaning row (extra_of point) (tree row)) (flow row 0).burst (flow row 0).rate) best.delay
