-- Refusal 9 as a sentence: what it says of a row that none of its numbers passes 2^63 − 1. LargeLaws.antt proves that the tests of Large.antt say the same.
-- Assumes nothing.
use Rattle.std.specs.Prelude.{ℕ, ◌-◌, ◌^◌, ◌≤◌, List, ◌∷◌}
use Rattle.curves.specs.Curve.{Shape}
use Rattle.tandem.specs.Tandem.{Tandem}
use Rattle.row.specs.Groups.{reads}
use Rattle.ground.specs.Each.{Each}
use Rattle.tree.specs.Plan.{Node, plan}
use Rattle.tree.specs.Bound.{answer_at}

-- no offset and no stage
pub record SmallCurve (c : Shape) : Type 0 where
  pub offset : c.offset ≤ 2 ^ 63 - 1
  pub stages : Each (λ s. (s.burst ≤ 2 ^ 63 - 1) × (s.rate ≤ 2 ^ 63 - 1)) c.stages

-- no number of a node, its wait included, before and after its group is taken out
pub record SmallNode (n : Node) : Type 0 where
  pub curve : SmallCurve n.curve
  pub wait : n.wait ≤ 2 ^ 63 - 1
  pub left : SmallCurve n.left

-- no number at a point, its delay included
pub record SmallAt (row : Tandem) (es : List ℕ) : Type 0 where
  pub nodes : Each SmallNode (plan row.servers (reads row) (0 ∷ es))
  pub delay : (answer_at row es).delay ≤ 2 ^ 63 - 1
