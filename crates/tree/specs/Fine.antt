-- When a node's numbers are in range: what the methods of a curve ask for, with room to spare.
-- Assumes nothing.
use Rattle.std.specs.Prelude.{◌+◌, ◌≤◌, ◌<◌, ◌^◌, List, [], ◌∷◌, length}
use Rattle.ground.specs.Each.{Each}
use Rattle.curves.specs.Curve.{least_wait, Rates}
use Rattle.curves.specs.Held.{Live}
use Rattle.tandem.specs.declared.Flow.{Flow}
use Rattle.tree.specs.Plan.{Node}

-- a node of the group g, or of the watched flow
pub record Fine (n : Node) (g : Flow) : Type 0 where
  pub some : 1 ≤ length n.curve.stages
  pub few : length n.curve.stages ≤ 16
  pub near : n.curve.offset < 2 ^ 36
  pub live : Each Live n.curve.stages
  -- every stage has room for the group
  pub room : Rates g.rate n.curve.stages
  pub moves : 1 ≤ g.rate
  pub light : g.burst + g.rate < 2 ^ 40
  -- the wait is not below the least wait
  pub late : least_wait n.curve g.burst ≤ n.wait
  pub soon : n.wait < 2 ^ 36
  -- what the group leaves has as many stages, and the wait for an offset
  pub left_few : length n.left.stages ≤ 16
  pub left_near : n.left.offset < 2 ^ 36

-- each node with its group
abbrev pub AllFine : List Node → List Flow → Type 0
AllFine [] gs = Unit {0}
AllFine (n ∷ ns) [] = Unit {0}
AllFine (n ∷ ns) (g ∷ gs) = Fine n g × AllFine ns gs
