-- The walk along the node's path (proofs/Walks.antt).
-- Assumes nothing.
use Prim.Native.Nat.{◌+◌, ◌-◌}
use Rattle.point.specs.Point.{servers_of}
use Rattle.point.specs.Nodes.{top_in, path_curve}
use Rattle.point.proofs.Walks.{Walking}
use Rattle.point.proofs.join_path.Given as goal

abbrev pub invariant-loop-j : goal.invariant-loop-j
invariant-loop-j l = Walking (servers_of l.row) (top_in l.row l.tops l.lefts) (path_curve l.row l.k l.tops l.lefts) l.g.last l.c l.j

abbrev pub decreases-loop-j : goal.decreases-loop-j
decreases-loop-j l = l.g.last + 1 - l.j
