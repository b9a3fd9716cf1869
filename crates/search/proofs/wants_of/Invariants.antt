-- The bytes of the watched flow and the bursts of the groups gone over so far are in the numbers, each on the servers of its path (`Wanting`).
-- Assumes nothing.
use Prim.Native.Nat.{◌+◌}
use Rattle.point.specs.Point.{flows_of}
use Rattle.search.proofs.Wanting.{Wanting, bytes_of}
use Rattle.search.proofs.wants_of.Given as goal

abbrev pub invariant-loop-g : goal.invariant-loop-g
invariant-loop-g l = Wanting (flows_of l.row) (bytes_of l.row) l.wants (l.g-index + 1)
