-- The nodes behind node k - 1 are worked out (proofs/Nodes.antt).
-- Assumes nothing.
use Prim.Native.Nat.{◌-◌}
use Rattle.point.proofs.Nodes.{Behind}
use Rattle.point.proofs.evaluate.Given as goal

abbrev pub invariant-loop-k : goal.invariant-loop-k
invariant-loop-k l = Behind l.row l.extra (l.k - 1) l.lefts l.waits l.tops
