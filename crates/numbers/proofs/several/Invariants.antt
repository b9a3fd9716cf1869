-- `numbers::several` meets its contract. The invariant (`Going`): the groups passed, the first too, are worth `sum`, the next weighs `weight`, and
-- the whole number is what they make of the groups still to come.
-- Assumes nothing.
use Rattle.std.specs.Prelude.{◌+◌}
use Rattle.numbers.proofs.Scan.{Going}
use Rattle.numbers.proofs.several.Given as goal

abbrev pub invariant-loop-i : goal.invariant-loop-i
invariant-loop-i l = Going l.bytes l.at (l.at + l.i) l.weight l.sum
