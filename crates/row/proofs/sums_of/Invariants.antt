-- `row::sums_of` meets its contract. The invariant (`Summed`): the sums of the flows before this one, the first of which is the watched flow.
-- Assumes nothing.
use mathlib.Core.List.{[]}
use Prim.Native.Nat.{◌+◌}
use Rattle.tandem.specs.Lent.{row_in}
use Rattle.row.specs.Parts.{Summed}
use Rattle.row.proofs.sums_of.Given as goal

abbrev pub invariant-loop-flow : goal.invariant-loop-flow
invariant-loop-flow l = Summed (row_in [] l.flows) (l.flow-index + 1) l.sums
