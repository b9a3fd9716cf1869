-- `row::reaches_of` meets its contract. The invariant (`Reached`): at each server stands the furthest of the flows before this one.
-- Assumes nothing.
use mathlib.Core.List.{[]}
use Rattle.tandem.specs.Lent.{row_in}
use Rattle.row.specs.Parts.{Reached}
use Rattle.row.proofs.reaches_of.Given as goal

abbrev pub invariant-loop-flow : goal.invariant-loop-flow
invariant-loop-flow l = Reached (row_in [] l.flows) l.flow-index l.reaches
