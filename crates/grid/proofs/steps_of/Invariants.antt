-- Digits 0 to `digit` - 1 are collected, each unless its step is equal to the one before (`Stepping`). Step 0 is 0.
-- Assumes nothing.
use Rattle.grid.proofs.Stepping.{Stepping}
use Rattle.grid.proofs.steps_of.Given as goal

abbrev pub invariant-loop-digit : goal.invariant-loop-digit
invariant-loop-digit l = Stepping l.start l.g l.steps l.count l.last l.digit
