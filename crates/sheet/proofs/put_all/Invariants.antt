-- `sheet::put_all` meets its contract. The invariant (`Filling`): storing the bytes of the numbers that are left gives what storing all of them
-- at the start would have given.
-- Assumes nothing.
use Rattle.sheet.proofs.Writing.{Filling}
use Rattle.sheet.proofs.put_all.Given as goal

abbrev pub invariant-loop-x : goal.invariant-loop-x
invariant-loop-x l = Filling l.initial.buf l.xs l.buf l.at l.x-index
