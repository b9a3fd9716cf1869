-- `numbers::put_number` meets its contract. The invariant (`Putting`): storing the groups of `rest` from `p` on gives what storing all the
-- groups at the start would have given.
-- Assumes nothing.
use Rattle.numbers.proofs.Putting.{Putting}
use Rattle.numbers.proofs.put_number.Given as goal

abbrev pub invariant-loop-p : goal.invariant-loop-p
invariant-loop-p l = Putting l.initial.buf l.at l.x l.buf l.p l.rest
