-- `scribe::numbers_of_text` meets its contract. The invariant (`Reading`): the whole text says the numbers that are done, and then what the
-- bytes from i on say, the line end behind them included.
-- Assumes nothing.
use Rattle.scribe.proofs.Reading.{Reading}
use Rattle.scribe.proofs.numbers_of_text.Given as goal

abbrev pub invariant-loop-i : goal.invariant-loop-i
invariant-loop-i l = Reading l.text l.initial.numbers l.numbers l.mark l.line l.n l.i
