-- `showing::put_lines` meets its contract. The invariant: the lines of the first i numbers are written.
-- Assumes nothing.
use Rattle.text.specs.Contract.{Written}
use Rattle.showing.specs.Shown.{lines_from}
use Rattle.showing.proofs.put_lines.Given as goal

abbrev pub invariant-loop-i : goal.invariant-loop-i
invariant-loop-i l = Written (lines_from l.numbers 0 l.i) l.initial.page l.page
