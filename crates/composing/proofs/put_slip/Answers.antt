-- `composing::put_slip` meets its contract: the words of the slip are put behind the line.
-- Assumes nothing.
use Rattle.text.specs.Lines.{field}
use Rattle.text.proofs.PutLaws.{room_first, room_then, written_then}
use Rattle.composing.specs.Composed.{line_word, word_slip, large_slip, many_slip, slip_word, slip_line}
use Rattle.composing.proofs.put_slip.Goals as goal

pub put_field-requires : goal.put_field-requires
unfolding slip_line
put_field-requires c = room_first (field line_word c.args.mistake.line) (slip_word c.args.mistake.slip) c.args.page.now c.requires

pub put_word-requires : goal.put_word-requires
unfolding slip_line
put_word-requires c = room_then (field line_word c.args.mistake.line) word_slip c.put_field.ensures (rw c.in-Word.is at c.requires)

pub put_word-requires-in-Large : goal.put_word-requires-in-Large
unfolding slip_line
put_word-requires-in-Large c = room_then (field line_word c.args.mistake.line) large_slip c.put_field.ensures (rw c.in-Large.is at c.requires)

pub put_word-requires-in-Many : goal.put_word-requires-in-Many
unfolding slip_line
put_word-requires-in-Many c = room_then (field line_word c.args.mistake.line) many_slip c.put_field.ensures (rw c.in-Many.is at c.requires)

pub returns-in-Word : goal.returns-in-Word
unfolding slip_line
returns-in-Word c = rw c.in-Word.is (written_then c.put_field.ensures c.put_word.ensures)

pub returns-in-Large : goal.returns-in-Large
unfolding slip_line
returns-in-Large c = rw c.in-Large.is (written_then c.put_field.ensures c.put_word-in-Large.ensures)

pub returns-in-Many : goal.returns-in-Many
unfolding slip_line
returns-in-Many c = rw c.in-Many.is (written_then c.put_field.ensures c.put_word-in-Many.ensures)
