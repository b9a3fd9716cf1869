-- `composing::put_place` meets its contract: the place is put behind the line, where there is one.
-- Assumes nothing.
use Rattle.text.specs.Lines.{field}
use Rattle.text.proofs.PutLaws.{room_then, written_then}
use Rattle.composing.specs.Composed.{line_word, place_word, place_text}
use Rattle.composing.proofs.put_place.Goals as goal

pub put_field-requires-in-Some : goal.put_field-requires-in-Some
unfolding place_text
put_field-requires-in-Some c = room_then (field line_word c.in-Some.line) (field place_word c.args.place) c.put_field.ensures (rw c.in-Some.is at c.requires)

pub returns-in-Some : goal.returns-in-Some
unfolding place_text
returns-in-Some c = rw c.in-Some.is (written_then c.put_field.ensures c.put_field-in-Some.ensures)
