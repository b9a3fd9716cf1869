-- `text::Page::put_refusal` meets its contract: the detail is put right behind the number.
-- Assumes nothing.
use Rattle.text.specs.Lines.{refused_word, at_word, field, line, refusal_line}
use Rattle.text.proofs.PutLaws.{room_first, room_then, written_then}
use Rattle.text.proofs.Page.put_refusal.Goals as goal

pub put_field-requires : goal.put_field-requires
unfolding refusal_line
put_field-requires c = rw c.from.ensures (room_first (field refused_word c.args.number) (line at_word c.args.detail) c.args.self.now c.requires)

pub put_line-requires : goal.put_line-requires
unfolding refusal_line
put_line-requires c = room_then (field refused_word c.args.number) (line at_word c.args.detail) (rw c.from.ensures at c.put_field.ensures) c.requires

pub returns : goal.returns
unfolding refusal_line
returns c = written_then (rw c.from.ensures at c.put_field.ensures) c.put_line.ensures
