-- `text::Page::put_line` meets its contract: the line end is put right behind the word and its number.
-- Assumes nothing.
use Rattle.text.specs.Lines.{line_end, field, line}
use Rattle.text.proofs.PutLaws.{room_first, room_then, written_then}
use Rattle.text.proofs.Page.put_line.Goals as goal

pub put_field-requires : goal.put_field-requires
unfolding line
put_field-requires c = room_first (field c.args.word.now c.args.x) line_end c.args.self.now c.requires

pub put_word-requires : goal.put_word-requires
unfolding line
put_word-requires c = room_then (field c.args.word.now c.args.x) line_end c.put_field.ensures c.requires

pub returns : goal.returns
unfolding line
returns c = written_then c.put_field.ensures c.put_word.ensures
