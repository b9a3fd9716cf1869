-- `text::Page::put_field` meets its contract: the number is put right behind the word.
-- Assumes nothing.
use Rattle.text.specs.Decimal.{decimal}
use Rattle.text.specs.Lines.{field}
use Rattle.text.proofs.PutLaws.{room_first, room_then, written_then}
use Rattle.text.proofs.Page.put_field.Goals as goal

pub put_word-requires : goal.put_word-requires
unfolding field
put_word-requires c = room_first c.args.word.now (decimal c.args.x) c.args.self.now c.requires

pub put_decimal-requires : goal.put_decimal-requires
unfolding field
put_decimal-requires c = room_then c.args.word.now (decimal c.args.x) c.put_word.ensures c.requires

pub returns : goal.returns
unfolding field
returns c = written_then c.put_word.ensures c.put_decimal.ensures
