-- `naming::put_ends` meets its contract: the second end is put right behind the first.
-- Assumes nothing.
use Rattle.text.specs.Lines.{field}
use Rattle.text.proofs.PutLaws.{room_first, room_then, written_then}
use Rattle.naming.specs.Names.{up_to_word, ends_of}
use Rattle.naming.proofs.put_ends.Goals as goal

pub put_field-requires : goal.put_field-requires
unfolding ends_of
put_field-requires c = rw c.from.ensures (room_first (field c.args.word.now c.args.low) (field up_to_word c.args.high) c.args.page.now c.requires)

pub put_field-requires-2 : goal.put_field-requires-2
unfolding ends_of
put_field-requires-2 c =
    rw c.from-2.ensures (room_then (field c.args.word.now c.args.low) (field up_to_word c.args.high) (rw c.from.ensures at c.put_field.ensures) c.requires)

pub returns : goal.returns
unfolding ends_of
returns c = written_then (rw c.from.ensures at c.put_field.ensures) (rw c.from-2.ensures at c.put_field-2.ensures)
