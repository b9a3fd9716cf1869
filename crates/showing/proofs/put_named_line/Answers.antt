-- `showing::put_named_line` meets its contract: the number, the words ` # `, the name and the line end are put behind one another.
-- Assumes nothing.
use Rattle.std.proofs.Common.{◌++◌}
use Rattle.text.specs.Decimal.{decimal}
use Rattle.text.specs.Lines.{line_end}
use Rattle.text.proofs.PutLaws.{room_first, room_then, written_then}
use Rattle.naming.specs.Names.{name_at}
use Rattle.showing.specs.Shown.{hash_word, named_line}
use Rattle.showing.proofs.put_named_line.Goals as goal

pub put_decimal-requires : goal.put_decimal-requires
unfolding named_line
put_decimal-requires c =
    rw c.from.ensures (room_first (decimal c.args.x) (hash_word ++ (name_at c.args.i c.args.extent ++ line_end)) c.args.page.now c.requires.room)

pub put_word-requires : goal.put_word-requires
unfolding named_line
put_word-requires c =
    let name = name_at c.args.i c.args.extent in
    let d = rw c.from.ensures at c.put_decimal.ensures in
    room_first hash_word (name ++ line_end) c.put_decimal.new.self (room_then (decimal c.args.x) (hash_word ++ (name ++ line_end)) d c.requires.room)

pub put_name_at-requires : goal.put_name_at-requires
unfolding named_line
put_name_at-requires c =
    let name = name_at c.args.i c.args.extent in
    let d = rw c.from.ensures at c.put_decimal.ensures in
    let r = room_then hash_word (name ++ line_end) c.put_word.ensures (room_then (decimal c.args.x) (hash_word ++ (name ++ line_end)) d c.requires.room) in
    (c.requires.inside, room_first name line_end c.put_word.new.self r)

pub put_word-requires-2 : goal.put_word-requires-2
unfolding named_line
put_word-requires-2 c =
    let name = name_at c.args.i c.args.extent in
    let d = rw c.from.ensures at c.put_decimal.ensures in
    let r = room_then hash_word (name ++ line_end) c.put_word.ensures (room_then (decimal c.args.x) (hash_word ++ (name ++ line_end)) d c.requires.room) in
    room_then name line_end c.put_name_at.ensures r

pub returns : goal.returns
unfolding named_line
returns c =
    let d = rw c.from.ensures at c.put_decimal.ensures in
    written_then d (written_then c.put_word.ensures (written_then c.put_name_at.ensures c.put_word-2.ensures))
