-- `listing::put_group` meets its contract: its three parts are put behind one another.
-- Assumes nothing.
use Rattle.text.specs.Lines.{field, line}
use Rattle.text.proofs.PutLaws.{room_first, room_then, written_then}
use Rattle.listing.specs.Text.{group_word, blank, wait_word, group_line}
use Rattle.listing.proofs.put_group.Goals as goal

pub put_field-requires : goal.put_field-requires
unfolding group_line
put_field-requires c = room_first (field group_word c.args.group.now.first) _ c.args.page.now c.requires

pub put_field-requires-2 : goal.put_field-requires-2
unfolding group_line
put_field-requires-2 c =
    room_first (field blank c.args.group.now.last) (line wait_word c.args.wait) c.put_field.new.self
    (room_then (field group_word c.args.group.now.first) _ c.put_field.ensures c.requires)

pub put_line-requires : goal.put_line-requires
unfolding group_line
put_line-requires c =
    room_then (field blank c.args.group.now.last) (line wait_word c.args.wait) c.put_field-2.ensures
    (room_then (field group_word c.args.group.now.first) _ c.put_field.ensures c.requires)

pub returns : goal.returns
unfolding group_line
returns c = written_then c.put_field.ensures (written_then c.put_field-2.ensures c.put_line.ensures)
