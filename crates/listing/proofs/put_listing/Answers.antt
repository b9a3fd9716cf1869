-- `listing::put_listing` meets its contract: its four parts are put behind one another.
-- Assumes nothing.
use Rattle.text.specs.Lines.{line}
use Rattle.text.proofs.PutLaws.{room_first, room_then, written_then}
use Rattle.listing.specs.Text.{bound_word, start_word, grid_word, figure_lines}
use Rattle.listing.specs.Held.{groups_held}
use Rattle.listing.proofs.put_listing.Goals as goal

pub put_line-requires : goal.put_line-requires
unfolding figure_lines
put_line-requires c = room_first (line bound_word c.args.found.now.bound) _ c.args.page.now c.requires

pub put_line-requires-2 : goal.put_line-requires-2
unfolding figure_lines
put_line-requires-2 c =
    room_first (line start_word c.args.found.now.start) _ c.put_line.new.self
    (room_then (line bound_word c.args.found.now.bound) _ c.put_line.ensures c.requires)

pub put_line-requires-3 : goal.put_line-requires-3
unfolding figure_lines
put_line-requires-3 c =
    room_first (line grid_word c.args.found.now.grid) (groups_held c.args.found.now) c.put_line-2.new.self
    (room_then (line start_word c.args.found.now.start) _ c.put_line-2.ensures
    (room_then (line bound_word c.args.found.now.bound) _ c.put_line.ensures c.requires))

pub put_groups-requires : goal.put_groups-requires
unfolding figure_lines
put_groups-requires c =
    room_then (line grid_word c.args.found.now.grid) (groups_held c.args.found.now) c.put_line-3.ensures
    (room_then (line start_word c.args.found.now.start) _ c.put_line-2.ensures
    (room_then (line bound_word c.args.found.now.bound) _ c.put_line.ensures c.requires))

pub returns : goal.returns
unfolding figure_lines
returns c = written_then c.put_line.ensures (written_then c.put_line-2.ensures (written_then c.put_line-3.ensures c.put_groups.ensures))
