-- `composing::put_complaint` meets its contract: what is wrong is put behind the place.
-- Assumes nothing.
use Rattle.std.proofs.Common.{arith}
use Rattle.fields.specs.Refusal.{refusal}
use Rattle.text.proofs.PutLaws.{room_first, room_then, written_then}
use Rattle.composing.specs.Composed.{line_of, place_text, fault_text, complaint}
use Rattle.composing.proofs.put_complaint.Goals as goal

pub put_place-requires : goal.put_place-requires
unfolding complaint
put_place-requires c =
    let place = c.args.refused.at in
    rw c.line_of.ensures
    (room_first (place_text (line_of c.args.text.now place) place) (fault_text c.args.numbers.now (refusal c.args.refused.why) place) c.args.page.now c.requires.1)

pub put_fault-requires : goal.put_fault-requires
unfolding complaint
put_fault-requires c =
    let place = c.args.refused.at in
    let p = rw c.line_of.ensures at c.put_place.ensures in
    (omega (arith, c.requires.0), room_then (place_text (line_of c.args.text.now place) place) (fault_text c.args.numbers.now (refusal c.args.refused.why) place) p c.requires.1)

pub returns : goal.returns
unfolding complaint
returns c = written_then (rw c.line_of.ensures at c.put_place.ensures) c.put_fault.ensures
