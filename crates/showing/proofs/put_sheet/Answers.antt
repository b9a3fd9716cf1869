-- `showing::put_sheet` meets its contract: a list of 231 numbers is never too short, so the reader refuses only what the sheet is refused for,
-- and what it read is valid.
-- Assumes nothing.
use Rattle.std.proofs.Common.{Ok, Err, refl, ap, arith}
use Rattle.sheet.proofs.RoomLaws.{numbers_read, refused_read}
use Rattle.showing.specs.Shown.{show_text, show_printed}
use Rattle.showing.proofs.put_sheet.Goals as goal

pub put_lines-requires : goal.put_lines-requires
unfolding show_text
put_lines-requires c =
    let read = numbers_read c.args.bytes.now _ c.read_sheet.new.numbers c.read_sheet.result refl c.read_sheet.ensures.gives c.read_sheet.ensures.holds c.in-Ok.n c.in-Ok.is in
    record { valid = rw read.front read.valid; room = rw read.front (rw read.are at c.requires.room) }

pub put_refusal-requires : goal.put_refusal-requires
unfolding show_text
put_refusal-requires c =
    let refused = refused_read c.args.bytes.now _ c.read_sheet.new.numbers c.read_sheet.result refl c.read_sheet.ensures.gives c.read_sheet.ensures.holds c.in-Err.refusal.why c.in-Err.refusal.at c.in-Err.is in
    rw c.refusal_of.ensures.is (rw refused at c.requires.room)

pub returns-in-Ok : goal.returns-in-Ok
unfolding show_text show_printed
returns-in-Ok c =
    let read = numbers_read c.args.bytes.now _ c.read_sheet.new.numbers c.read_sheet.result refl c.read_sheet.ensures.gives c.read_sheet.ensures.holds c.in-Ok.n c.in-Ok.is in
    let e = rw read.front at c.put_lines.ensures in
    record { gives = rw read.are (ap Ok (omega (arith, e.put.next, c.requires.empty))); writes = rw read.are e }

pub returns-in-Err : goal.returns-in-Err
unfolding show_text show_printed
returns-in-Err c =
    let refused = refused_read c.args.bytes.now _ c.read_sheet.new.numbers c.read_sheet.result refl c.read_sheet.ensures.gives c.read_sheet.ensures.holds c.in-Err.refusal.why c.in-Err.refusal.at c.in-Err.is in
    let e = rw c.refusal_of.ensures.is at c.put_refusal.ensures in
    record { gives = rw refused (ap (λ n. Err (record { length = n })) (omega (arith, e.put.next, c.requires.empty))); writes = rw refused e }
