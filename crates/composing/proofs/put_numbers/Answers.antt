-- `composing::put_numbers` meets its contract: the page is never too short for the writer, so it refuses only what is no sheet's list, and leaves the page as it was.
-- Assumes nothing.
use Rattle.std.proofs.Common.{Err, ap, ◌∙◌, refl, arith, length}
use Rattle.sheet.proofs.DetailLaws.{list_place}
use Rattle.composing.proofs.ComposedLaws.{complaint_short}
use Rattle.composing.proofs.Making.{written, refusing, by_refusal}
use Rattle.composing.proofs.put_numbers.Goals as goal

pub returns-in-Ok : goal.returns-in-Ok
returns-in-Ok c =
    let s = written c.args.text.now _ _ _ _ c.requires.room c.write_sheet.ensures _ c.in-Ok.is in
    record {
      gives = s.gives;
      writes = record { put = record { next = omega (arith, s.count, c.requires.empty); stored = rw c.requires.empty s.holds }; same = refl; stays = refl };
    }

pub put_complaint-requires : goal.put_complaint-requires
put_complaint-requires c =
    let e = refusing c.args.text.now _ _ _ _ c.requires.room c.write_sheet.ensures _ c.in-Err.is in
    let short = complaint_short c.args.text.now c.args.numbers.now c.in-Err.refused.why c.in-Err.refused.at in
    (list_place _ _ _ e.0, omega (arith, short, ap length e.1, c.requires.room, c.requires.empty))

pub returns-in-Err : goal.returns-in-Err
returns-in-Err c =
    let e = refusing c.args.text.now _ _ _ _ c.requires.room c.write_sheet.ensures _ c.in-Err.is in
    let k = c.put_complaint.ensures in
    let b = by_refusal c.args.text.now c.args.numbers.now _ _ e.0 in
    record {
      gives = rw b (ap (λ n. Err (record { length = n })) (omega (arith, k.put.next, c.requires.empty)));
      writes = rw b (record { put = record { next = k.put.next; stored = k.put.stored ∙ rw e.1 }; same = k.same; stays = k.stays });
    }
