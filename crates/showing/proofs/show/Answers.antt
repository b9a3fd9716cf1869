-- `showing::show` meets its contract: what is to be printed has room on the page, off which it is handed over.
-- Assumes nothing.
use Rattle.std.proofs.Common.{refl, arith}
use Rattle.text.proofs.PutLaws.{within, handed}
use Rattle.showing.proofs.ShownLaws.{show_short}
use Rattle.showing.proofs.show.Goals as goal

pub put_sheet-printed-requires-clause-room : goal.put_sheet-printed-requires-clause-room
put_sheet-printed-requires-clause-room c = omega (arith, show_short c.args.bytes.now)

pub hand_over-requires : goal.hand_over-requires
hand_over-requires c = within c.put_sheet-printed.ensures.writes (omega (arith, show_short c.args.bytes.now))

pub returns : goal.returns
returns c =
    let h = handed c.put_sheet-printed.ensures.writes refl (omega (arith, show_short c.args.bytes.now)) c.hand_over.ensures in
    record { gives = c.put_sheet-printed.ensures.gives; leaves = h.leaves }
