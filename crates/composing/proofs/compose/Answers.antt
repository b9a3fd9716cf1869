-- `composing::compose` meets its contract: what is to be printed has room on the page, off which it is handed over.
-- Assumes nothing.
use Rattle.std.proofs.Common.{refl, arith}
use Rattle.text.proofs.PutLaws.{within, handed}
use Rattle.composing.proofs.ComposedLaws.{composed_short}
use Rattle.composing.proofs.compose.Goals as goal

pub hand_over-requires : goal.hand_over-requires
hand_over-requires c = within c.put_composed-printed.ensures.writes (omega (arith, composed_short c.args.text.now))

pub returns : goal.returns
returns c =
    let h = handed c.put_composed-printed.ensures.writes refl (omega (arith, composed_short c.args.text.now)) c.hand_over.ensures in
    record { gives = c.put_composed-printed.ensures.gives; leaves = h.leaves }
