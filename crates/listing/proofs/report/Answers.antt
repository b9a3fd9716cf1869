-- `listing::report` meets its contract: the text of the analysis is the verdict's and has room on the page, off which it is handed over.
-- Assumes nothing.
use Rattle.std.proofs.Common.{refl, arith}
use Rattle.listing.proofs.Reporting.{short, within, all_said}
use Rattle.listing.proofs.report.Goals as goal

pub put_text-printed-requires-clause-room : goal.put_text-printed-requires-clause-room
put_text-printed-requires-clause-room c = omega (arith, short _ _ c.analyse.ensures.is)

pub hand_over-requires : goal.hand_over-requires
hand_over-requires c = within _ _ c.analyse.ensures.is _ _ refl refl c.put_text-printed.ensures.writes

pub returns : goal.returns
returns c = all_said _ _ c.analyse.ensures.is _ _ refl refl c.put_text-printed.ensures.writes _ c.put_text-printed.ensures.gives c.hand_over.ensures
