-- The record is written out: sixteen blank entries and no stage. Assumes nothing.
use mathlib.Core.Path.{refl}
use lib.ListN.{replicate}
use Rattle.curves.specs.Curve.{neutral}
use Rattle.curves.specs.Held.{held, blank}
use Rattle.curves.proofs.HeldLaws.{held_both}
use Rattle.curves.proofs.Curve.none.Goals as goal

pub returns : goal.returns
unfolding held neutral
returns c = let h = held_both neutral (replicate 16 blank) refl in record { is = h.0; holds = h.1 }
