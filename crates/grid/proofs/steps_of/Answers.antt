use mathlib.Core.Path.{refl}
use native.Mathlib.Omega.{arith}
use Rattle.grid.proofs.Stepping.{stepping_same, stepping_new, stepping_ends}
use Rattle.grid.proofs.steps_of.Goals as goal
use Rattle.grid.proofs.steps_of.Goals.{then-value-last, else-value-last}

pub loop-digit-preserved : goal.loop-digit-preserved
loop-digit-preserved c =
    elim c.if-value-last.branch [
      | then-value-last w ↦ rw (w.steps-is, w.count-is) (stepping_new _ _ _ _ _ _ _ c.loop-digit.invariant refl w.if-value-last.true (omega arith))
      | else-value-last w ↦ rw (w.steps-is, w.count-is) (stepping_same _ _ _ _ _ _ _ c.loop-digit.invariant refl w.if-value-last.false)
    ]

pub returns : goal.returns
returns c = record { is = stepping_ends _ _ _ _ _ _ c.loop-digit.invariant (omega arith) }
