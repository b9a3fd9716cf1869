-- `row::reaches_of` meets its contract: a flow's last server counts at its first one where it is further.
-- Assumes nothing.
use native.Mathlib.Omega.{arith}
use Rattle.row.proofs.Reaching.{begin_reaches, turn_reaches}
use Rattle.row.proofs.reaches_of.Goals as goal

pub loop-flow-init : goal.loop-flow-init
loop-flow-init c = begin_reaches _

pub loop-flow-preserved : goal.loop-flow-preserved
loop-flow-preserved c =
    let r = c.requires.ranges c.loop-flow.flow-index c.loop-flow-test.true in
    turn_reaches _ _ _ _ c.loop-flow.invariant (omega (arith, r.path, r.ends)) c.max.ensures
