-- The branches of the next group are taken step by step. What stands at a place of the code is gathered into a call, a turn of the loop or a
-- turn that goes on, and each way through the loop and out of it is a law of proofs/Climbing.antt. The groups to choose fall with each call.
-- Assumes nothing.
use Rattle.climb.proofs.Climbing.{Turning}
use Rattle.climb.proofs.+choose.Given as goal

-- the groups still to choose
abbrev pub decreases-choose : goal.decreases-choose
decreases-choose l = l.k

abbrev pub invariant-loop-step : goal.invariant-loop-step
invariant-loop-step l = Turning l.flows l.steps l.k l.s l.best l.b l.step-index
