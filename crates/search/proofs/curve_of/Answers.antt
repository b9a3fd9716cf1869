use native.Mathlib.Omega.{arith}
use Rattle.search.proofs.Gathering.{gathering_small, gathering_turns, gathering_ends}
use Rattle.search.proofs.curve_of.Goals as goal

pub overflow_add-offset : goal.overflow_add-offset
overflow_add-offset c = omega (arith, gathering_small _ _ _ _ c.loop-j-test.true c.loop-j.invariant, c.requires.2)

pub loop-j-preserved : goal.loop-j-preserved
loop-j-preserved c = gathering_turns _ _ _ _ c.loop-j-test.true c.loop-j.invariant (omega (arith, c.requires.0))

pub returns : goal.returns
returns c = gathering_ends _ _ _ _ _ c.requires.1 (omega (arith, c.requires.1)) (omega (arith, c.requires.1)) c.loop-j.invariant
