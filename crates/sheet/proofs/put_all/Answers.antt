use Rattle.sheet.proofs.Writing.{turn_filling}
use Rattle.sheet.proofs.put_all.Goals as goal

pub loop-x-preserved : goal.loop-x-preserved
loop-x-preserved c = turn_filling c.loop-x.invariant c.loop-x-test.true c.put_number-at.ensures.holds c.put_number-at.ensures.next
