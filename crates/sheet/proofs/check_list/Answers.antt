use Rattle.std.proofs.Common.{arith}
use Rattle.numbers.proofs.SevenLaws.{encode_few}
use Rattle.sheet.proofs.Walking.{gives_some, counts_some}
use Rattle.sheet.proofs.Passing.{begin_passing, turn_passing}
use Rattle.sheet.proofs.check_list.Goals as goal

pub loop-x-init : goal.loop-x-init
loop-x-init c = begin_passing _ _ _ c.over-walk.ensures.whole

pub overflow_add-sum : goal.overflow_add-sum
overflow_add-sum c = omega (arith, c.loop-x.invariant.cap, c.loop-x.walk.few, c.width-sum.ensures.is, encode_few c.in-Some.x)

pub loop-x-smaller : goal.loop-x-smaller
loop-x-smaller c = omega (arith, c.next.new.self.few, counts_some _ c.in-Some.is c.in_ok-x.ensures.counts)

pub loop-x-preserved : goal.loop-x-preserved
loop-x-preserved c =
    let e = c.in_ok-x.ensures in
    turn_passing _ _ c.loop-x.invariant c.width-sum.ensures.is (counts_some _ c.in-Some.is e.counts) (gives_some _ c.in-Some.is e.gives)
