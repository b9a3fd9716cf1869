use Rattle.std.proofs.Common.{arith}
use Rattle.sheet.proofs.Walking.{gives_some, counts_some}
use Rattle.sheet.proofs.Reading.{begin_reading, turn_reading}
use Rattle.sheet.proofs.numbers_of.Goals as goal

pub loop-x-init : goal.loop-x-init
loop-x-init c = begin_reading _ _ _ _ c.over-walk.ensures.none c.over-walk.ensures.whole

pub loop-x-smaller : goal.loop-x-smaller
loop-x-smaller c = omega (arith, c.next.new.self.few, counts_some _ c.in-Some.is c.in_ok-x.ensures.counts)

pub loop-x-preserved : goal.loop-x-preserved
loop-x-preserved c =
    let e = c.in_ok-x.ensures in
    let n = counts_some _ c.in-Some.is e.counts in
    turn_reading _ c.loop-x.invariant (omega (arith, c.next.new.self.few)) n (gives_some _ c.in-Some.is e.gives)
