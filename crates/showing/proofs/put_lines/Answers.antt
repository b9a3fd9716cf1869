use Rattle.std.proofs.Common.{arith}
use Rattle.showing.proofs.Lining.{none_yet, room_next, one_more, all_lines}
use Rattle.showing.proofs.put_lines.Goals as goal

pub loop-i-init : goal.loop-i-init
loop-i-init c = none_yet c.args.numbers.now c.args.page.now

pub put_named_line-requires-clause-room : goal.put_named_line-requires-clause-room
put_named_line-requires-clause-room c = rw c.of-extent.ensures.is (room_next c.args.numbers.now c.loop-i-test.true c.loop-i.invariant c.requires.room)

pub loop-i-preserved : goal.loop-i-preserved
loop-i-preserved c = one_more c.args.numbers.now c.loop-i.i c.loop-i.invariant (rw c.of-extent.ensures.is at c.put_named_line.ensures)

pub returns : goal.returns
returns c = all_lines c.args.numbers.now (omega (arith, c.loop-i.auto.i-end, c.loop-i-test.false)) c.loop-i.invariant
