use Rattle.std.proofs.Common.{rules, arith, ◌≡◌, Ok, Err, Some}
use Rattle.scribe.specs.Text.{turn_of}
use Rattle.scribe.proofs.Reading.{At, begin, at_byte, go_on, take_number, many, slips, ends}
use Rattle.scribe.proofs.numbers_of_text.Goals as goal
use Rattle.scribe.proofs.numbers_of_text.Goals.{in-Some+else-numbers-n, in_default}

pub loop-i-init : goal.loop-i-init
loop-i-init c = begin c.args.text.now c.args.numbers.now

pub returns-in_err-ended : goal.returns-in_err-ended
returns-in_err-ended c =
    let e : turn_of c.loop-i.mark c.unwrap_or-b.result ≡ Err c.in_err-ended.field-0.0.slip = search rules in
    let f : c.from_residual.result ≡ Err (record { slip = c.in_err-ended.field-0.0.slip; line = c.loop-i.line }) = search rules in
    let t : At c.args.text.now c.loop-i.i c.unwrap_or-b.result = at_byte _ _ _ (omega (arith, c.loop-i-test.true)) (search rules) in
    rw f (slips c.loop-i.invariant t e)

pub returns-then-numbers-n : goal.returns-then-numbers-n
returns-then-numbers-n c =
    let e : turn_of c.loop-i.mark c.unwrap_or-b.result ≡ Ok (Some c.in-Some.x, c.in_ok-ended.next) = search rules in
    let t : At c.args.text.now c.loop-i.i c.unwrap_or-b.result = at_byte _ _ _ (omega (arith, c.loop-i-test.true)) (search rules) in
    many c.loop-i.invariant t e c.if-numbers-n.true

pub loop-i-preserved : goal.loop-i-preserved
loop-i-preserved c =
    let t : At c.args.text.now c.loop-i.i c.unwrap_or-b.result = at_byte _ _ _ (omega (arith, c.loop-i-test.true)) (search rules) in
    rw c.line_after-line.ensures
    (elim c.match-ended.branch [
      | in-Some+else-numbers-n w ↦ rw (w.numbers-is, w.n-is) (take_number c.loop-i.invariant t (search rules) w.if-numbers-n.false)
      | in_default w ↦ rw (w.numbers-is, w.n-is) (go_on c.loop-i.invariant t (search rules))
    ])

pub returns : goal.returns
returns c = ends c.loop-i.invariant (omega (arith, c.loop-i-test.false))
