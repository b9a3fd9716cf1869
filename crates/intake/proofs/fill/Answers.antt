-- `intake::fill` meets its contract: each read takes on (`read_on`); the loop ends with a full buffer, or where a read with room for a byte gave none.
-- Assumes nothing.
use Rattle.std.proofs.Common.{rules, arith, refl}
use Rattle.intake.proofs.Filling.{consumes_none, read_on, read_none}
use Rattle.intake.proofs.fill.Goals as goal

pub loop-n-init : goal.loop-n-init
loop-n-init g c = (omega arith, refl, consumes_none (g.R.Read.remaining c.args.input.now))

pub loop-n-preserved : goal.loop-n-preserved
loop-n-preserved g c =
    let r = c.in_ok-got.ensures in
    let (w, k, t) = c.loop-n.invariant in
    (search rules, search rules, read_on _ _ _ c.loop-n.n c.in_ok-got.got _ c.loop-n.bytes c.read.new.buf w r.bound.0 t r.bytes.0)

pub returns-after-loop-n : goal.returns-after-loop-n
returns-after-loop-n g c =
    let (w, k, t) = c.loop-n.invariant in
    record { long = k; within = search rules; taken = t; whole = λ h. absurd (omega (arith, h, k, c.loop-n-test.false)) }

pub returns-in-0 : goal.returns-in-0
returns-in-0 g c =
    let r = c.in_ok-got.ensures in
    let (w, k, t) = c.loop-n.invariant in
    record {
      long = search rules;
      within = search rules;
      taken = read_none _ _ _ c.loop-n.n c.in_ok-got.got _ c.loop-n.bytes c.read.new.buf w r.bound.0 t r.bytes.0 c.in-0.is;
      whole = λ h. r.bytes.1 c.in-0.is (search rules);
    }
