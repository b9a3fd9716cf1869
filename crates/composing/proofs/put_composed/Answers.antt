-- `composing::put_composed` meets its contract: a text that is not too long says its numbers or slips, and its numbers are a sheet's or complained of.
-- Assumes nothing.
use Rattle.std.proofs.Common.{Err, sym, ap, ◌∙◌, refl, arith, length}
use Rattle.std.proofs.Math.Seq.{length-take-le}
use Rattle.composing.specs.Composed.{Composed, composed_bytes}
use Rattle.composing.proofs.ComposedLaws.{composed_short}
use Rattle.composing.proofs.Making.{too_long, numbers_said, slip_said}
use Rattle.composing.proofs.put_composed.Goals as goal

pub returns-then-text-gt-LONGEST : goal.returns-then-text-gt-LONGEST
returns-then-text-gt-LONGEST c =
    let e = too_long c.args.text.now c.if-text-gt-LONGEST.true in
    record {
      gives = rw e (ap (λ n. Err (record { length = n })) (omega (arith, c.put_word.ensures.put.next, c.requires.empty)));
      writes = rw e c.put_word.ensures;
    }

pub slice_bounds-numbers-end : goal.slice_bounds-numbers-end
slice_bounds-numbers-end c =
    let said = numbers_said c.args.text.now _ c.numbers_of_text.new.numbers _ refl c.if-text-gt-LONGEST.false c.numbers_of_text.ensures _ c.in-Ok.is in
    omega (arith, said.few, c.numbers_of_text.auto.numbers)

pub slice_bounds-put_numbers-end : goal.slice_bounds-put_numbers-end
slice_bounds-put_numbers-end c =
    let said = numbers_said c.args.text.now _ c.numbers_of_text.new.numbers _ refl c.if-text-gt-LONGEST.false c.numbers_of_text.ensures _ c.in-Ok.is in
    sym (length-take-le _ _ (omega (arith, said.few, c.numbers_of_text.auto.numbers)))

pub returns-in-Ok : goal.returns-in-Ok
returns-in-Ok c =
    let said = numbers_said c.args.text.now _ c.numbers_of_text.new.numbers _ refl c.if-text-gt-LONGEST.false c.numbers_of_text.ensures _ c.in-Ok.is in
    record { gives = c.put_numbers.ensures.gives ∙ rw said.is; writes = rw said.is c.put_numbers.ensures.writes }

pub put_slip-requires : goal.put_slip-requires
put_slip-requires c =
    let slips = slip_said c.args.text.now _ _ _ refl c.if-text-gt-LONGEST.false c.numbers_of_text.ensures _ c.in-Err.is in
    omega (arith, composed_short c.args.text.now, ap (λ (k : Composed). length (composed_bytes k)) slips, c.requires.room, c.requires.empty)

pub returns-in-Err : goal.returns-in-Err
returns-in-Err c =
    let slips = slip_said c.args.text.now _ _ _ refl c.if-text-gt-LONGEST.false c.numbers_of_text.ensures _ c.in-Err.is in
    record {
      gives = rw slips (ap (λ n. Err (record { length = n })) (omega (arith, c.put_slip.ensures.put.next, c.requires.empty)));
      writes = rw slips c.put_slip.ensures;
    }
