-- The reader's loop: the numbers passed stand at the front of its array.
-- Assumes nothing.
use Rattle.std.specs.Prelude.{ℕ, ◌+◌, ◌-◌, ◌<◌, ◌≡◌, List, length, take, set}
use Rattle.std.proofs.Common.{sym, ◌∙◌, arith, add-one}
use Rattle.std.proofs.Math.Seq.{take-suc-set}
use Rattle.numbers.specs.Seven.{number_at}
use Rattle.fields.specs.declared.User.TheVariants.{Reader}
use Rattle.sheet.specs.Sheet.{Found, also, sheet_of}
use Rattle.sheet.specs.Inside.{whole}
use Rattle.sheet.proofs.Walking.{whole_sheet, before, before_none, before_also}

pub record Reading (bytes values : List ℕ) (passed : ℕ) (left : Found) : Type 0 where
  pub same : sheet_of bytes ≡ before (take passed values) left

pub begin_reading : (bytes values : List ℕ) (passed : ℕ) (left : Found) → passed ≡ 0 → left ≡ whole Reader (number_at bytes) (length bytes)
    → Reading bytes values passed left
begin_reading bytes values passed left p e = record { same = rw p (sym (e ∙ whole_sheet bytes) ∙ before_none left) }

pub turn_reading : {bytes values : List ℕ} {passed passed' : ℕ} {left left' : Found} (x : ℕ) → Reading bytes values passed left → passed < length values
    → passed' ≡ passed + 1 → left ≡ also x left' → Reading bytes (set values (passed' - 1) x) passed' left'
turn_reading {bytes} {values} {passed} {passed'} {left} {left'} x g h p e =
    let i : passed' - 1 ≡ passed = omega arith in
    record { same = g.same ∙ rw (e, before_also, i, p, add-one passed, take-suc-set values passed x h) }
