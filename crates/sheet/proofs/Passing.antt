-- The writer's first loop: the bytes of the numbers passed are counted.
-- Assumes nothing.
use Rattle.std.specs.Prelude.{ℕ, ◌+◌, ◌*◌, ◌≤◌, ◌≡◌, refl, List, [], ◌∷◌, ◌++◌, length}
use Rattle.std.proofs.Common.{sym, ◌∙◌, arith, append-nil, length-append}
use Rattle.numbers.specs.Seven.{encode}
use Rattle.numbers.proofs.SevenLaws.{encode_few}
use Rattle.fields.specs.declared.User.TheVariants.{Writer}
use Rattle.sheet.specs.Sheet.{Found, also, entry_at, list_of, encode_all}
use Rattle.sheet.specs.Inside.{whole}
use Rattle.sheet.proofs.EncodeLaws.{encode_append}
use Rattle.sheet.proofs.Walking.{whole_list, before, before_none, before_also}

pub record Passing (xs : List ℕ) (total passed : ℕ) (left : Found) : Type 0 where
  pub numbers : List ℕ
  pub same : list_of xs ≡ before numbers left
  pub count : total ≡ length (encode_all numbers)
  pub cap : total ≤ 5 * passed

pub begin_passing : (xs : List ℕ) (passed : ℕ) (left : Found) → left ≡ whole Writer (entry_at xs) (length xs) → Passing xs 0 passed left
begin_passing xs passed left e = record { numbers = []; same = sym (e ∙ whole_list xs) ∙ before_none left; count = refl; cap = omega arith }

pub turn_passing : {xs : List ℕ} {total passed passed' : ℕ} {left left' : Found} (x w : ℕ) → Passing xs total passed left → w ≡ length (encode x)
    → passed' ≡ passed + 1 → left ≡ also x left' → Passing xs (total + w) passed' left'
turn_passing {xs} {total} {passed} {passed'} {left} {left'} x w g e p l =
    record {
      numbers = g.numbers ++ (x ∷ []);
      same = g.same ∙ rw (l, before_also);
      count = rw (encode_append, append-nil, length-append, e, g.count);
      cap = omega (arith, g.cap, encode_few x);
    }
