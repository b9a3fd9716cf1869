-- A list of 231 numbers is never too short: the reader refuses only what the sheet is refused for, and what it read stands at the list's front
-- and is valid.
-- Assumes nothing.
use Rattle.std.specs.Prelude.{ℕ, ◌≤◌, ◌≡◌, refl, List, Result, Ok, Err, length, take}
use Rattle.std.proofs.Common.{sym, ap, ◌∙◌, arith}
use Rattle.fields.specs.declared.Refusal.{Refusal}
use Rattle.fields.specs.Refusal.{refused}
use Rattle.fields.specs.declared.Why.{Why}
use Rattle.sheet.specs.Sheet.{Found, fail, these, sheet_of, read_gives, read_holds}
use Rattle.sheet.specs.Valid.{Valid}
use Rattle.sheet.proofs.ValidLaws.{valid_length, read_valid}
use Rattle.sheet.proofs.TripLaws.{WasDone, read_done, gives_room, holds_front}

-- what was read of a sheet, into a list of the greatest length
module _ (s list after : List ℕ) (r : Result ℕ Refusal) (long : length list ≡ 231) (gives : r ≡ read_gives (sheet_of s) (length list))
    (holds : after ≡ read_holds (sheet_of s) list) where
  pub record Numbers (n : ℕ) : Type 0 where
    pub numbers : List ℕ
    pub are : sheet_of s ≡ these numbers
    pub front : take n after ≡ numbers
    pub count : length numbers ≡ n
    pub few : n ≤ 231
    pub valid : Valid numbers

  front_of : (f : Found) (xs : List ℕ) (n : ℕ) → after ≡ read_holds f list → f ≡ these xs → length xs ≡ n → length xs ≤ length list → take n after ≡ xs
  front_of f xs n h is count room = rw (h, is, ← count) (holds_front xs list room)

  pub numbers_read : (n : ℕ) → r ≡ Ok n → Numbers n
  numbers_read n e =
      let d : WasDone (sheet_of s) length (length list) n = read_done (sheet_of s) (length list) n (sym gives ∙ e) in
      let v : Valid d.numbers = read_valid s d.numbers d.is in
      record {
        numbers = d.numbers;
        are = d.is;
        front = front_of (sheet_of s) d.numbers n holds d.is d.count d.fits;
        count = d.count;
        few = omega (arith, d.count, valid_length d.numbers v);
        valid = v;
      }

  pub refused_read : (w : Why) (d : ℕ) → r ≡ Err (refused w d) → sheet_of s ≡ fail w d
  refused_read w d e = by (sheet_of s) refl (sym gives ∙ e)
    where
      by : (f : Found) → sheet_of s ≡ f → read_gives f (length list) ≡ Err (refused w d) → f ≡ fail w d
      by (fail w' d') q g =
          let k : refused w' d' ≡ refused w d = cc in
          ap (λ (f : Refusal). fail f.why f.at) k
      by (these xs) q g =
          let z = sym (gives_room (length xs) (length list) (omega (arith, valid_length xs (read_valid s xs q)))) ∙ g in
          let o : ◌≡◌ {A = ℕ} 0 1 = cc in
          absurd (omega arith)
