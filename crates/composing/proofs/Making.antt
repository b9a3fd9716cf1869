-- What is made of a text, case by case: of what the writer gives on a page, and of what the text's reader gives.
-- Assumes nothing.
use Prim.Native.Nat.{ℕ, ◌≤◌, ◌<◌}
use mathlib.Core.Path.{◌≡◌, refl, sym, ap, ◌∙◌}
use mathlib.Core.List.{List}
use native.Mathlib.Omega.{arith}
use lib.ListN.{length, take}
use lib.Seq.{sets}
use borrow.Author.Tests.{lt-ltb, le-ltb}
use Rattle.ground.proofs.BufferLaws.{stored, stored_front}
use Rattle.std.specs.Prelude.{Result, Ok, Err}
use Rattle.fields.specs.declared.Refusal.{Refusal}
use Rattle.fields.specs.Refusal.{refused}
use Rattle.fields.specs.declared.Why.{Why}
use Rattle.sheet.specs.Sheet.{Found, fail, these, list_of, encode_all, write_gives, write_holds}
use Rattle.sheet.proofs.ValidLaws.{listed_valid}
use Rattle.sheet.proofs.WalkLaws.{list_whole}
use Rattle.sheet.proofs.SizeLaws.{valid_bytes}
use Rattle.sheet.proofs.TripLaws.{gives_room}
use Rattle.sheet.specs.Contract.{WriteSheet}
use Rattle.scribe.specs.declared.Mistake.{Mistake}
use Rattle.scribe.specs.Text as scribe
use Rattle.scribe.proofs.TextLaws.{text_few}
use Rattle.scribe.specs.Contract.{NumbersOfText}
use Rattle.composing.specs.Composed.{long_text, slip_line, wrong, by_writer, by_text, composed, composed_bytes, composed_printed, compose_page}
use Rattle.composing.specs.Inside.{by_list}

-- what the writer gave on a page, which is never too short
module _ (text xs page after : List ℕ) (r : Result ℕ Refusal) (long : length page ≡ compose_page) (w : WriteSheet xs page r after) where
  -- a sheet's bytes have room on the page
  roomy : (ys : List ℕ) → list_of xs ≡ these ys → length (encode_all ys) ≤ length page
  roomy ys e = omega (arith, ap (λ (l : List ℕ). length (encode_all l)) (list_whole xs ys e), valid_bytes xs (listed_valid xs ys e))

  -- a sheet's bytes stand at the front, and n is their count
  pub record Sheet (n : ℕ) : Type 0 where
    pub gives : Ok n ≡ composed_printed (by_list text xs)
    pub count : n ≡ length (composed_bytes (by_list text xs))
    pub holds : after ≡ sets page 0 (composed_bytes (by_list text xs))

  pub written : (n : ℕ) → r ≡ Ok n → Sheet n
  unfolding by_list
  written n e = by (list_of xs) refl (sym w.gives ∙ e) w.holds
    where
      by : (f : Found) → list_of xs ≡ f → write_gives f (length page) ≡ Ok n → after ≡ write_holds f page → Sheet n
      by (fail w d) q g h = absurd (cc)
      by (these ys) q g h =
          let l = roomy ys q in
          let d : Ok (length (encode_all ys)) ≡ Ok n = sym (gives_room (length (encode_all ys)) (length page) l) ∙ g in
          let k : length (encode_all ys) ≡ n = cc in
          record {
            gives = rw q (ap Ok (sym k));
            count = rw q (sym k);
            holds = h ∙ rw (q, le-ltb (length page) (length (encode_all ys)) l) (sym (stored (encode_all ys) page l));
          }

  pub refusing : (f : Refusal) → r ≡ Err f → (list_of xs ≡ fail f.why f.at) × (after ≡ page)
  refusing f e = by (list_of xs) refl (sym w.gives ∙ e) w.holds
    where
      by : (g : Found) → list_of xs ≡ g → write_gives g (length page) ≡ Err f → after ≡ write_holds g page → (g ≡ fail f.why f.at) × (after ≡ page)
      by (fail w' d') q g h = let k : refused w' d' ≡ f = cc in (ap (λ (x : Refusal). fail x.why x.at) k, h)
      by (these ys) q g h =
          let z = sym (gives_room (length (encode_all ys)) (length page) (roomy ys q)) ∙ g in
          absurd (cc)

-- a list that is no sheet's is complained of
pub by_refusal : (text xs : List ℕ) (why : Why) (d : ℕ) → list_of xs ≡ fail why d → by_list text xs ≡ by_writer text xs (fail why d)
unfolding by_list
by_refusal text xs why d e = rw e

-- what the text's reader gave, into a list of 232 numbers
pub too_long : (text : List ℕ) → 16384 < length text → composed text ≡ wrong long_text
unfolding composed
too_long text h = rw (lt-ltb 16384 (length text) h)

module _ (text list after : List ℕ) (r : Result ℕ Mistake) (room : length list ≡ 232) (fits : length text ≤ 16384) (got : NumbersOfText text list r after) where
  said : composed text ≡ by_text text (scribe.text_of (length list) text)
  unfolding composed
  said = rw (le-ltb 16384 (length text) fits, room)

  pub record Numbers (n : ℕ) : Type 0 where
    pub few : n ≤ 232
    pub is : composed text ≡ by_list text (take n after)

  pub numbers_said : (n : ℕ) → r ≡ Ok n → Numbers n
  unfolding by_list
  numbers_said n e = record { few = omega (arith, few, room); is = said ∙ by (scribe.text_of (length list) text) (sym got.gives ∙ e) few got.holds }
    where
      few : n ≤ length list
      few = text_few (length list) text n (sym got.gives ∙ e)

      by : (s : scribe.Said) → scribe.gives_text s ≡ Ok n → n ≤ length list → after ≡ sets list 0 (scribe.numbers_in s)
          → by_text text s ≡ by_writer text (take n after) (list_of (take n after))
      by (scribe.these xs) q l h =
          let k : length xs ≡ n = cc in
          let f : take n after ≡ xs = rw (h, ← k) (stored_front xs list (omega arith)) in
          rw f
      by (scribe.wrong xs slip line) q l h = absurd (cc)

  pub slip_said : (m : Mistake) → r ≡ Err m → composed text ≡ wrong (slip_line m.slip m.line)
  slip_said m e = said ∙ by (scribe.text_of (length list) text) (sym got.gives ∙ e)
    where
      by : (s : scribe.Said) → scribe.gives_text s ≡ Err m → by_text text s ≡ wrong (slip_line m.slip m.line)
      by (scribe.these xs) q = absurd (cc)
      by (scribe.wrong xs slip line) q =
          let k : record { slip = slip; line = line } ≡ m = cc in
          ap (λ (x : Mistake). wrong (slip_line x.slip x.line)) k
