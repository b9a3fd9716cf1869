-- The writer's second loop, which writes the bytes. And what the writer gives and leaves.
-- Assumes nothing.
use Rattle.std.specs.Prelude.{ℕ, suc, ◌+◌, ◌≤◌, ◌<◌, ◌≡◌, refl, List, [], ◌∷◌, ◌++◌, Result, Ok, length, get_or, drop, set}
use Rattle.std.proofs.Common.{sym, ap, ◌∙◌, arith, add-zero, zero-add, length-append, le-ltb}
use Rattle.std.proofs.Math.Seq.{sets, sets-eq}
use Rattle.numbers.specs.Seven.{encode}
use Rattle.fields.specs.declared.Refusal.{Refusal}
use Rattle.sheet.specs.Sheet.{Found, fail, these, list_of, encode_all}
use Rattle.sheet.specs.Inside.{checked}
use Rattle.sheet.specs.Contract.{WriteSheet}
use Rattle.sheet.proofs.EncodeLaws.{encode_next}
use Rattle.sheet.proofs.WalkLaws.{list_whole}

-- the bytes: what is left to write is the bytes of the numbers from i on
pub record Filling (first xs buf : List ℕ) (at i : ℕ) : Type 0 where
  pub place : at + length (encode_all (drop i xs)) ≡ length (encode_all xs)
  pub same : sets first 0 (encode_all xs) ≡ sets buf at (encode_all (drop i xs))

pub sets_append : (l : List ℕ) (i : ℕ) (a b : List ℕ) → sets l i (a ++ b) ≡ sets (sets l i a) (i + length a) b
sets_append l i [] b = rw (add-zero i)
sets_append l i (x ∷ a) b = let e : suc i + length a ≡ i + suc (length a) = omega arith in sets_append (set l i x) (suc i) a b ∙ rw e

pub turn_filling : {first xs buf buf' : List ℕ} {at at' i : ℕ} → Filling first xs buf at i → i < length xs → buf' ≡ sets buf at (encode (get_or xs i 0))
    → at' ≡ at + length (encode (get_or xs i 0)) → Filling first xs buf' at' (i + 1)
turn_filling {first} {xs} {buf} {buf'} {at} {at'} {i} g h b a =
    let e : length (encode_all (drop i xs)) ≡ length (encode (get_or xs i 0)) + length (encode_all (drop (i + 1) xs)) = rw (encode_next xs i h, length-append) in
    record { place = omega (arith, g.place); same = g.same ∙ rw (encode_next xs i h, sets_append, ← b, ← a) }

-- a list that is a sheet, and the length of its bytes
pub record Sized (xs : List ℕ) (n : ℕ) : Type 0 where
  pub is : list_of xs ≡ these xs
  pub count : n ≡ length (encode_all xs)

sized_by : (f : Found) (n : ℕ) → Ok n ≡ checked f → (ys : List ℕ) × ((f ≡ these ys) × (n ≡ length (encode_all ys)))
sized_by (fail w d) n e = absurd (cc)
sized_by (these ys) n e = (ys, (refl, cc))

pub sized : (xs : List ℕ) (n : ℕ) (r : Result ℕ Refusal) → r ≡ checked (list_of xs) → r ≡ Ok n → Sized xs n
sized xs n r e q =
    let a = sized_by (list_of xs) n (sym q ∙ e) in
    let y : a.0 ≡ xs = list_whole xs a.0 a.1.0 in
    record { is = a.1.0 ∙ ap these y; count = a.1.1 ∙ ap (λ (l : List ℕ). length (encode_all l)) y }

pub full_writing : {xs : List ℕ} {n : ℕ} (buf after : List ℕ) → Sized xs n → n ≤ length buf → after ≡ sets buf 0 (encode_all xs)
    → WriteSheet xs buf (Ok n) after
full_writing {xs} {n} buf after w h e =
    let l = le-ltb (length buf) n h in
    record {
      gives = rw (w.is, ← w.count, l);
      holds = e ∙ rw (w.is, ← w.count, l) (sets-eq (encode_all xs) buf 0 (omega (arith, w.count)) ∙ rw (zero-add, ← w.count));
    }
