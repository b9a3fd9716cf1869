-- The entries of a part of a list changed one after another, as `change` does it.
-- Assumes nothing.
use Rattle.std.specs.Prelude.{◌≡◌, refl, List, [], ◌∷◌, ◌++◌, ℕ, zero, suc, ◌+◌, ◌-◌, ◌≤◌, ◌<◌, length, take, drop, get_or, set}
use Rattle.std.proofs.Common.{sym, ap, ◌∙◌, subst, inr, arith, add-one, zero-add, suc-add, length-take}
use Rattle.std.proofs.Math.Seq.{slice}
use Rattle.std.proofs.lemmas.List.{drop-take}
use Rattle.ground.specs.Each.{Each}
use Rattle.ground.proofs.EachLaws.{each_at}
use Rattle.curves.specs.Part.{changed}
use Rattle.curves.proofs.PartLaws.{changed_outside, changed_more, changed_length, changed_all}

-- a part, as the code cuts it out
cut : {A : Type 0} (a b : ℕ) (l : List A) → a ≤ b → slice a b l ≡ take (b - a) (drop a l)
cut a b l h = let e : b ≡ a + (b - a) = omega arith in ap (λ (n : ℕ). drop a (take n l)) e ∙ drop-take a (b - a) l

-- the front of a list changed, and the rest behind it
front_changed : {A : Type 0} (f : A → A) (n : ℕ) (l : List A) → changed f 0 n (take n l) ++ drop n l ≡ changed f 0 n l
front_changed f zero [] = refl
front_changed f zero (x ∷ l) = refl
front_changed f (suc n) [] = refl
front_changed f (suc n) (x ∷ l) = ap (λ (m : List _). f x ∷ m) (front_changed f n l)

-- a part of a list changed, and put back
part_changed : {A : Type 0} (f : A → A) (a n : ℕ) (l : List A)
    → take a l ++ (changed f 0 n (take n (drop a l)) ++ drop n (drop a l)) ≡ changed f a (a + n) l
part_changed f zero n l = rw zero-add (front_changed f n l)
part_changed f (suc a) zero [] = refl
part_changed f (suc a) (suc n) [] = refl
part_changed f (suc a) n (x ∷ l) = rw suc-add (ap (λ (m : List _). x ∷ m) (part_changed f a n l))

module _ {A : Type 0} (f : A → A) where
  -- the entry at hand is as it was
  pub changing_at : (P : A → Type 0) (a b i : ℕ) (l now : List A) (z : A) → a ≤ b → Each P (slice a b l) → now ≡ changed f 0 i (take (b - a) (drop a l)) → i < length now
      → P (get_or now i z)
  changing_at P a b i l now z w h e p =
      let m = take (b - a) (drop a l) in
      let n : length now ≡ length m = ap length e ∙ changed_length f 0 i m in
      let y : i ≤ i = omega arith in
      let s : get_or now i z ≡ get_or m i z = ap (λ (k : List A). get_or k i z) e ∙ changed_outside f 0 i m i z (inr y) in
      subst P (sym s) (each_at P m z (subst (Each P) (cut a b l w) h) i (omega arith))

  -- one more is changed
  pub changing_turns : (i : ℕ) (l now : List A) (z r : A) → now ≡ changed f 0 i l → i < length now → r ≡ f (get_or now i z) → set now i r ≡ changed f 0 (i + 1) l
  changing_turns i l now z r e p w =
      let n : length now ≡ length l = ap length e ∙ changed_length f 0 i l in
      let y : i ≤ i = omega arith in
      let s : r ≡ f (get_or l i z) = w ∙ ap (λ (k : List A). f (get_or k i z)) e ∙ ap f (changed_outside f 0 i l i z (inr y)) in
      rw (e, add-one i, s) (changed_more f 0 i l z (omega arith) (omega arith))

  -- all of the part are changed
  pub changing_ends : (a b i : ℕ) (l now : List A) → a ≤ b → now ≡ changed f 0 i (take (b - a) (drop a l)) → length now ≤ i
      → take a l ++ (now ++ drop (b - a) (drop a l)) ≡ changed f a b l
  changing_ends a b i l now h e p =
      let n = b - a in
      let m = take n (drop a l) in
      let k : length now ≡ length m = ap length e ∙ changed_length f 0 i m in
      let w : now ≡ changed f 0 n m = e ∙ changed_all f i m (omega arith) ∙ sym (changed_all f n m (omega (arith, length-take n (drop a l)))) in
      let s : a + n ≡ b = omega arith in
      rw w (part_changed f a n l ∙ ap (λ (k : ℕ). changed f a k l) s)
