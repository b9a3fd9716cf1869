-- The steps as `steps_of` collects them: digit after digit, each unless its step is equal to the one before, over entries of zeros.
-- Assumes nothing.
use mathlib.Core.Path.{◌≡◌, refl, sym, ap, ◌∙◌}
use mathlib.Core.List.{List, [], ◌∷◌, ◌++◌, map, append_assoc, map-append}
use Prim.Native.Nat.{ℕ, suc, ◌+◌, ◌-◌, ◌≤◌, ◌<◌}
use native.Mathlib.Numerals.{add-one}
use native.Mathlib.Omega.{arith}
use borrow.Author.Tests.{eq-eqb, ne_eqb}
use lib.ListN.{length, set, replicate, length-set, length-append, length-map}
use lib.Seq.{set-append_seam}
use Rattle.row.specs.RowFor.{padded}
use Rattle.keys.specs.Numbers.{first_digits}
use Rattle.grid.specs.declared.Step.{Step}
use Rattle.grid.specs.Steps.{step_at, step_with, no_step, steps_in}
use Rattle.grid.proofs.StepsLaws.{step_zero}

-- digits 0 to i - 1 are collected, and `last` is the step of the last of them
pub record Stepping (start g : ℕ) (steps : List Step) (count last i : ℕ) : Type 0 where
  pub one : ℕ
  pub place : i ≡ suc one
  pub before : last ≡ step_at start g one
  pub few : count ≤ i
  pub full : length steps ≡ 9
  pub counted : count ≡ length (first_digits (step_at start g) i)
  pub held : steps ≡ padded 9 no_step (map (step_with start g) (first_digits (step_at start g) i))

pub stepping_begins : (start g : ℕ) → Stepping start g (replicate 9 no_step) 1 0 1
stepping_begins start g =
    record {
      one = 0;
      place = refl;
      before = sym (step_zero start g);
      few = omega arith;
      full = refl;
      counted = refl;
      held = rw (step_zero start g);
    }

-- one more entry is put behind the last
put_behind : (xs l m : List Step) (n : ℕ) (e : Step) → xs ≡ padded 9 no_step l → n ≡ length l → n < 9 → m ≡ l ++ (e ∷ []) → set xs n e ≡ padded 9 no_step m
put_behind xs l m n e x k h w =
    let r : List Step = replicate (9 - length (l ++ (e ∷ []))) no_step in
    let q : 9 - length l ≡ suc (9 - length (l ++ (e ∷ []))) = omega (arith, length-append l (e ∷ [])) in
    rw (x, k, w, q) (set-append_seam l no_step r e ∙ sym (append_assoc l (e ∷ []) r))

same_digits : (f : ℕ → ℕ) (n : ℕ) → f n ≡ f (suc n) → first_digits f (suc (suc n)) ≡ first_digits f (suc n)
same_digits f n h = rw (eq-eqb (f n) (f (suc n)) h)

new_digit : (f : ℕ → ℕ) (n : ℕ) → (f n ≡ f (suc n) → ⊥) → first_digits f (suc (suc n)) ≡ first_digits f (suc n) ++ (suc n ∷ [])
new_digit f n h = rw (ne_eqb (f n) (f (suc n)) h)

module _ (start g : ℕ) (steps : List Step) (count last i e : ℕ) (s : Stepping start g steps count last i) (h : e ≡ step_at start g i) where
  -- a step equal to the one before is left out
  pub stepping_same : e ≡ last → Stepping start g steps count e (i + 1)
  stepping_same q =
      let m = s.one in
      let f : ℕ → List ℕ = first_digits (step_at start g) in
      let p : step_at start g m ≡ step_at start g (suc m) = sym s.before ∙ sym q ∙ h ∙ ap (step_at start g) s.place in
      let d : f i ≡ f (i + 1) =
      ap f s.place ∙ sym (same_digits (step_at start g) m p) ∙ ap (λ (n : ℕ). f (suc n)) (sym s.place) ∙ ap f (sym (add-one i)) in
      record {
        one = i;
        place = add-one i;
        before = h;
        few = omega (arith, s.few);
        full = s.full;
        counted = s.counted ∙ ap (λ (l : List ℕ). length l) d;
        held = s.held ∙ ap (λ (l : List ℕ). padded 9 no_step (map (step_with start g) l)) d;
      }

  -- any other is put behind, with its digit
  pub stepping_new : (e ≡ last → ⊥) → i < 9 → Stepping start g (set steps count (record { digit = i; value = e })) (count + 1) e (i + 1)
  stepping_new q n =
      let m = s.one in
      let f : ℕ → List ℕ = first_digits (step_at start g) in
      let made : List ℕ → List Step = map (step_with start g) in
      let w : e ≡ step_at start g (suc m) = h ∙ ap (step_at start g) s.place in
      let p : step_at start g m ≡ step_at start g (suc m) → ⊥ = λ z. q (w ∙ sym z ∙ sym s.before) in
      let d : f (i + 1) ≡ f i ++ (i ∷ []) =
      ap f (add-one i) ∙ ap (λ (n : ℕ). f (suc n)) s.place ∙ new_digit (step_at start g) m p
      ∙ ap (λ (n : ℕ). f n ++ (n ∷ [])) (sym s.place) in
      let v : made (f (i + 1)) ≡ made (f i) ++ (record { digit = i; value = e } ∷ []) =
      ap made d ∙ map-append (step_with start g) (f i) (i ∷ [])
      ∙ ap (λ (x : ℕ). made (f i) ++ (record { digit = i; value = x } ∷ [])) (sym h) in
      let c : count ≡ length (made (f i)) = s.counted ∙ sym (length-map (f i) (step_with start g)) in
      record {
        one = i;
        place = add-one i;
        before = h;
        few = omega (arith, s.few);
        full = length-set steps count (record { digit = i; value = e }) ∙ s.full;
        counted = omega (arith, s.counted, ap (λ (l : List ℕ). length l) d, length-append (f i) (i ∷ []));
        held = put_behind steps (made (f i)) (made (f (i + 1))) count (record { digit = i; value = e }) s.held c (omega (arith, s.few)) v;
      }

-- all digits are collected
pub stepping_ends : (start g : ℕ) (steps : List Step) (count last i : ℕ) → Stepping start g steps count last i → i ≡ g
    → record { start = start; grid = g; count = count; steps = steps } ≡ steps_in start g
unfolding steps_in
stepping_ends start g steps count last i s e =
    let f : ℕ → List ℕ = first_digits (step_at start g) in
    let d : f i ≡ f g = ap f e in
    let c = s.counted ∙ ap (λ (l : List ℕ). length l) d in
    let h = s.held ∙ ap (λ (l : List ℕ). padded 9 no_step (map (step_with start g) l)) d in
    rw (c, h)
