-- Laws of a grid's steps: what the code holds are the first digits and their steps, and none of these is above start. The first digits grow
-- and the steps do not fall, so the second of them is the least that is not 0.
-- Assumes nothing.
use Rattle.std.specs.Prelude.{◌≡◌, Bool, true, false, ◌⊎◌, eqb, get_or}
use Rattle.std.proofs.Math.Path.{refl, subst}
use Rattle.std.proofs.Common.{sym, ap, ◌∙◌, inl, inr, zero-mul, mul-le-mul_right, arith}
use mathlib.Core.List.{List, [], ◌∷◌, ◌++◌, map}
use Prim.Native.Nat.{ℕ, zero, suc, ◌-◌, ◌≤◌, ◌<◌}
use Rattle.std.proofs.Math.Nat.{zero-div, div-le_of_le-mul}
use Rattle.std.proofs.Math.ListN.{length, replicate, take, length-append, length-replicate, length-map}
use Rattle.std.proofs.Math.Seq.{take_at}
use Rattle.std.proofs.lemmas.List.{map-id}
use Rattle.std.proofs.lemmas.Simd.{map-map}
use Rattle.ground.specs.Each.{Each}
use Rattle.ground.proofs.EachLaws.{each_append}
use Rattle.keys.specs.Numbers.{In, keep, first_digits, Growing}
use Rattle.keys.proofs.NumberLaws.{first_digits_stand, first_digits_grow}
use Rattle.keys.proofs.ChooseLaws.{first_digits_few}
use Rattle.keys.proofs.StateLaws.{step_rises}
use Rattle.grid.specs.declared.Step.{Step}
use Rattle.grid.specs.Steps.{step_at, step_with, no_step, steps_in, digits_of, values_of}

-- the first step is 0
pub step_zero : (start g : ℕ) → step_at start g 0 ≡ 0
step_zero start g = rw (zero-mul start, zero-div (g - 1))

-- no step is above start
pub steps_le : (start g d : ℕ) → d < g → step_at start g d ≤ start
steps_le start g d h =
    let q : d ≤ g - 1 = omega arith in
    div-le_of_le-mul (g - 1) (mul-le-mul_right start q)

-- the first digit is 0
starts_keep : (t : Bool) (l m : List ℕ) (d : ℕ) → l ≡ 0 ∷ m → (n : List ℕ) × (keep t l d ≡ 0 ∷ n)
starts_keep true l m d h = (m, h)
starts_keep false l m d h = (m ++ (d ∷ []), ap (λ (x : List ℕ). x ++ (d ∷ [])) h)

starts : (step : ℕ → ℕ) (n : ℕ) → (l : List ℕ) × (first_digits step (suc n) ≡ 0 ∷ l)
starts step zero = ([], refl)
starts step (suc n) =
    let s = starts step n in
    starts_keep (eqb (step n) (step (suc n))) (first_digits step (suc n)) s.0 (suc n) s.1

-- what holds of each holds of one
each_member : (P : ℕ → Type 0) (l : List ℕ) (x : ℕ) → In x l → Each P l → P x
each_member P [] x i h = absurd i
each_member P (y ∷ l) x (inl e) h = rw e h.0
each_member P (y ∷ l) x (inr i) h = each_member P l x i h.1

-- of digits that grow behind the first, each one's step is at least the second's
second_least : (make : ℕ → Step) → ((d e : ℕ) → d ≤ e → (make d).value ≤ (make e).value) → (d : ℕ) (ds : List ℕ) → Growing (0 ∷ ds) → In d (0 ∷ ds)
    → (make 0).value ≡ 0 → (l : List Step) → ((make d).value ≡ 0) ⊎ ((get_or (map make (0 ∷ ds) ++ l) 1 no_step).value ≤ (make d).value)
second_least make up d ds r (inl e) z l = inl (ap (λ (n : ℕ). (make n).value) e ∙ z)
second_least make up d [] r (inr i) z l = absurd i
second_least make up d (x ∷ ds) r (inr (inl e)) z l = inr (up x d (omega arith))
second_least make up d (x ∷ ds) r (inr (inr i)) z l = let h = each_member (λ e. x < e) ds d i r.1.0 in inr (up x d (omega arith))

-- entries whose steps are at most b, with entries of zeros behind them
each_low : (b : ℕ) (l : List Step) → Each (λ s. s.value ≤ b) l → (i : ℕ) → (get_or l i no_step).value ≤ b
each_low b [] h i = omega arith
each_low b (s ∷ l) h zero = h.0
each_low b (s ∷ l) h (suc i) = each_low b l h.1 i

none_low : (b n : ℕ) → Each (λ s. s.value ≤ b) (replicate n no_step)
none_low b zero = tt
none_low b (suc n) = (omega arith, none_low b n)

module _ (start g : ℕ) where
  few : g ≤ 9 → length (first_digits (step_at start g) g) ≤ 9
  few h = omega (arith, first_digits_few (step_at start g) g)

  -- the first digit is 0, so there is one
  first_zero : 1 ≤ g → (l : List ℕ) × (first_digits (step_at start g) g ≡ 0 ∷ l)
  first_zero h =
      let e : suc (g - 1) ≡ g = omega arith in
      let s = starts (step_at start g) (g - 1) in
      (s.0, ap (first_digits (step_at start g)) (sym e) ∙ s.1)

  pub steps_few : g ≤ 9 → (steps_in start g).count ≤ 9
  unfolding steps_in
  steps_few h = few h

  steps_held : take (steps_in start g).count (steps_in start g).steps ≡ map (step_with start g) (first_digits (step_at start g) g)
  unfolding steps_in
  steps_held =
      let l = first_digits (step_at start g) g in
      let m = map (step_with start g) l in
      take_at m (replicate (9 - length m) no_step) (length l) (length-map l (step_with start g))

  pub digits_held : digits_of (steps_in start g) ≡ first_digits (step_at start g) g
  digits_held =
      let l = first_digits (step_at start g) g in
      ap (map (λ (s : Step). s.digit)) steps_held ∙ map-map (λ (s : Step). s.digit) (step_with start g) l ∙ map-id l

  pub values_held : values_of (steps_in start g) ≡ map (step_at start g) (first_digits (step_at start g) g)
  values_held =
      let l = first_digits (step_at start g) g in
      ap (map (λ (s : Step). s.value)) steps_held ∙ map-map (λ (s : Step). s.value) (step_with start g) l

  pub steps_full : g ≤ 9 → length (steps_in start g).steps ≡ 9
  unfolding steps_in
  steps_full h =
      let l = first_digits (step_at start g) g in
      let m = map (step_with start g) l in
      length-append m (replicate (9 - length m) no_step)
      ∙ omega (arith, length-replicate {A = Step} (9 - length m) no_step, length-map l (step_with start g), few h)

  pub digits_full : g ≤ 9 → length (map (λ (s : Step). s.digit) (steps_in start g).steps) ≡ 9
  digits_full h = length-map (steps_in start g).steps (λ (s : Step). s.digit) ∙ steps_full h

  pub values_full : g ≤ 9 → length (map (λ (s : Step). s.value) (steps_in start g).steps) ≡ 9
  values_full h = length-map (steps_in start g).steps (λ (s : Step). s.value) ∙ steps_full h

  -- no step that is held is above start
  pub values_low : (i : ℕ) → (get_or (steps_in start g).steps i no_step).value ≤ start
  unfolding steps_in
  values_low i =
      let l = first_digits (step_at start g) g in
      let m = map (step_with start g) l in
      each_low start (m ++ replicate (9 - length m) no_step)
      (each_append (λ s. s.value ≤ start) m (replicate (9 - length m) no_step) (low_steps l (first_digits_stand (step_at start g) g).digits)
      (none_low start (9 - length m))) i
    where
      low_steps : (l : List ℕ) → Each (λ d. d < g) l → Each (λ s. s.value ≤ start) (map (step_with start g) l)
      low_steps [] h = tt
      low_steps (d ∷ l) h = (steps_le start g d h.0, low_steps l h.1)

  -- the second entry's is the least step that is not 0; where there is none, it is the 0 that stands behind the steps
  pub second_step : 2 ≤ g → (d : ℕ) → d < g → (step_at start g d ≡ 0) ⊎ ((get_or (steps_in start g).steps 1 no_step).value ≤ step_at start g d)
  unfolding steps_in
  second_step h d k =
      let make = step_with start g in
      let ds = first_digits (step_at start g) g in
      let s = first_zero (omega arith) in
      let a = (first_digits_stand (step_at start g) g).all d k in
      let pad : List Step = replicate (9 - length (map make ds)) no_step in
      let r = second_least make (step_rises start g) a.0 s.0
      (subst Growing s.1 (first_digits_grow (step_at start g) g)) (subst (In a.0) s.1 a.1) (step_zero start g) pad in
      let q : (step_at start g a.0 ≡ 0) ⊎ ((get_or (map make ds ++ pad) 1 no_step).value ≤ step_at start g a.0) =
      subst (λ (l : List ℕ). (step_at start g a.0 ≡ 0) ⊎ ((get_or (map make l ++ pad) 1 no_step).value ≤ step_at start g a.0)) (sym s.1) r in
      subst (λ (x : ℕ). (x ≡ 0) ⊎ ((get_or (map make ds ++ pad) 1 no_step).value ≤ x)) a.3 q
