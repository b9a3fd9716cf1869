-- Laws of a part of a curve's stages: what stands at each place after a part was changed, and that the whole is the part with all stages.
-- Assumes nothing.
use Rattle.std.specs.Prelude.{◌≡◌, refl, ◌⊎◌, List, [], ◌∷◌, ◌++◌, map, ℕ, zero, suc, ◌+◌, ◌-◌, ◌≤◌, ◌<◌, length, take, drop, get_or, set}
use Rattle.std.proofs.Common.{sym, ap, ◌∙◌, inl, inr, arith, length-take, take-append-drop, get_or-take, take_all, length-take-le}
use Rattle.std.proofs.Math.Seq.{slice, slice-cons}
use Rattle.ground.proofs.EachLaws.{each_map}
use Rattle.ground.specs.Each.{Each}
use Rattle.curves.specs.declared.Stage.{Stage}
use Rattle.curves.specs.declared.Curve.{Curve}
use Rattle.curves.specs.Curve.{Shape, Rates, after, catch_up, remainder, least_wait}
use Rattle.curves.proofs.StageLaws.{greatest_le, catch_up_le}
use Rattle.curves.specs.Held.{shape_of, spare, held, blank}
use Rattle.curves.specs.Part.{changed, lag_in, left_in}

-- entries that are changed, and others

pub changed_inside : {A : Type 0} (f : A → A) (a b : ℕ) (l : List A) (j : ℕ) (z : A) → a ≤ j → j < b → j < length l
    → get_or (changed f a b l) j z ≡ f (get_or l j z)
changed_inside f a b [] j z p q h = absurd (omega arith)
changed_inside f zero zero (x ∷ l) j z p q h = absurd (omega arith)
changed_inside f zero (suc b) (x ∷ l) zero z p q h = refl
changed_inside f zero (suc b) (x ∷ l) (suc j) z p q h = changed_inside f zero b l j z (omega arith) (omega arith) (omega arith)
changed_inside f (suc a) zero (x ∷ l) j z p q h = absurd (omega arith)
changed_inside f (suc a) (suc b) (x ∷ l) zero z p q h = absurd (omega arith)
changed_inside f (suc a) (suc b) (x ∷ l) (suc j) z p q h = changed_inside f a b l j z (omega arith) (omega arith) (omega arith)

pub changed_outside : {A : Type 0} (f : A → A) (a b : ℕ) (l : List A) (j : ℕ) (z : A) → (j < a) ⊎ (b ≤ j) → get_or (changed f a b l) j z ≡ get_or l j z
changed_outside f a b [] j z o = refl
changed_outside f zero zero (x ∷ l) j z o = refl
changed_outside f zero (suc b) (x ∷ l) zero z (inl o) = absurd (omega arith)
changed_outside f zero (suc b) (x ∷ l) zero z (inr o) = absurd (omega arith)
changed_outside f zero (suc b) (x ∷ l) (suc j) z (inl o) = absurd (omega arith)
changed_outside f zero (suc b) (x ∷ l) (suc j) z (inr o) = let k : b ≤ j = omega arith in changed_outside f zero b l j z (inr k)
changed_outside f (suc a) zero (x ∷ l) j z o = refl
changed_outside f (suc a) (suc b) (x ∷ l) zero z o = refl
changed_outside f (suc a) (suc b) (x ∷ l) (suc j) z (inl o) = let k : j < a = omega arith in changed_outside f a b l j z (inl k)
changed_outside f (suc a) (suc b) (x ∷ l) (suc j) z (inr o) = let k : b ≤ j = omega arith in changed_outside f a b l j z (inr k)

pub changed_length : {A : Type 0} (f : A → A) (a b : ℕ) (l : List A) → length (changed f a b l) ≡ length l
changed_length f a b [] = refl
changed_length f zero zero (x ∷ l) = refl
changed_length f zero (suc b) (x ∷ l) = ap suc (changed_length f zero b l)
changed_length f (suc a) zero (x ∷ l) = refl
changed_length f (suc a) (suc b) (x ∷ l) = ap suc (changed_length f a b l)

pub all_slice : (P : Stage → Type 0) (a b : ℕ) (l : List Stage) (j : ℕ) (z : Stage) → Each P (slice a b l) → a ≤ j → j < b → j < length l → P (get_or l j z)
all_slice P a zero l j z h p q r = absurd (omega arith)
all_slice P a (suc b) [] j z h p q r = absurd (omega arith)
all_slice P zero (suc b) (s ∷ l) zero z h p q r = h.0
all_slice P zero (suc b) (s ∷ l) (suc j) z h p q r = all_slice P zero b l j z h.1 (omega arith) (omega arith) (omega arith)
all_slice P (suc a) (suc b) (s ∷ l) zero z h p q r = absurd (omega arith)
all_slice P (suc a) (suc b) (s ∷ l) (suc j) z h p q r = all_slice P a b l j z h (omega arith) (omega arith) (omega arith)

-- one more is changed
pub changed_more : {A : Type 0} (f : A → A) (a i : ℕ) (l : List A) (z : A) → a ≤ i → i < length l → set (changed f a i l) i (f (get_or l i z))
    ≡ changed f a (suc i) l
changed_more f a i [] z p q = absurd (omega arith)
changed_more f zero zero (x ∷ []) z p q = refl
changed_more f zero zero (x ∷ y ∷ l) z p q = refl
changed_more f zero (suc i) (x ∷ l) z p q = ap (λ (m : List _). f x ∷ m) (changed_more f zero i l z (omega arith) (omega arith))
changed_more f (suc a) zero (x ∷ l) z p q = absurd (omega arith)
changed_more f (suc a) (suc i) (x ∷ l) z p q = ap (λ (m : List _). x ∷ m) (changed_more f a i l z (omega arith) (omega arith))

pub changed_none : {A : Type 0} (f : A → A) (a : ℕ) (l : List A) → changed f a a l ≡ l
changed_none f a [] = refl
changed_none f zero (x ∷ l) = refl
changed_none f (suc a) (x ∷ l) = ap (λ (m : List _). x ∷ m) (changed_none f a l)

-- the first n of what is changed
take_changed : {A : Type 0} (f : A → A) (n a b : ℕ) (l : List A) → take n (changed f a b l) ≡ changed f a b (take n l)
take_changed f zero a b [] = refl
take_changed f (suc n) a b [] = refl
take_changed f zero zero zero (x ∷ l) = refl
take_changed f zero zero (suc b) (x ∷ l) = refl
take_changed f zero (suc a) zero (x ∷ l) = refl
take_changed f zero (suc a) (suc b) (x ∷ l) = refl
take_changed f (suc n) zero zero (x ∷ l) = refl
take_changed f (suc n) zero (suc b) (x ∷ l) = ap (λ (m : List _). f x ∷ m) (take_changed f n zero b l)
take_changed f (suc n) (suc a) zero (x ∷ l) = refl
take_changed f (suc n) (suc a) (suc b) (x ∷ l) = ap (λ (m : List _). x ∷ m) (take_changed f n a b l)

drop_changed : {A : Type 0} (f : A → A) (n a b : ℕ) (l : List A) → b ≤ n → drop n (changed f a b l) ≡ drop n l
drop_changed f n a b [] h = refl
drop_changed f n zero zero (x ∷ l) h = refl
drop_changed f zero zero (suc b) (x ∷ l) h = absurd (omega arith)
drop_changed f (suc n) zero (suc b) (x ∷ l) h = drop_changed f n zero b l (omega arith)
drop_changed f n (suc a) zero (x ∷ l) h = refl
drop_changed f zero (suc a) (suc b) (x ∷ l) h = absurd (omega arith)
drop_changed f (suc n) (suc a) (suc b) (x ∷ l) h = drop_changed f n a b l (omega arith)

pub changed_all : {A : Type 0} (f : A → A) (n : ℕ) (l : List A) → length l ≤ n → changed f 0 n l ≡ map f l
changed_all f n [] h = refl
changed_all f zero (x ∷ l) h = absurd (omega arith)
changed_all f (suc n) (x ∷ l) h = ap (λ (m : List _). f x ∷ m) (changed_all f n l (omega arith))

-- the record that the code makes when it takes a group out of a part
pub held_left : (c : Curve) (a b σ ρ x : ℕ) → b ≤ c.count → c.count ≤ length c.stages
    → ◌≡◌ {A = Curve} (record { offset = c.offset + x; count = c.count; stages = changed (after σ ρ x) a b c.stages })
    (held (left_in (shape_of c) a b σ ρ x) (spare c))
unfolding held
held_left c a b σ ρ x h k =
    let f = after σ ρ x in
    let n = c.count in
    let l = c.stages in
    let e : changed f a b l ≡ changed f a b (take n l) ++ drop n l =
    sym (take-append-drop n (changed f a b l)) ∙ ap (λ (m : List Stage). m ++ drop n (changed f a b l)) (take_changed f n a b l)
    ∙ ap (λ (m : List Stage). changed f a b (take n l) ++ m) (drop_changed f n a b l h) in
    let m : length (changed f a b (take n l)) ≡ n = changed_length f a b (take n l) ∙ length-take-le n l k in
    rw (m, e)

-- the whole is the part with all stages

pub whole_part : (c : Curve) → slice 0 c.count (shape_of c).stages ≡ (shape_of c).stages
whole_part c = take_all c.count (shape_of c).stages (omega (arith, length-take c.count c.stages))

pub lag_whole : (c : Curve) (σ : ℕ) → c.offset + lag_in (shape_of c) 0 c.count σ ≡ least_wait (shape_of c) σ
unfolding least_wait
lag_whole c σ = rw (whole_part c)

pub left_whole : (c : Curve) (σ ρ θ : ℕ) → c.offset ≤ θ → left_in (shape_of c) 0 c.count σ ρ (θ - c.offset) ≡ remainder (shape_of c) σ ρ θ
unfolding remainder
left_whole c σ ρ θ h =
    let e : c.offset + (θ - c.offset) ≡ θ = omega arith in
    rw (e, changed_all (after σ ρ (θ - c.offset)) c.count (take c.count c.stages) (omega (arith, length-take c.count c.stages)))

-- what holds of all stages holds of the part with all
pub all_whole : (P : Stage → Type 0) (c : Curve) → Each P (shape_of c).stages → Each P (slice 0 c.count (shape_of c).stages)
all_whole P c h = rw (whole_part c) h

-- the slots until stages that serve have σ bytes are at most σ
pub lag_le : (c : Shape) (a b σ : ℕ) → Rates 1 (slice a b c.stages) → lag_in c a b σ ≤ σ
lag_le c a b σ h =
    greatest_le (catch_up σ) σ (slice a b c.stages)
    (each_map (λ s. 1 ≤ s.rate) (λ s. catch_up σ s ≤ σ) (slice a b c.stages) (λ s k. catch_up_le σ s k) h)

-- the next of a part of the first n
pub next_slice : (l : List Stage) (n i to : ℕ) → i < to → to ≤ n → n ≤ length l → slice i to (take n l) ≡ get_or l i blank ∷ slice (suc i) to (take n l)
next_slice l n i to p q r =
    slice-cons i to (take n l) blank p (omega (arith, length-take n l))
    ∙ ap (λ (s : Stage). s ∷ slice (suc i) to (take n l)) (get_or-take n l i blank (omega arith))
