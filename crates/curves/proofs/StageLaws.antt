-- Laws of stages: what holds of each stage of a list, quotients rounded up, and how many slots a stage needs to have a number of bytes.
-- Assumes nothing.
use Rattle.std.specs.Prelude.{◌≡◌, refl, List, [], ◌∷◌, map, ◌⊎◌, ℕ, zero, suc, ◌+◌, ◌-◌, ◌*◌, ◌/◌, ◌%◌, ◌≤◌, ◌<◌, max, min}
use Rattle.std.specs.List.{fold, reduce}
use Rattle.std.specs.Option.{unwrap_or}
use Rattle.std.proofs.Common.{inl, inr, mul-le-mul_left, mul-le-mul_right, le_antisymm, div-lt_iff_lt-mul, arith}
use Rattle.std.proofs.lemmas.Grind.{div_ceil_times}
use Rattle.std.proofs.Math.Nat.{mul-sub, div-zero, lt-div-mul-add}
use Rattle.ground.proofs.EachLaws.{each_map}
use Rattle.ground.specs.Each.{Each}
use Rattle.curves.specs.declared.Stage.{Stage}
use Rattle.curves.specs.Curve.{line, ceil, greatest, catch_up, lateness, Rates, Below}
use Rattle.ground.proofs.OrderLaws.{le_or_lt}

-- what holds of each stage

pub rates_weaken : (ρ q : ℕ) (l : List Stage) → ρ ≤ q → Rates q l → Rates ρ l
rates_weaken ρ q l k h = each_map (λ s. q ≤ s.rate) (λ s. ρ ≤ s.rate) l (λ s p. omega arith) h

pub below_mono : (v w x y : ℕ) (l : List Stage) → w ≤ v → x ≤ y → Below v x l → Below w y l
below_mono v w x y l p q h = each_map (λ s. v ≤ line x s) (λ s. w ≤ line y s) l (λ s k. omega (arith, mul-le-mul_left s.rate q)) h

-- the greatest over the stages

pub greatest_le : (f : Stage → ℕ) (w : ℕ) (l : List Stage) → Each (λ s. f s ≤ w) l → greatest f l ≤ w
unfolding greatest
greatest_le f w [] h = omega arith
greatest_le f w (s ∷ l) h = omega (arith, h.0, greatest_le f w l h.1)

pub le_greatest : (f : Stage → ℕ) (w : ℕ) (l : List Stage) → greatest f l ≤ w → Each (λ s. f s ≤ w) l
unfolding greatest
le_greatest f w [] h = tt
le_greatest f w (s ∷ l) h = (omega arith, le_greatest f w l (omega arith))

-- as a chain of iterators finds it
fold_greatest : (f : Stage → ℕ) (most : ℕ) (l : List Stage) → fold max most (map f l) ≡ max most (greatest f l)
unfolding greatest
fold_greatest f most [] = omega arith
fold_greatest f most (s ∷ l) = omega (arith, fold_greatest f (max most (f s)) l)

pub max_greatest : (f : Stage → ℕ) (l : List Stage) → unwrap_or (reduce max (map f l)) 0 ≡ greatest f l
unfolding greatest
max_greatest f [] = refl
max_greatest f (s ∷ l) = fold_greatest f (f s) l

-- if one function is one less than another at each stage, so are the greatest values
pub greatest_pred : (f g : Stage → ℕ) (l : List Stage) → Each (λ s. f s ≡ g s - 1) l → greatest f l ≡ greatest g l - 1
unfolding greatest
greatest_pred f g [] h = refl
greatest_pred f g (s ∷ l) h = omega (arith, h.0, greatest_pred f g l h.1)

-- the quotient rounded up is the least number that is enough

pub ceil_enough : (a r : ℕ) → 1 ≤ r → a ≤ r * ceil a r
unfolding ceil
ceil_enough a r h = let k = lt-div-mul-add {a = a + (r - 1)} {b = r} h in omega arith

pub ceil_least : (a r w : ℕ) → 1 ≤ r → a ≤ r * w → ceil a r ≤ w
unfolding ceil
ceil_least a r w h k =
    let x : a + (r - 1) < suc w * r = omega arith in
    let y = (div-lt_iff_lt-mul {k = r} {x = a + (r - 1)} {y = suc w} h).1 x in
    omega arith

-- as the code rounds: the quotient, and one more where a rest is left
pub ceil_by_rest : (a r : ℕ) → 1 ≤ r → a / r + min 1 (a % r) ≡ ceil a r
ceil_by_rest a r h =
    let t = div_ceil_times a r h in
    le_antisymm (le_of_mul-lt r (omega (arith, t.1, ceil_enough a r h))) (ceil_least a r (a / r + min 1 (a % r)) h (omega (arith, t.0)))
  where
    -- a product below one more of its kind
    le_of_mul-lt : {q c : ℕ} (r : ℕ) → q * r < r * c + r → q ≤ c
    le_of_mul-lt {q} {c} r p = go (le_or_lt q c)
      where
        go : (q ≤ c) ⊎ (c < q) → q ≤ c
        go (inl l) = l
        go (inr l) = absurd (omega (arith, mul-le-mul_right r l))

-- no more slots than bytes, whatever the rate
pub ceil_le : (a r : ℕ) → ceil a r ≤ a
unfolding ceil
ceil_le a zero = omega (arith, div-zero (a + (zero - 1)))
ceil_le a (suc r) =
    let q : a * 1 ≤ a * suc r = mul-le-mul_left a (omega arith) in
    let x : a + (suc r - 1) < suc a * suc r = omega arith in
    let y = (div-lt_iff_lt-mul {k = suc r} {x = a + (suc r - 1)} {y = suc a} (omega arith)).1 x in
    omega arith

-- r less to divide is one slot less
pub ceil_pred : (a r : ℕ) → 1 ≤ r → ceil (a - r) r ≡ ceil a r - 1
ceil_pred a r h = le_antisymm low high
  where
    low : ceil (a - r) r ≤ ceil a r - 1
    low = ceil_least (a - r) r (ceil a r - 1) h (omega (arith, ceil_enough a r h, mul-sub r (ceil a r) 1))

    high : ceil a r - 1 ≤ ceil (a - r) r
    high =
        let k = ceil_least a r (suc (ceil (a - r) r)) h (omega (arith, ceil_enough (a - r) r h)) in
        omega arith

-- a stage has σ bytes after w slots if and only if its catch-up is at most w

pub catch_up_enough : (σ w : ℕ) (s : Stage) → 1 ≤ s.rate → catch_up σ s ≤ w → σ ≤ line w s
unfolding catch_up
catch_up_enough σ w s h k =
    let e = ceil_enough (σ - s.burst) s.rate h in
    omega (arith, mul-le-mul_left s.rate k)

pub catch_up_least : (σ w : ℕ) (s : Stage) → 1 ≤ s.rate → σ ≤ line w s → catch_up σ s ≤ w
unfolding catch_up
catch_up_least σ w s h k = ceil_least (σ - s.burst) s.rate w h (omega arith)

pub catch_up_more : (σ w : ℕ) (s : Stage) → 1 ≤ s.rate → line w s < σ → w < catch_up σ s
catch_up_more σ w s h k = go (le_or_lt (catch_up σ s) w)
  where
    go : (catch_up σ s ≤ w) ⊎ (w < catch_up σ s) → w < catch_up σ s
    go (inl l) = absurd (omega (arith, catch_up_enough σ w s h l))
    go (inr l) = l

-- a rate of at least one byte a slot needs no more slots than bytes
pub catch_up_le : (σ : ℕ) (s : Stage) → 1 ≤ s.rate → catch_up σ s ≤ σ
catch_up_le σ s h = catch_up_least σ σ s h (omega (arith, mul-le-mul_right σ h))

-- a bucket's lateness is one slot less than the catch-up for what it may send in its first slot
pub lateness_is : (σ ρ : ℕ) (s : Stage) → 1 ≤ s.rate → lateness σ ρ s ≡ catch_up (σ + ρ) s - 1
unfolding lateness catch_up
lateness_is σ ρ s h = ceil_pred (σ + ρ - s.burst) s.rate h
