-- Joining two curves in series is the min-plus convolution of their values, at every slot.
-- Assumes nothing.
use Rattle.std.specs.Prelude.{◌≡◌, refl, List, [], ◌∷◌, ◌++◌, ◌⊎◌, ℕ, ◌+◌, ◌*◌, ◌-◌, ◌≤◌, ◌<◌, min, length}
use Rattle.std.proofs.Common.{ap, append_assoc, append-nil, inl, inr, mul-le-mul_right, le_antisymm, add_assoc, add-zero, zero-add, arith, length-append}
use Rattle.ground.proofs.EachLaws.{each_append, each_back, each_front}
use Rattle.ground.specs.Each.{Each}
use Rattle.curves.specs.declared.Stage.{Stage}
use Rattle.curves.specs.Slots.{lowest, conv}
use Rattle.curves.specs.Curve.{Shape, line, least_line, value_at, neutral, joined, Rates, Below, Under}
use Rattle.ground.proofs.OrderLaws.{le_or_lt}
use Rattle.curves.proofs.SlotsLaws.{lowest_le, le_lowest}
use Rattle.curves.proofs.StageLaws.{below_mono}
use Rattle.curves.proofs.CurveLaws.{value_before, value_after, under_of_value, value_of_under}

pub joined_neutral : (c : Shape) → joined c neutral ≡ c
unfolding joined neutral
joined_neutral c = rw (append-nil, add-zero)

pub neutral_joined : (c : Shape) → joined neutral c ≡ c
unfolding joined neutral
neutral_joined c = rw zero-add

pub joined_assoc : (c d e : Shape) → joined (joined c d) e ≡ joined c (joined d e)
unfolding joined
joined_assoc c d e = rw (append_assoc, add_assoc)

pub joined_length : (c d : Shape) → length (joined c d).stages ≡ length c.stages + length d.stages
unfolding joined
joined_length c d = length-append c.stages d.stages

-- what holds of each stage of both holds of each stage of the joined curve
pub joined_all : (P : Stage → Type 0) (c d : Shape) → Each P c.stages → Each P d.stages → Each P (joined c d).stages
unfolding joined
joined_all P c d h k = each_append P c.stages d.stages h k

pub joined_rates : (ρ : ℕ) (c d : Shape) → Rates ρ c.stages → Rates ρ d.stages → Rates ρ (joined c d).stages
joined_rates ρ c d h k = joined_all (λ s. ρ ≤ s.rate) c d h k

-- two lines: if each is at least v at x + y, then one at x and the other at y have v together, since the slower can take all slots
line_pair : (b r e q x y v : ℕ) → v ≤ b + r * (x + y) → v ≤ e + q * (x + y) → v ≤ b + r * x + (e + q * y)
line_pair b r e q x y v h k = go (le_or_lt r q)
  where
    go : (r ≤ q) ⊎ (q < r) → v ≤ b + r * x + (e + q * y)
    go (inl l) = omega (arith, mul-le-mul_right y l)
    go (inr l) = let m : q ≤ r = omega arith in omega (arith, mul-le-mul_right x m)

-- the least of v and the stages, x slots after the offset
cap : ℕ → ℕ → List Stage → ℕ
cap v x [] = v
cap v x (s ∷ l) = min (line x s) (cap v x l)

cap_below : (v x w : ℕ) (l : List Stage) → w ≤ cap v x l → Below w x l
unfolding cap
cap_below v x w [] h = tt
cap_below v x w (s ∷ l) h = (omega arith, cap_below v x w l (omega arith))

cap_line : (s : Stage) (v x y : ℕ) (l : List Stage) → v ≤ line (x + y) s → Below v (x + y) l → v ≤ cap v x l + line y s
unfolding cap
cap_line s v x y [] h k = omega arith
cap_line s v x y (g ∷ l) h k =
    let p = line_pair g.burst g.rate s.burst s.rate x y v k.0 h in
    let q = cap_line s v x y l h k.1 in
    omega arith

cap_cap : (v x y : ℕ) (l m : List Stage) → Below v (x + y) l → Below v (x + y) m → v ≤ cap v x l + cap v y m
unfolding cap
cap_cap v x y l [] h k = omega arith
cap_cap v x y l (s ∷ m) h k =
    let p = cap_line s v x y l k.0 h in
    let q = cap_cap v x y l m h k.1 in
    omega arith

-- what is under the joined curve at x + y splits into a part under each
pub joined_split : (c d : Shape) (x y v : ℕ) → Under (joined c d) (x + y) v → (p q : ℕ) × (v ≤ p + q) × Under c x p × Under d y q
unfolding joined
joined_split c d x y v (inl h) = (0, 0, omega arith, inl refl, inl refl)
joined_split c d x y v (inr h) = go (le_or_lt x c.offset) (le_or_lt y d.offset)
  where
    z : ℕ
    z = x + y - (c.offset + d.offset)

    l : Below v z c.stages
    l = each_front (λ s. v ≤ line z s) c.stages d.stages h.1

    m : Below v z d.stages
    m = each_back (λ s. v ≤ line z s) c.stages d.stages h.1

    go : (x ≤ c.offset) ⊎ (c.offset < x) → (y ≤ d.offset) ⊎ (d.offset < y) → (p q : ℕ) × (v ≤ p + q) × Under c x p × Under d y q
    go (inl a) e = (0, v, omega arith, inl refl, inr (omega (arith, h.0), below_mono v v z (y - d.offset) d.stages (omega arith) (omega arith) m))
    go (inr a) (inl b) = (v, 0, omega arith, inr (a, below_mono v v z (x - c.offset) c.stages (omega arith) (omega arith) l), inl refl)
    go (inr a) (inr b) =
        let x' : ℕ = x - c.offset in
        let y' : ℕ = y - d.offset in
        let l' : Below v (x' + y') c.stages = below_mono v v z (x' + y') c.stages (omega arith) (omega arith) l in
        let m' : Below v (x' + y') d.stages = below_mono v v z (x' + y') d.stages (omega arith) (omega arith) m in (
          cap v x' c.stages,
          cap v y' d.stages,
          cap_cap v x' y' c.stages d.stages l' m',
          inr (a, cap_below v x' (cap v x' c.stages) c.stages (omega arith)),
          inr (b, cap_below v y' (cap v y' d.stages) d.stages (omega arith)),
        )

least_append : (x : ℕ) (l m : List Stage) → 0 < length l → 0 < length m → least_line x (l ++ m) ≡ min (least_line x l) (least_line x m)
unfolding least_line
least_append x [] m h k = absurd (omega arith)
least_append x (s ∷ []) [] h k = absurd (omega arith)
least_append x (s ∷ []) (g ∷ m) h k = refl
least_append x (s ∷ g ∷ l) m h k = let r = least_append x (g ∷ l) m (omega arith) k in omega arith

-- no way to share the slots has less than the joined curve, since what is under it splits; and giving all slots after the offsets to
-- the curve that has the least stage has no more
pub join_is_conv : (c d : Shape) → 0 < length c.stages → 0 < length d.stages → (t : ℕ)
    → value_at (joined c d) t ≡ conv (value_at c) (value_at d) t
unfolding joined conv
join_is_conv c d hc hd t = le_antisymm (le_lowest t (value_at j t) f each) (high (le_or_lt t (c.offset + d.offset)))
  where
    j : Shape
    j = joined c d

    f : ℕ → ℕ
    f s = value_at c (t - s) + value_at d s

    each : (s : ℕ) → s ≤ t → value_at j t ≤ f s
    each s k =
        let e : t ≡ t - s + s = omega arith in
        let u : Under j (t - s + s) (value_at j t) = rw (← e) (under_of_value j t (value_at j t) (omega arith)) in
        let p = joined_split c d (t - s) s (value_at j t) u in
        omega (arith, p.2, value_of_under c (t - s) p.0 hc p.3, value_of_under d s p.1 hd p.4)

    high : (t ≤ c.offset + d.offset) ⊎ (c.offset + d.offset < t) → lowest t f ≤ value_at j t
    high (inl k) =
        let s : ℕ = min t d.offset in
        omega (arith, lowest_le t s f (omega arith), value_before c (t - s) (omega arith), value_before d s (omega arith))
    high (inr k) =
        let x : ℕ = t - (c.offset + d.offset) in
        let a = lowest_le t d.offset f (omega arith) in
        let b = lowest_le t (t - c.offset) f (omega arith) in
        let e₁ : t - d.offset - c.offset ≡ x = omega arith in
        let e₂ : t - c.offset - d.offset ≡ x = omega arith in
        omega (
          arith,
          value_after j t k,
          least_append x c.stages d.stages hc hd,
          value_after c (t - d.offset) (omega arith),
          ap (λ (z : ℕ). least_line z c.stages) e₁,
          value_before d d.offset (omega arith),
          value_after d (t - c.offset) (omega arith),
          ap (λ (z : ℕ). least_line z d.stages) e₂,
          value_before c (t - (t - c.offset)) (omega arith),
        )
