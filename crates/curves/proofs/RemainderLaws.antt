-- For a wait of at least the least wait, the remainder's values are what a group leaves of the curve's values, at every slot.
-- Assumes nothing.
use Rattle.std.specs.Prelude.{◌≡◌, refl, List, [], ◌∷◌, map, ◌⊎◌, ℕ, ◌+◌, ◌*◌, ◌-◌, ◌≤◌, ◌<◌, length}
use Rattle.std.proofs.Common.{ap, inl, inr, sub-add_cancel, arith}
use Rattle.std.proofs.lemmas.List.{length-map}
use Rattle.ground.proofs.EachLaws.{each_map, each_mapped}
use Rattle.ground.specs.Each.{Each}
use Rattle.curves.specs.declared.Stage.{Stage}
use Rattle.curves.specs.Slots.{left}
use Rattle.curves.specs.Curve.{Shape, line, least_line, value_at, least_wait, after, remainder, Rates, Below, Under}
use Rattle.ground.proofs.OrderLaws.{le_or_lt}
use Rattle.curves.proofs.SlotsLaws.{zero_before, zero_after}
use Rattle.curves.proofs.StageLaws.{below_mono}
use Rattle.curves.proofs.CurveLaws.{value_before, value_after, wait_after_offset, wait_enough}

pub remainder_offset : (c : Shape) (σ ρ θ : ℕ) → (remainder c σ ρ θ).offset ≡ θ
unfolding remainder
remainder_offset c σ ρ θ = refl

pub remainder_length : (c : Shape) (σ ρ θ : ℕ) → length (remainder c σ ρ θ).stages ≡ length c.stages
unfolding remainder
remainder_length c σ ρ θ = length-map c.stages (after σ ρ (θ - c.offset))

-- what the group leaves of each stage, if P of the stage gives Q of that
pub remainder_all : (P Q : Stage → Type 0) (c : Shape) (σ ρ θ : ℕ) → ((s : Stage) → P s → Q (after σ ρ (θ - c.offset) s))
    → Each P c.stages → Each Q (remainder c σ ρ θ).stages
unfolding remainder
remainder_all P Q c σ ρ θ f h = each_mapped Q (after σ ρ (θ - c.offset)) c.stages (each_map P (λ s. Q (after σ ρ (θ - c.offset) s)) c.stages f h)

-- a stage that had room for ρ more keeps that room
pub remainder_rates : (q : ℕ) (c : Shape) (σ ρ θ : ℕ) → Rates (q + ρ) c.stages → Rates q (remainder c σ ρ θ).stages
remainder_rates q c σ ρ θ h = remainder_all (λ s. q + ρ ≤ s.rate) (λ s. q ≤ s.rate) c σ ρ θ (λ s k. omega arith) h

-- one stage y slots after the wait: it has what it had, less what the group takes
after_line : (σ ρ x y : ℕ) (s : Stage) → σ ≤ line x s → ρ ≤ s.rate → line y (after σ ρ x s) ≡ line (x + y) s - (σ + ρ * y)
after_line σ ρ x y s h k =
    let e : (s.rate - ρ + ρ) * y ≡ s.rate * y = ap (λ (z : ℕ). z * y) (sub-add_cancel k) in
    omega arith

-- and what is at most that, with what the group takes, is at most the stage
line_after : (σ ρ x y v : ℕ) (s : Stage) → σ ≤ line x s → ρ ≤ s.rate → v ≤ line y (after σ ρ x s) → v + σ + ρ * y ≤ line (x + y) s
line_after σ ρ x y v s h k l =
    let e : (s.rate - ρ + ρ) * y ≡ s.rate * y = ap (λ (z : ℕ). z * y) (sub-add_cancel k) in
    omega arith

below_after : (σ ρ x y v : ℕ) (l : List Stage) → Below σ x l → Rates ρ l → Below v y (map (after σ ρ x) l) → Below (v + σ + ρ * y) (x + y) l
below_after σ ρ x y v [] h k m = tt
below_after σ ρ x y v (s ∷ l) h k m = (line_after σ ρ x y v s h.0 k.0 m.0, below_after σ ρ x y v l h.1 k.1 m.1)

least_after : (σ ρ x y : ℕ) (l : List Stage) → Below σ x l → Rates ρ l → least_line y (map (after σ ρ x) l) ≡ least_line (x + y) l - (σ + ρ * y)
unfolding least_line
least_after σ ρ x y [] h k = omega arith
least_after σ ρ x y (s ∷ []) h k = after_line σ ρ x y s h.0 k.0
least_after σ ρ x y (s ∷ g ∷ l) h k =
    let a = after_line σ ρ x y s h.0 k.0 in
    let b = least_after σ ρ x y (g ∷ l) h.1 k.1 in
    omega arith

-- what is under the remainder at t, with what the group takes, is under the curve at t
pub remainder_under : (c : Shape) (σ ρ θ t v : ℕ) → least_wait c σ ≤ θ → Rates 1 c.stages → Rates ρ c.stages → θ < t
    → Under (remainder c σ ρ θ) t v → (v ≡ 0) ⊎ Under c t (v + σ + ρ * (t - θ))
unfolding remainder
remainder_under c σ ρ θ t v h p q l (inl e) = inl e
remainder_under c σ ρ θ t v h p q l (inr k) =
    let o = wait_after_offset c σ in
    let x : ℕ = θ - c.offset in
    let u : ℕ = v + σ + ρ * (t - θ) in
    let m = below_after σ ρ x (t - θ) v c.stages (wait_enough c σ θ p h) q k.1 in
    inr (inr (omega arith, below_mono u u (x + (t - θ)) (t - c.offset) c.stages (omega arith) (omega arith) m))

pub remainder_is_left : (c : Shape) (σ ρ θ : ℕ) → least_wait c σ ≤ θ → Rates 1 c.stages → Rates ρ c.stages → (t : ℕ)
    → value_at (remainder c σ ρ θ) t ≡ left (value_at c) σ ρ θ t
unfolding remainder left
remainder_is_left c σ ρ θ h p q t = go (le_or_lt t θ)
  where
    r : Shape
    r = remainder c σ ρ θ

    go : (t ≤ θ) ⊎ (θ < t) → value_at r t ≡ left (value_at c) σ ρ θ t
    go (inl k) = omega (arith, value_before r t k, zero_before θ t (value_at c t - (σ + ρ * (t - θ))) k)
    go (inr k) =
        let o = wait_after_offset c σ in
        let x : ℕ = θ - c.offset in
        let e : x + (t - θ) ≡ t - c.offset = omega arith in
        omega (
          arith,
          value_after r t k,
          least_after σ ρ x (t - θ) c.stages (wait_enough c σ θ p h) q,
          ap (λ (z : ℕ). least_line z c.stages) e,
          value_after c t (omega arith),
          zero_after θ t (value_at c t - (σ + ρ * (t - θ))) k,
        )
