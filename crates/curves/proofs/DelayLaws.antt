-- The delay of a bucket over a curve is the least d such that the bucket at s is at most the curve at s + d, for every s.
-- Assumes nothing.
use Rattle.std.specs.Prelude.{◌≡◌, List, ◌⊎◌, ℕ, zero, suc, ◌+◌, ◌*◌, ◌-◌, ◌≤◌, ◌<◌, length}
use Rattle.std.proofs.Common.{inl, inr, mul-le-mul_right, arith}
use Rattle.ground.proofs.EachLaws.{each_both, each_map}
use Rattle.curves.specs.declared.Stage.{Stage}
use Rattle.curves.specs.Slots.{bucket, Covers, Least}
use Rattle.curves.specs.Curve.{Shape, line, least_line, value_at, catch_up, least_wait, lateness, delay, Rates, Below, Under}
use Rattle.ground.proofs.OrderLaws.{le_or_lt}
use Rattle.curves.proofs.StageLaws.{greatest_pred, lateness_is, below_mono}
use Rattle.curves.proofs.CurveLaws.{value_before, value_after, below_of_least, value_of_under, wait_after_offset, wait_le, wait_enough, wait_least}

-- the delay lies one slot before the least wait for what the bucket may send in its first slot, but not before the offset
pub delay_by_wait : (c : Shape) (σ ρ : ℕ) → Rates 1 c.stages → delay c σ ρ ≡ c.offset + (least_wait c (σ + ρ) - c.offset - 1)
unfolding delay least_wait
delay_by_wait c σ ρ p =
    let e = greatest_pred (lateness σ ρ) (catch_up (σ + ρ)) c.stages
    (each_map (λ s. 1 ≤ s.rate) (λ s. lateness σ ρ s ≡ catch_up (σ + ρ) s - 1) c.stages (lateness_is σ ρ) p) in
    omega arith

pub delay_after_offset : (c : Shape) (σ ρ : ℕ) → c.offset ≤ delay c σ ρ
unfolding delay
delay_after_offset c σ ρ = omega arith

pub delay_le : (c : Shape) (σ ρ : ℕ) → Rates 1 c.stages → delay c σ ρ ≤ c.offset + (σ + ρ)
delay_le c σ ρ p = omega (arith, delay_by_wait c σ ρ p, wait_le c (σ + ρ) p)

-- after the first slot the bucket rises no faster than any stage
below_later : (σ ρ x y : ℕ) (l : List Stage) → Below (σ + ρ) x l → Rates ρ l → Below (σ + ρ + ρ * y) (x + y) l
below_later σ ρ x y l h q =
    each_both (λ s. σ + ρ ≤ line x s) (λ s. ρ ≤ s.rate) (λ s. σ + ρ + ρ * y ≤ line (x + y) s) l
    (λ s a b. omega (arith, mul-le-mul_right y b)) h q

-- the bucket at y is under the curve at delay + y
pub delay_under : (c : Shape) (σ ρ y : ℕ) → Rates 1 c.stages → Rates ρ c.stages → 0 < y → Under c (delay c σ ρ + y) (σ + ρ * y)
delay_under c σ ρ zero p q h = absurd (omega arith)
delay_under c σ ρ (suc y) p q h =
    let d = delay_by_wait c σ ρ p in
    let o = wait_after_offset c (σ + ρ) in
    let w : ℕ = delay c σ ρ + 1 - c.offset in
    let a : Below (σ + ρ) w c.stages = wait_enough c (σ + ρ) (delay c σ ρ + 1) p (omega arith) in
    let b = below_later σ ρ w y c.stages a q in
    inr (omega arith, below_mono (σ + ρ + ρ * y) (σ + ρ * suc y) (w + y) (delay c σ ρ + suc y - c.offset) c.stages (omega arith) (omega arith) b)

pub delay_enough : (c : Shape) (σ ρ : ℕ) → 0 < length c.stages → Rates 1 c.stages → Rates ρ c.stages → Covers (value_at c) σ ρ (delay c σ ρ)
unfolding bucket
delay_enough c σ ρ h p q zero = omega arith
delay_enough c σ ρ h p q (suc s) =
    let e : suc s + delay c σ ρ ≡ delay c σ ρ + suc s = omega arith in
    rw e (value_of_under c (delay c σ ρ + suc s) (σ + ρ * suc s) h (delay_under c σ ρ (suc s) p q (omega arith)))

-- the bucket's first slot alone asks for that much
pub delay_least : (c : Shape) (σ ρ d : ℕ) → 0 < σ + ρ → Rates 1 c.stages → Covers (value_at c) σ ρ d → delay c σ ρ ≤ d
unfolding bucket
delay_least c σ ρ d h p k = go (le_or_lt (1 + d) c.offset) (k 1)
  where
    go : (1 + d ≤ c.offset) ⊎ (c.offset < 1 + d) → σ + ρ * 1 ≤ value_at c (1 + d) → delay c σ ρ ≤ d
    go (inl a) b = absurd (omega (arith, value_before c (1 + d) a))
    go (inr a) b =
        let v : σ + ρ ≤ least_line (1 + d - c.offset) c.stages = omega (arith, value_after c (1 + d) a) in
        let w = wait_least c (σ + ρ) (1 + d) p (omega arith) (below_of_least (σ + ρ) (1 + d - c.offset) c.stages v) in
        omega (arith, delay_by_wait c σ ρ p)

-- "The delay of a bucket (σ, ρ) over a curve is the least d such that for every s ≥ 0 the bucket at s is at most the curve at s + d."
pub delay_is_least : (c : Shape) (σ ρ : ℕ) → 0 < length c.stages → 0 < σ + ρ → Rates 1 c.stages → Rates ρ c.stages
    → Least (Covers (value_at c) σ ρ) (delay c σ ρ)
delay_is_least c σ ρ h b p q = record { holds = delay_enough c σ ρ h p q; least = λ d k. delay_least c σ ρ d b p k }
