-- The backlog of a bucket over a curve is the greatest, over all slots, of the bucket less the curve: up to the offset the curve is 0 and the bucket
-- rises, and from one slot behind it on no stage rises more slowly than the bucket.
-- Assumes nothing.
use Rattle.std.specs.Prelude.{◌≡◌, List, [], ◌∷◌, ◌⊎◌, ℕ, suc, ◌+◌, ◌*◌, ◌^◌, ◌-◌, ◌≤◌, ◌<◌, min, max, length}
use Rattle.std.proofs.Common.{ap, inl, inr, mul-le-mul_right, arith}
use Rattle.ground.proofs.OrderLaws.{le_or_lt}
use Rattle.ground.specs.Each.{Each}
use Rattle.ground.proofs.EachLaws.{each_map}
use Rattle.curves.specs.declared.Stage.{Stage}
use Rattle.curves.specs.Slots.{bucket, excess, Greatest}
use Rattle.curves.specs.Curve.{Shape, line, least_line, value_at, greatest, backlog, Rates}
use Rattle.curves.proofs.SlotsLaws.{bucket_after, bucket_mono, bucket_later}
use Rattle.curves.proofs.StageLaws.{greatest_le}
use Rattle.curves.proofs.CurveLaws.{value_before, value_after}

-- what is above the least stage is above some stage: the greatest excess over the stages is the excess over the least of them
greatest_least : (x y : ℕ) (l : List Stage) → 0 < length l → greatest (λ s. x - line y s) l ≡ x - least_line y l
unfolding greatest least_line
greatest_least x y [] h = absurd (omega arith)
greatest_least x y (s ∷ []) h = omega arith
greatest_least x y (s ∷ g ∷ l) h =
    either (line y s) (least_line y (g ∷ l)) (greatest (λ s. x - line y s) (g ∷ l)) (greatest_least x y (g ∷ l) (omega arith))
  where
    either : (a b c : ℕ) → c ≡ x - b → max (x - a) c ≡ x - min a b
    either a b c h = omega arith

-- after its first slot no stage falls further behind the bucket
least_rises : (ρ y : ℕ) (l : List Stage) → 0 < length l → Rates ρ l → least_line 1 l + ρ * y ≤ least_line (suc y) l
unfolding least_line
least_rises ρ y [] h p = absurd (omega arith)
least_rises ρ y (s ∷ []) h p = omega (arith, mul-le-mul_right y p.0)
least_rises ρ y (s ∷ g ∷ l) h p =
    let i = least_rises ρ y (g ∷ l) (omega arith) p.1 in
    let k = mul-le-mul_right y p.0 in
    both (line 1 s) (least_line 1 (g ∷ l)) (line (suc y) s) (least_line (suc y) (g ∷ l)) (ρ * y) (omega (arith, k)) i
  where
    both : (a b c d e : ℕ) → a + e ≤ c → b + e ≤ d → min a b + e ≤ min c d
    both a b c d e h k = omega arith

pub backlog_most : (c : Shape) (σ ρ : ℕ) → 0 < length c.stages → Rates ρ c.stages → (u : ℕ) → excess (value_at c) σ ρ u ≤ backlog c σ ρ
unfolding backlog
backlog_most c σ ρ h p u = go (le_or_lt u c.offset)
  where
    go : (u ≤ c.offset) ⊎ (c.offset < u)
        → bucket σ ρ u - value_at c u ≤ max (bucket σ ρ c.offset) (greatest (λ s. bucket σ ρ (c.offset + 1) - line 1 s) c.stages)
    go (inl k) = omega (arith, bucket_mono σ ρ u c.offset k)
    go (inr k) =
        let y : ℕ = u - suc c.offset in
        let e : suc (c.offset + y) ≡ u = omega arith in
        let d : u - c.offset ≡ suc y = omega arith in
        let n : c.offset + 1 ≡ suc c.offset = omega arith in
        omega (
          arith,
          greatest_least (bucket σ ρ (c.offset + 1)) 1 c.stages h,
          least_rises ρ y c.stages h p,
          bucket_later σ ρ c.offset y,
          ap (bucket σ ρ) e,
          ap (bucket σ ρ) n,
          value_after c u k,
          ap (λ (z : ℕ). least_line z c.stages) d,
        )

-- it is reached at the offset or one slot behind it
reached_by : (f : ℕ → ℕ) (a b u v : ℕ) → f u ≡ a → f v ≡ b → (w : ℕ) × (f w ≡ max a b)
reached_by f a b u v x y = go (le_or_lt a b)
  where
    go : (a ≤ b) ⊎ (b < a) → (w : ℕ) × (f w ≡ max a b)
    go (inl k) = (v, omega arith)
    go (inr k) = (u, omega arith)

-- "the greatest, over u ≥ 0, of the bucket at u less the root curve at u, never below 0"
pub backlog_is_greatest : (c : Shape) (σ ρ : ℕ) → 0 < length c.stages → Rates ρ c.stages → Greatest (excess (value_at c) σ ρ) (backlog c σ ρ)
unfolding backlog
backlog_is_greatest c σ ρ h p =
    let D = c.offset in
    let x = bucket σ ρ (D + 1) in
    let a : excess (value_at c) σ ρ D ≡ bucket σ ρ D = omega (arith, value_before c D (omega arith)) in
    let n : D + 1 - D ≡ 1 = omega arith in
    let b : excess (value_at c) σ ρ (D + 1) ≡ greatest (λ s. x - line 1 s) c.stages =
    omega (arith, value_after c (D + 1) (omega arith), ap (λ (z : ℕ). least_line z c.stages) n, greatest_least x 1 c.stages h) in
    let w = reached_by (excess (value_at c) σ ρ) (bucket σ ρ D) (greatest (λ s. x - line 1 s) c.stages) D (D + 1) a b in
    record { most = backlog_most c σ ρ h p; slot = w.0; reached = w.1 }

-- where the offset is not 0, no stage has to be looked at: what is above a stage one slot behind the offset is at most what the bucket may send up to
-- the offset
pub backlog_behind : (c : Shape) (σ ρ : ℕ) → 0 < c.offset → Rates ρ c.stages → backlog c σ ρ ≡ σ + ρ * c.offset
unfolding backlog
backlog_behind c σ ρ h p =
    let x = bucket σ ρ (c.offset + 1) in
    let a : bucket σ ρ c.offset ≡ σ + ρ * c.offset = bucket_after σ ρ c.offset h in
    let b : x ≡ σ + ρ * c.offset + ρ = omega (arith, bucket_after σ ρ (c.offset + 1) (omega arith)) in
    let g = greatest_le (λ s. x - line 1 s) (σ + ρ * c.offset) c.stages
    (each_map (λ s. ρ ≤ s.rate) (λ s. x - line 1 s ≤ σ + ρ * c.offset) c.stages (λ s k. omega (arith, b)) p) in
    omega (arith, a, g)

-- and where it is 0, only the first slot
pub backlog_first : (c : Shape) (σ ρ : ℕ) → c.offset ≡ 0 → backlog c σ ρ ≡ greatest (λ s. σ + ρ - line 1 s) c.stages
unfolding backlog bucket
backlog_first c σ ρ e = let b : bucket σ ρ 1 ≡ σ + ρ = omega arith in rw (e, b) (omega arith)

-- it is never more than the bucket may send up to one slot behind the offset
pub backlog_le : (c : Shape) (σ ρ : ℕ) → backlog c σ ρ ≤ bucket σ ρ (c.offset + 1)
unfolding backlog
backlog_le c σ ρ =
    let x = bucket σ ρ (c.offset + 1) in
    omega (arith, bucket_mono σ ρ c.offset (c.offset + 1) (omega arith), greatest_le (λ s. x - line 1 s) x c.stages (each c.stages))
  where
    each : (l : List Stage) → Each (λ s. bucket σ ρ (c.offset + 1) - line 1 s ≤ bucket σ ρ (c.offset + 1)) l
    each [] = tt
    each (s ∷ l) = (omega arith, each l)

-- what a bucket may send up to the offset and a rate more fits
pub sent_small : (σ ρ offset : ℕ) → bucket σ ρ (offset + 1) < 2 ^ 63 → σ + ρ * offset + ρ < 2 ^ 63
sent_small σ ρ offset h = omega (arith, bucket_after σ ρ (offset + 1) (omega arith), h)
