-- What is left after a group in a line that keeps its order (RestLaws.antt ends it), two stretches in series, and the delay of a bucket, all of
-- counts by slot.
-- Assumes nothing.
use Rattle.std.specs.Prelude.{◌≡◌, refl, ◌⊎◌, ℕ, suc, ◌+◌, ◌*◌, ◌-◌, ◌≤◌, ◌<◌}
use Rattle.std.proofs.Common.{inl, inr, mul-le-mul_left}
use native.Mathlib.Omega.{arith}
use Rattle.curves.specs.Curve.{Shape, Under, Rates, neutral, joined, least_wait, remainder, delay}
use Rattle.ground.proofs.OrderLaws.{le_or_lt}
use Rattle.curves.proofs.JoinLaws.{joined_split}
use Rattle.curves.proofs.RemainderLaws.{remainder_under}
use Rattle.curves.proofs.DelayLaws.{delay_under}
use Rattle.runs.specs.Served.{Serves}

-- A group that keeps the bucket (σ, ρ) is taken out, with wait θ. A and D count the rest's bytes that have come and gone by a slot, AG and DG the
-- group's. The line keeps its order: what of both had come by a slot and fits in what of both has gone has gone, in each of the two; and what of
-- both has gone and fits in what had come by a slot had come by it.
module _ (H : ℕ) (c : Shape) (σ ρ θ : ℕ) (A AG D DG : ℕ → ℕ)
    (mono : (a b : ℕ) → a ≤ b → A a + AG a ≤ A b + AG b)
    (empty : A 0 + AG 0 ≡ 0)
    (rest_fifo : (a t : ℕ) → a ≤ t → t ≤ H → A a + AG a ≤ D t + DG t → A a ≤ D t)
    (group_fifo : (a t : ℕ) → a ≤ t → t ≤ H → D t + DG t ≤ A a + AG a → DG t ≤ AG a)
    (bucket : (a b : ℕ) → a < b → b ≤ H → AG b ≤ AG a + (σ + ρ * (b - a)))
    (waits : least_wait c σ ≤ θ) (some : Rates 1 c.stages) (fits : Rates ρ c.stages)
    (serves : Serves H c (λ t. A t + AG t) (λ t. D t + DG t)) where
  -- p is the last slot by which no more had come than has gone by t, and lies further back than the wait. Then what is served since u is at least
  -- the curve, of which the group has taken no more than its bucket over u + 1 .. p + 1
  pub late : (t p u v : ℕ) → t ≤ H → p < t → θ < t - p → u ≤ t → D t + DG t < A (suc p) + AG (suc p)
      → ((x : ℕ) → Under c (t - u) x → A u + AG u + x ≤ D t + DG t)
      → Under (remainder c σ ρ θ) (t - u) v → A u + v ≤ D t
  late t p u v ht hp hθ hu hlt g h =
      let z : A u + AG u + 0 ≤ D t + DG t = g 0 (inl refl) in
      step z (le_or_lt u p)
    where
      step : A u + AG u + 0 ≤ D t + DG t → (u ≤ p) ⊎ (p < u) → A u + v ≤ D t
      step z (inr k) = absurd (let m = mono (suc p) u k in omega arith)
      step z (inl k) = far (remainder_under c σ ρ θ (t - u) v waits some fits (omega arith) h)
        where
          far : (v ≡ 0) ⊎ Under c (t - u) (v + σ + ρ * (t - u - θ)) → A u + v ≤ D t
          far (inl e) = let f = rest_fifo u t hu ht (omega arith) in omega arith
          far (inr e) =
              let f = g (v + σ + ρ * (t - u - θ)) e in
              let d : DG t ≤ AG (suc p) = group_fifo (suc p) t hp ht (omega arith) in
              let b : AG (suc p) ≤ AG u + (σ + ρ * (suc p - u)) = bucket u (suc p) (omega arith) (omega arith) in
              let q : ρ * (suc p - u) ≤ ρ * (t - u - θ) = mul-le-mul_left ρ (omega arith) in
              omega arith

-- two stretches in series: what leaves the first comes to the second in the same slot, and what is under the joined curve splits
pub series : (H : ℕ) (c d : Shape) (A M M' D : ℕ → ℕ) → ((t : ℕ) → t ≤ H → M t ≡ M' t)
    → Serves H c A M → Serves H d M' D → Serves H (joined c d) A D
series H c d A M M' D same f g t ht =
    let y = g t ht in
    let x = f y.0 (omega (arith, y.1)) in
    (x.0, omega (arith, x.1, y.1), λ v h. both y.0 x.0 v y.1 x.1 y.2 x.2 h)
  where
    both : (s u v : ℕ) → s ≤ t → u ≤ s → ((v : ℕ) → Under d (t - s) v → M' s + v ≤ D t) → ((v : ℕ) → Under c (s - u) v → A u + v ≤ M s)
        → Under (joined c d) (t - u) v → A u + v ≤ D t
    both s u v hs hu k l h =
        let e : t - u ≡ s - u + (t - s) = omega arith in
        let p = joined_split c d (s - u) (t - s) v (rw e at h) in
        omega (arith, same s (omega arith), k p.1 p.4, l p.0 p.3, p.2)

-- no server at all
pub serves_neutral : (H : ℕ) (A : ℕ → ℕ) → Serves H neutral A A
unfolding neutral
serves_neutral H A t ht = (t, omega arith, λ v h. step v h)
  where
    step : (v : ℕ) → Under neutral (t - t) v → A t + v ≤ A t
    step v (inl e) = omega arith
    step v (inr e) = absurd (omega (arith, e.0))

-- a bucket over a curve: all that had come by t has left by t + delay
pub deadline : (H : ℕ) (c : Shape) (σ ρ : ℕ) (A D : ℕ → ℕ) → ((a b : ℕ) → a ≤ b → A a ≤ A b)
    → ((a b : ℕ) → a < b → b ≤ H → A b ≤ A a + (σ + ρ * (b - a)))
    → Rates 1 c.stages → Rates ρ c.stages → Serves H c A D
    → (t : ℕ) → t + delay c σ ρ ≤ H → A t ≤ D (t + delay c σ ρ)
deadline H c σ ρ A D mono bucket p q serves t ht =
    let g = serves (t + delay c σ ρ) ht in
    step g.0 g.2 (le_or_lt t g.0)
  where
    step : (u : ℕ) → ((v : ℕ) → Under c (t + delay c σ ρ - u) v → A u + v ≤ D (t + delay c σ ρ)) → (t ≤ u) ⊎ (u < t) → A t ≤ D (t + delay c σ ρ)
    step u f (inl h) = omega (arith, f 0 (inl refl), mono t u h)
    step u f (inr h) =
        let e : t + delay c σ ρ - u ≡ delay c σ ρ + (t - u) = omega arith in
        let k = f (σ + ρ * (t - u)) (rw e (delay_under c σ ρ (t - u) p q (omega arith))) in
        omega (arith, bucket u t h (omega arith))
