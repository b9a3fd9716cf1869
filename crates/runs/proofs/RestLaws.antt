-- What is left after a group in a line that keeps its order: the remainder is guaranteed to the rest.
-- Assumes nothing.
use Rattle.std.specs.Prelude.{◌≡◌, ◌⊎◌, ℕ, zero, suc, ◌+◌, ◌*◌, ◌-◌, ◌≤◌, ◌<◌}
use Rattle.std.proofs.Common.{inl, inr}
use native.Mathlib.Omega.{arith}
use Rattle.curves.specs.Curve.{Shape, Under, Rates, least_wait, remainder}
use Rattle.ground.proofs.OrderLaws.{le_or_lt}
use Rattle.runs.specs.Served.{Serves}
use Rattle.runs.proofs.LeftoverLaws.{late}

-- the greatest slot by which no more than x had come
crossing : (A : ℕ → ℕ) (x : ℕ) → A 0 ≤ x → (t : ℕ) → (A t ≤ x) ⊎ ((s : ℕ) × (s < t) × (A s ≤ x) × (x < A (suc s)))
crossing A x h zero = inl h
crossing A x h (suc t) = step (le_or_lt (A (suc t)) x) (crossing A x h t)
  where
    step : (A (suc t) ≤ x) ⊎ (x < A (suc t)) → (A t ≤ x) ⊎ ((s : ℕ) × (s < t) × (A s ≤ x) × (x < A (suc s)))
        → (A (suc t) ≤ x) ⊎ ((s : ℕ) × (s < suc t) × (A s ≤ x) × (x < A (suc s)))
    step (inl a) r = inl a
    step (inr a) (inl b) = inr (t, omega arith, b, a)
    step (inr a) (inr b) = inr (b.0, omega (arith, b.1), b.2, b.3)

-- the premises are those of LeftoverLaws.antt, where `late` stands
module _ (H : ℕ) (c : Shape) (σ ρ θ : ℕ) (A AG D DG : ℕ → ℕ)
    (mono : (a b : ℕ) → a ≤ b → A a + AG a ≤ A b + AG b)
    (empty : A 0 + AG 0 ≡ 0)
    (rest_fifo : (a t : ℕ) → a ≤ t → t ≤ H → A a + AG a ≤ D t + DG t → A a ≤ D t)
    (group_fifo : (a t : ℕ) → a ≤ t → t ≤ H → D t + DG t ≤ A a + AG a → DG t ≤ AG a)
    (bucket : (a b : ℕ) → a < b → b ≤ H → AG b ≤ AG a + (σ + ρ * (b - a)))
    (waits : least_wait c σ ≤ θ) (some : Rates 1 c.stages) (fits : Rates ρ c.stages)
    (serves : Serves H c (λ t. A t + AG t) (λ t. D t + DG t)) where
  -- where p lies within the wait the remainder is 0, and what had come by p has gone
  pub leftover : Serves H (remainder c σ ρ θ) A D
  unfolding remainder
  leftover t ht = step (crossing (λ a. A a + AG a) (D t + DG t) (omega arith) t)
    where
      none : (u v : ℕ) → t - u ≤ θ → A u ≤ D t → Under (remainder c σ ρ θ) (t - u) v → A u + v ≤ D t
      none u v h k (inl e) = omega arith
      none u v h k (inr e) = absurd (omega (arith, e.0))

      step : (A t + AG t ≤ D t + DG t) ⊎ ((p : ℕ) × (p < t) × (A p + AG p ≤ D t + DG t) × (D t + DG t < A (suc p) + AG (suc p)))
          → (u : ℕ) × (u ≤ t) × ((v : ℕ) → Under (remainder c σ ρ θ) (t - u) v → A u + v ≤ D t)
      step (inl h) = (t, omega arith, λ v. none t v (omega arith) (rest_fifo t t (omega arith) ht h))
      step (inr (p, hp, h, k)) = far (le_or_lt (t - p) θ)
        where
          far : (t - p ≤ θ) ⊎ (θ < t - p) → (u : ℕ) × (u ≤ t) × ((v : ℕ) → Under (remainder c σ ρ θ) (t - u) v → A u + v ≤ D t)
          far (inl l) = (p, omega arith, λ v. none p v l (rest_fifo p t (omega arith) ht h))
          far (inr l) =
              let g = serves t ht in
              (g.0, g.1, λ v. late H c σ ρ θ A AG D DG mono empty rest_fifo group_fifo bucket waits some fits serves t p g.0 v ht hp l g.1 k g.2)
