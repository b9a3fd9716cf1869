-- The value of a curve and "at most the value" are the same; and what the least wait is the least of.
-- Assumes nothing.
use Rattle.std.specs.Prelude.{◌≡◌, List, [], ◌∷◌, ◌⊎◌, ℕ, ◌+◌, ◌-◌, ◌*◌, ◌≤◌, ◌<◌, length}
use Rattle.std.proofs.Common.{inl, inr, mul-zero, zero-add, arith}
use Rattle.ground.proofs.EachLaws.{each_both, each_map}
use Rattle.curves.specs.declared.Stage.{Stage}
use Rattle.curves.specs.Slots.{serve}
use Rattle.curves.specs.Curve.{Shape, line, least_line, value_at, server, catch_up, least_wait, Rates, Below, Under}
use Rattle.ground.proofs.OrderLaws.{le_or_lt}
use Rattle.curves.proofs.SlotsLaws.{zero_before, zero_after}
use Rattle.curves.proofs.StageLaws.{greatest_le, le_greatest, catch_up_enough, catch_up_least, catch_up_le}

pub value_before : (c : Shape) (t : ℕ) → t ≤ c.offset → value_at c t ≡ 0
unfolding value_at
value_before c t h = zero_before c.offset t _ h

pub value_after : (c : Shape) (t : ℕ) → c.offset < t → value_at c t ≡ least_line (t - c.offset) c.stages
unfolding value_at
value_after c t h = zero_after c.offset t _ h

pub below_of_least : (v x : ℕ) (l : List Stage) → v ≤ least_line x l → Below v x l
unfolding least_line
below_of_least v x [] h = tt
below_of_least v x (s ∷ []) h = (h, tt)
below_of_least v x (s ∷ g ∷ l) h = (omega arith, below_of_least v x (g ∷ l) (omega arith))

pub least_of_below : (v x : ℕ) (l : List Stage) → 0 < length l → Below v x l → v ≤ least_line x l
unfolding least_line
least_of_below v x [] h k = absurd (omega arith)
least_of_below v x (s ∷ []) h k = k.0
least_of_below v x (s ∷ g ∷ l) h k = let r = least_of_below v x (g ∷ l) (omega arith) k.1 in omega (arith, k.0)

pub under_of_value : (c : Shape) (t v : ℕ) → v ≤ value_at c t → Under c t v
under_of_value c t v h = go (le_or_lt t c.offset)
  where
    go : (t ≤ c.offset) ⊎ (c.offset < t) → Under c t v
    go (inl k) = inl (omega (arith, value_before c t k))
    go (inr k) = inr (k, below_of_least v (t - c.offset) c.stages (rw value_after at h))

pub value_of_under : (c : Shape) (t v : ℕ) → 0 < length c.stages → Under c t v → v ≤ value_at c t
value_of_under c t v h (inl e) = omega arith
value_of_under c t v h (inr e) = rw (value_after c t e.0) (least_of_below v (t - c.offset) c.stages h e.1)

-- a server's curve is what the server guarantees, at every slot
pub server_is_serve : (R T t : ℕ) → value_at (server R T) t ≡ serve R T t
unfolding server serve least_line
server_is_serve R T t = go (le_or_lt t T)
  where
    go : (t ≤ T) ⊎ (T < t) → value_at (server R T) t ≡ R * (t - T)
    go (inl h) = let e : t - T ≡ 0 = omega arith in rw (value_before (server R T) t h, e, mul-zero)
    go (inr h) = rw (value_after (server R T) t h) (zero-add (R * (t - T)))

-- the least wait is the least slot from the offset on at which every stage has covered the burst

pub wait_after_offset : (c : Shape) (σ : ℕ) → c.offset ≤ least_wait c σ
unfolding least_wait
wait_after_offset c σ = omega arith

-- with a rate of at least one byte a slot, no more slots than bytes
pub wait_le : (c : Shape) (σ : ℕ) → Rates 1 c.stages → least_wait c σ ≤ c.offset + σ
unfolding least_wait
wait_le c σ p =
    omega (
      arith,
      greatest_le (catch_up σ) σ c.stages (each_map (λ s. 1 ≤ s.rate) (λ s. catch_up σ s ≤ σ) c.stages (catch_up_le σ) p),
    )

pub wait_enough : (c : Shape) (σ θ : ℕ) → Rates 1 c.stages → least_wait c σ ≤ θ → Below σ (θ - c.offset) c.stages
unfolding least_wait
wait_enough c σ θ p h =
    let w : ℕ = θ - c.offset in
    each_both (λ s. 1 ≤ s.rate) (λ s. catch_up σ s ≤ w) (λ s. σ ≤ line w s) c.stages (catch_up_enough σ w) p
    (le_greatest (catch_up σ) w c.stages (omega arith))

pub wait_least : (c : Shape) (σ θ : ℕ) → Rates 1 c.stages → c.offset ≤ θ → Below σ (θ - c.offset) c.stages → least_wait c σ ≤ θ
unfolding least_wait
wait_least c σ θ p h k =
    let w : ℕ = θ - c.offset in
    omega (
      arith,
      greatest_le (catch_up σ) w c.stages
          (each_both (λ s. 1 ≤ s.rate) (λ s. σ ≤ line w s) (λ s. catch_up σ s ≤ w) c.stages (catch_up_least σ w) p k),
    )
