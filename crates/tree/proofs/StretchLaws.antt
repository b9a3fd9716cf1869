-- Laws of stretches that fit a row: which flows cross them, the room that their stages have, and their offsets and bursts.
-- Assumes nothing.
use Rattle.std.specs.Prelude.{◌≡◌, Bool, true, ◌||◌, ◌⊎◌, List, [], ◌∷◌, ℕ, suc, ◌+◌, ◌*◌, ◌-◌, ◌≤◌, ◌<◌, length}
use Rattle.std.proofs.Common.{◌∙◌, inl, inr, arith, mul-le-mul_left, mul-le-mul_right}
use Rattle.ground.proofs.EachLaws.{each_append, each_map}
use Rattle.ground.specs.Each.{Each}
use Rattle.curves.specs.declared.Stage.{Stage}
use Rattle.curves.specs.Curve.{Shape, neutral, joined, greatest, catch_up, least_wait, lateness, delay, after, remainder, Rates}
use Rattle.curves.specs.Curve.{server as serverShape}
use Rattle.ground.proofs.OrderLaws.{le_or_lt}
use Rattle.curves.proofs.StageLaws.{ceil_le, rates_weaken}
use Rattle.curves.proofs.JoinLaws.{joined_rates}
use Rattle.curves.proofs.RemainderLaws.{remainder_all, remainder_rates}
use Rattle.tandem.specs.Tandem.{Tandem, size, server, flow, crosses, on, bursts, rates}
use Rattle.tree.specs.Stretch.{Stretch, none, then_server, then_group, span, group_wait, after_group, curve}
use Rattle.tree.specs.Fits.{Fits}
use Rattle.tree.specs.Amounts.{latencies, weights, extras, count}
use Rattle.tandem.proofs.TestLaws.{or_left}
use Rattle.tandem.proofs.SumLaws.{total_or, total_subset}

-- which flows cross

-- the flows of P cross every server of a stretch that fits
pub spans : (row : Tandem) (P : ℕ → Bool) (i : ℕ) (p : Stretch) → Fits row P i p
    → (f : ℕ) → P f ≡ true → (m : ℕ) → m < span p → crosses row f (i + m) ≡ true
unfolding span Fits
spans row P i none h f e m l = absurd (omega arith)
spans row P i (then_server p j) h f e m l = go (le_or_lt (span p) m) (spans row P i p h.0 f e m)
  where
    go : (span p ≤ m) ⊎ (m < span p) → (m < span p → crosses row f (i + m) ≡ true) → crosses row f (i + m) ≡ true
    go (inr k) r = r k
    go (inl k) r = let d : i + m ≡ j = omega (arith, h.1) in rw d (h.3 f ∙ e)
spans row P i (then_group p k g q) h f e m l =
    go (le_or_lt (span p) m) (spans row P i p h.0 f e m)
    (spans row (λ f. P f || on row g f) (i + span p) q h.2 f (or_left (P f) (on row g f) e) (m - span p))
  where
    go : (span p ≤ m) ⊎ (m < span p) → (m < span p → crosses row f (i + m) ≡ true)
        → (m - span p < span q → crosses row f (i + span p + (m - span p)) ≡ true) → crosses row f (i + m) ≡ true
    go (inr k) r s = r k
    go (inl k) r s = let d : i + m ≡ i + span p + (m - span p) = omega arith in rw d (s (omega arith))

-- a stretch that fits ends in the row
pub ends_in_row : (row : Tandem) (P : ℕ → Bool) (i : ℕ) (p : Stretch) → Fits row P i p → 0 < span p → i + span p ≤ suc (size row)
unfolding span Fits
ends_in_row row P i none h l = absurd (omega arith)
ends_in_row row P i (then_server p j) h l = omega (arith, h.1, h.2)
ends_in_row row P i (then_group p k g q) h l = omega (arith, ends_in_row row (λ f. P f || on row g f) (i + span p) q h.2 h.1)

-- the room of its stages

module _ (row : Tandem) (extra : ℕ → ℕ) (room : (j : ℕ) → 0 < j → j ≤ size row → rates row (λ f. crosses row f j) ≤ (server row j).rate) where
  -- every stage of a stretch's curve has room for the flows that cross it whole: no run is needed to see it
  pub curve_rates : (P : ℕ → Bool) (i : ℕ) (p : Stretch) → 0 < i → Fits row P i p → Rates (rates row P) (curve row extra p).stages
  unfolding Fits curve neutral serverShape after_group rates
  curve_rates P i none hi h = tt
  curve_rates P i (then_server p j) hi h =
      let k = room j (omega (arith, h.1)) h.2 in
      let m = total_subset (length row.flows) P (λ f. crosses row f j) (λ f. (flow row f).rate) (λ f x. h.3 f ∙ x) in
      joined_rates (rates row P) (curve row extra p) (serverShape (server row j).rate (server row j).latency) (curve_rates P i p hi h.0)
      (omega (arith, k, m), tt)
  curve_rates P i (then_group p k g q) hi h =
      joined_rates (rates row P) (curve row extra p) (after_group row g (curve row extra q) (extra k)) (curve_rates P i p hi h.0)
      (remainder_rates (rates row P) (curve row extra q) (bursts row (on row g)) (rates row (on row g)) (group_wait row g (curve row extra q) (extra k))
      (rates_weaken (rates row P + rates row (on row g)) (rates row (λ f. P f || on row g f)) (curve row extra q).stages
      (omega (arith, total_or (length row.flows) P (on row g) (λ f. (flow row f).rate) h.3))
      (curve_rates (λ f. P f || on row g f) (i + span p) q (omega arith) h.2)))

greatest_most : (f : Stage → ℕ) (w : ℕ) → ((s : Stage) → f s ≤ w) → (l : List Stage) → greatest f l ≤ w
unfolding greatest
greatest_most f w h [] = omega arith
greatest_most f w h (s ∷ l) = omega (arith, h s, greatest_most f w h l)

pub wait_most : (c : Shape) (σ : ℕ) → least_wait c σ ≤ c.offset + σ
unfolding least_wait catch_up
wait_most c σ =
    let g = greatest_most (catch_up σ) σ (λ s. omega (arith, ceil_le (σ - s.burst) s.rate)) c.stages in
    omega arith

pub delay_most : (c : Shape) (σ ρ : ℕ) → delay c σ ρ ≤ c.offset + (σ + ρ)
unfolding delay lateness
delay_most c σ ρ =
    let g = greatest_most (lateness σ ρ) (σ + ρ) (λ s. omega (arith, ceil_le (σ + ρ - s.burst - s.rate) s.rate)) c.stages in
    omega arith

-- offsets

-- at most the latencies, bursts and extras inside
pub offset_le : (row : Tandem) (extra : ℕ → ℕ) (p : Stretch)
    → (curve row extra p).offset ≤ latencies row p + weights row (λ f. (flow row f).burst) p + extras extra p
unfolding curve joined neutral serverShape after_group group_wait remainder latencies weights extras bursts
offset_le row extra none = omega arith
offset_le row extra (then_server p j) = omega (arith, offset_le row extra p)
offset_le row extra (then_group p k g q) =
    omega (arith, offset_le row extra p, offset_le row extra q, wait_most (curve row extra q) (bursts row (on row g)))

-- at least the latencies and extras inside
pub offset_ge : (row : Tandem) (extra : ℕ → ℕ) (p : Stretch) → latencies row p + extras extra p ≤ (curve row extra p).offset
unfolding curve joined neutral serverShape after_group group_wait least_wait remainder latencies extras
offset_ge row extra none = omega arith
offset_ge row extra (then_server p j) = omega (arith, offset_ge row extra p)
offset_ge row extra (then_group p k g q) = omega (arith, offset_ge row extra p, offset_ge row extra q)

pub latencies_le : (row : Tandem) (T : ℕ) → ((j : ℕ) → (server row j).latency ≤ T) → (p : Stretch) → latencies row p ≤ span p * T
unfolding latencies span
latencies_le row T h none = omega arith
latencies_le row T h (then_server p j) = omega (arith, latencies_le row T h p, h j)
latencies_le row T h (then_group p k g q) = omega (arith, latencies_le row T h p, latencies_le row T h q)

pub extras_le : (extra : ℕ → ℕ) (E : ℕ) → ((k : ℕ) → extra k ≤ E) → (p : Stretch) → extras extra p ≤ count p * E
unfolding extras count
extras_le extra E h none = omega arith
extras_le extra E h (then_server p j) = extras_le extra E h p
extras_le extra E h (then_group p k g q) = omega (arith, extras_le extra E h p, extras_le extra E h q, h k)

-- bursts: with all rates at most M, a stage's burst is at most M times the offset

abbrev pub Small : ℕ → ℕ → Stage → Type 0
Small M x s = (s.rate ≤ M) × (s.burst ≤ M * x)

small_mono : (M x y : ℕ) (l : List Stage) → x ≤ y → Each (Small M x) l → Each (Small M y) l
small_mono M x y l h k = each_map (Small M x) (Small M y) l (λ s z. (z.0, omega (arith, z.1, mul-le-mul_left M h))) k

small_after : (M d x σ ρ : ℕ) (s : Stage) → Small M d s → Small M (d + x) (after σ ρ x s)
small_after M d x σ ρ s h = (omega (arith, h.0), omega (arith, mul-le-mul_right x h.0, h.1))

pub stages_small : (row : Tandem) (extra : ℕ → ℕ) (M : ℕ) → ((j : ℕ) → (server row j).rate ≤ M) → (p : Stretch)
    → Each (Small M (curve row extra p).offset) (curve row extra p).stages
unfolding curve joined neutral serverShape after_group group_wait least_wait remainder
stages_small row extra M h none = tt
stages_small row extra M h (then_server p j) =
    let c = curve row extra p in
    each_append (Small M (c.offset + (server row j).latency)) c.stages (record { burst = 0; rate = (server row j).rate } ∷ [])
    (small_mono M c.offset (c.offset + (server row j).latency) c.stages (omega arith) (stages_small row extra M h p))
    ((h j, omega arith), tt)
stages_small row extra M h (then_group p k g q) =
    let c = curve row extra p in
    let d = curve row extra q in
    let θ = group_wait row g d (extra k) in
    let r = remainder d (bursts row (on row g)) (rates row (on row g)) θ in
    each_append (Small M (c.offset + θ)) c.stages r.stages
    (small_mono M c.offset (c.offset + θ) c.stages (omega arith) (stages_small row extra M h p))
    (small_mono M (d.offset + (θ - d.offset)) (c.offset + θ) r.stages (omega arith)
    (remainder_all (Small M d.offset) (Small M (d.offset + (θ - d.offset))) d (bursts row (on row g)) (rates row (on row g)) θ
    (small_after M d.offset (θ - d.offset) (bursts row (on row g)) (rates row (on row g))) (stages_small row extra M h q)))
