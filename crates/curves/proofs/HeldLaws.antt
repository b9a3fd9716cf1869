-- Laws of the records that hold curves: what is held can be read back, and what the methods make is held.
-- Assumes nothing.
use Rattle.std.specs.Prelude.{◌≡◌, refl, List, [], ◌∷◌, ◌++◌, ℕ, zero, suc, ◌+◌, ◌-◌, ◌≤◌, ◌<◌, ◌^◌, length, set, take, drop}
use Rattle.std.proofs.Common.{sym, ap, ◌∙◌, subst, mul-le-mul, add-one, arith, length-append, length-drop, drop-drop, length-take-le, take_at}
use Rattle.std.proofs.Math.Seq.{paste, length_paste_head}
use Rattle.ground.proofs.EachLaws.{each_both, each_map}
use Rattle.ground.specs.Each.{Each}
use Rattle.curves.specs.declared.Stage.{Stage}
use Rattle.curves.specs.declared.Curve.{Curve}
use Rattle.curves.specs.Curve.{Shape, line, server, joined, remainder, least_wait, delay, Rates}
use Rattle.curves.specs.Slots.{bucket}
use Rattle.curves.proofs.SlotsLaws.{bucket_after}
use Rattle.curves.specs.Held.{shape_of, spare, held, Holds, Live, Leaves, InRange, Leaving}
use Rattle.curves.proofs.CurveLaws.{wait_after_offset, wait_enough}

-- what is held can be read back

pub held_holds : {r : Curve} (c : Shape) (rest : List Stage) → r ≡ held c rest → Holds r c
unfolding held
held_holds c rest e = record { shape = rw (e, take_at c.stages rest (length c.stages) refl); count = rw e; offset = rw e }

-- both parts of what a method says of its curve, from the first
pub held_both : {r : Curve} (c : Shape) (rest : List Stage) → r ≡ held c rest → (r ≡ held c rest) × Holds r c
held_both c rest e = (e, held_holds c rest e)

-- what a join makes
pub held_joined : (a b : Curve) → a.count ≤ length a.stages → b.count ≤ length b.stages
    → ◌≡◌ {A = Curve} (record { offset = a.offset + b.offset; count = a.count + b.count; stages = paste a.stages a.count b.stages b.count })
    (held (joined (shape_of a) (shape_of b)) (drop b.count (spare a)))
unfolding held joined
held_joined a b h k = rw (length_paste_head a.stages a.count b.stages b.count h k, drop-drop)

-- an entry put behind the first n
take_set : {A : Type 0} (l : List A) (n : ℕ) (x : A) → n < length l → take (suc n) (set l n x) ≡ take n l ++ (x ∷ [])
take_set [] n x h = absurd (omega arith)
take_set (y ∷ l) zero x h = refl
take_set (y ∷ l) (suc n) x h = ap (λ (m : List _). y ∷ m) (take_set l n x (omega arith))

-- a stage in range serves at least one byte a slot
pub live_rates : (l : List Stage) → Each Live l → Rates 1 l
live_rates l h = each_map Live (λ s. 1 ≤ s.rate) l (λ s k. k.moves) h

-- a group can be taken out of a curve in range after its least wait, if its rate fits and the wait is not too long
pub leaves_after_wait : (c : Shape) (σ ρ θ : ℕ) → least_wait c σ ≤ θ → θ < 2 ^ 42 → Each Live c.stages → Rates ρ c.stages
    → Each (Leaves σ ρ (θ - c.offset)) c.stages
leaves_after_wait c σ ρ θ h k l q =
    each_both (λ s. σ ≤ line x s) (λ s. Live s × (ρ ≤ s.rate)) (Leaves σ ρ x) c.stages each (wait_enough c σ θ (live_rates c.stages l) h) both
  where
    x : ℕ
    x = θ - c.offset

    both : Each (λ s. Live s × (ρ ≤ s.rate)) c.stages
    both = each_both Live (λ s. ρ ≤ s.rate) (λ s. Live s × (ρ ≤ s.rate)) c.stages (λ s a b. (a, b)) l q

    each : (s : Stage) → σ ≤ line x s → Live s × (ρ ≤ s.rate) → Leaves σ ρ x s
    each s a b =
        let e : x ≤ 2 ^ 42 = omega arith in
        let m = mul-le-mul b.0.slow e in
        record { covers = a; room = b.1; fits = omega (arith, b.0.low, m) }

-- what a bucket may send up to one slot behind the offset fits, since some stage in range has room for its rate
pub bucket_small : (c : Shape) (σ ρ : ℕ) → 1 ≤ length c.stages → c.offset < 2 ^ 36 → Each Live c.stages → Rates ρ c.stages → σ + ρ < 2 ^ 40
    → bucket σ ρ (c.offset + 1) < 2 ^ 63
bucket_small c σ ρ n o l q h = go c.stages n l q
  where
    go : (m : List Stage) → 1 ≤ length m → Each Live m → Rates ρ m → bucket σ ρ (c.offset + 1) < 2 ^ 63
    go [] n l q = absurd (omega arith)
    go (s ∷ m) n l q =
        let a : ρ ≤ 2 ^ 20 = omega (arith, q.0, l.0.slow) in
        let b : c.offset + 1 ≤ 2 ^ 36 = omega arith in
        omega (arith, bucket_after σ ρ (c.offset + 1) (omega arith), mul-le-mul a b)

-- what is asked of a record follows from the curve that it holds

pub holds_all : {r : Curve} {c : Shape} (P : Stage → Type 0) → Holds r c → Each P c.stages → Each P (shape_of r).stages
holds_all P h k = subst (λ (a : Shape). Each P a.stages) (sym h.shape) k

pub holds_in_range : {r : Curve} {c : Shape} → Holds r c → length c.stages ≤ 16 → c.offset < 2 ^ 62 → Each Live c.stages → InRange r
holds_in_range h n o l = record { few = omega (arith, h.count); near = omega (arith, h.offset); live = holds_all Live h l }

pub holds_leaving : {r : Curve} {c : Shape} (σ ρ θ : ℕ) → Holds r c → length c.stages ≤ 16 → least_wait c σ ≤ θ → θ < 2 ^ 42
    → Each Live c.stages → Rates ρ c.stages → Leaving r σ ρ θ
holds_leaving {r} {c} σ ρ θ h n w k l q =
    record {
      few = omega (arith, h.count);
      late = omega (arith, h.offset, wait_after_offset c σ);
      leaves = rw h.offset (holds_all (Leaves σ ρ (θ - c.offset)) h (leaves_after_wait c σ ρ θ w k l q));
    }

-- a result's curve, said of the curves that the arguments hold

pub holds_joined : {r a b : Curve} {c d : Shape} → Holds a c → Holds b d → Holds r (joined (shape_of a) (shape_of b)) → Holds r (joined c d)
holds_joined h k j = rw (← h.shape, ← k.shape) j

pub holds_remainder : {r a : Curve} {c : Shape} (σ ρ θ : ℕ) → Holds a c → Holds r (remainder (shape_of a) σ ρ θ) → Holds r (remainder c σ ρ θ)
holds_remainder σ ρ θ h j = rw (← h.shape) j

pub holds_wait : {a : Curve} {c : Shape} (σ w : ℕ) → Holds a c → w ≡ least_wait (shape_of a) σ → w ≡ least_wait c σ
holds_wait σ w h e = rw (← h.shape) e

pub holds_delay : {a : Curve} {c : Shape} (σ ρ d : ℕ) → Holds a c → d ≡ delay (shape_of a) σ ρ → d ≡ delay c σ ρ
holds_delay σ ρ d h e = rw (← h.shape) e

-- one server more, put behind the stages of the record itself
pub holds_server : {a : Curve} {c : Shape} (R T : ℕ) → Holds a c → a.count < length a.stages
    → Holds (record { offset = a.offset + T; count = a.count + 1; stages = set a.stages a.count (record { burst = 0; rate = R }) })
    (joined c (server R T))
unfolding joined server
holds_server {a} {c} R T h k =
    record {
      shape = rw (← h.shape, add-one, take_set a.stages a.count (record { burst = 0; rate = R }) k);
      count = omega (arith, h.count, length-append c.stages (record { burst = 0; rate = R } ∷ []));
      offset = omega (arith, h.offset);
    }

-- a join leaves as many entries as there were
pub holds_long : {r : Curve} (a b : Curve) {d : Shape} → Holds b d → a.count + b.count ≤ length a.stages
    → r ≡ held (joined (shape_of a) (shape_of b)) (drop b.count (spare a)) → length r.stages ≡ length a.stages
unfolding held joined
holds_long {r} a b {d} k m e =
    let p : length (take a.count a.stages) ≡ a.count = length-take-le a.count a.stages (omega arith) in
    let q : length (take b.count b.stages) ≡ b.count = ap (λ (s : Shape). length s.stages) k.shape ∙ sym k.count in
    rw (e, length-append, length-append, p, q, length-drop, length-drop) (omega arith)
