-- Why a branch ends: what is still to be chosen can only add slots, and every server must give, in the slots from here to the delay and one more,
-- the bursts of the groups still to come over it and what the watched flow sends in its first slot. For a group waits until each server
-- under its path has its burst, and takes it; and no stage rises faster later than now.
-- Assumes nothing.
use Rattle.std.specs.Prelude.{◌≡◌, refl, Bool, true, false, ◌&&◌, ◌⊎◌, List, [], ◌∷◌, ℕ, zero, suc, ◌+◌, ◌-◌, ◌*◌, ◌≤◌, ◌<◌, ltb, leb, length, get_or}
use Rattle.std.proofs.Common.{sym, ◌∙◌, subst, inl, inr, mul-le-mul_right, mul-add, arith, leb-true, leb-false, ltb-true, ltb-false}
use Rattle.std.proofs.Math.Seq.{slice}
use Rattle.ground.proofs.EachLaws.{each_at}
use Rattle.curves.specs.declared.Stage.{Stage}
use Rattle.curves.specs.Curve.{Shape, line, after, greatest, catch_up, least_wait, delay, Rates}
use Rattle.curves.specs.Part.{changed}
use Rattle.curves.proofs.StageLaws.{le_greatest, catch_up_enough}
use Rattle.curves.proofs.PartLaws.{changed_inside, changed_outside, changed_length, all_slice}
use Rattle.curves.proofs.DelayLaws.{delay_by_wait, delay_after_offset}
use Rattle.tandem.specs.Sums.{weigh}
use Rattle.tandem.specs.declared.Flow.{Flow}
use Rattle.tree.specs.Plan.{head_of, tail_of}
use Rattle.keys.specs.Left.{lag_of, left_by, left_of, stage_at, passes, bursts_on}

-- a server with a rate is there
get_or_there : (l : List Stage) (j : ℕ) → 1 ≤ (get_or l j (record { burst = 0; rate = 0 })).rate → j < length l
get_or_there [] j h = absurd (omega arith)
get_or_there (s ∷ l) zero h = omega arith
get_or_there (s ∷ l) (suc j) h = omega (arith, get_or_there l j h)

pub passes_cases : (g : Flow) (j : ℕ) → ((passes g j ≡ true) × (g.first - 1 ≤ j) × (j < g.last))
    ⊎ ((passes g j ≡ false) × ((j < g.first - 1) ⊎ (g.last ≤ j)))
unfolding passes
passes_cases g j = by (leb (g.first - 1) j) (ltb j g.last) refl refl
  where
    by : (s t : Bool) → leb (g.first - 1) j ≡ s → ltb j g.last ≡ t
        → (((s && t) ≡ true) × (g.first - 1 ≤ j) × (j < g.last)) ⊎ (((s && t) ≡ false) × ((j < g.first - 1) ⊎ (g.last ≤ j)))
    by true true d e = inl (refl, leb-true (g.first - 1) j d, ltb-true j g.last e)
    by true false d e = inr (refl, inr (ltb-false j g.last e))
    by false t d e = inr (refl, inl (leb-false (g.first - 1) j d))

stage_taken : (s : Stage) (σ ρ y x : ℕ) → σ ≤ line y s → σ + line x (after σ ρ y s) ≤ line (y + x) s
stage_taken s σ ρ y x h =
    let d : s.rate - ρ ≤ s.rate = omega arith in
    let m : (s.rate - ρ) * x ≤ s.rate * x = mul-le-mul_right x d in
    omega (arith, mul-add s.rate y x)

stage_kept : (s : Stage) (y x : ℕ) → 0 + line x s ≤ line (y + x) s
stage_kept s y x = omega (arith, mul-add s.rate y x)

pub left_offset : (c : Shape) (g : Flow) (x : ℕ) → (left_by c g x).offset ≡ c.offset + x
unfolding left_by
left_offset c g x = refl

-- one group: its burst and what is left of a stage come out of the stage, in the slots of both
taken_line : (c : Shape) (g : Flow) (e x j : ℕ) → 1 ≤ (stage_at (left_by c g (lag_of c g + e)) j).rate
    → (1 ≤ (stage_at c j).rate) × (weigh (passes g j) g.burst + line x (stage_at (left_by c g (lag_of c g + e)) j) ≤ line (lag_of c g + e + x) (stage_at c j))
unfolding left_by lag_of
taken_line c g e x j h = go (passes_cases g j)
  where
    y : ℕ
    y = greatest (catch_up g.burst) (slice (g.first - 1) g.last c.stages) + e

    l : List Stage
    l = changed (after g.burst g.rate y) (g.first - 1) g.last c.stages

    z : Stage
    z = record { burst = 0; rate = 0 }

    there : j < length c.stages
    there = omega (arith, get_or_there l j h, changed_length (after g.burst g.rate y) (g.first - 1) g.last c.stages)

    go : ((passes g j ≡ true) × (g.first - 1 ≤ j) × (j < g.last)) ⊎ ((passes g j ≡ false) × ((j < g.first - 1) ⊎ (g.last ≤ j)))
        → (1 ≤ (stage_at c j).rate) × (weigh (passes g j) g.burst + line x (get_or l j z) ≤ line (y + x) (stage_at c j))
    go (inl p) =
        let s = stage_at c j in
        let d : get_or l j z ≡ after g.burst g.rate y s = changed_inside (after g.burst g.rate y) (g.first - 1) g.last c.stages j z
        p.1 p.2 there in
        let r : 1 ≤ s.rate - g.rate = subst (λ (u : Stage). 1 ≤ u.rate) d h in
        let m : 1 ≤ s.rate = omega arith in
        let w : greatest (catch_up g.burst) (slice (g.first - 1) g.last c.stages) ≤ y = omega arith in
        let k : catch_up g.burst s ≤ y =
        all_slice (λ u. catch_up g.burst u ≤ y) (g.first - 1) g.last c.stages j z
        (le_greatest (catch_up g.burst) y (slice (g.first - 1) g.last c.stages) w) p.1 p.2 there in (
          m,
          rw p.0 (subst (λ (u : Stage). g.burst + line x u ≤ line (y + x) s) (sym d)
              (stage_taken s g.burst g.rate y x (catch_up_enough g.burst y s m k))),
        )
    go (inr p) =
        let s = stage_at c j in
        let d : get_or l j z ≡ s = changed_outside (after g.burst g.rate y) (g.first - 1) g.last c.stages j z p.1 in
        (subst (λ (u : Stage). 1 ≤ u.rate) d h, rw p.0 (subst (λ (u : Stage). 0 + line x u ≤ line (y + x) s) (sym d) (stage_kept s y x)))

-- the groups gs, of which the last is taken out first: no stage gains a rate, and their bursts and what is left of a stage come out of it
pub left_line : (c : Shape) (gs : List Flow) (es : List ℕ) (x j : ℕ) → 1 ≤ (stage_at (left_of c gs es) j).rate
    → (1 ≤ (stage_at c j).rate) × (c.offset ≤ (left_of c gs es).offset)
    × (bursts_on gs j + line x (stage_at (left_of c gs es) j) ≤ line ((left_of c gs es).offset - c.offset + x) (stage_at c j))
unfolding left_of bursts_on
left_line c [] es x j h = (h, omega arith, let e : c.offset - c.offset + x ≡ x = omega arith in rw e (omega arith))
left_line c (g ∷ gs) es x j h =
    let m = left_of c gs (tail_of es) in
    let y = lag_of m g + head_of es in
    let t = taken_line m g (head_of es) x j h in
    let r = left_line c gs (tail_of es) (y + x) j t.0 in
    let o : (left_by m g y).offset ≡ m.offset + y = left_offset m g y in
    let e : (left_by m g y).offset - c.offset + x ≡ m.offset - c.offset + (y + x) = omega (arith, r.1) in
    (r.0, omega (arith, r.1), rw e (omega (arith, t.1, r.2)))

-- (a) the slots so far are at most every delay that is still to come
pub offset_le : (c : Shape) (gs : List Flow) (es : List ℕ) → c.offset ≤ (left_of c gs es).offset
unfolding left_of
offset_le c [] es = omega arith
offset_le c (g ∷ gs) es =
    let m = left_of c gs (tail_of es) in
    omega (arith, offset_le c gs (tail_of es), left_offset m g (lag_of m g + head_of es))

pub slots_le_delay : (c : Shape) (gs : List Flow) (es : List ℕ) (σ ρ : ℕ) → c.offset ≤ delay (left_of c gs es) σ ρ
slots_le_delay c gs es σ ρ = omega (arith, offset_le c gs es, delay_after_offset (left_of c gs es) σ ρ)

-- a stage has the first slot's bytes one slot after the delay
delay_line : (c : Shape) (σ ρ j : ℕ) → Rates 1 c.stages → j < length c.stages → σ + ρ ≤ line (delay c σ ρ + 1 - c.offset) (stage_at c j)
unfolding least_wait
delay_line c σ ρ j h p =
    let z : Stage = record { burst = 0; rate = 0 } in
    let w = delay c σ ρ + 1 - c.offset in
    let k : greatest (catch_up (σ + ρ)) c.stages ≤ w = omega (arith, delay_by_wait c σ ρ h) in
    catch_up_enough (σ + ρ) w (stage_at c j) (each_at (λ s. 1 ≤ s.rate) c.stages z h j p)
    (each_at (λ s. catch_up (σ + ρ) s ≤ w) c.stages z (le_greatest (catch_up (σ + ρ)) w c.stages k) j p)

pub left_length : (c : Shape) (gs : List Flow) (es : List ℕ) → length (left_of c gs es).stages ≡ length c.stages
unfolding left_of left_by
left_length c [] es = refl
left_length c (g ∷ gs) es =
    let m = left_of c gs (tail_of es) in
    changed_length (after g.burst g.rate (lag_of m g + head_of es)) (g.first - 1) g.last m.stages ∙ left_length c gs (tail_of es)

-- (b) in the slots from here to the delay and one more, server j gives the bursts of the groups to come over it and the watched flow's first slot
pub server_bound : (c : Shape) (gs : List Flow) (es : List ℕ) (σ ρ j : ℕ) → Rates 1 (left_of c gs es).stages → j < length c.stages
    → bursts_on gs j + (σ + ρ) ≤ line (delay (left_of c gs es) σ ρ + 1 - c.offset) (stage_at c j)
server_bound c gs es σ ρ j h p =
    let m = left_of c gs es in
    let q : j < length m.stages = omega (arith, left_length c gs es) in
    let x = delay m σ ρ + 1 - m.offset in
    let d = delay_line m σ ρ j h q in
    let r = left_line c gs es x j (each_at (λ s. 1 ≤ s.rate) m.stages (record { burst = 0; rate = 0 }) h j q) in
    let e : m.offset - c.offset + x ≡ delay m σ ρ + 1 - c.offset = omega (arith, r.1, delay_after_offset m σ ρ) in
    subst (λ (y : ℕ). bursts_on gs j + (σ + ρ) ≤ line y (stage_at c j)) e (omega (arith, d, r.2))

pub left_by_length : (c : Shape) (g : Flow) (x : ℕ) → length (left_by c g x).stages ≡ length c.stages
unfolding left_by
left_by_length c g x = changed_length (after g.burst g.rate x) (g.first - 1) g.last c.stages
