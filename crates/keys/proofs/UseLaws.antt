-- What a program of the search meets at each turn: the first state and the last, what is wanted of a server once a group is chosen, the stages of a
-- path one by one, and that every number is in range because those of a whole point are.
-- Assumes nothing.
use Rattle.std.specs.Prelude.{◌≡◌, refl, List, [], ◌∷◌, ◌++◌, map, ℕ, zero, suc, ◌+◌, ◌-◌, ◌*◌, ◌/◌, ◌%◌, ◌^◌, ◌≤◌, ◌<◌, length, get_or, take, replicate}
use Rattle.std.proofs.Common.{ap, subst, mul-le-mul_right, mul-add, zero-mul, arith, length-append, take-suc}
use Rattle.std.proofs.Math.Nat.{zero-div, zero-mod}
use Rattle.std.proofs.Math.Seq.{slice}
use Rattle.tandem.specs.Tandem.{no_flow}
use Rattle.ground.proofs.EachLaws.{each_at, each_map}
use Rattle.curves.specs.declared.Stage.{Stage}
use Rattle.curves.specs.Curve.{Shape, line, after, greatest, catch_up, Rates}
use Rattle.curves.specs.Held.{Live, Leaves}
use Rattle.curves.specs.Part.{changed}
use Rattle.curves.proofs.StageLaws.{le_greatest, catch_up_enough}
use Rattle.curves.proofs.PartLaws.{changed_inside, changed_length, all_slice}
use Rattle.tandem.specs.Sums.{weigh}
use Rattle.tandem.specs.declared.Server.{Server}
use Rattle.tandem.specs.declared.Flow.{Flow}
use Rattle.tree.specs.Plan.{node_of, node_curve, plan}
use Rattle.ground.specs.Each.{Each}
use Rattle.tree.specs.Amounts.{sum_of}
use Rattle.tree.proofs.PruneLaws.{latencies_of}
use Rattle.tree.specs.Ordered.{Workable}
use Rattle.keys.specs.Numbers.{point_at}
use Rattle.keys.specs.Left.{row_curve, lag_of, left_by, left_of, stage_at, passes, bursts_on}
use Rattle.keys.proofs.ServerLaws.{left_line, left_length}
use Rattle.keys.proofs.LeftLaws.{root_left}
use Rattle.keys.specs.State.{State, Small, Moving, want_of, gives}

-- what is wanted of a server

bursts_append : (fs gs : List Flow) (j : ℕ) → bursts_on (fs ++ gs) j ≡ bursts_on fs j + bursts_on gs j
unfolding bursts_on
bursts_append [] gs j = omega arith
bursts_append (f ∷ fs) gs j = omega (arith, bursts_append fs gs j)

-- a group less is to come
pub want_next : (gs : List Flow) (bytes k j : ℕ) → k < length gs
    → want_of gs bytes (suc k) j ≡ want_of gs bytes k j + weigh (passes (get_or gs k no_flow) j) (get_or gs k no_flow).burst
unfolding bursts_on
want_next gs bytes k j h =
    let e = ap (λ (l : List Flow). bursts_on l j) (take-suc gs k no_flow h) in
    omega (arith, e, bursts_append (take k gs) (get_or gs k no_flow ∷ []) j)

pub gives_same : (f g : ℕ → ℕ) (rest i : ℕ) (l : List Stage) → ((j : ℕ) → i ≤ j → j < i + length l → f j ≡ g j) → gives f rest i l ≡ gives g rest i l
unfolding gives
gives_same f g rest i [] h = refl
gives_same f g rest i (s ∷ l) h =
    rw (h i (omega arith) (omega arith), gives_same f g rest (suc i) l (λ j p q. h j (omega arith) (omega arith)))

-- decoding

pub point_length : (step : ℕ → ℕ) (g n i : ℕ) → length (point_at step g n i) ≡ n
point_length step g zero i = refl
point_length step g (suc n) i = omega (arith, length-append (point_at step g n (i / g)) (step (i % g) ∷ []), point_length step g n (i / g))

zeros_snoc : (n : ℕ) → replicate {A = ℕ} n 0 ++ (0 ∷ []) ≡ replicate {A = ℕ} (suc n) 0
zeros_snoc zero = refl
zeros_snoc (suc n) = ap (λ (l : List ℕ). 0 ∷ l) (zeros_snoc n)

-- number 0 is the point with every e = 0
pub point_zero : (start g n : ℕ) → point_at (λ i. i * start / (g - 1)) g n 0 ≡ replicate n 0
point_zero start g zero = refl
point_zero start g (suc n) =
    let s : 0 * start / (g - 1) ≡ 0 = rw (zero-mul start, zero-div (g - 1)) in
    rw (zero-div g, zero-mod g, s, point_zero start g n) (zeros_snoc n)

-- ranges

rates_by : (l : List Stage) → ((j : ℕ) → j < length l → 1 ≤ (get_or l j (record { burst = 0; rate = 0 })).rate) → Rates 1 l
rates_by [] h = tt
rates_by (s ∷ l) h = (h 0 (omega arith), rates_by l (λ j p. h (suc j) (omega arith)))

at_rates : (l : List Stage) (j : ℕ) → Rates 1 l → j < length l → 1 ≤ (get_or l j (record { burst = 0; rate = 0 })).rate
at_rates l j h p = each_at (λ s. 1 ≤ s.rate) l (record { burst = 0; rate = 0 }) h j p

-- a whole point that can be worked out: every server still moves, and the slots are few
pub point_fine : (ss : List Server) (w : Flow) (gs : List Flow) (es : List ℕ) → Workable ss (w ∷ gs) es → w.first ≡ 1 → w.last ≡ length ss
    → Rates 1 (left_of (row_curve ss) gs es).stages × ((left_of (row_curve ss) gs es).offset < 2 ^ 36)
unfolding plan node_of
point_fine ss w gs es h f l =
    let r = root_left ss w gs es h.ordered h.placed f l in
    let v = h.fine.0 in
    let a : Rates 1 (node_curve ss w gs (plan ss gs es)).stages =
    each_map Live (λ s. 1 ≤ s.rate) (node_curve ss w gs (plan ss gs es)).stages (λ s x. x.moves) v.live in
    (subst (λ (c : Shape). Rates 1 c.stages) r a, subst (λ (c : Shape). c.offset < 2 ^ 36) r v.near)

-- servers that move at the end move now
pub moving_rates : (gs : List Flow) (k : ℕ) (s : State) → Moving gs k s → Rates 1 s.curve.stages
moving_rates gs k s h = rates_by s.curve.stages each
  where
    m : Shape
    m = left_of s.curve (take k gs) []

    each : (j : ℕ) → j < length s.curve.stages → 1 ≤ (stage_at s.curve j).rate
    each j p = (left_line s.curve (take k gs) [] 0 j (at_rates m.stages j h.moves (omega (arith, left_length s.curve (take k gs) [])))).0

all_changed : (P Q : Stage → Type 0) (f : Stage → Stage) → ((s : Stage) → P s → Q (f s)) → ((s : Stage) → P s → Q s) → (a b : ℕ) (l : List Stage) → Each P l
    → Each Q (changed f a b l)
all_changed P Q f x y a b [] h = tt
all_changed P Q f x y zero zero (s ∷ l) h = (y s h.0, each_map P Q l y h.1)
all_changed P Q f x y zero (suc b) (s ∷ l) h = (x s h.0, all_changed P Q f x y zero b l h.1)
all_changed P Q f x y (suc a) zero (s ∷ l) h = (y s h.0, each_map P Q l y h.1)
all_changed P Q f x y (suc a) (suc b) (s ∷ l) h = (y s h.0, all_changed P Q f x y a b l h.1)

-- no stage has more than a server of rate B gives in the slots so far
pub small_row : (B : ℕ) (ss : List Server) → Each (λ s. s.rate ≤ B) ss → Small B (row_curve ss)
unfolding row_curve
small_row B ss h = record { stages = go (sum_of (latencies_of ss)) ss h }
  where
    go : (t : ℕ) (l : List Server) → Each (λ s. s.rate ≤ B) l
        → Each (λ (s : Stage). (s.rate ≤ B) × (s.burst ≤ B * t)) (map (λ (s : Server). record { burst = 0; rate = s.rate }) l)
    go t [] h = tt
    go t (s ∷ l) h = ((h.0, omega arith), go t l h.1)

pub small_next : (B : ℕ) (c : Shape) (g : Flow) (x : ℕ) → Small B c → Small B (left_by c g x)
unfolding left_by
small_next B c g x h =
    record {
      stages = all_changed (λ s. (s.rate ≤ B) × (s.burst ≤ B * c.offset)) (λ s. (s.rate ≤ B) × (s.burst ≤ B * (c.offset + x)))
          (after g.burst g.rate x)
          (λ s p. (omega (arith, p.0), omega (arith, p.1, mul-le-mul_right x p.0, mul-add B c.offset x)))
          (λ s p. (p.0, omega (arith, p.1, mul-add B c.offset x))) (g.first - 1) g.last c.stages h.stages;
    }

pub small_line : (B : ℕ) (c : Shape) (x : ℕ) → Small B c → Each (λ s. line x s ≤ B * (c.offset + x)) c.stages
small_line B c x h =
    each_map (λ s. (s.rate ≤ B) × (s.burst ≤ B * c.offset)) (λ s. line x s ≤ B * (c.offset + x)) c.stages
    (λ s p. omega (arith, p.1, mul-le-mul_right x p.0, mul-add B c.offset x)) h.stages

pub small_line_at : (B : ℕ) (c : Shape) (x j : ℕ) → Small B c → j < length c.stages → line x (stage_at c j) ≤ B * (c.offset + x)
small_line_at B c x j h p = each_at (λ s. line x s ≤ B * (c.offset + x)) c.stages (record { burst = 0; rate = 0 }) (small_line B c x h) j p

slice_all : (P : Stage → Type 0) (a b : ℕ) (l : List Stage) → ((j : ℕ) → a ≤ j → j < b → j < length l → P (get_or l j (record { burst = 0; rate = 0 })))
    → Each P (slice a b l)
slice_all P zero zero l h = tt
slice_all P (suc a) zero l h = tt
slice_all P zero (suc b) [] h = tt
slice_all P (suc a) (suc b) [] h = tt
slice_all P zero (suc b) (s ∷ l) h =
    (h 0 (omega arith) (omega arith) (omega arith), slice_all P zero b l (λ j p q r. h (suc j) (omega arith) (omega arith) (omega arith)))
slice_all P (suc a) (suc b) (s ∷ l) h = slice_all P a b l (λ j p q r. h (suc j) (omega arith) (omega arith) (omega arith))

-- the stages under a path are in range for their lag
pub path_live : (c : Shape) (a b : ℕ) → Rates 1 c.stages → Small (2 ^ 20) c → c.offset < 2 ^ 36 → Each Live (slice a b c.stages)
path_live c a b r h n =
    slice_all Live a b c.stages (λ j p q l.
    let x = each_at (λ s. (s.rate ≤ 2 ^ 20) × (s.burst ≤ 2 ^ 20 * c.offset)) c.stages (record { burst = 0; rate = 0 }) h.stages j l in
    record { moves = at_rates c.stages j r l; slow = x.0; low = omega (arith, x.1) })

-- a group can be taken out: under its path each stage has the burst by then, and room for the rate
pub next_leaves : (c : Shape) (g : Flow) (e j : ℕ) → Rates 1 c.stages → Rates 1 (left_by c g (lag_of c g + e)).stages → j < length c.stages
    → g.first - 1 ≤ j → j < g.last → (g.burst ≤ line (lag_of c g + e) (stage_at c j)) × (g.rate ≤ (stage_at c j).rate)
unfolding left_by lag_of
next_leaves c g e j h r p a b =
    let z : Stage = record { burst = 0; rate = 0 } in
    let l = slice (g.first - 1) g.last c.stages in
    let y = greatest (catch_up g.burst) l + e in
    let w : greatest (catch_up g.burst) l ≤ y = omega arith in
    let k : catch_up g.burst (stage_at c j) ≤ y =
    all_slice (λ u. catch_up g.burst u ≤ y) (g.first - 1) g.last c.stages j z (le_greatest (catch_up g.burst) y l w) a b p in
    let f = after g.burst g.rate y in
    let t : 1 ≤ (get_or (changed f (g.first - 1) g.last c.stages) j z).rate =
    at_rates (changed f (g.first - 1) g.last c.stages) j r (omega (arith, changed_length f (g.first - 1) g.last c.stages)) in
    let u : 1 ≤ (stage_at c j).rate - g.rate = subst (λ (s : Stage). 1 ≤ s.rate) (changed_inside f (g.first - 1) g.last c.stages j z a b p) t in
    (catch_up_enough g.burst y (stage_at c j) (at_rates c.stages j h p) k, omega arith)

-- so its group can be taken out of them
pub path_leaves : (c : Shape) (g : Flow) (e : ℕ) → Rates 1 c.stages → Rates 1 (left_by c g (lag_of c g + e)).stages → Small (2 ^ 20) c
    → c.offset + (lag_of c g + e) < 2 ^ 42 → Each (Leaves g.burst g.rate (lag_of c g + e)) (slice (g.first - 1) g.last c.stages)
path_leaves c g e r t h n =
    slice_all (Leaves g.burst g.rate (lag_of c g + e)) (g.first - 1) g.last c.stages (λ j p q l.
    let x = next_leaves c g e j r t l p q in
    record { covers = x.0; room = x.1; fits = omega (arith, small_line_at (2 ^ 20) c (lag_of c g + e) j h l) })
