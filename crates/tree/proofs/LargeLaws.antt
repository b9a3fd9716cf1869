-- Refusal 9 is never given: at every point of the grid of an accepted row within the limits, no offset, stage, wait or delay passes 2^63 − 1.
-- Every extra is at most `start`, which is below 2^30, and at such points all nodes are in range.
-- Assumes nothing.
use Prim.Native.Nat.{ℕ, ◌+◌, ◌-◌, ◌^◌, ◌≤◌, ◌<◌}
use Rattle.std.specs.Prelude.{◌≡◌, refl, Bool, true, false, cond, ◌||◌, List, [], ◌∷◌, eqb, get_or, replicate}
use Rattle.std.proofs.Common.{sym, true≢false, arith, le-ltb, ltb-false, eq-eqb, eqb-true}
use Rattle.std.proofs.Math.ListN.{length}
use Rattle.ground.proofs.EachLaws.{each_both, each_map, each_mapped}
use Rattle.curves.specs.Curve.{Shape, Rates, after, remainder, least_wait}
use Rattle.curves.specs.Held.{Live, Leaves}
use Rattle.curves.proofs.HeldLaws.{leaves_after_wait}
use Rattle.curves.specs.declared.Stage.{Stage}
use Rattle.tandem.specs.declared.Server.{Server}
use Rattle.tandem.specs.declared.Flow.{Flow}
use Rattle.tandem.specs.Tandem.{Tandem}
use Rattle.row.specs.Groups.{groups, reads}
use Rattle.tandem.specs.Sound.{Limits}
use Rattle.row.specs.Accepted.{Accepted}
use Rattle.tree.specs.Grid.{steps_of, points_of}
use Rattle.tree.specs.Plan.{Node, node_of, node_curve, head_of, tail_of, plan}
use Rattle.tree.specs.Fine.{Fine, AllFine}
use Rattle.tree.specs.Bound.{answer_at}
use Rattle.tree.proofs.SizeLaws.{zeros_at, start_small, plan_fine, delay_small}
use Rattle.ground.specs.Each.{Each}
use Rattle.tree.specs.Searched.{Low}
use Rattle.tree.proofs.GridLaws.{points_low}
use Rattle.tree.specs.Large.{some, large, large_curve, large_node, large_at, too_large}
use Rattle.tree.specs.Small.{SmallCurve, SmallNode, SmallAt}

neither : (a b : Bool) → a ≡ false → b ≡ false → (a || b) ≡ false
neither a b p q = rw (p, q)

small_one : (n : ℕ) → n < 2 ^ 63 → large n ≡ false
small_one n h = le-ltb 9223372036854775807 n (omega arith)

-- no stage is large
record Light (s : Stage) : Type 0 where
  burst : s.burst < 2 ^ 63
  rate : s.rate < 2 ^ 63

light_stages : (l : List Stage) → Each Light l → some (λ (s : Stage). large s.burst || large s.rate) l ≡ false
unfolding some
light_stages [] h = refl
light_stages (s ∷ l) h =
    neither (large s.burst || large s.rate) (some (λ (s : Stage). large s.burst || large s.rate) l)
    (neither (large s.burst) (large s.rate) (small_one s.burst h.0.burst) (small_one s.rate h.0.rate)) (light_stages l h.1)

light_curve : (c : Shape) → c.offset < 2 ^ 63 → Each Light c.stages → large_curve c ≡ false
unfolding large_curve
light_curve c o l =
    neither (large c.offset) (some (λ (s : Stage). large s.burst || large s.rate) c.stages) (small_one c.offset o) (light_stages c.stages l)

live_light : (l : List Stage) → Each Live l → Each Light l
live_light l h = each_map Live Light l (λ s a. record { burst = omega (arith, a.low); rate = omega (arith, a.slow) }) h

-- what a group leaves
left_light : (c : Shape) (σ ρ θ : ℕ) → least_wait c σ ≤ θ → θ < 2 ^ 42 → Each Live c.stages → Rates ρ c.stages → Each Light (remainder c σ ρ θ).stages
unfolding remainder
left_light c σ ρ θ w h l r =
    let x : ℕ = θ - c.offset in
    each_mapped Light (after σ ρ x) c.stages
    (each_both Live (Leaves σ ρ x) (λ s. Light (after σ ρ x s)) c.stages
    (λ s a b. record { burst = omega (arith, b.fits); rate = omega (arith, a.slow) }) l (leaves_after_wait c σ ρ θ w h l r))

-- a node in range
fine_node : (c : Shape) (g : Flow) (e : ℕ) → Fine (node_of c g e) g → large_node (node_of c g e) ≡ false
unfolding node_of large_node remainder
fine_node c g e f =
    let θ : ℕ = least_wait c g.burst + e in
    let own : large_curve c ≡ false = light_curve c (omega (arith, f.near)) (live_light c.stages f.live) in
    let rest : large_curve (remainder c g.burst g.rate θ) ≡ false =
    light_curve (remainder c g.burst g.rate θ) (omega (arith, f.soon))
    (left_light c g.burst g.rate θ (omega arith) (omega (arith, f.soon)) f.live f.room) in
    neither (large_curve c) (large θ || large_curve (remainder c g.burst g.rate θ)) own
    (neither (large θ) (large_curve (remainder c g.burst g.rate θ)) (small_one θ (omega (arith, f.soon))) rest)

fine_plan : (ss : List Server) (gs : List Flow) (es : List ℕ) → AllFine (plan ss gs es) gs → some large_node (plan ss gs es) ≡ false
unfolding plan some
fine_plan ss [] es f = refl
fine_plan ss (g ∷ gs) es f =
    neither (large_node (node_of (node_curve ss g gs (plan ss gs (tail_of es))) g (head_of es))) (some large_node (plan ss gs (tail_of es)))
    (fine_node (node_curve ss g gs (plan ss gs (tail_of es))) g (head_of es) f.0) (fine_plan ss gs (tail_of es) f.1)

-- none passes, if each has a property with which none does
none_each : {A : Type 0} (P : A → Type 0) (p : A → Bool) (l : List A) → ((x : A) → P x → p x ≡ false) → Each P l → some p l ≡ false
unfolding some
none_each P p [] h e = refl
none_each P p (x ∷ l) h e = neither (p x) (some p l) (h x e.0) (none_each P p l h e.1)

-- what it says of a row that it is not refused by 9

pub not_either : (a b : Bool) → (a || b) ≡ false → (a ≡ false) × (b ≡ false)
not_either true b h = absurd (true≢false h)
not_either false b h = (refl, h)

pub not_large : (n : ℕ) → large n ≡ false → n ≤ 2 ^ 63 - 1
not_large n h = let l = ltb-false 9223372036854775807 n h in omega arith

pub not_some : {A : Type 0} (P : A → Type 0) (p : A → Bool) (l : List A) → ((x : A) → p x ≡ false → P x) → some p l ≡ false → Each P l
unfolding some
not_some P p [] f h = tt
not_some P p (x ∷ l) f h = let k = not_either (p x) (some p l) h in (f x k.0, not_some P p l f k.1)

small_stages : (l : List Stage) → some (λ (s : Stage). large s.burst || large s.rate) l ≡ false
    → Each (λ s. (s.burst ≤ 2 ^ 63 - 1) × (s.rate ≤ 2 ^ 63 - 1)) l
unfolding some
small_stages [] h = tt
small_stages (s ∷ l) h =
    let k = not_either (large s.burst || large s.rate) (some (λ (s : Stage). large s.burst || large s.rate) l) h in
    let b = not_either (large s.burst) (large s.rate) k.0 in
    ((not_large s.burst b.0, not_large s.rate b.1), small_stages l k.1)

small_curve : (c : Shape) → large_curve c ≡ false → SmallCurve c
unfolding large_curve
small_curve c h =
    let k = not_either (large c.offset) (some (λ (s : Stage). large s.burst || large s.rate) c.stages) h in
    record { offset = not_large c.offset k.0; stages = small_stages c.stages k.1 }

pub small_node : (n : Node) → large_node n ≡ false → SmallNode n
unfolding large_node
small_node n h =
    let k = not_either (large_curve n.curve) (large n.wait || large_curve n.left) h in
    let w = not_either (large n.wait) (large_curve n.left) k.1 in
    record { curve = small_curve n.curve k.0; wait = not_large n.wait w.0; left = small_curve n.left w.1 }

-- and back: where none of them passes it, the row is not refused by 9

curve_small : (c : Shape) → SmallCurve c → large_curve c ≡ false
curve_small c h =
    light_curve c (omega (arith, h.offset))
    (each_map (λ s. (s.burst ≤ 2 ^ 63 - 1) × (s.rate ≤ 2 ^ 63 - 1)) Light c.stages
    (λ s k. record { burst = omega (arith, k.0); rate = omega (arith, k.1) }) h.stages)

node_small : (n : Node) → SmallNode n → large_node n ≡ false
unfolding large_node
node_small n h =
    neither (large_curve n.curve) (large n.wait || large_curve n.left) (curve_small n.curve h.curve)
    (neither (large n.wait) (large_curve n.left) (small_one n.wait (omega (arith, h.wait))) (curve_small n.left h.left))

at_small : (row : Tandem) (es : List ℕ) → SmallAt row es → large_at row es ≡ false
unfolding large_at
at_small row es h =
    neither (some large_node (plan row.servers (reads row) (0 ∷ es))) (large (answer_at row es).delay)
    (none_each SmallNode large_node (plan row.servers (reads row) (0 ∷ es)) node_small h.nodes)
    (small_one (answer_at row es).delay (omega (arith, h.delay)))

pub small_passes : (row : Tandem) (mode g : ℕ) → SmallAt row (replicate (length (groups row)) 0)
    → (mode ≡ 0 → Each (SmallAt row) (points_of (steps_of (answer_at row (replicate (length (groups row)) 0)).delay g) (length (groups row))))
    → too_large row mode g ≡ false
unfolding too_large
small_passes row mode g h k =
    neither (large_at row (replicate n 0)) (cond (eqb mode 0) (some (large_at row) points) false) (at_small row (replicate n 0) h) (by (eqb mode 0) refl)
  where
    n : ℕ
    n = length (groups row)

    points : List (List ℕ)
    points = points_of (steps_of (answer_at row (replicate n 0)).delay g) n

    by : (b : Bool) → eqb mode 0 ≡ b → cond b (some (large_at row) points) false ≡ false
    by true e = none_each (SmallAt row) (large_at row) points (at_small row) (k (eqb-true mode 0 e))
    by false e = refl

module _ (row : Tandem) (ok : Accepted row) (limits : Limits row) where
  none_at : (es : List ℕ) → ((k : ℕ) → get_or es k 0 < 2 ^ 30) → large_at row es ≡ false
  unfolding large_at
  none_at es low =
      neither (some large_node (plan row.servers (reads row) (0 ∷ es))) (large (answer_at row es).delay)
      (fine_plan row.servers (reads row) (0 ∷ es) (plan_fine row ok limits es low))
      (small_one (answer_at row es).delay (omega (arith, delay_small row ok limits es low)))

  pub never_too_large : (mode g : ℕ) → 2 ≤ g → too_large row mode g ≡ false
  unfolding too_large
  never_too_large mode g h = neither first (cond (eqb mode 0) others false) (none_at (replicate n 0) (λ k. omega (arith, zeros_at n k))) (by (eqb mode 0))
    where
      n : ℕ
      n = length (groups row)

      start : ℕ
      start = (answer_at row (replicate n 0)).delay

      first : Bool
      first = large_at row (replicate n 0)

      others : Bool
      others = some (large_at row) (points_of (steps_of start g) n)

      none : others ≡ false
      none =
          none_each (Low start n) (large_at row) (points_of (steps_of start g) n)
          (λ es a. none_at es (λ k. omega (arith, a.low k, start_small row ok limits n))) (points_low start g n h)

      by : (t : Bool) → cond t others false ≡ false
      by true = none
      by false = refl
