-- The recursion `choose`, turn by turn, over what it asks: each way through the loop and out of it (crate keys, TurnLaws), and that what the
-- functions on the way and a deeper call ask holds there. A number is below its weight, so all keys stay below best; the slots stay below
-- start because a later key would not be below best.
-- Assumes nothing.
use mathlib.Core.Path.{◌≡◌, refl, sym, ap, ◌∙◌, subst}
use mathlib.Core.Bool.{Bool, true, false, ◌||◌, not, false≢true}
use mathlib.Core.Logic.{◌⊎◌, inl, inr}
use mathlib.Core.List.{List, map}
use Prim.Native.Nat.{ℕ, zero, suc, ◌+◌, ◌-◌, ◌*◌, ◌^◌, ◌≤◌, ◌<◌, min, max}
use native.Mathlib.Nat.{mul-le-mul_right, mul-le-mul_left, mul_assoc, mul_comm, pow-zero, pow-suc}
use native.Mathlib.Omega.{arith}
use borrow.Author.Tests.{leb-true, leb-false}
use lib.Dec.{leb}
use lib.ListN.{length, take, get_or, length-take, length-drop, length-map}
use Rattle.std.proofs.Common.{get_or-drop}
use Rattle.std.proofs.lemmas.List.{get_or-map}
use lib.Seq.{slice, take-length}
use Rattle.tandem.specs.Tandem.{no_flow}
use Rattle.curves.specs.declared.Stage.{Stage}
use Rattle.curves.specs.Curve.{Shape, Rates, line, delay}
use Rattle.curves.specs.Held.{Live, Leaves, InRange, Holds, shape_of}
use Rattle.curves.proofs.HeldLaws.{live_rates}
use Rattle.curves.proofs.DelayLaws.{delay_le}
use Rattle.curves.specs.Part.{changed, lag_in}
use Rattle.curves.proofs.PartLaws.{changed_inside, changed_outside, lag_le}
use Rattle.tandem.specs.declared.Flow.{Flow}
use Rattle.tandem.specs.Sums.{weigh}
use Rattle.tandem.proofs.TestLaws.{or_cases}
use Rattle.ground.specs.Each.{Each}
use Rattle.ground.proofs.EachLaws.{each_at, each_map}
use Rattle.tree.specs.Ordered.{Placed}
use Rattle.grid.specs.declared.Steps.{Steps}
use Rattle.grid.specs.declared.Step.{Step}
use Rattle.grid.specs.Steps.{step_at, no_step, digits_of, values_of}
use Rattle.grid.proofs.StepsLaws.{steps_le, steps_few, digits_held, values_held}
use Rattle.keys.specs.Numbers.{first_digits, Growing}
use Rattle.keys.proofs.NumberLaws.{first_digits_stand, first_digits_grow}
use Rattle.keys.specs.Keys.{least_of}
use Rattle.keys.proofs.KeyLaws.{least_le}
use Rattle.keys.specs.Left.{lag_of, left_by, passes}
use Rattle.keys.proofs.ServerLaws.{passes_cases, left_offset, left_by_length}
use Rattle.keys.specs.State.{State, state, chosen, Moving, Small, want_of, rest_of, gives_beside, gives_under}
use Rattle.keys.proofs.StateLaws.{keys_over, moving_next, step_rises, not_true}
use Rattle.keys.proofs.TurnLaws.{Turned, passed_late, passed_lacking, turned_more, turned_past, turned_all, value_at_lem}
use Rattle.keys.proofs.UseLaws.{moving_rates, path_live, path_leaves, small_next, small_line, want_next, gives_same}
use Rattle.climb.specs.declared.Branch.{Branch}
use Rattle.climb.specs.Branch.{state_of, watched_in, groups_in, want_in}
use Rattle.climb.specs.Asked.{Takes, Asks}
use Rattle.climb.specs.Choosing.{Stepped, least_key, Ready}

pow_pos : (g n : ℕ) → 2 ≤ g → 0 < g ^ n
pow_pos g zero h = omega (arith, pow-zero g)
pow_pos g (suc n) h = let m : 1 * g ≤ g ^ n * g = mul-le-mul_right g (pow_pos g n h) in omega (arith, m, pow-suc g n)

weight_by : (x g n : ℕ) → 2 ≤ g → x * g ^ n ≤ 65536 → x ≤ 65536
weight_by x g n h l = let m : x * 1 ≤ x * g ^ n = mul-le-mul_left x (pow_pos g n h) in omega (arith, m)

or_false : (a b : Bool) → (a || b) ≡ false → a ≡ false
or_false true b e = absurd (false≢true (sym e))
or_false false b e = refl

-- a part is no longer than what is behind its first place
slice_le : (a b : ℕ) (l : List Stage) → a ≤ b → a + length (slice a b l) ≤ max a (length l)
slice_le a b l h = omega (arith, length-drop a (take b l), length-take b l)

-- the steps that the code holds

-- the steps that a turn of the loop takes one of
abbrev pub steps_held : Steps → List Step
steps_held steps = take steps.count steps.steps

module _ (steps : Steps) (h : Stepped steps) where
  abbrev step : ℕ → ℕ
  step = step_at steps.start steps.grid

  pub steps_short : steps.count ≤ 9
  steps_short = subst (λ (x : Steps). x.count ≤ 9) (sym h.are) (steps_few steps.start steps.grid h.dense)

  digits_are : digits_of steps ≡ first_digits step steps.grid
  digits_are = ap digits_of h.are ∙ digits_held steps.start steps.grid

  values_are : values_of steps ≡ map step (digits_of steps)
  values_are = ap values_of h.are ∙ values_held steps.start steps.grid ∙ ap (map step) (sym digits_are)

  digits_grow : Growing (digits_of steps)
  digits_grow = subst Growing (sym digits_are) (first_digits_grow step steps.grid)

  digits_low : Each (λ d. d < steps.grid) (digits_of steps)
  digits_low = subst (Each (λ d. d < steps.grid)) (sym digits_are) (first_digits_stand step steps.grid).digits

  digits_count : length (digits_of steps) ≡ length (steps_held steps)
  digits_count = length-map (steps_held steps) (λ (x : Step). x.digit)

  module _ (i : ℕ) (p : i < length (steps_held steps)) where
    abbrev its : Step
    its = get_or (steps_held steps) i no_step

    digit_at : get_or (digits_of steps) i 0 ≡ its.digit
    digit_at = get_or-map (λ (x : Step). x.digit) (steps_held steps) i no_step 0 p

    value_of : its.value ≡ step its.digit
    value_of =
        sym (get_or-map (λ (x : Step). x.value) (steps_held steps) i no_step 0 p) ∙ ap (λ (l : List ℕ). get_or l i 0) values_are
        ∙ value_at_lem step (digits_of steps) i (omega (arith, digits_count)) ∙ ap step digit_at

    pub digit_low : its.digit < steps.grid
    digit_low = subst (λ (d : ℕ). d < steps.grid) digit_at (each_at (λ d. d < steps.grid) (digits_of steps) 0 digits_low i (omega (arith, digits_count)))

    pub step_low : its.value ≤ steps.start
    step_low = omega (arith, value_of, steps_le steps.start steps.grid its.digit digit_low)

-- a call

pub number_small : {flows : List Flow} {steps : Steps} {k : ℕ} {s : Branch} {wants : List ℕ} {best : ℕ} → Ready flows steps k s wants best → s.number < 65536
number_small {steps = steps} {k = k} {s = s} r = omega (arith, r.numbered, weight_by s.weight steps.grid k r.stepped.coarse r.weighed)

-- the watched flow: every group is chosen
module _ {flows : List Flow} {steps : Steps} {k : ℕ} {s : Branch} {wants : List ℕ} {best : ℕ} (r : Ready flows steps k s wants best) (last : k ≡ 0) where
  abbrev watched : Flow
  watched = get_or flows k no_flow

  watched_is : watched ≡ watched_in flows
  watched_is = ap (λ (n : ℕ). get_or flows n no_flow) last

  rates_end : Rates 1 (shape_of s.curve).stages
  rates_end = moving_rates (groups_in flows) k (state_of s) r.moving

  pub light_end : watched.burst + watched.rate < 2 ^ 40
  light_end = subst (λ (f : Flow). f.burst + f.rate < 2 ^ 40) (sym watched_is) r.watched

  pub range_end : InRange s.curve
  range_end =
      let c = shape_of s.curve in
      let l : Each Live (slice 0 (length c.stages) c.stages) = path_live c 0 (length c.stages) rates_end r.small (omega (arith, r.soon)) in
      record { few = r.size; near = omega (arith, r.soon); live = subst (Each Live) (take-length c.stages) l }

  pub delay_end : delay (shape_of s.curve) watched.burst watched.rate < 2 ^ 42
  delay_end = omega (arith, delay_le (shape_of s.curve) watched.burst watched.rate rates_end, r.soon, light_end)

  pub leaf_is : (key : ℕ) → key ≡ delay (shape_of s.curve) watched.burst watched.rate * 65536 + s.number → min best key ≡ least_key flows steps k s best
  unfolding least_key
  leaf_is key e =
      ap (min best) e ∙ ap (λ (f : Flow). min best (delay (shape_of s.curve) f.burst f.rate * 65536 + s.number)) watched_is
      ∙ ap (λ (n : ℕ). least_key flows steps n s best) (sym last)

-- the loop of a call with k groups still to choose: after i steps b is the least key so far
pub record Turning (flows : List Flow) (steps : Steps) (k : ℕ) (s : Branch) (best b i : ℕ) : Type 0 where
  pub turned : Turned 65536 (watched_in flows) (groups_in flows) (step_at steps.start steps.grid) steps.grid (digits_of steps) (k - 1) (state_of s) best b i
  pub down : b ≤ best

-- a group is still to be chosen
pub record Call : Type 0 where
  pub flows : List Flow
  pub steps : Steps
  pub k : ℕ
  pub s : Branch
  pub wants : List ℕ
  pub best : ℕ
  pub ready : Ready flows steps k s wants best
  pub some : k ≡ suc (k - 1)

abbrev pub call : {flows : List Flow} {steps : Steps} {k : ℕ} {s : Branch} {wants : List ℕ} {best : ℕ} → Ready flows steps k s wants best → (k ≡ 0 → ⊥) → Call
call r h = record { flows = _; steps = _; k = _; s = _; wants = _; best = _; ready = r; some = omega (arith, h) }

-- the next of them
abbrev pub group : Call → Flow
group c = get_or c.flows c.k no_flow

module _ (c : Call) where
  abbrev r : Ready c.flows c.steps c.k c.s c.wants c.best
  r = c.ready

  abbrev gs : List Flow
  gs = groups_in c.flows

  abbrev w : Flow
  w = watched_in c.flows

  abbrev f : Flow
  f = group c

  -- the groups before it
  abbrev k : ℕ
  k = c.k - 1

  abbrev g : ℕ
  g = c.steps.grid

  abbrev shape : Shape
  shape = shape_of c.s.curve

  abbrev number : ℕ
  number = c.s.number

  abbrev weight : ℕ
  weight = c.s.weight

  abbrev from : ℕ
  from = f.first - 1

  abbrev to : ℕ
  to = f.last

  -- what is still to come is the whole
  abbrev least_below : ℕ
  least_below = least_key c.flows c.steps c.k c.s c.best

  there : k < length gs
  there = omega (arith, length-drop 1 c.flows, r.reached, c.some)

  group_is : get_or gs k no_flow ≡ f
  group_is = get_or-drop 1 c.flows k no_flow ∙ ap (λ (n : ℕ). get_or c.flows n no_flow) (omega (arith, c.some))

  moving : Moving gs (suc k) (state_of c.s)
  moving = subst (λ (x : ℕ). Moving gs x (state_of c.s)) c.some r.moving

  pub placed : Placed c.s.curve.count f
  placed = subst (Placed c.s.curve.count) group_is (each_at (Placed c.s.curve.count) gs no_flow r.placed k there)

  pub light : f.burst < 2 ^ 40
  light = subst (λ (x : Flow). x.burst < 2 ^ 40) group_is (each_at (λ x. x.burst < 2 ^ 40) gs no_flow r.light k there)

  rates : Rates 1 shape.stages
  rates = moving_rates gs (suc k) (state_of c.s) moving

  pub live : Each Live (slice from to shape.stages)
  live = path_live shape from to rates r.small (omega (arith, r.soon))

  wanted_by : (j : ℕ) → j < c.s.curve.count → want_in c.wants j ≡ want_of gs (w.burst + w.rate) k j + weigh (passes f j) f.burst
  wanted_by j p =
      r.wanted j p ∙ ap (λ (x : ℕ). want_of gs (w.burst + w.rate) x j) c.some ∙ want_next gs (w.burst + w.rate) k j there
      ∙ ap (λ (x : Flow). want_of gs (w.burst + w.rate) k j + weigh (passes x j) x.burst) group_is

  -- every server under its path wants at least its burst
  pub wanted_enough : (j : ℕ) → from ≤ j → j < to → f.burst ≤ want_in c.wants j
  wanted_enough j p q = go (passes_cases f j) (wanted_by j (omega (arith, placed.leaves)))
    where
      go : ((passes f j ≡ true) × (from ≤ j) × (j < to)) ⊎ ((passes f j ≡ false) × ((j < from) ⊎ (to ≤ j)))
          → want_in c.wants j ≡ want_of gs (w.burst + w.rate) k j + weigh (passes f j) f.burst → f.burst ≤ want_in c.wants j
      go (inl x) e = let y = ap (λ (z : Bool). weigh z f.burst) x.0 in omega (arith, e, y)
      go (inr x) e = absurd (no x.1)
        where
          no : (j < from) ⊎ (to ≤ j) → ⊥
          no (inl y) = omega arith
          no (inr y) = omega arith

  -- what is wanted once it is chosen
  fewer_wanted : length c.wants ≡ 16 → (j : ℕ) → j < c.s.curve.count → want_in (changed (λ (x : ℕ). x - f.burst) from to c.wants) j ≡ want_of gs (w.burst + w.rate) k j
  fewer_wanted full j p = go (passes_cases f j) (wanted_by j p)
    where
      go : ((passes f j ≡ true) × (from ≤ j) × (j < to)) ⊎ ((passes f j ≡ false) × ((j < from) ⊎ (to ≤ j)))
          → want_in c.wants j ≡ want_of gs (w.burst + w.rate) k j + weigh (passes f j) f.burst
          → want_in (changed (λ (x : ℕ). x - f.burst) from to c.wants) j ≡ want_of gs (w.burst + w.rate) k j
      go (inl x) e =
          let y = ap (λ (z : Bool). weigh z f.burst) x.0 in
          let m = changed_inside (λ (x : ℕ). x - f.burst) from to c.wants j 0 x.1 x.2 (omega (arith, full, r.size)) in
          omega (arith, e, y, m)
      go (inr x) e =
          let y = ap (λ (z : Bool). weigh z f.burst) x.0 in
          let m = changed_outside (λ (x : ℕ). x - f.burst) from to c.wants j 0 x.1 in
          omega (arith, e, y, m)

  all_below : least_of c.best (keys_over 65536 w gs (step_at c.steps.start g) g (digits_of c.steps) (suc k) (state_of c.s)) ≡ least_below
  unfolding least_key
  all_below = ap (λ (x : ℕ). least_key c.flows c.steps x c.s c.best) (sym c.some)

  pub end_turning : (b i : ℕ) → Turning c.flows c.steps c.k c.s c.best b i → length (steps_held c.steps) ≤ i → b ≡ least_below
  end_turning b i t h =
      turned_all 65536 w gs (step_at c.steps.start g) g (digits_of c.steps) k (state_of c.s) c.best b i t.turned
      (omega (arith, digits_count c.steps r.stepped)) ∙ all_below

  module _ (least : ℕ) (lag : least ≡ lag_in shape from to f.burst) where
    lag_is : least ≡ lag_of shape f
    unfolding lag_of
    lag_is = lag

    pub lag_small : least < 2 ^ 40
    lag_small = omega (arith, lag_le shape from to f.burst (live_rates (slice from to shape.stages) live), lag, light)

-- a turn of the loop
pub record Turn : Type 0 where
  pub call : Call
  pub least : ℕ
  pub lag : least ≡ lag_in (shape_of call.s.curve) ((group call).first - 1) (group call).last (group call).burst
  pub b : ℕ
  pub i : ℕ
  pub turning : Turning call.flows call.steps call.k call.s call.best b i
  pub inside : i < length (steps_held call.steps)

abbrev pub turn_of : (n : Call) {least b i : ℕ} → least ≡ lag_in (shape_of n.s.curve) ((group n).first - 1) (group n).last (group n).burst
    → Turning n.flows n.steps n.k n.s n.best b i → i < length (steps_held n.steps) → Turn
turn_of n l h p = record { call = n; least = _; lag = l; b = _; i = _; turning = h; inside = p }

module _ (t : Turn) where
  abbrev c : Call
  c = t.call

  abbrev steps : Steps
  steps = c.steps

  abbrev its_step : Step
  its_step = get_or (steps_held steps) t.i no_step

  abbrev d : ℕ
  d = its_step.digit

  abbrev pub gap : ℕ
  gap = t.least + its_step.value

  -- the slots and the number once the group is chosen
  abbrev pub slots : ℕ
  slots = (shape c).offset + gap

  abbrev pub num : ℕ
  num = number c + d * weight c

  stepped : Stepped steps
  stepped = c.ready.stepped

  abbrev step_of : ℕ → ℕ
  step_of = step_at steps.start (g c)

  digit_is : get_or (digits_of steps) t.i 0 ≡ d
  digit_is = digit_at steps stepped t.i t.inside

  gap_is : lag_of (shape c) (f c) + step_of d ≡ gap
  gap_is = omega (arith, lag_is c t.least t.lag, value_of steps stepped t.i t.inside)

  inside_digits : t.i < length (digits_of steps)
  inside_digits = omega (arith, t.inside, digits_count steps stepped)

  pub gap_small : gap < 2 ^ 41
  gap_small = omega (arith, lag_small c t.least t.lag, step_low steps stepped t.i t.inside, stepped.near)

  pub num_next : num < weight c * g c
  num_next =
      let m = mul-le-mul_right (weight c) (digit_low steps stepped t.i t.inside) in
      omega (arith, c.ready.numbered, m, mul_comm (weight c) (g c))

  weight_next : weight c * g c * g c ^ k c ≤ 65536
  weight_next =
      let h : weight c * g c ^ suc (k c) ≤ 65536 = subst (λ (x : ℕ). weight c * g c ^ x ≤ 65536) c.some c.ready.weighed in
      let e : weight c * (g c * g c ^ k c) ≡ weight c * g c ^ suc (k c) = ap (λ (x : ℕ). weight c * x) (mul_comm (g c) (g c ^ k c) ∙ sym (pow-suc (g c) (k c))) in
      omega (arith, h, e, mul_assoc (weight c) (g c) (g c ^ k c))

  pub weight_small : weight c * g c ≤ 65536
  weight_small = weight_by (weight c * g c) (g c) (k c) stepped.coarse weight_next

  -- the slots and the number of the definition are those of the code
  said : (P : ℕ → ℕ → Type 0) → P slots num → P ((shape c).offset + (lag_of (shape c) (get_or (gs c) (k c) no_flow) + step_of (get_or (digits_of steps) t.i 0)))
      (number c + get_or (digits_of steps) t.i 0 * weight c)
  said P h =
      subst (λ (x : ℕ). P ((shape c).offset + (lag_of (shape c) (get_or (gs c) (k c) no_flow) + step_of x)) (number c + x * weight c)) (sym digit_is)
      (subst (λ (x : Flow). P ((shape c).offset + (lag_of (shape c) x + step_of d)) num) (sym (group_is c))
      (subst (λ (x : ℕ). P ((shape c).offset + x) num) (sym gap_is) h))

  -- the slots that are left, and that what is given in them fits
  abbrev pub left_slots : ℕ
  left_slots = rest_of 65536 t.b slots num

  left_fits : Each (λ u. line left_slots u < 2 ^ 63) (shape c).stages
  unfolding rest_of
  left_fits =
      each_map (λ u. line left_slots u ≤ 2 ^ 20 * ((shape c).offset + left_slots)) (λ u. line left_slots u < 2 ^ 63) (shape c).stages
      (λ u h. omega (arith, h, c.ready.soon, t.turning.down, c.ready.bounded, stepped.near)) (small_line (2 ^ 20) (shape c) left_slots c.ready.small)

  -- what `is_past` asks
  pub asks_step : Asks c.s.curve (f c) slots num t.b
  asks_step =
      record {
        few = c.ready.size;
        full = c.ready.full;
        placed = placed c;
        near = omega (arith, gap_small, c.ready.soon);
        small = omega (arith, num_next, weight_small);
        fits = left_fits;
      }

  -- what the servers beside its path are asked for is what is wanted with the group to come
  beside_same : gives_beside (want_in c.wants) left_slots (f c) (shape c).stages ≡ gives_beside (want_of (gs c) ((w c).burst + (w c).rate) (suc (k c))) left_slots (f c) (shape c).stages
  unfolding gives_beside
  beside_same =
      let same : (j : ℕ) → j < c.s.curve.count → want_in c.wants j ≡ want_of (gs c) ((w c).burst + (w c).rate) (suc (k c)) j =
      λ j p. c.ready.wanted j p ∙ ap (λ (x : ℕ). want_of (gs c) ((w c).burst + (w c).rate) x j) c.some in
      let n = c.ready.full in
      let p = placed c in
      rw (
        gives_same (want_in c.wants) (want_of (gs c) ((w c).burst + (w c).rate) (suc (k c))) left_slots 0 (slice 0 ((f c).first - 1) (shape c).stages)
            (λ j u v. same j (omega (arith, v, n, slice_le 0 ((f c).first - 1) (shape c).stages (omega arith)))),
        gives_same (want_in c.wants) (want_of (gs c) ((w c).burst + (w c).rate) (suc (k c))) left_slots (f c).last (slice (f c).last (length (shape c).stages) (shape c).stages)
            (λ j u v. same j (omega (arith, v, n, p.leaves, slice_le (f c).last (length (shape c).stages) (shape c).stages (omega (arith, n, p.leaves))))),
      )

  -- out: the slots with this step have reached the best, or some server beside its path can not give what is wanted of it; and so with all later ones
  pub turn_past : (p : Bool) → p ≡ (leb t.b (slots * 65536 + num) || not (gives_beside (want_in c.wants) left_slots (f c) (shape c).stages)) → p ≡ true
      → t.b ≡ least_below c
  turn_past p e h = go (or_cases _ _ (sym e ∙ h))
    where
      go : (leb t.b (slots * 65536 + num) ≡ true) ⊎ (not (gives_beside (want_in c.wants) left_slots (f c) (shape c).stages) ≡ true) → t.b ≡ least_below c
      go (inl x) =
          passed_late 65536 (w c) (gs c) step_of (g c) (digits_of steps) (k c) (state_of c.s) c.best t.b t.i t.turning.turned (there c) (digits_grow steps stepped)
          (step_rises steps.start (g c)) inside_digits (said (λ x y. t.b ≤ x * 65536 + y) (leb-true _ _ x))
          ∙ all_below c
      go (inr x) =
          passed_lacking 65536 (w c) (gs c) step_of (g c) (digits_of steps) (k c) (state_of c.s) c.best t.b t.i t.turning.turned (omega arith) (moving c) (digits_grow steps stepped)
          (step_rises steps.start (g c)) inside_digits
          (said (λ x y. gives_beside (want_of (gs c) ((w c).burst + (w c).rate) (suc (k c))) (rest_of 65536 t.b x y) (get_or (gs c) (k c) no_flow) (shape c).stages ≡ false)
          (subst (λ (q : Flow). gives_beside (want_of (gs c) ((w c).burst + (w c).rate) (suc (k c))) left_slots q (shape c).stages ≡ false) (sym (group_is c)) (sym beside_same ∙ not_true _ x)))
          ∙ all_below c

  -- the state behind it
  abbrev behind : State
  behind = state (left_by (shape c) (f c) gap) num (weight c * g c)

  behind_is : chosen step_of (g c) (get_or (gs c) (k c) no_flow) (state_of c.s) (get_or (digits_of steps) t.i 0) ≡ behind
  behind_is =
      ap (λ (x : ℕ). chosen step_of (g c) (get_or (gs c) (k c) no_flow) (state_of c.s) x) digit_is
      ∙ ap (λ (x : Flow). chosen step_of (g c) x (state_of c.s) d) (group_is c)
      ∙ ap (λ (x : ℕ). state (left_by (shape c) (f c) x) num (weight c * g c)) gap_is

  behind_moving : Moving (gs c) (k c) behind
  behind_moving =
      subst (Moving (gs c) (k c)) behind_is
      (moving_next 65536 (w c) (gs c) step_of (g c) (digits_of steps) (k c) (state_of c.s) (get_or (digits_of steps) t.i 0) (moving c))

  behind_small : Small (2 ^ 20) (left_by (shape c) (f c) gap)
  behind_small = small_next (2 ^ 20) (shape c) (f c) gap c.ready.small

  leaves : Each (Leaves (f c).burst (f c).rate gap) (slice (from c) (to c) (shape c).stages)
  leaves =
      subst (λ (x : ℕ). Each (Leaves (f c).burst (f c).rate x) (slice (from c) (to c) (shape c).stages)) gap_is
      (path_leaves (shape c) (f c) (step_of d) (rates c)
      (subst (λ (x : ℕ). Rates 1 (left_by (shape c) (f c) x).stages) (sym gap_is) (moving_rates (gs c) (k c) behind behind_moving)) c.ready.small
      (omega (arith, gap_is, gap_small, c.ready.soon)))

  -- what `next` asks
  pub takes : Takes c.s (f c) gap d (g c)
  takes =
      record {
        few = c.ready.size;
        placed = placed c;
        leaves = leaves;
        slots = omega (arith, gap_small, c.ready.soon);
        number = omega (arith, num_next, weight_small);
        weight = omega (arith, weight_small);
      }

-- a turn that goes on, and the branch that the code has then
pub record On : Type 0 where
  pub turn : Turn
  pub early : (leb turn.b (slots turn * 65536 + num turn)
      || not (gives_beside (want_in turn.call.wants) (left_slots turn) (group turn.call) (shape_of turn.call.s.curve).stages)) ≡ false
  pub next : Branch
  pub holds : Holds next.curve (left_by (shape_of turn.call.s.curve) (group turn.call) (gap turn))
  pub number : next.number ≡ num turn
  pub weight : next.weight ≡ turn.call.s.weight * turn.call.steps.grid
  pub fewer : List ℕ
  pub lowered : fewer ≡ changed (λ (x : ℕ). x - (group turn.call).burst) ((group turn.call).first - 1) (group turn.call).last turn.call.wants
  pub full : length turn.call.wants ≡ 16

abbrev pub goes_on : (t : Turn) {p : Bool} {next : Branch} {fewer : List ℕ}
    → p ≡ (leb t.b (slots t * 65536 + num t) || not (gives_beside (want_in t.call.wants) (left_slots t) (group t.call) (shape_of t.call.s.curve).stages)) → p ≡ false
    → Holds next.curve (left_by (shape_of t.call.s.curve) (group t.call) (gap t)) × (next.number ≡ num t) × (next.weight ≡ t.call.s.weight * t.call.steps.grid)
    → fewer ≡ changed (λ (x : ℕ). x - (group t.call).burst) ((group t.call).first - 1) (group t.call).last t.call.wants → length t.call.wants ≡ 16 → On
goes_on t e h n l f = record { turn = t; early = sym e ∙ h; next = _; holds = n.0; number = n.1; weight = n.2; fewer = _; lowered = l; full = f }

module _ (o : On) where
  abbrev t : Turn
  t = o.turn

  abbrev q : Call
  q = o.turn.call

  abbrev left : Shape
  left = left_by (shape q) (f q) (gap t)

  state_is : state_of o.next ≡ behind t
  state_is = ap (λ (x : Shape). state x o.next.number o.next.weight) o.holds.shape ∙ ap (λ (x : ℕ). state left x o.next.weight) o.number ∙ ap (λ (x : ℕ). state left (num t) x) o.weight

  offset_is : o.next.curve.offset ≡ slots t
  offset_is = o.holds.offset ∙ left_offset (shape q) (f q) (gap t)

  early_is : slots t * 65536 + num t < t.b
  early_is = leb-false _ _ (or_false _ _ o.early)

  slots_low : slots t < q.steps.start
  slots_low = omega (arith, early_is, t.turning.down, q.ready.bounded)

  count_is : o.next.curve.count ≡ q.s.curve.count
  count_is = o.holds.count ∙ left_by_length (shape q) (f q) (gap t) ∙ q.ready.full

  pub next_early : o.next.curve.offset * 65536 + o.next.number < t.b
  next_early = omega (arith, early_is, offset_is, o.number)

  next_number : o.next.number < 65536
  next_number = omega (arith, o.number, num_next t, weight_small t)

  abbrev rest : ℕ
  rest = rest_of 65536 t.b o.next.curve.offset o.next.number

  rest_low : rest ≤ q.steps.start
  unfolding rest_of
  rest_low = omega (arith, next_early, t.turning.down, q.ready.bounded, offset_is, slots_low)

  rest_fits : Each (λ u. line rest u < 2 ^ 63) (shape_of o.next.curve).stages
  rest_fits =
      subst (λ (x : Shape). Each (λ u. line rest u < 2 ^ 63) x.stages) (sym o.holds.shape)
      (each_map (λ u. line rest u ≤ 2 ^ 20 * (left.offset + rest)) (λ u. line rest u < 2 ^ 63) left.stages
      (λ u h. omega (arith, h, left_offset (shape q) (f q) (gap t), rest_low, slots_low, q.ready.stepped.near)) (small_line (2 ^ 20) left rest (behind_small t)))

  -- what `is_open` asks
  pub asks_next : Asks o.next.curve (f q) o.next.curve.offset o.next.number t.b
  asks_next =
      record {
        few = omega (arith, count_is, q.ready.size);
        full = ap (λ (x : Shape). length x.stages) o.holds.shape ∙ sym o.holds.count;
        placed = subst (λ (n : ℕ). Placed n (f q)) (sym count_is) (placed q);
        near = omega (arith, offset_is, slots_low, q.ready.stepped.near);
        small = next_number;
        fits = rest_fits;
      }

  next_wanted : (j : ℕ) → j < o.next.curve.count → want_in o.fewer j ≡ want_of (gs q) ((w q).burst + (w q).rate) (k q) j
  next_wanted j p = ap (λ (l : List ℕ). want_in l j) o.lowered ∙ fewer_wanted q o.full j (omega (arith, p, count_is))

  -- on: the branch is passed over, as some server under the path of the group can not give what is wanted of it
  pub turn_short : (p : Bool) → p ≡ gives_under (want_in o.fewer) rest (f q) (shape_of o.next.curve).stages → p ≡ false
      → Turning q.flows q.steps q.k q.s q.best t.b (t.i + 1)
  unfolding gives_under
  turn_short p is h =
      let e : gives_under (want_in o.fewer) rest (f q) (shape_of o.next.curve).stages ≡ false = sym is ∙ h in
      let z : ℕ = (w q).burst + (w q).rate in
      let l = (shape_of o.next.curve).stages in
      let n : length l ≡ o.next.curve.count = ap (λ (x : Shape). length x.stages) o.holds.shape ∙ sym o.holds.count in
      let x : gives_under (want_of (gs q) z (k q)) (rest_of 65536 t.b (state_of o.next).curve.offset (state_of o.next).number) (f q) (state_of o.next).curve.stages ≡ false =
      sym (gives_same (want_in o.fewer) (want_of (gs q) z (k q)) rest (from q) (slice (from q) (to q) l) (λ j u v. next_wanted j (omega (arith, v, n, slice_le (from q) (to q) l (omega (arith, (placed q).enters, (placed q).onward)), (placed q).enters, (placed q).onward)))) ∙ e in
      record {
        turned =
            turned_past 65536 (w q) (gs q) (step_of t) (g q) (digits_of q.steps) (k q) (state_of q.s) q.best t.b t.i t.turning.turned (omega arith) (moving q) (inside_digits t)
            (subst (λ (y : Flow). gives_under (want_of (gs q) z (k q)) (rest_of 65536 t.b (chosen (step_of t) (g q) (get_or (gs q) (k q) no_flow) (state_of q.s) (get_or (digits_of q.steps) t.i 0)).curve.offset
            (chosen (step_of t) (g q) (get_or (gs q) (k q) no_flow) (state_of q.s) (get_or (digits_of q.steps) t.i 0)).number) y
            (chosen (step_of t) (g q) (get_or (gs q) (k q) no_flow) (state_of q.s) (get_or (digits_of q.steps) t.i 0)).curve.stages ≡ false) (sym (group_is q))
            (subst (λ (y : State). gives_under (want_of (gs q) z (k q)) (rest_of 65536 t.b y.curve.offset y.number) (f q) y.curve.stages ≡ false) (state_is ∙ sym (behind_is t)) x));
        down = t.turning.down;
      }

  -- on: it is searched
  pub turn_on : (x : ℕ) → x ≡ least_key q.flows q.steps (k q) o.next t.b → Turning q.flows q.steps q.k q.s q.best x (t.i + 1)
  unfolding least_key
  turn_on x e =
      record {
        turned =
            turned_more 65536 (w q) (gs q) (step_of t) (g q) (digits_of q.steps) (k q) (state_of q.s) q.best t.b t.i t.turning.turned x (inside_digits t)
            (e ∙ ap (λ (y : State). least_of t.b (keys_over 65536 (w q) (gs q) (step_of t) (g q) (digits_of q.steps) (k q) y)) (state_is ∙ sym (behind_is t)));
        down = omega (arith, e, least_le t.b (keys_over 65536 (w q) (gs q) (step_of t) (g q) (digits_of q.steps) (k q) (state_of o.next)), t.turning.down);
      }

  -- what the call below asks
  pub ready_on : Ready q.flows q.steps (k q) o.next o.fewer t.b
  ready_on =
      record {
        stepped = q.ready.stepped;
        reached = omega (arith, q.ready.reached);
        size = omega (arith, count_is, q.ready.size);
        full = ap (λ (x : Shape). length x.stages) o.holds.shape ∙ sym o.holds.count;
        placed = subst (λ (n : ℕ). Each (Placed n) (gs q)) (sym count_is) q.ready.placed;
        light = q.ready.light;
        watched = q.ready.watched;
        moving = subst (Moving (gs q) (k q)) (sym state_is) (behind_moving t);
        small = subst (Small (2 ^ 20)) (sym o.holds.shape) (behind_small t);
        soon = omega (arith, offset_is, slots_low, q.ready.stepped.near);
        wanted = next_wanted;
        bounded = omega (arith, t.turning.down, q.ready.bounded);
        numbered = omega (arith, o.number, o.weight, num_next t);
        weighed = subst (λ (x : ℕ). x * g q ^ k q ≤ 65536) (sym o.weight) (weight_next t);
      }
