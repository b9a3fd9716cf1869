-- The search of a row over its definitions: what the recursion asks of the whole row holds, the key that it gives is document 01's answer (crate
-- keys, FoundLaws), and what stands at a point is what is found there.
-- Assumes nothing.
use mathlib.Core.Path.{◌≡◌, refl, sym, ap, ◌∙◌, subst}
use mathlib.Core.Logic.{◌⊎◌, ⊎_elim}
use mathlib.Core.List.{List, [], ◌∷◌}
use Prim.Native.Nat.{ℕ, zero, suc, ◌+◌, ◌-◌, ◌*◌, ◌/◌, ◌%◌, ◌^◌, ◌≤◌, ◌<◌}
use native.Mathlib.Nat.{mod-lt}
use native.Mathlib.Omega.{arith}
use lib.ListN.{length, take, drop, get_or, replicate, length-replicate, length-take, length-drop, length-map}
use lib.Seq.{take_all, take_at}
use Rattle.tandem.specs.Tandem.{no_flow}
use Rattle.curves.specs.declared.Curve.{Curve}
use Rattle.curves.specs.Curve.{Shape, Rates}
use Rattle.curves.specs.Held.{Holds}
use Rattle.tandem.specs.declared.Server.{Server}
use Rattle.tandem.specs.declared.Flow.{Flow}
use Rattle.row.specs.declared.Row.{Row}
use Rattle.row.specs.RowFor.{padded}
use Rattle.tree.specs.Plan.{Node, plan}
use Rattle.tree.specs.Planned.{answer_of}
use Rattle.tree.specs.Fine.{AllFine}
use Rattle.tree.specs.Amounts.{sum_of}
use Rattle.tree.proofs.PruneLaws.{latencies_of}
use Rattle.tree.specs.Ordered.{Placed, Ordered, Workable}
use Rattle.tree.proofs.NodeLaws.{plan_length}
use Rattle.tree.specs.Grid.{Answer, found_of}
use Rattle.ground.specs.Each.{Each}
use Rattle.ground.proofs.EachLaws.{each_append, each_map}
use Rattle.tree.proofs.GridLaws.{zeros_below, quick_is}
use Rattle.keys.specs.Keys.{least_of}
use Rattle.keys.specs.Numbers.{point_at, first_digits}
use Rattle.keys.proofs.NumberLaws.{first_digits_stand}
use Rattle.keys.specs.Choose.{keys_under}
use Rattle.keys.specs.Left.{row_curve, left_of, bursts_on}
use Rattle.keys.specs.State.{State, state, climb, whole, Moving, Small}
use Rattle.keys.proofs.StateLaws.{rates_left}
use Rattle.keys.proofs.FoundLaws.{found_by_least, found_first}
use Rattle.keys.proofs.UseLaws.{point_length, point_zero, point_fine, small_row}
use Rattle.grid.specs.declared.Steps.{Steps}
use Rattle.grid.specs.Steps.{step_at, no_step, steps_in, digits_of}
use Rattle.grid.proofs.StepsLaws.{steps_le, digits_held, values_low, second_step}
use Rattle.climb.specs.declared.Branch.{Branch}
use Rattle.climb.specs.Branch.{state_of}
use Rattle.climb.specs.Choosing.{Stepped, least_key, Ready}
use Rattle.point.specs.declared.Point.{Point}
use Rattle.point.specs.Point.{servers_of, flows_of, answer_at, extras_of, point_of}
use Rattle.search.proofs.Wanting.{flows_long}
use Rattle.search.specs.declared.Found.{Found}
use Rattle.search.specs.Point.{searched}
use Rattle.search.specs.Searchable.{start_of, Searchable, found_in}

take_zeros : (n m : ℕ) → n ≤ m → take {A = ℕ} n (replicate m 0) ≡ replicate n 0
take_zeros zero m p = refl
take_zeros (suc n) zero p = absurd (omega arith)
take_zeros (suc n) (suc m) p = ap (λ (l : List ℕ). 0 ∷ l) (take_zeros n m (omega arith))

-- no extra of a point is above start
point_low : (start g n i : ℕ) → 1 ≤ g → Each (λ e. e ≤ start) (point_at (step_at start g) g n i)
point_low start g zero i h = tt
point_low start g (suc n) i h =
    each_append (λ e. e ≤ start) (point_at (step_at start g) g n (i / g)) (step_at start g (i % g) ∷ []) (point_low start g n (i / g) h)
    (steps_le start g (i % g) (mod-lt i h), tt)

-- bursts and rates of nodes in range
fine_light : (ns : List Node) (gs : List Flow) → length ns ≡ length gs → AllFine ns gs → Each (λ f. f.burst + f.rate < 2 ^ 40) gs
fine_light [] [] e h = tt
fine_light [] (g ∷ gs) e h = absurd (omega arith)
fine_light (n ∷ ns) [] e h = tt
fine_light (n ∷ ns) (g ∷ gs) e h = (h.0.light, fine_light ns gs (omega arith) h.1)

positive : (m : ℕ) → (m ≡ 0 → ⊥) → 0 < m
positive zero h = absurd (h refl)
positive (suc m) h = omega arith

first_rest : (l : List Flow) → 0 < length l → l ≡ get_or l 0 no_flow ∷ drop 1 l
first_rest [] h = absurd (omega arith)
first_rest (x ∷ l) h = refl

module _ (row : Row) (ok : Searchable row) where
  abbrev ss : List Server
  ss = servers_of row

  abbrev fs : List Flow
  fs = flows_of row

  abbrev w : Flow
  w = get_or fs 0 no_flow

  abbrev gs : List Flow
  gs = drop 1 fs

  abbrev n : ℕ
  n = row.count - 1

  abbrev g : ℕ
  g = row.grid

  first_works : Workable ss fs (replicate n 0)
  first_works = ok.works (replicate n 0) (length-replicate {A = ℕ} n 0) (zeros_below (start_of row) n)

  -- the start's point has no extras
  none_is : extras_of row (replicate 32 0) ≡ replicate n 0
  none_is = take_zeros n 32 (omega (arith, ok.shaped.few))

  pub first_fine : AllFine (plan ss fs (0 ∷ extras_of row (replicate 32 0))) fs
  first_fine = rw none_is first_works.fine

  pub first_delay : (p : Point) → p ≡ point_of (answer_at row (extras_of row (replicate 32 0))) → p.delay ≡ start_of row
  unfolding point_of
  first_delay p e = ap (λ (x : Point). x.delay) e ∙ ap (λ (es : List ℕ). (answer_at row es).delay) none_is

  -- the extras of a point by its number
  extras_are : (r : ℕ) → extras_of row (padded 32 0 (point_at (step_at (start_of row) g) g n r)) ≡ point_at (step_at (start_of row) g) g n r
  extras_are r = take_at (point_at (step_at (start_of row) g) g n r) _ n (point_length (step_at (start_of row) g) g n r)

  -- those that are made of the delay at the start's point
  pub extras_made : (p : Point) → p ≡ point_of (answer_at row (extras_of row (replicate 32 0))) → (r : ℕ) (es : List ℕ)
      → es ≡ padded 32 0 (point_at (step_at p.delay g) g n r) → es ≡ padded 32 0 (point_at (step_at (start_of row) g) g n r)
  extras_made p e r es h = h ∙ ap (λ (x : ℕ). padded 32 0 (point_at (step_at x g) g n r)) (first_delay p e)

  pub point_fine_at : (r : ℕ) → AllFine (plan ss fs (0 ∷ extras_of row (padded 32 0 (point_at (step_at (start_of row) g) g n r)))) fs
  point_fine_at r =
      rw (extras_are r)
      (ok.works (point_at (step_at (start_of row) g) g n r) (point_length (step_at (start_of row) g) g n r)
      (point_low (start_of row) g n r (omega (arith, ok.coarse)))).fine

  -- what is found at a point
  found_by : (r : Found) (p : Point) (es : List ℕ) → p ≡ point_of (answer_at row es) → (searched row).best ≡ answer_at row es
      → (r.start ≡ start_of row) × (r.bound ≡ p.delay) × (r.waits ≡ p.waits) → r ≡ found_in (searched row).start (searched row).best
  unfolding found_in found_of point_of
  found_by r p es e b h =
      let a : ◌≡◌ {A = Found} r (record { start = start_of row; bound = p.delay; waits = p.waits }) = λ i. record { start = h.0 i; bound = h.1 i; waits = h.2 i } in
      a ∙ ap (λ (x : Point). record { start = start_of row; bound = x.delay; waits = x.waits }) e
      ∙ ap (λ (x : Answer). record { start = start_of row; bound = x.delay; waits = padded 32 0 x.waits }) (sym b)

  -- in mode 1, and where the first point is the best
  pub found_none : (r : Found) (p : Point) → p ≡ point_of (answer_at row (extras_of row (replicate 32 0)))
      → (row.mode ≡ 0 → ⊥) ⊎ ((searched row).best ≡ answer_at row (point_at (step_at (start_of row) g) g n 0))
      → (r.start ≡ p.delay) × (r.bound ≡ p.delay) × (r.waits ≡ p.waits) → r ≡ found_in (searched row).start (searched row).best
  found_none r p e b h =
      found_by r p (replicate n 0) (e ∙ ap (λ (es : List ℕ). point_of (answer_at row es)) none_is)
      (⊎_elim (λ m. quick_is (answer_at row) n row.mode g (positive row.mode m)) (λ x. x ∙ ap (answer_at row) (point_zero (start_of row) g n)) b) (h.0 ∙ first_delay p e, h.1, h.2)

  pub found_number : (r : Found) (p : Point) (k : ℕ) → p ≡ point_of (answer_at row (extras_of row (padded 32 0 (point_at (step_at (start_of row) g) g n k))))
      → (searched row).best ≡ answer_at row (point_at (step_at (start_of row) g) g n k)
      → (r.start ≡ start_of row) × (r.bound ≡ p.delay) × (r.waits ≡ p.waits) → r ≡ found_in (searched row).start (searched row).best
  found_number r p k e b h =
      found_by r p (point_at (step_at (start_of row) g) g n k) (e ∙ ap (λ (es : List ℕ). point_of (answer_at row es)) (extras_are k)) b h

  -- the number of the best point: the row's servers in a curve, and what is wanted of them

  pub light : Each (λ f. f.burst + f.rate < 2 ^ 40) fs
  light = fine_light (plan ss fs (0 ∷ replicate n 0)) fs (plan_length ss fs (0 ∷ replicate n 0)) first_works.fine

  split : fs ≡ w ∷ gs
  split = first_rest fs first_works.some

  count_is : length fs ≡ row.count
  count_is = flows_long row ok.shaped

  groups_are : length gs ≡ n
  groups_are = omega (arith, length-drop 1 fs, count_is)

  -- the row has its servers, since the watched flow's path is all of them
  pub servers_are : length ss ≡ row.size
  servers_are =
      let p = subst (Each (Placed (length ss))) split first_works.placed in
      omega (arith, ok.leaves, p.0.leaves, length-take row.size row.servers)

  module _ (mode : row.mode ≡ 0) (steps : Steps) (are : steps ≡ steps_in (start_of row) g)
      (c : Curve) (holds : Holds c (row_curve ss))
    where
      abbrev at : List ℕ → Answer
      at = answer_of ss (w ∷ gs)

      start_is : start_of row ≡ (at (replicate (length gs) 0)).delay
      start_is =
          ap (λ (l : List Flow). (answer_of ss l (replicate n 0)).delay) split ∙ ap (λ (m : ℕ). (at (replicate m 0)).delay) (sym groups_are)

      searched_is : (searched row).best ≡ (found_of at (length gs) 0 g).best
      searched_is =
          ap (λ (l : List Flow). (found_of (answer_of ss l) n row.mode g).best) split ∙ ap (λ (m : ℕ). (found_of at m row.mode g).best) (sym groups_are)
          ∙ ap (λ (m : ℕ). (found_of at (length gs) m g).best) mode

      ordered : Ordered (w ∷ gs)
      ordered = subst Ordered split first_works.ordered

      placed : Each (Placed (length ss)) (w ∷ gs)
      placed = subst (Each (Placed (length ss))) split first_works.placed

      ends : w.last ≡ length ss
      ends = ok.leaves ∙ sym servers_are

      offset_is : c.offset ≡ sum_of (latencies_of ss)
      unfolding row_curve
      offset_is = holds.offset

      pub offset_small : c.offset < 2 ^ 33
      offset_small = omega (arith, offset_is, ok.prompt)

      pub steps_start : steps.start ≡ start_of row
      unfolding steps_in
      steps_start = ap (λ (x : Steps). x.start) are

      steps_grid : steps.grid ≡ g
      unfolding steps_in
      steps_grid = ap (λ (x : Steps). x.grid) are

      pub second_small : (get_or steps.steps 1 no_step).value < 2 ^ 32
      second_small = omega (arith, ap (λ (x : Steps). (get_or x.steps 1 no_step).value) are, values_low (start_of row) g 1, ok.near)

      -- no point is better than the first
      pub first_best : steps.start ≤ c.offset + (get_or steps.steps 1 no_step).value → (searched row).best ≡ answer_at row (point_at (step_at (start_of row) g) g n 0)
      first_best h =
          let v = (get_or (steps_in (start_of row) g).steps 1 no_step).value in
          let z = subst (λ (s : ℕ). (d : ℕ) → d < g → (step_at s g d ≡ 0) ⊎ (v ≤ step_at s g d)) start_is (second_step (start_of row) g ok.coarse) in
          let k : (at (replicate (length gs) 0)).delay ≤ sum_of (latencies_of ss) + v =
          omega (arith, h, start_is, steps_start, offset_is, ap (λ (x : Steps). (get_or x.steps 1 no_step).value) are) in
          searched_is ∙ found_first ss w gs g (omega (arith, ok.coarse)) ordered placed ok.enters ends v z k
          ∙ ap (λ (m : ℕ). at (replicate m 0)) groups_are ∙ ap (λ (l : List Flow). answer_of ss l (replicate n 0)) (sym split)
          ∙ ap (answer_at row) (sym (point_zero (start_of row) g n))

      moves : Rates 1 (left_of (row_curve ss) gs []).stages
      moves =
          let v = subst (λ (l : List Flow). Workable ss l (replicate n 0)) split first_works in
          rates_left (row_curve ss) gs (replicate n 0) [] (point_fine ss w gs (replicate n 0) v ok.enters ends).0

      stepped : Stepped steps
      stepped =
          record {
            coarse = omega (arith, steps_grid, ok.coarse);
            dense = omega (arith, steps_grid, ok.dense);
            near = omega (arith, steps_start, ok.near);
            are = are ∙ ap (λ (x : ℕ). steps_in x g) (sym steps_start) ∙ ap (steps_in steps.start) (sym steps_grid);
          }

      rates_length : length (row_curve ss).stages ≡ length ss
      unfolding row_curve
      rates_length = length-map ss (λ (s : Server). record { burst = 0; rate = s.rate })

      -- the branch with which the recursion begins
      abbrev begin : Branch
      begin = record { curve = c; number = 0; weight = 1 }

      begin_is : state_of begin ≡ whole ss
      begin_is = ap (λ (x : Shape). state x 0 1) holds.shape

      -- THE LAW of the search: the key's number is that of document 01's first best point
      pub number_best : (key : ℕ) → key ≡ least_key fs steps n begin (steps.start * 65536)
          → (searched row).best ≡ answer_at row (point_at (step_at (start_of row) g) g n (key % 65536))
      unfolding least_key
      number_best key e =
          let s = (at (replicate (length gs) 0)).delay in
          let ds = first_digits (step_at s g) g in
          let d : digits_of steps ≡ first_digits (step_at (start_of row) g) g = ap digits_of are ∙ digits_held (start_of row) g in
          let k : key ≡ least_of (s * 65536) (keys_under (climb 65536 w gs (step_at s g) g) ds (length gs) (whole ss)) =
          e
          ∙ ap (λ (x : State). least_of (steps.start * 65536) (keys_under (climb 65536 w gs (step_at steps.start steps.grid) steps.grid) (digits_of steps) n x)) begin_is
          ∙ ap (λ (h : ℕ). least_of (steps.start * 65536) (keys_under (climb 65536 w gs (step_at steps.start h) h) (digits_of steps) n (whole ss))) steps_grid
          ∙ ap (λ (l : List ℕ). least_of (steps.start * 65536) (keys_under (climb 65536 w gs (step_at steps.start g) g) l n (whole ss))) d
          ∙ ap (λ (x : ℕ). least_of (x * 65536) (keys_under (climb 65536 w gs (step_at x g) g) (first_digits (step_at (start_of row) g) g) n (whole ss))) steps_start
          ∙ ap (λ (x : ℕ). least_of (x * 65536) (keys_under (climb 65536 w gs (step_at x g) g) (first_digits (step_at x g) g) n (whole ss))) start_is
          ∙ ap (λ (m : ℕ). least_of (s * 65536) (keys_under (climb 65536 w gs (step_at s g) g) ds m (whole ss))) (sym groups_are) in
          let p : g ^ length gs ≤ 65536 = subst (λ (m : ℕ). g ^ m ≤ 65536) (sym groups_are) (ok.points mode) in
          searched_is ∙ (found_by_least ss w gs g (omega (arith, ok.coarse)) ordered placed ok.enters ends 65536 ds key p (first_digits_stand (step_at s g) g) k).0
          ∙ ap (λ (m : ℕ). at (point_at (step_at s g) g m (key % 65536))) groups_are
          ∙ ap (λ (x : ℕ). at (point_at (step_at x g) g n (key % 65536))) (sym start_is)
          ∙ ap (λ (l : List Flow). answer_of ss l (point_at (step_at (start_of row) g) g n (key % 65536))) (sym split)

      -- what the recursion asks of the whole row
      pub ready_first : (wants : List ℕ) → ((j : ℕ) → j < row.size → get_or wants j 0 ≡ bursts_on gs j + (w.burst + w.rate))
          → Ready fs steps n begin wants (steps.start * 65536)
      ready_first wants want =
          let l = subst (Each (λ f. f.burst + f.rate < 2 ^ 40)) split light in
          let size : c.count ≡ length ss = holds.count ∙ rates_length in
          let all : take n gs ≡ gs = take_all n gs (omega (arith, groups_are)) in
          record {
            stepped = stepped;
            reached = omega (arith, count_is, ok.shaped.some);
            size = omega (arith, size, servers_are, ok.shaped.short);
            full = ap (λ (x : Shape). length x.stages) holds.shape ∙ sym holds.count;
            placed = subst (λ (m : ℕ). Each (Placed m) gs) (sym size) placed.1;
            light = each_map (λ f. f.burst + f.rate < 2 ^ 40) (λ f. f.burst < 2 ^ 40) gs (λ f h. omega (arith, h)) l.1;
            watched = l.0;
            moving = subst (Moving gs n) (sym begin_is) (record { few = omega (arith, groups_are); moves = subst (λ (x : List Flow). Rates 1 (left_of (row_curve ss) x []).stages) (sym all) moves });
            small = subst (Small (2 ^ 20)) (sym holds.shape) (small_row (2 ^ 20) ss ok.slow);
            soon = offset_small;
            wanted = λ j h. want j (omega (arith, h, size, servers_are)) ∙ ap (λ (x : List Flow). bursts_on x j + (w.burst + w.rate)) (sym all);
            bounded = omega arith;
            numbered = omega arith;
            weighed = subst (λ (x : ℕ). 1 * x ^ n ≤ 65536) (sym steps_grid) (omega (arith, ok.points mode));
          }
