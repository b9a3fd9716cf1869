-- How large the numbers of an analysis can get, on rows within the limits: every node's curve, wait and delay is in range for the code.
-- Assumes nothing.
use Rattle.std.specs.Prelude.{◌≡◌, Bool, ◌||◌, ◌&&◌, ◌⊎◌, leb, eqb, get_or, replicate}
use Rattle.std.proofs.Math.Path.{refl}
use Rattle.std.proofs.Common.{sym, ◌∙◌, inl, inr, mul-le-mul_right}
use Rattle.std.proofs.Math.Bool.{true, false, not, true≢false}
use Rattle.std.proofs.lemmas.Bool.{false≢true}
use mathlib.Core.List.{List, [], ◌∷◌, map}
use Prim.Native.Nat.{ℕ, zero, suc, ◌+◌, ◌*◌, ◌≤◌, ◌<◌, ◌^◌}
use native.Mathlib.Omega.{arith}
use Rattle.std.proofs.Math.Dec.{ltb}
use Rattle.std.proofs.Math.ListN.{length}
use borrow.Author.Tests.{le-leb, lt-ltb, leb-true, ltb-true}
use Rattle.ground.proofs.EachLaws.{each_both}
use Rattle.ground.specs.Each.{Each}
use Rattle.curves.specs.declared.Stage.{Stage}
use Rattle.curves.specs.Curve.{least_wait, delay, Rates}
use Rattle.curves.specs.Held.{Live}
use Rattle.curves.proofs.StageLaws.{rates_weaken}
use Rattle.curves.proofs.RemainderLaws.{remainder_offset, remainder_length}
use Rattle.tandem.specs.declared.Flow.{Flow}
use Rattle.tandem.specs.Sums.{weigh, total}
use Rattle.tandem.specs.Tandem.{Tandem, Path, size, flow, crosses, on, watched, bursts, rates}
use Rattle.row.specs.Groups.{groups, grouped, reads}
use Rattle.tandem.specs.Sound.{Limits}
use Rattle.row.specs.Accepted.{Accepted}
use Rattle.tree.specs.Plan.{node_of, plan}
use Rattle.tree.specs.Stretch.{Stretch, none, then_server, then_group, span, curve}
use Rattle.tree.specs.Tree.{inside, top, tree}
use Rattle.tree.specs.Bound.{bound, extra_of, answer_at}
use Rattle.tree.specs.Planned.{nodes_of, tree_nodes}
use Rattle.tree.specs.Fits.{Fits}
use Rattle.tree.specs.Amounts.{weights, count}
use Rattle.tree.specs.Fine.{Fine, AllFine}
use Rattle.tandem.proofs.TestLaws.{or_cases, both_true, not_passed}
use Rattle.tandem.proofs.SumLaws.{total_at, total_or, total_subset}
use Rattle.tandem.proofs.TandemLaws.{on_is, is_crosses}
use Rattle.tree.proofs.PlanLaws.{plan_is_tree, stage_count}
use Rattle.row.specs.Order.{Order}
use Rattle.row.proofs.OrderLaws.{order_groups}
use Rattle.tree.proofs.NestedLaws.{Outer, outside, outer_all, outer_tail, tree_fits, node_fits, own_outside}
use Rattle.tree.proofs.StretchLaws.{curve_rates, wait_most, delay_most, offset_le, latencies_le, extras_le, Small, stages_small}

-- each flow is counted once: the groups of a stretch are made of flows that begin in it and do not cross the whole of it
unfoldable pub begins_in : Tandem → (ℕ → Bool) → ℕ → ℕ → ℕ → Bool
begins_in row P i m f = (leb i (flow row f).first && ltb (flow row f).first (i + m)) && not (P f)

module _ (row : Tandem) where
  in_is : (P : ℕ → Bool) (i m f : ℕ) → begins_in row P i m f ≡ true → (i ≤ (flow row f).first) × ((flow row f).first < i + m) × (P f ≡ false)
  unfolding begins_in
  in_is P i m f h =
      let a = both_true (leb i (flow row f).first && ltb (flow row f).first (i + m)) (not (P f)) h in
      let b = both_true (leb i (flow row f).first) (ltb (flow row f).first (i + m)) a.0 in
      (leb-true i (flow row f).first b.0, ltb-true (flow row f).first (i + m) b.1, flip (P f) a.1)
    where
      flip : (b : Bool) → not b ≡ true → b ≡ false
      flip true e = absurd (false≢true e)
      flip false e = refl

  is_in : (P : ℕ → Bool) (i m f : ℕ) → i ≤ (flow row f).first → (flow row f).first < i + m → P f ≡ false → begins_in row P i m f ≡ true
  unfolding begins_in
  is_in P i m f a b c = rw (le-leb i (flow row f).first a, lt-ltb (flow row f).first (i + m) b, c)

  pub weights_le : (w : ℕ → ℕ) (P : ℕ → Bool) (i : ℕ) (p : Stretch) → Fits row P i p
      → weights row w p ≤ total (length row.flows) (λ f. weigh (begins_in row P i (span p) f) (w f))
  unfolding Fits weights span
  weights_le w P i none h = omega arith
  weights_le w P i (then_server p j) h =
      omega (
        arith,
        weights_le w P i p h.0,
        total_subset (length row.flows) (begins_in row P i (span p)) (begins_in row P i (suc (span p))) w
            (λ f e. let x = in_is P i (span p) f e in is_in P i (suc (span p)) f x.0 (omega (arith, x.1)) x.2),
      )
  weights_le w P i (then_group p k g q) h =
      omega (
        arith,
        weights_le w P i p h.0,
        weights_le w (λ f. P f || on row g f) (i + span p) q h.2,
        total_or n A (on row g) w first,
        total_or n (λ f. A f || on row g f) C w second,
        total_subset n (λ f. (A f || on row g f) || C f) D w third,
      )
    where
      n : ℕ
      n = length row.flows

      A : ℕ → Bool
      A = begins_in row P i (span p)

      C : ℕ → Bool
      C = begins_in row (λ f. P f || on row g f) (i + span p) (span q)

      D : ℕ → Bool
      D = begins_in row P i (span p + span q)

      not_p : (f : ℕ) → on row g f ≡ true → P f ≡ false
      not_p f e = not_passed (P f) (λ k. true≢false (sym e ∙ h.3 f k))

      not_or : (a b : Bool) → (a || b) ≡ false → (a ≡ false) × (b ≡ false)
      not_or true b e = absurd (true≢false e)
      not_or false b e = (refl, e)

      first : (f : ℕ) → A f ≡ true → on row g f ≡ false
      first f e = not_passed (on row g f) (λ k. let x = in_is P i (span p) f e in let o = on_is row g f k in omega (arith, x.1, o.2, h.4))

      second : (f : ℕ) → (A f || on row g f) ≡ true → C f ≡ false
      second f e = not_passed (C f) (λ k. go (in_is (λ f. P f || on row g f) (i + span p) (span q) f k) (or_cases (A f) (on row g f) e))
        where
          go : (i + span p ≤ (flow row f).first) × ((flow row f).first < i + span p + span q) × ((P f || on row g f) ≡ false)
              → (A f ≡ true) ⊎ (on row g f ≡ true) → ⊥
          go x (inl a) = omega (arith, x.0, (in_is P i (span p) f a).1)
          go x (inr a) = true≢false (sym a ∙ (not_or (P f) (on row g f) x.2).1)

      third : (f : ℕ) → ((A f || on row g f) || C f) ≡ true → D f ≡ true
      third f e = go (or_cases (A f || on row g f) (C f) e)
        where
          go₂ : (A f ≡ true) ⊎ (on row g f ≡ true) → D f ≡ true
          go₂ (inl a) = let x = in_is P i (span p) f a in is_in P i (span p + span q) f x.0 (omega (arith, x.1)) x.2
          go₂ (inr a) = let o = on_is row g f a in is_in P i (span p + span q) f (omega (arith, o.2, h.4)) (omega (arith, o.2, h.4, h.1)) (not_p f a)

          go : ((A f || on row g f) ≡ true) ⊎ (C f ≡ true) → D f ≡ true
          go (inl a) = go₂ (or_cases (A f) (on row g f) a)
          go (inr a) = let x = in_is (λ f. P f || on row g f) (i + span p) (span q) f a in is_in P i (span p + span q) f (omega (arith, x.0))
              (omega (arith, x.1)) (not_or (P f) (on row g f) x.2).0

  -- a watched flow besides: all weights together
  pub weights_all : (w : ℕ → ℕ) (p : Stretch) → 0 < length row.flows → Fits row watched 1 p → weights row w p + w 0 ≤ total (length row.flows) w
  unfolding watched
  weights_all w p some h =
      let n = length row.flows in
      let G = begins_in row watched 1 (span p) in
      let o = total_or n watched G w (λ f e. not_passed (G f) (λ k. true≢false (sym e ∙ (in_is watched 1 (span p) f k).2))) in
      let s = total_subset n (λ f. watched f || G f) (λ f. true) w (λ f e. refl) in
      let z : weigh (eqb 0 0) (w 0) ≤ total n (λ f. weigh (watched f) (w f)) = total_at n 0 (λ f. weigh (watched f) (w f)) some in
      let y : w 0 ≤ total n (λ f. weigh (watched f) (w f)) = z in
      omega (arith, weights_le w watched 1 p h, o, s, y)

  -- the flows of a stretch's groups are among all flows
  pub weights_some : (w : ℕ → ℕ) (P : ℕ → Bool) (i : ℕ) (p : Stretch) → Fits row P i p → weights row w p ≤ total (length row.flows) w
  weights_some w P i p h =
      omega (
        arith,
        weights_le w P i p h,
        total_subset (length row.flows) (begins_in row P i (span p)) (λ f. true) w (λ f e. refl),
      )

  -- every group has a flow
  count_le : (P : ℕ → Bool) (i : ℕ) (p : Stretch) → Fits row P i p → count p ≤ weights row (λ f. 1) p
  unfolding Fits count weights
  count_le P i none h = omega arith
  count_le P i (then_server p j) h = count_le P i p h.0
  count_le P i (then_group p k g q) h =
      let w = h.6.0 in
      let z : weigh (on row g w) 1 ≤ total (length row.flows) (λ f. weigh (on row g f) 1) =
      total_at (length row.flows) w (λ f. weigh (on row g f) 1) (on_is row g w h.6.1).1 in
      omega (arith, count_le P i p h.0, count_le (λ f. P f || on row g f) (i + span p) q h.2, rw h.6.1 at z)

-- a point with every e = 0
pub zeros_at : (n k : ℕ) → extra_of (replicate n 0) k ≡ 0
zeros_at zero k = refl
zeros_at (suc n) zero = refl
zeros_at (suc n) (suc k) = zeros_at n k

total_ones : (n : ℕ) → total n (λ f. 1) ≡ n
unfolding total
total_ones zero = refl
total_ones (suc n) = omega (arith, total_ones n)

module _ (row : Tandem) (ok : Accepted row) (limits : Limits row) where
  -- the rates of flows that cross a server are at most 1,000,000
  rates_small : (P : ℕ → Bool) (j : ℕ) → 0 < j → j ≤ size row → ((f : ℕ) → P f ≡ true → crosses row f j ≡ true) → rates row P ≤ 1000000
  unfolding rates
  rates_small P j a b h =
      omega (
        arith,
        total_subset (length row.flows) P (λ f. crosses row f j) (λ f. (flow row f).rate) h,
        ok.sound.room j a b,
        limits.small_rates j,
      )

  bursts_small : (P : ℕ → Bool) → bursts row P ≤ 822083535
  unfolding bursts
  bursts_small P =
      omega (
        arith,
        total_subset (length row.flows) P (λ f. true) (λ f. (flow row f).burst) (λ f e. refl),
        limits.small_bursts,
      )

  watched_crosses : crosses row 0 1 ≡ true
  watched_crosses = is_crosses row 0 1 ok.sound.some (omega (arith, ok.sound.enters)) (omega (arith, ok.sound.leaves, ok.sound.long))

  watched_rate_lem : (flow row 0).rate ≤ rates row watched
  unfolding rates watched
  watched_rate_lem =
      let k : weigh (eqb 0 0) (flow row 0).rate ≤ rates row watched =
      total_at (length row.flows) 0 (λ f. weigh (eqb 0 f) (flow row f).rate) ok.sound.some in
      k

  watched_rate_small : (flow row 0).rate ≤ 1000000
  unfolding rates
  watched_rate_small =
      let z : weigh (crosses row 0 1) (flow row 0).rate ≤ rates row (λ f. crosses row f 1) =
      total_at (length row.flows) 0 (λ f. weigh (crosses row f 1) (flow row f).rate) ok.sound.some in
      omega (arith, rw watched_crosses at z, ok.sound.room 1 (omega arith) ok.sound.long, limits.small_rates 1)

  servers_small : (m : ℕ) → m ≤ size row → m * 10216 ≤ 163456
  servers_small m h = omega (arith, limits.few_servers)

  -- with no extras the delay is below 2^30
  bound_small : (extra : ℕ → ℕ) → ((k : ℕ) → extra k ≤ 0) → bound row extra (tree row) < 2 ^ 30
  unfolding bound
  bound_small extra he =
      let fit = tree_fits row ok in
      omega (
        arith,
        offset_le row extra (tree row),
        delay_most (curve row extra (tree row)) (flow row 0).burst (flow row 0).rate,
        weights_all row (λ f. (flow row f).burst) (tree row) ok.sound.some fit.0,
        latencies_le row 10216 limits.small_latencies (tree row),
        servers_small (span (tree row)) (omega (arith, fit.1)),
        extras_le extra 0 he (tree row),
        limits.small_bursts,
        watched_rate_small,
      )

  -- "With every e = 0 the delay is called start."
  pub start_small : (n : ℕ) → (answer_at row (replicate n 0)).delay < 2 ^ 30
  unfolding answer_at
  start_small n = bound_small (extra_of (replicate n 0)) (λ k. omega (arith, zeros_at n k))

  module _ (extra : ℕ → ℕ) (low : (k : ℕ) → extra k < 2 ^ 30) where
    offset_small : (P : ℕ → Bool) (i : ℕ) (p : Stretch) → span p ≤ size row → Fits row P i p → (curve row extra p).offset ≤ 53436596367
    offset_small P i p s h =
        let a = offset_le row extra p in
        let b = weights_some row (λ f. (flow row f).burst) P i p h in
        let c = count_le row P i p h in
        let d = weights_some row (λ f. 1) P i p h in
        let e = extras_le extra 1073741823 (λ k. omega (arith, low k)) p in
        let f = latencies_le row 10216 limits.small_latencies p in
        let n : count p ≤ 49 = omega (arith, c, d, total_ones (length row.flows), limits.few_flows) in
        let g : count p * 1073741823 ≤ 49 * 1073741823 = mul-le-mul_right 1073741823 n in
        omega (arith, a, b, e, f, g, servers_small (span p) s, limits.small_bursts)

    stages_live : (x : ℕ) (l : List Stage) → x < 2 ^ 36 → Each (Small 1000000 x) l → Rates 1 l → Each Live l
    stages_live x l h s r =
        each_both (Small 1000000 x) (λ s. 1 ≤ s.rate) Live l
        (λ s a b. record { moves = b; slow = omega (arith, a.0); low = omega (arith, a.1) }) s r

    -- the node of a stretch that fits, for a group among the flows that cross it whole
    node_fine : (P : ℕ → Bool) (i : ℕ) (p : Stretch) (g : Flow) (e : ℕ) → 0 < i → 0 < span p → span p ≤ size row → Fits row P i p
        → g.rate ≤ rates row P → 1 ≤ g.rate → g.burst ≤ 822083535 → g.rate ≤ 1000000 → e < 2 ^ 30 → Fine (node_of (curve row extra p) g e) g
    unfolding node_of
    node_fine P i p g e hi long short h room moves light slow he =
        let c = curve row extra p in
        let w = least_wait c g.burst + e in
        let n = stage_count row extra p in
        let o = offset_small P i p short h in
        let m = wait_most c g.burst in
        let r = curve_rates row extra ok.sound.room P i p hi h in
        let k = remainder_length c g.burst g.rate w in
        let z = remainder_offset c g.burst g.rate w in
        record {
          some = omega arith;
          few = omega (arith, limits.few_servers);
          near = omega arith;
          live = stages_live c.offset c.stages (omega arith) (stages_small row extra 1000000 limits.small_rates p)
              (rates_weaken 1 (rates row P) c.stages (omega arith) r);
          room = rates_weaken g.rate (rates row P) c.stages room r;
          moves = moves;
          light = omega arith;
          late = omega arith;
          soon = omega arith;
          left_few = omega (arith, limits.few_servers);
          left_near = omega arith;
        }

    group_fine : (g : Path) (gs : List Path) (k : ℕ) → Order row (g ∷ gs) → Outer row ok (g ∷ gs)
        → Fine (node_of (curve row extra (inside row (top row (suc k) gs) g)) (grouped row g) (extra k)) (grouped row g)
    unfolding Order grouped rates
    group_fine g gs k order outer =
        let w = order.0.0 in
        let o = on_is row g w order.0.1 in
        let v = ok.sound.paths w o.1 in
        let fit = node_fits row ok g gs order outer (suc k) in
        let one : weigh (on row g w) (flow row w).rate ≤ rates row (on row g) =
        total_at (length row.flows) w (λ f. weigh (on row g f) (flow row f).rate) o.1 in
        let moves = ok.sound.moves w o.1 in
        node_fine (outside row gs g.first) g.first (inside row (top row (suc k) gs) g) (grouped row g) (extra k)
        (omega (arith, o.2, v.0)) (omega (arith, fit.1, order.0.2)) (omega (arith, fit.1, order.0.2, o.2, o.3, v.0, v.1)) fit.0
        (total_subset (length row.flows) (on row g) (outside row gs g.first) (λ f. (flow row f).rate) (own_outside row ok g gs order))
        (omega (arith, rw order.0.1 at one, moves)) (bursts_small (on row g))
        (rates_small (on row g) g.first (omega (arith, o.2, v.0)) (omega (arith, order.0.2, o.3, v.1)) (crossing order)) (low k)
      where
        crossing : Order row (g ∷ gs) → (f : ℕ) → on row g f ≡ true → crosses row f g.first ≡ true
        crossing order f e = let o = on_is row g f e in is_crosses row f g.first o.1 (omega (arith, o.2)) (omega (arith, o.3, order.0.2))

    nodes_fine : (gs : List Path) (k : ℕ) → Order row gs → Outer row ok gs → AllFine (nodes_of row extra k gs) (map (grouped row) gs)
    unfolding nodes_of Order
    nodes_fine [] k order outer = tt
    nodes_fine (g ∷ gs) k order outer = (group_fine g gs k order outer, nodes_fine gs (suc k) order.2 (outer_tail row ok g gs order outer))

    root_fine : Fine (node_of (curve row extra (tree row)) (flow row 0) 0) (flow row 0)
    root_fine =
        let fit = tree_fits row ok in
        node_fine watched 1 (tree row) (flow row 0) 0 (omega arith) (omega (arith, fit.1, ok.sound.long)) (omega (arith, fit.1)) fit.0
        watched_rate_lem (ok.sound.moves 0 ok.sound.some)
        (omega (arith, total_at (length row.flows) 0 (λ f. (flow row f).burst) ok.sound.some, limits.small_bursts))
        watched_rate_small (omega arith)

  -- the main law: at a point whose extras are below 2^30, the nodes that the program works out are in range
  pub plan_fine : (es : List ℕ) → ((k : ℕ) → get_or es k 0 < 2 ^ 30) → AllFine (plan row.servers (reads row) (0 ∷ es)) (reads row)
  unfolding reads tree_nodes
  plan_fine es low =
      rw (plan_is_tree row es)
      (root_fine (extra_of es) low, nodes_fine (extra_of es) low (groups row) 0 (order_groups row ok) (outer_all row ok))

  -- and the delay is below 2^36
  pub delay_small : (es : List ℕ) → ((k : ℕ) → get_or es k 0 < 2 ^ 30) → (answer_at row es).delay < 2 ^ 36
  unfolding answer_at bound
  delay_small es low =
      let fit = tree_fits row ok in
      omega (
        arith,
        offset_small (extra_of es) low watched 1 (tree row) (omega (arith, fit.1)) fit.0,
        delay_most (curve row (extra_of es) (tree row)) (flow row 0).burst (flow row 0).rate,
        total_at (length row.flows) 0 (λ f. (flow row f).burst) ok.sound.some,
        limits.small_bursts,
        watched_rate_small,
      )
