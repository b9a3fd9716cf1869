-- Every group stands in the tree of an accepted row, so its latencies and the extras of all groups are in the root's offset: at every point
-- the delay is at least their sum, and at least each group's wait. A point whose sum reaches the best delay so far is no better.
-- Assumes nothing.
use Rattle.std.proofs.Math.Path.{◌≡◌, refl, ap}
use Rattle.std.proofs.Common.{sym, ◌∙◌, subst, true≢false, inl, inr, add-zero, add-suc, eqb-true, eq-eqb, ne_eqb}
use Rattle.std.specs.Prelude.{Bool, true, false, ◌||◌, ◌⊎◌, ltb, eqb, drop}
use mathlib.Core.List.{List, [], ◌∷◌, map}
use Prim.Native.Nat.{ℕ, zero, suc, ◌+◌, ◌-◌, ◌≤◌, ◌<◌}
use native.Mathlib.Omega.{arith}
use Rattle.std.proofs.Math.ListN.{length, get_or}
use Rattle.curves.specs.Curve.{Shape, joined, remainder, delay}
use Rattle.ground.proofs.OrderLaws.{le_or_lt}
use Rattle.curves.proofs.CurveLaws.{wait_after_offset}
use Rattle.curves.proofs.DelayLaws.{delay_after_offset}
use Rattle.tandem.specs.declared.Server.{Server}
use Rattle.tandem.specs.Sums.{weigh, total}
use Rattle.tandem.specs.Tandem.{Tandem, Path, size, server, flow, crosses, on, watched, bursts, no_server}
use Rattle.row.specs.Groups.{path, groups}
use Rattle.row.specs.Accepted.{Accepted}
use Rattle.tree.specs.Stretch.{Stretch, none, then_server, then_group, span, group_wait, after_group, curve}
use Rattle.tree.specs.Tree.{Piece, single, whole, pick, one_more, stretch_from, inside, top, tree}
use Rattle.tree.specs.Bound.{bound, waits, extra_of, answer_at}
use Rattle.tree.specs.Fits.{Fits}
use Rattle.tree.specs.Amounts.{latencies, extras, sum_of}
use Rattle.tree.specs.Stands.{In, numbered}
use Rattle.tandem.proofs.TestLaws.{or_left, or_right, decide, not_passed}
use Rattle.tandem.proofs.SumLaws.{total_mono, total_add, total_same, total_zero, total_front}
use Rattle.tandem.proofs.TandemLaws.{on_is, is_crosses}
use Rattle.row.specs.Order.{later, Order}
use Rattle.row.proofs.OrderLaws.{order_groups}
use Rattle.tree.proofs.NestedLaws.{tree_fits}
use Rattle.tree.proofs.StretchLaws.{offset_ge}

-- a flow that crosses a server of a stretch and not the whole of it is in a group that stands there
pub found : (row : Tandem) (P : ℕ → Bool) (i : ℕ) (p : Stretch) → Fits row P i p → (f m : ℕ) → m < span p → crosses row f (i + m) ≡ true → P f ≡ false
    → (k : ℕ) × (g : Path) × (q : Stretch) × (on row g f ≡ true) × In k g q p
unfolding Fits span In
found row P i none h f m l c e = absurd (omega arith)
found row P i (then_server p j) h f m l c e = go (le_or_lt (span p) m) (found row P i p h.0 f m)
  where
    go : (span p ≤ m) ⊎ (m < span p)
        → (m < span p → crosses row f (i + m) ≡ true → P f ≡ false → (k : ℕ) × (g : Path) × (q : Stretch) × (on row g f ≡ true) × In k g q p)
        → (k : ℕ) × (g : Path) × (q : Stretch) × (on row g f ≡ true) × In k g q p
    go (inr x) r = r x c e
    go (inl x) r = let d : i + m ≡ j = omega (arith, h.1) in absurd (true≢false (sym (rw d at c) ∙ h.3 f ∙ e))
found row P i (then_group p k' g' q') h f m l c e =
    go (le_or_lt (span p) m) (decide (on row g' f)) (found row P i p h.0 f m) (found row (λ f. P f || on row g' f) (i + span p) q' h.2 f (m - span p))
  where
    go : (span p ≤ m) ⊎ (m < span p) → (on row g' f ≡ true) ⊎ (on row g' f ≡ false)
        → (m < span p → crosses row f (i + m) ≡ true → P f ≡ false → (k : ℕ) × (g : Path) × (q : Stretch) × (on row g f ≡ true) × In k g q p)
        → (m - span p < span q' → crosses row f (i + span p + (m - span p)) ≡ true → (P f || on row g' f) ≡ false
        → (k : ℕ) × (g : Path) × (q : Stretch) × (on row g f ≡ true) × In k g q q')
        → (k : ℕ) × (g : Path) × (q : Stretch) × (on row g f ≡ true) × In k g q (then_group p k' g' q')
    go (inr x) o r s = let y = r x c e in (y.0, y.1, y.2, y.3, inl (inl y.4))
    go (inl x) (inl o) r s = (k', g', q', o, inr (refl, refl, refl))
    go (inl x) (inr o) r s =
        let d : i + m ≡ i + span p + (m - span p) = omega arith in
        let y = s (omega arith) (rw d at c) (rw (e, o)) in
        (y.0, y.1, y.2, y.3, inl (inr y.4))

in_numbered : (k : ℕ) (g : Path) (q p : Stretch) → In k g q p → numbered p k ≡ true
unfolding In numbered
in_numbered k g q none h = absurd h
in_numbered k g q (then_server p j) h = in_numbered k g q p h
in_numbered k g q (then_group p k' g' q') (inl (inl h)) =
    or_left (numbered p k || numbered q' k) (eqb k' k) (or_left (numbered p k) (numbered q' k) (in_numbered k g q p h))
in_numbered k g q (then_group p k' g' q') (inl (inr h)) =
    or_left (numbered p k || numbered q' k) (eqb k' k) (or_right (numbered p k) (numbered q' k) (in_numbered k g q q' h))
in_numbered k g q (then_group p k' g' q') (inr h) = or_right (numbered p k || numbered q' k) (eqb k' k) (eq-eqb k' k (sym h.0))

-- a sum over the first a numbers, and b more
total_split : (a b : ℕ) (g : ℕ → ℕ) → total (a + b) g ≡ total a g + total b (λ m. g (a + m))
unfolding total
total_split a zero g =
    let e : total (a + zero) g ≡ total a g = ap (λ (x : ℕ). total x g) (add-zero a) in
    omega (arith, e)
total_split a (suc b) g =
    let e : total (a + suc b) g ≡ total (suc (a + b)) g = ap (λ (x : ℕ). total x g) (add-suc a b) in
    omega (arith, e, total_split a b g)

-- a sum over one number only
pub total_only : (n y : ℕ) (r : ℕ → ℕ) → (total n (λ k. weigh (eqb y k) (r k)) ≤ r y) × (n ≤ y → total n (λ k. weigh (eqb y k) (r k)) ≡ 0)
unfolding total
total_only zero y r = (omega arith, λ h. refl)
total_only (suc n) y r = go (le_or_lt n y) (le_or_lt y n) (total_only n y r)
  where
    go : (n ≤ y) ⊎ (y < n) → (y ≤ n) ⊎ (n < y) → (total n (λ k. weigh (eqb y k) (r k)) ≤ r y) × (n ≤ y → total n (λ k. weigh (eqb y k) (r k)) ≡ 0)
        → (total n (λ k. weigh (eqb y k) (r k)) + weigh (eqb y n) (r n) ≤ r y) × (suc n ≤ y → total n (λ k. weigh (eqb y k) (r k)) + weigh (eqb y n) (r n) ≡ 0)
    go (inl a) (inl b) h = let e : n ≡ y = omega arith in (rw (eq-eqb y n (sym e)) (omega (arith, h.1 a, ap r e)), λ x. absurd (omega arith))
    go (inl a) (inr b) h = rw (ne_eqb y n (λ e. omega arith)) (omega (arith, h.0), λ x. omega (arith, h.1 a))
    go (inr a) b h = rw (ne_eqb y n (λ e. omega arith)) (omega (arith, h.0), λ x. absurd (omega arith))

-- the extras of all numbers that stand in a stretch, once each, are among its extras
numbered_le : (n : ℕ) (extra : ℕ → ℕ) (p : Stretch) → total n (λ k. weigh (numbered p k) (extra k)) ≤ extras extra p
unfolding numbered extras
numbered_le n extra none = omega (arith, total_zero n (λ k. 0) (λ k l. refl))
numbered_le n extra (then_server p j) = numbered_le n extra p
numbered_le n extra (then_group p k' g q) =
    let m = total_mono n (λ k. weigh ((numbered p k || numbered q k) || eqb k' k) (extra k))
    (λ k. weigh (numbered p k) (extra k) + weigh (numbered q k) (extra k) + weigh (eqb k' k) (extra k))
    (λ k l. each (numbered p k) (numbered q k) (eqb k' k) (extra k)) in
    omega (
      arith,
      m,
      total_add n (λ k. weigh (numbered p k) (extra k) + weigh (numbered q k) (extra k)) (λ k. weigh (eqb k' k) (extra k)),
      total_add n (λ k. weigh (numbered p k) (extra k)) (λ k. weigh (numbered q k) (extra k)),
      numbered_le n extra p,
      numbered_le n extra q,
      (total_only n k' extra).0,
    )
  where
    each : (a b c : Bool) (x : ℕ) → weigh ((a || b) || c) x ≤ weigh a x + weigh b x + weigh c x
    each true b c x = omega arith
    each false true c x = omega arith
    each false false c x = omega arith

wait_past_offset : (row : Tandem) (g : Path) (c : Shape) (e : ℕ) → c.offset ≤ group_wait row g c e
unfolding group_wait
wait_past_offset row g c e = omega (arith, wait_after_offset c (bursts row (on row g)))

-- the latencies of a stretch that fits are those of the row's servers there
latencies_are : (row : Tandem) (P : ℕ → Bool) (i : ℕ) (p : Stretch) → Fits row P i p → latencies row p ≡ total (span p) (λ m. (server row (i + m)).latency)
unfolding Fits latencies span total
latencies_are row P i none h = refl
latencies_are row P i (then_server p j) h = omega (arith, latencies_are row P i p h.0, ap (λ (x : ℕ). (server row x).latency) h.1)
latencies_are row P i (then_group p k g q) h =
    let e = total_same (span q) (λ m. (server row (i + span p + m)).latency) (λ m. (server row (i + (span p + m))).latency)
    (λ m l. let d : i + span p + m ≡ i + (span p + m) = omega arith in ap (λ (x : ℕ). (server row x).latency) d) in
    omega (
      arith,
      e,
      latencies_are row P i p h.0,
      latencies_are row (λ f. P f || on row g f) (i + span p) q h.2,
      total_split (span p) (span q) (λ m. (server row (i + m)).latency),
    )

pub sum_extras : (es : List ℕ) → sum_of es ≡ total (length es) (extra_of es)
unfolding sum_of total
sum_extras [] = refl
sum_extras (e ∷ es) = omega (arith, sum_extras es, total_front (length es) (extra_of (e ∷ es)))

-- the latencies of a list of servers
abbrev pub latencies_of : List Server → List ℕ
latencies_of ss = map (λ (s : Server). s.latency) ss

sum_latencies : (ss : List Server) → sum_of (latencies_of ss) ≡ total (length ss) (λ m. (get_or ss m no_server).latency)
unfolding sum_of total
sum_latencies [] = refl
sum_latencies (s ∷ ss) =
    omega (arith, sum_latencies ss, total_front (length ss) (λ m. (get_or (s ∷ ss) m no_server).latency))

module _ (row : Tandem) (extra : ℕ → ℕ) where
  -- a group's wait is at most the offset of a stretch in which it stands
  in_wait : (k : ℕ) (g : Path) (q p : Stretch) → In k g q p → group_wait row g (curve row extra q) (extra k) ≤ (curve row extra p).offset
  unfolding In curve joined after_group remainder
  in_wait k g q none h = absurd h
  in_wait k g q (then_server p j) h = omega (arith, in_wait k g q p h)
  in_wait k g q (then_group p k' g' q') (inl (inl h)) = omega (arith, in_wait k g q p h)
  in_wait k g q (then_group p k' g' q') (inl (inr h)) = step (in_wait k g q q' h)
    where
      step : group_wait row g (curve row extra q) (extra k) ≤ (curve row extra q').offset
          → group_wait row g (curve row extra q) (extra k) ≤ (curve row extra p).offset + group_wait row g' (curve row extra q') (extra k')
      step x = omega (arith, x, wait_past_offset row g' (curve row extra q') (extra k'))
  in_wait k g q (then_group p k' g' q') (inr h) = rw (h.0, h.1, h.2) (omega arith)

  -- what holds of each piece holds of each group of a stretch
  abbrev AllIn : (ℕ → Path → Stretch → Type 0) → Stretch → Type 0
  AllIn K p = (k : ℕ) (g : Path) (q : Stretch) → In k g q p → K k g q

  stretch_all : (K : ℕ → Path → Stretch → Type 0) (n : ℕ) (t : ℕ → Piece)
      → ((j k : ℕ) (g : Path) (q : Stretch) → t j ≡ whole k g q → K k g q × AllIn K q)
      → (p : Stretch) (j e : ℕ) → AllIn K p → AllIn K (stretch_from n t p j e)
  unfolding stretch_from In
  stretch_all K zero t h p j e a = a
  stretch_all K (suc n) t h p j e a = step (ltb e j) (t j) refl (stretch_all K n t h)
    where
      more : (k : ℕ) (g : Path) (q : Stretch) → K k g q × AllIn K q → AllIn K (then_group p k g q)
      more k g q x k' g' q' i = go i
        where
          go : (In k' g' q' p ⊎ In k' g' q' q) ⊎ ((k' ≡ k) × (g' ≡ g) × (q' ≡ q)) → K k' g' q'
          go (inl (inl y)) = a k' g' q' y
          go (inl (inr y)) = x.1 k' g' q' y
          go (inr y) = rw (y.0, y.1, y.2) x.0

      step : (b : Bool) (x : Piece) → t j ≡ x → ((p : Stretch) (j e : ℕ) → AllIn K p → AllIn K (stretch_from n t p j e))
          → AllIn K (one_more b x p j (λ p' j'. stretch_from n t p' j' e))
      step true x y r = a
      step false single y r = r (then_server p j) (suc j) e a
      step false (whole k g q) y r = r (then_group p k g q) (suc g.last) e (more k g q (h j k g q y))

  -- group k', with path g and stretch q, is one of gs, numbered from k on; its wait is that of q, and q is made of the groups behind it
  abbrev Known : ℕ → List Path → ℕ → Path → Stretch → Type 0
  Known k gs k' g q =
      (m : ℕ) × (k' ≡ k + m) × (m < length gs) × (get_or gs m (path 0 0) ≡ g)
      × (get_or (waits row extra k gs) m 0 ≡ group_wait row g (curve row extra q) (extra k'))
      × (q ≡ inside row (top row (suc k') (drop (suc m) gs)) g)

  shift : (g₀ : Path) (gs : List Path) (k k' : ℕ) (g : Path) (q : Stretch) → Known (suc k) gs k' g q → Known k (g₀ ∷ gs) k' g q
  unfolding waits
  shift g₀ gs k k' g q h = (suc h.0, omega (arith, h.1), omega (arith, h.2), h.3, h.4, h.5)

  top_all : (gs : List Path) (k j k' : ℕ) (g : Path) (q : Stretch) → top row k gs j ≡ whole k' g q → Known k gs k' g q × AllIn (Known k gs) q
  unfolding top waits In
  top_all [] k j k' g q e = absurd (let z : ◌≡◌ {A = ℕ} 0 1 = cc in omega arith)
  top_all (g₀ ∷ gs) k j k' g q e = step (eqb g₀.first j) e (top_all gs (suc k))
    where
      w : Stretch
      w = inside row (top row (suc k) gs) g₀

      step : (b : Bool) → pick b (whole k g₀ w) (top row (suc k) gs j) ≡ whole k' g q
          → ((j k' : ℕ) (g : Path) (q : Stretch) → top row (suc k) gs j ≡ whole k' g q → Known (suc k) gs k' g q × AllIn (Known (suc k) gs) q)
          → Known k (g₀ ∷ gs) k' g q × AllIn (Known k (g₀ ∷ gs)) q
      step false e r = let x = r j k' g q e in (shift g₀ gs k k' g q x.0, λ a b c i. shift g₀ gs k a b c (x.1 a b c i))
      step true e r = go (cc) (cc) (cc)
        where
          within : AllIn (Known (suc k) gs) w
          within = stretch_all (Known (suc k) gs) (size row) (top row (suc k) gs) r none g₀.first g₀.last (λ a b c i. absurd i)

          go : k ≡ k' → g₀ ≡ g → w ≡ q → Known k (g₀ ∷ gs) k' g q × AllIn (Known k (g₀ ∷ gs)) q
          go x y z = (
            (0, omega arith, omega arith, y, rw (← x, ← y, ← z), sym z ∙ rw (x, y)),
            subst (AllIn (Known k (g₀ ∷ gs))) z (λ a b c i. shift g₀ gs k a b c (within a b c i)),
          )

  tree_all : AllIn (Known 0 (groups row)) (tree row)
  unfolding tree In
  tree_all = stretch_all (Known 0 (groups row)) (size row) (top row 0 (groups row)) (top_all (groups row) 0) none (flow row 0).first (flow row 0).last
      (λ a b c i. absurd i)

-- what stands in the tree is a group of the row, under its number, and its stretch is made of the groups behind it
pub in_tree : (row : Tandem) (k : ℕ) (g : Path) (q : Stretch) → In k g q (tree row)
    → (k < length (groups row)) × (get_or (groups row) k (path 0 0) ≡ g) × (q ≡ inside row (top row (suc k) (drop (suc k) (groups row))) g)
in_tree row k g q i =
    let K = tree_all row (λ k. 0) k g q i in
    let e : K.0 ≡ k = omega (arith, K.1) in (
      omega (arith, K.2),
      ap (λ (x : ℕ). get_or (groups row) x (path 0 0)) (sym e) ∙ K.3,
      K.5 ∙ ap (λ (x : ℕ). inside row (top row (suc k) (drop (suc x) (groups row))) g) e,
    )

module _ (row : Tandem) (ok : Accepted row) where
  later_at : (gs : List Path) (m f : ℕ) → m < length gs → on row (get_or gs m (path 0 0)) f ≡ true → later row gs f ≡ true
  unfolding later
  later_at [] m f h e = absurd (omega arith)
  later_at (g ∷ gs) zero f h e = or_left (on row g f) (later row gs f) e
  later_at (g ∷ gs) (suc m) f h e = or_right (on row g f) (later row gs f) (later_at gs m f (omega arith) e)

  pub order_at : (gs : List Path) → Order row gs → (m : ℕ) → m < length gs
      → (w : ℕ) × (on row (get_or gs m (path 0 0)) w ≡ true) × ((get_or gs m (path 0 0)).first ≤ (get_or gs m (path 0 0)).last)
  unfolding Order
  order_at [] o m h = absurd (omega arith)
  order_at (g ∷ gs) o zero h = o.0
  order_at (g ∷ gs) o (suc m) h = order_at gs o.2 m (omega arith)

  never_again : (g : Path) (gs : List Path) → Order row (g ∷ gs) → (m : ℕ) → m < length gs → g ≡ get_or gs m (path 0 0) → ⊥
  unfolding Order
  never_again g gs o m h e =
      let w = o.0.0 in
      let x = on_is row g w o.0.1 in
      go x (o.1 w (later_at gs m w h (subst (λ (z : Path). on row z w ≡ true) e o.0.1)))
    where
      go : (0 < o.0.0) × (o.0.0 < length row.flows) × ((flow row o.0.0).first ≡ g.first) × ((flow row o.0.0).last ≡ g.last)
          → (g.first < (flow row o.0.0).first) ⊎ ((g.first ≡ (flow row o.0.0).first) × ((flow row o.0.0).last < g.last)) → ⊥
      go x (inl y) = omega (arith, x.2)
      go x (inr y) = omega (arith, x.3, y.1)

  -- no path stands twice among the groups
  pub same_index : (gs : List Path) → Order row gs → (a b : ℕ) → a < length gs → b < length gs → get_or gs a (path 0 0) ≡ get_or gs b (path 0 0) → a ≡ b
  unfolding Order
  same_index [] o a b h k e = absurd (omega arith)
  same_index (g ∷ gs) o zero zero h k e = refl
  same_index (g ∷ gs) o zero (suc b) h k e = absurd (never_again g gs o b (omega arith) e)
  same_index (g ∷ gs) o (suc a) zero h k e = absurd (never_again g gs o a (omega arith) (sym e))
  same_index (g ∷ gs) o (suc a) (suc b) h k e = ap suc (same_index gs o.2 a b (omega arith) (omega arith) e)

  -- each group stands in the tree, with its wait
  pub stands : (extra : ℕ → ℕ) (m : ℕ) → m < length (groups row)
      → (g : Path) × (q : Stretch) × In m g q (tree row) × (get_or (waits row extra 0 (groups row)) m 0 ≡ group_wait row g (curve row extra q) (extra m))
  unfolding watched
  stands extra m h = finish (found row watched 1 (tree row) fit.0 w (g.first - 1) (omega (arith, fit.1, v.0, v.1, v.2, o.2)) crossing unwatched)
    where
      g : Path
      g = get_or (groups row) m (path 0 0)

      fit : (Fits row watched 1 (tree row)) × (span (tree row) ≡ size row)
      fit = tree_fits row ok

      z : (w : ℕ) × (on row g w ≡ true) × (g.first ≤ g.last)
      z = order_at (groups row) (order_groups row ok) m h

      w : ℕ
      w = z.0

      o : (0 < w) × (w < length row.flows) × ((flow row w).first ≡ g.first) × ((flow row w).last ≡ g.last)
      o = on_is row g w z.1

      v : (0 < (flow row w).first) × ((flow row w).first ≤ (flow row w).last) × ((flow row w).last ≤ size row)
      v = let p = ok.sound.paths w o.1 in (p.0, omega (arith, o.2, o.3, z.2), p.1)

      crossing : crosses row w (1 + (g.first - 1)) ≡ true
      crossing = is_crosses row w (1 + (g.first - 1)) o.1 (omega (arith, o.2, v.0)) (omega (arith, o.2, v.0, v.1))

      unwatched : watched w ≡ false
      unwatched = not_passed (watched w) (λ x. absurd (omega (arith, eqb-true 0 w x, o.0)))

      finish : (k : ℕ) × (g' : Path) × (q : Stretch) × (on row g' w ≡ true) × In k g' q (tree row)
          → (g : Path) × (q : Stretch) × In m g q (tree row) × (get_or (waits row extra 0 (groups row)) m 0 ≡ group_wait row g (curve row extra q) (extra m))
      finish (k, g', q, on', i) =
          let K = tree_all row extra k g' q i in
          let o' = on_is row g' w on' in
          let same : g' ≡ g = λ d. record { first = (sym o'.2 ∙ o.2) d; last = (sym o'.3 ∙ o.3) d } in
          let e : K.0 ≡ m = same_index (groups row) (order_groups row ok) K.0 m K.2 h (K.3 ∙ same) in
          let e' : k ≡ m = omega (arith, K.1, e) in (
            g',
            q,
            subst (λ (x : ℕ). In x g' q (tree row)) e' i,
            ap (λ (x : ℕ). get_or (waits row extra 0 (groups row)) x 0) (sym e) ∙ K.4 ∙ ap (λ (x : ℕ). group_wait row g' (curve row extra q) (extra x)) e',
          )

  -- the wait of each group is at most the delay
  pub wait_le_delay : (extra : ℕ → ℕ) (m : ℕ) → m < length (groups row) → get_or (waits row extra 0 (groups row)) m 0 ≤ bound row extra (tree row)
  unfolding bound
  wait_le_delay extra m h =
      let s = stands extra m h in
      let i = in_wait row extra m s.0 s.1 (tree row) s.2 in
      omega (arith, s.3, i, delay_after_offset (curve row extra (tree row)) (flow row 0).burst (flow row 0).rate)

  -- the extras of all groups stand in the tree
  extras_all : (extra : ℕ → ℕ) → total (length (groups row)) extra ≤ extras extra (tree row)
  extras_all extra =
      let n = length (groups row) in
      let e = total_same n extra (λ k. weigh (numbered (tree row) k) (extra k))
      (λ k l. let s = stands extra k l in rw (in_numbered k s.0 s.1 (tree row) s.2)) in
      omega (arith, e, numbered_le n extra (tree row))

  latencies_all : latencies row (tree row) ≡ sum_of (latencies_of row.servers)
  latencies_all =
      let fit = tree_fits row ok in
      let d : Server = record { rate = 0; latency = 0 } in
      let e = total_same (size row) (λ m. (server row (1 + m)).latency) (λ m. (get_or row.servers m d).latency)
      (λ m l. let z : 1 + m - 1 ≡ m = omega arith in ap (λ (x : ℕ). (get_or row.servers x d).latency) z) in
      let n : total (span (tree row)) (λ m. (server row (1 + m)).latency) ≡ total (size row) (λ m. (server row (1 + m)).latency) =
      ap (λ (x : ℕ). total x (λ m. (server row (1 + m)).latency)) fit.1 in
      omega (arith, latencies_are row watched 1 (tree row) fit.0, n, e, sum_latencies row.servers)

  -- the main law: at every point the delay is at least the latencies of all servers and the extras of all groups, added up
  pub delay_ge_sum : (es : List ℕ) → length es ≡ length (groups row) → sum_of (latencies_of row.servers) + sum_of es ≤ (answer_at row es).delay
  unfolding answer_at bound
  delay_ge_sum es h =
      let c = curve row (extra_of es) (tree row) in
      let n : total (length es) (extra_of es) ≡ total (length (groups row)) (extra_of es) = ap (λ (x : ℕ). total x (extra_of es)) h in
      omega (
        arith,
        offset_ge row (extra_of es) (tree row),
        extras_all (extra_of es),
        latencies_all,
        sum_extras es,
        n,
        delay_after_offset c (flow row 0).burst (flow row 0).rate,
      )
