-- The tree of an accepted row is document 01's: each group stands in it once; its parent is the smallest group whose path contains its own,
-- else the root; and the pieces of a node are the servers of its path that no child crosses, and its children.
-- Assumes nothing.
use Rattle.std.specs.Prelude.{◌≡◌, refl, Bool, true, false, ◌||◌, ◌⊎◌, ℕ, suc, ◌+◌, ◌-◌, ◌≤◌, ◌<◌, eqb, length, get_or}
use Rattle.std.proofs.Common.{sym, ◌∙◌, subst, true≢false, inl, inr, arith, eqb-true, eq-eqb}
use Rattle.ground.proofs.OrderLaws.{le_or_lt}
use Rattle.tandem.specs.Sums.{weigh, total}
use Rattle.tandem.specs.Tandem.{Tandem, Path, size, flow, crosses, on, watched}
use Rattle.row.specs.Groups.{path, groups}
use Rattle.row.specs.Accepted.{Accepted}
use Rattle.tree.specs.Stretch.{Stretch, none, then_server, then_group, span}
use Rattle.tree.specs.Tree.{tree}
use Rattle.tree.specs.Fits.{Fits}
use Rattle.tree.specs.Amounts.{weights}
use Rattle.tree.specs.Stands.{In, Child, Alone, times, Contains, Parent, Outermost, Pieces}
use Rattle.tandem.proofs.TestLaws.{or_left, or_right, decide}
use Rattle.tandem.proofs.SumLaws.{total_at}
use Rattle.tandem.proofs.TandemLaws.{on_is, is_on, crosses_is, is_crosses}
use Rattle.row.proofs.OrderLaws.{order_groups}
use Rattle.tree.proofs.NestedLaws.{tree_fits}
use Rattle.tree.proofs.StretchLaws.{spans}
use Rattle.tree.proofs.SizeLaws.{weights_some}
use Rattle.tree.proofs.PruneLaws.{found, in_tree, order_at, stands, total_only}

-- what is known of a group that stands in a stretch from server i on that fits: its own stretch fits too, and is the whole of its path
pub record Standing (row : Tandem) (P : ℕ → Bool) (i n : ℕ) (g : Path) (q : Stretch) : Type 0 where
  pub flows : ℕ → Bool
  pub fits : Fits row flows g.first q
  pub own : (f : ℕ) → on row g f ≡ true → flows f ≡ true
  pub outer : (f : ℕ) → P f ≡ true → flows f ≡ true
  pub whole : g.first + span q ≡ suc g.last
  pub begins : i ≤ g.first
  pub ends : suc g.last ≤ i + n
  pub some : 0 < span q
  pub manned : (w : ℕ) × (on row g w ≡ true)

pub in_standing : (row : Tandem) (P : ℕ → Bool) (i k : ℕ) (g : Path) (q p : Stretch) → Fits row P i p → In k g q p → Standing row P i (span p) g q
unfolding Fits In span
in_standing row P i k g q none h s = absurd s
in_standing row P i k g q (then_server p j) h s =
    let r = in_standing row P i k g q p h.0 s in
    record {
      flows = r.flows;
      fits = r.fits;
      own = r.own;
      outer = r.outer;
      whole = r.whole;
      begins = r.begins;
      ends = omega (arith, r.ends);
      some = r.some;
      manned = r.manned;
    }
in_standing row P i k g q (then_group p k' g' q') h (inl (inl s)) =
    let r = in_standing row P i k g q p h.0 s in
    record {
      flows = r.flows;
      fits = r.fits;
      own = r.own;
      outer = r.outer;
      whole = r.whole;
      begins = r.begins;
      ends = omega (arith, r.ends);
      some = r.some;
      manned = r.manned;
    }
in_standing row P i k g q (then_group p k' g' q') h (inl (inr s)) =
    let r = in_standing row (λ f. P f || on row g' f) (i + span p) k g q q' h.2 s in
    record {
      flows = r.flows;
      fits = r.fits;
      own = r.own;
      outer = λ f e. r.outer f (or_left (P f) (on row g' f) e);
      whole = r.whole;
      begins = omega (arith, r.begins);
      ends = omega (arith, r.ends);
      some = r.some;
      manned = r.manned;
    }
in_standing row P i k g q (then_group p k' g' q') h (inr s) =
    rw (s.1, s.2)
    record {
      flows = λ f. P f || on row g' f;
      fits = subst (λ (x : ℕ). Fits row (λ f. P f || on row g' f) x q') (sym h.4) h.2;
      own = λ f e. or_right (P f) (on row g' f) e;
      outer = λ f e. or_left (P f) (on row g' f) e;
      whole = omega (arith, h.4, h.5);
      begins = omega (arith, h.4);
      ends = omega (arith, h.5);
      some = h.1;
      manned = h.6;
    }

-- a child stands there, and its flows are just the node's and its own
pub child_in : (k : ℕ) (g : Path) (q p : Stretch) → Child k g q p → In k g q p
unfolding In Child
child_in k g q none c = absurd c
child_in k g q (then_server p j) c = child_in k g q p c
child_in k g q (then_group p k' g' q') (inl c) = inl (inl (child_in k g q p c))
child_in k g q (then_group p k' g' q') (inr c) = inr c

child_fits : (row : Tandem) (P : ℕ → Bool) (i k : ℕ) (g : Path) (q p : Stretch) → Fits row P i p → Child k g q p
    → Fits row (λ f. P f || on row g f) g.first q × ((f : ℕ) → P f ≡ true → on row g f ≡ false)
unfolding Fits Child
child_fits row P i k g q none h c = absurd c
child_fits row P i k g q (then_server p j) h c = child_fits row P i k g q p h.0 c
child_fits row P i k g q (then_group p k' g' q') h (inl c) = child_fits row P i k g q p h.0 c
child_fits row P i k g q (then_group p k' g' q') h (inr c) =
    rw (c.1, c.2) (subst (λ (x : ℕ). Fits row (λ f. P f || on row g' f) x q') (sym h.4) h.2, h.3)

-- a flow whose path contains a child's is on that path, or crosses the whole node
around_child : (row : Tandem) (P : ℕ → Bool) (i k : ℕ) (g : Path) (q p : Stretch) → Fits row P i p → Child k g q p → (f : ℕ) → f < length row.flows
    → (flow row f).first ≤ g.first → g.last ≤ (flow row f).last → (on row g f ≡ true) ⊎ (P f ≡ true)
around_child row P i k g q p h c f hf a b = go (decide (on row g f)) (decide (P f))
  where
    S : Standing row P i (span p) g q
    S = in_standing row P i k g q p h (child_in k g q p c)

    F : Fits row (λ f. P f || on row g f) g.first q
    F = (child_fits row P i k g q p h c).0

    inner : on row g f ≡ false → (k : ℕ) × (g' : Path) × (q' : Stretch) × (on row g' f ≡ true) × In k g' q' q → ⊥
    inner e (k', g', q', o, s) =
        let T = in_standing row (λ f. P f || on row g f) g.first k' g' q' q F s in
        let x = on_is row g' f o in
        true≢false (sym (is_on row g f x.0 x.1 (omega (arith, x.2, T.begins)) (omega (arith, x.3, T.ends, S.whole))) ∙ e)

    go : (on row g f ≡ true) ⊎ (on row g f ≡ false) → (P f ≡ true) ⊎ (P f ≡ false) → (on row g f ≡ true) ⊎ (P f ≡ true)
    go (inl x) y = inl x
    go (inr x) (inl y) = inr y
    go (inr x) (inr y) =
        let z : g.first + 0 ≡ g.first = omega arith in
        absurd (inner x (found row (λ f. P f || on row g f) g.first q F f 0 S.some
        (rw z (is_crosses row f g.first hf a (omega (arith, S.whole, S.some)))) (rw (y, x))))

-- where a server stands alone, just the node's flows cross it
pub alone_flows : (row : Tandem) (P : ℕ → Bool) (i j : ℕ) (p : Stretch) → Fits row P i p → Alone j p → (f : ℕ) → crosses row f j ≡ P f
unfolding Fits Alone
alone_flows row P i j none h a = absurd a
alone_flows row P i j (then_server p j') h (inl a) = alone_flows row P i j p h.0 a
alone_flows row P i j (then_server p j') h (inr a) = rw a h.3
alone_flows row P i j (then_group p k g q) h a = alone_flows row P i j p h.0 a

alone_apart : (row : Tandem) (P : ℕ → Bool) (i : ℕ) (p : Stretch) → Fits row P i p
    → (j k : ℕ) (g : Path) (q : Stretch) → Alone j p → Child k g q p → (j < g.first) ⊎ (g.last < j)
alone_apart row P i p h j k g q a c = go (le_or_lt g.first j) (le_or_lt j g.last)
  where
    S : Standing row P i (span p) g q
    S = in_standing row P i k g q p h (child_in k g q p c)

    go : (g.first ≤ j) ⊎ (j < g.first) → (j ≤ g.last) ⊎ (g.last < j) → (j < g.first) ⊎ (g.last < j)
    go (inr x) y = inl x
    go (inl x) (inr y) = inr y
    go (inl x) (inl y) =
        let w = S.manned.0 in
        let o = on_is row g w S.manned.1 in
        let e : P w ≡ true = sym (alone_flows row P i j p h a w) ∙ is_crosses row w j o.1 (omega (arith, o.2)) (omega (arith, o.3)) in
        absurd (true≢false (sym S.manned.1 ∙ (child_fits row P i k g q p h c).1 w e))

node_covered : (row : Tandem) (P : ℕ → Bool) (i : ℕ) (p : Stretch) → Fits row P i p → (j : ℕ) → i ≤ j → j < i + span p
    → Alone j p ⊎ ((k : ℕ) × (g : Path) × (q : Stretch) × Child k g q p × (g.first ≤ j) × (j ≤ g.last))
unfolding Fits span Alone Child
node_covered row P i none h j a b = absurd (omega arith)
node_covered row P i (then_server p j') h j a b = go (le_or_lt (i + span p) j) (node_covered row P i p h.0 j a)
  where
    go : (i + span p ≤ j) ⊎ (j < i + span p)
        → (j < i + span p → Alone j p ⊎ ((k : ℕ) × (g : Path) × (q : Stretch) × Child k g q p × (g.first ≤ j) × (j ≤ g.last)))
        → Alone j (then_server p j') ⊎ ((k : ℕ) × (g : Path) × (q : Stretch) × Child k g q (then_server p j') × (g.first ≤ j) × (j ≤ g.last))
    go (inl x) r = inl (inr (omega (arith, h.1)))
    go (inr x) r = turn (r x)
      where
        turn : Alone j p ⊎ ((k : ℕ) × (g : Path) × (q : Stretch) × Child k g q p × (g.first ≤ j) × (j ≤ g.last))
            → Alone j (then_server p j') ⊎ ((k : ℕ) × (g : Path) × (q : Stretch) × Child k g q (then_server p j') × (g.first ≤ j) × (j ≤ g.last))
        turn (inl y) = inl (inl y)
        turn (inr y) = inr y
node_covered row P i (then_group p k' g' q') h j a b = go (le_or_lt (i + span p) j) (node_covered row P i p h.0 j a)
  where
    go : (i + span p ≤ j) ⊎ (j < i + span p)
        → (j < i + span p → Alone j p ⊎ ((k : ℕ) × (g : Path) × (q : Stretch) × Child k g q p × (g.first ≤ j) × (j ≤ g.last)))
        → Alone j (then_group p k' g' q') ⊎ ((k : ℕ) × (g : Path) × (q : Stretch) × Child k g q (then_group p k' g' q') × (g.first ≤ j) × (j ≤ g.last))
    go (inl x) r = inr (k', g', q', inr (refl, refl, refl), omega (arith, h.4), omega (arith, h.5))
    go (inr x) r = turn (r x)
      where
        turn : Alone j p ⊎ ((k : ℕ) × (g : Path) × (q : Stretch) × Child k g q p × (g.first ≤ j) × (j ≤ g.last))
            → Alone j (then_group p k' g' q') ⊎ ((k : ℕ) × (g : Path) × (q : Stretch) × Child k g q (then_group p k' g' q') × (g.first ≤ j) × (j ≤ g.last))
        turn (inl y) = inl y
        turn (inr y) = inr (y.0, y.1, y.2, inl y.3, y.4, y.5)

-- how often a group stands

in_times : (k : ℕ) (g : Path) (q p : Stretch) → In k g q p → 1 ≤ times p k
unfolding In times
in_times k g q none h = absurd h
in_times k g q (then_server p j) h = in_times k g q p h
in_times k g q (then_group p k' g' q') (inl (inl h)) = omega (arith, in_times k g q p h)
in_times k g q (then_group p k' g' q') (inl (inr h)) = omega (arith, in_times k g q q' h)
in_times k g q (then_group p k' g' q') (inr h) = rw (eq-eqb k' k (sym h.0)) (omega arith)

-- if flow w is in every group with number k, that group is met as often as w is counted
times_le : (row : Tandem) (k w : ℕ) (p : Stretch) → w < length row.flows → ((g : Path) (q : Stretch) → In k g q p → on row g w ≡ true)
    → times p k ≤ weights row (λ f. weigh (eqb w f) 1) p
unfolding In times weights
times_le row k w none hw h = omega arith
times_le row k w (then_server p j) hw h = times_le row k w p hw h
times_le row k w (then_group p k' g q) hw h =
    omega (
      arith,
      times_le row k w p hw (λ g' q' s. h g' q' (inl (inl s))),
      times_le row k w q hw (λ g' q' s. h g' q' (inl (inr s))),
      one (decide (eqb k' k)),
    )
  where
    one : (eqb k' k ≡ true) ⊎ (eqb k' k ≡ false) → weigh (eqb k' k) 1 ≤ total (length row.flows) (λ f. weigh (on row g f) (weigh (eqb w f) 1))
    one (inr e) = rw e (omega arith)
    one (inl e) =
        let o = h g q (inr (sym (eqb-true k' k e), refl, refl)) in
        let z : weigh (on row g w) (weigh (eqb w w) 1) ≤ total (length row.flows) (λ f. weigh (on row g f) (weigh (eqb w f) 1)) =
        total_at (length row.flows) w (λ f. weigh (on row g f) (weigh (eqb w f) 1)) hw in
        rw e (omega (arith, rw (o, eq-eqb w w refl) at z))

watched_is : (f : ℕ) → watched f ≡ true → 0 ≡ f
unfolding watched
watched_is f h = eqb-true 0 f h

module _ (row : Tandem) (ok : Accepted row) where
  -- each group stands in the tree, and only once
  pub group_once : (k : ℕ) → k < length (groups row) → times (tree row) k ≡ 1
  group_once k h =
      let s = stands row ok (λ k. 0) k h in
      let o = order_at row ok (groups row) (order_groups row ok) k h in
      let w = o.0 in
      let hw = (on_is row (get_or (groups row) k (path 0 0)) w o.1).1 in
      let fit = tree_fits row ok in
      omega (
        arith,
        in_times k s.0 s.1 (tree row) s.2,
        times_le row k w (tree row) hw (λ g q i. subst (λ (x : Path). on row x w ≡ true) (in_tree row k g q i).1 o.1),
        weights_some row (λ f. weigh (eqb w f) 1) watched 1 (tree row) fit.0,
        (total_only (length row.flows) w (λ f. 1)).0,
      )

  -- the pieces of each node, and of the root
  pub node_pieces : (k : ℕ) (g : Path) (q : Stretch) → In k g q (tree row) → Pieces g.first q × (g.first + span q ≡ suc g.last)
  node_pieces k g q i =
      let S = in_standing row watched 1 k g q (tree row) (tree_fits row ok).0 i in (
        record { covered = node_covered row S.flows g.first q S.fits; apart = alone_apart row S.flows g.first q S.fits },
        S.whole,
      )

  pub root_pieces : Pieces 1 (tree row)
  root_pieces =
      let fit = (tree_fits row ok).0 in
      record { covered = node_covered row watched 1 (tree row) fit; apart = alone_apart row watched 1 (tree row) fit }

  -- a group of the tree, and its child: the group is the child's parent
  pub child_parent : (k k' : ℕ) (h g : Path) (p q : Stretch) → In k h p (tree row) → Child k' g q p → Parent row h g
  child_parent k k' h g p q i c = record {
    around = record { first = S.begins; last = omega (arith, S.ends, H.whole) };
    other = λ e. true≢false (sym (subst (λ (x : Path). on row x H.manned.0 ≡ true) e H.manned.1)
        ∙ (child_fits row H.flows h.first k' g q p H.fits c).1 H.manned.0 (H.own H.manned.0 H.manned.1));
    smallest = λ f a b around. turn f (around_child row H.flows h.first k' g q p H.fits c f b around.first around.last);
  }
    where
      H : Standing row watched 1 (span (tree row)) h p
      H = in_standing row watched 1 k h p (tree row) (tree_fits row ok).0 i

      S : Standing row H.flows h.first (span p) g q
      S = in_standing row H.flows h.first k' g q p H.fits (child_in k' g q p c)

      turn : (f : ℕ) → (on row g f ≡ true) ⊎ (H.flows f ≡ true) → (on row g f ≡ true) ⊎ Contains (path (flow row f).first (flow row f).last) h
      turn f (inl x) = inl x
      turn f (inr x) =
          let a = crosses_is row f (h.first + 0) (spans row H.flows h.first p H.fits f x 0 H.some) in
          let b = crosses_is row f (h.first + (span p - 1)) (spans row H.flows h.first p H.fits f x (span p - 1) (omega (arith, H.some))) in
          inr (record { first = omega (arith, a.1); last = omega (arith, b.2, H.whole, H.some) })

  -- a child of the root: no other group's path contains its own
  pub root_child : (k : ℕ) (g : Path) (q : Stretch) → Child k g q (tree row) → Outermost row g
  root_child k g q c = record {
    around = (S.begins, omega (arith, S.ends, fit.1));
    lone = λ f a b around. turn f a (around_child row watched 1 k g q (tree row) fit.0 c f b around.first around.last);
  }
    where
      fit : (Fits row watched 1 (tree row)) × (span (tree row) ≡ size row)
      fit = tree_fits row ok

      S : Standing row watched 1 (span (tree row)) g q
      S = in_standing row watched 1 k g q (tree row) fit.0 (child_in k g q (tree row) c)

      turn : (f : ℕ) → 0 < f → (on row g f ≡ true) ⊎ (watched f ≡ true) → on row g f ≡ true
      turn f a (inl x) = x
      turn f a (inr x) = absurd (omega (arith, watched_is f x))

-- "the smallest group": no other is; and a group that has a parent is not directly under the root

path_same : (h g : Path) → h.first ≡ g.first → h.last ≡ g.last → h ≡ g
path_same h g a b = λ d. record { first = a d; last = b d }

-- the path of a flow on h contains what h contains
on_contains : (row : Tandem) (h g : Path) (f : ℕ) → on row h f ≡ true → Contains h g → Contains (path (flow row f).first (flow row f).last) g
on_contains row h g f e c = let o = on_is row h f e in record { first = omega (arith, o.2, c.first); last = omega (arith, o.3, c.last) }

contains_on : (row : Tandem) (h g : Path) (f : ℕ) → on row h f ≡ true → Contains (path (flow row f).first (flow row f).last) g → Contains h g
contains_on row h g f e c = let o = on_is row h f e in record { first = omega (arith, o.2, c.first); last = omega (arith, o.3, c.last) }

one_path : (row : Tandem) (h g : Path) (f : ℕ) → on row h f ≡ true → on row g f ≡ true → h ≡ g
one_path row h g f e d = let o = on_is row h f e in let p = on_is row g f d in path_same h g (sym o.2 ∙ p.2) (sym o.3 ∙ p.3)

pub parent_unique : (row : Tandem) (h h' g : Path) (f f' : ℕ) → on row h f ≡ true → on row h' f' ≡ true → Parent row h g → Parent row h' g → h ≡ h'
parent_unique row h h' g f f' e e' p p' =
    let a = inner h h' f e p p' in
    let b = inner h' h f' e' p' p in
    path_same h h' (omega (arith, a.first, b.first)) (omega (arith, a.last, b.last))
  where
    inner : (h h' : Path) (f : ℕ) → on row h f ≡ true → Parent row h g → Parent row h' g → Contains h h'
    inner h h' f e p p' = let o = on_is row h f e in turn (p'.smallest f o.0 o.1 (on_contains row h g f e p.around))
      where
        turn : (on row g f ≡ true) ⊎ Contains (path (flow row f).first (flow row f).last) h' → Contains h h'
        turn (inl x) = absurd (p.other (one_path row h g f e x))
        turn (inr x) = contains_on row h h' f e x

pub parent_or_root : (row : Tandem) (h g : Path) (f : ℕ) → on row h f ≡ true → Parent row h g → Outermost row g → ⊥
parent_or_root row h g f e p r =
    let o = on_is row h f e in
    p.other (one_path row h g f e (r.lone f o.0 o.1 (on_contains row h g f e p.around)))
