-- The tree of an accepted row fits it: every server stands in it once, in order, and every group at its path.
-- Assumes nothing.
use Rattle.std.specs.Prelude.{◌≡◌, refl, Bool, ◌||◌, ◌&&◌, ◌⊎◌, ◌≢◌}
use Rattle.std.proofs.Math.Path.{sym, ap, subst, fun_ext}
use Rattle.std.proofs.Common.{◌∙◌, arith}
use Rattle.std.proofs.Math.Bool.{true, false, not, true≢false}
use Rattle.std.proofs.lemmas.Bool.{false≢true}
use Rattle.std.proofs.Math.Logic.{inl, inr}
use mathlib.Core.List.{List, [], ◌∷◌}
use Prim.Native.Nat.{ℕ, zero, suc, ◌+◌, ◌≤◌, ◌<◌}
use Rattle.std.proofs.Math.Dec.{ltb, eqb}
use Rattle.std.proofs.Math.ListN.{length}
use borrow.Author.Tests.{ltb-true, lt-ltb, eqb-true, eq-eqb}
use Rattle.ground.proofs.OrderLaws.{le_or_lt}
use Rattle.tandem.specs.Tandem.{Tandem, Path, size, flow, crosses, on, watched}
use Rattle.row.specs.Groups.{path, groups}
use Rattle.tandem.specs.Sound.{Lies}
use Rattle.row.specs.Accepted.{Accepted}
use Rattle.row.specs.Order.{later, Order}
use Rattle.row.proofs.OrderLaws.{later_real, order_groups, lone}
use Rattle.tree.specs.Stretch.{Stretch, none, then_server, then_group, span}
use Rattle.tree.specs.Tree.{Piece, single, whole, pick, stretch_from, inside, top, tree}
use Rattle.tree.specs.Fits.{Fits}
use Rattle.tandem.proofs.TestLaws.{or_left, or_right, or_cases, both_true, true_both, not_passed, same_test, decide}
use Rattle.tandem.proofs.TandemLaws.{on_is, crosses_is, is_crosses}

stretch_end : (n : ℕ) (t : ℕ → Piece) (p : Stretch) (j e : ℕ) → ltb e j ≡ true → stretch_from (suc n) t p j e ≡ p
unfolding stretch_from
stretch_end n t p j e h = rw h

stretch_single : (n : ℕ) (t : ℕ → Piece) (p : Stretch) (j e : ℕ) → ltb e j ≡ false → t j ≡ single
    → stretch_from (suc n) t p j e ≡ stretch_from n t (then_server p j) (suc j) e
unfolding stretch_from
stretch_single n t p j e h k = rw (h, k)

stretch_whole : (n : ℕ) (t : ℕ → Piece) (p : Stretch) (j e k : ℕ) (g : Path) (q : Stretch) → ltb e j ≡ false → t j ≡ whole k g q
    → stretch_from (suc n) t p j e ≡ stretch_from n t (then_group p k g q) (suc g.last) e
unfolding stretch_from
stretch_whole n t p j e k g q h l = rw (h, l)

-- the flows that cross server i and are in none of the groups
unfoldable pub outside : Tandem → List Path → ℕ → ℕ → Bool
outside row gs i f = crosses row f i && not (later row gs f)

not_false : (b : Bool) → b ≡ false → not b ≡ true
not_false b h = rw h

false_of_not : (b : Bool) → not b ≡ true → b ≡ false
false_of_not true h = absurd (false≢true h)
false_of_not false h = refl

module _ (row : Tandem) (ok : Accepted row) where
  -- flows in none of the groups come before those that are
  unfoldable pub Outer : List Path → Type 0
  Outer gs = (f h : ℕ) → f < length row.flows → (flow row f).first ≤ (flow row f).last → later row gs f ≡ false → later row gs h ≡ true
      → ((flow row f).first < (flow row h).first) ⊎ (((flow row f).first ≡ (flow row h).first) × ((flow row h).last ≤ (flow row f).last))

  -- what begins at server j among the groups gs
  record Whole (gs : List Path) (j : ℕ) (g : Path) (q : Stretch) : Type 0 where
    after : List Path
    begins : g.first ≡ j
    flow_on : (w : ℕ) × (on row g w ≡ true)
    mine : (f : ℕ) → on row g f ≡ true → (later row gs f ≡ true) × (later row after f ≡ false)
    longest : (f : ℕ) → later row gs f ≡ true → (flow row f).first ≡ j → (flow row f).last ≤ g.last
    down : (f : ℕ) → later row after f ≡ true → later row gs f ≡ true
    up : (f : ℕ) → later row gs f ≡ true → ((later row after f ≡ true) ⊎ (on row g f ≡ true)) ⊎ ((flow row f).first < j)
    fits : Fits row (outside row after j) j q
    ends : j + span q ≡ suc g.last
    some : 0 < span q

  Begins : List Path → ℕ → Piece → Type 0
  Begins gs j single = (f : ℕ) → later row gs f ≡ true → (flow row f).first ≢ j
  Begins gs j (whole k g q) = Whole gs j g q

  -- what is known of the place (i, l) in the tree, with the groups gs for what may be inside
  record Node (gs : List Path) (i l : ℕ) : Type 0 where
    level : (f j : ℕ) → later row gs f ≡ false → i ≤ j → j ≤ l → crosses row f j ≡ crosses row f i
    start : (h : ℕ) → later row gs h ≡ true → i ≤ (flow row h).first
    stay : (h : ℕ) → later row gs h ≡ true → (flow row h).first ≤ l → (flow row h).last ≤ l
    last_in : l ≤ size row

  -- no flow of the groups reaches over server j from before it
  Clean : List Path → ℕ → Type 0
  Clean gs j = (f : ℕ) → later row gs f ≡ true → (flow row f).first < j → (flow row f).last < j

  module _ (gs : List Path) (i l : ℕ) (node : Node gs i l) where
    server_flows : (j : ℕ) → i ≤ j → j ≤ l → Clean gs j → ((f : ℕ) → later row gs f ≡ true → (flow row f).first ≢ j)
        → (f : ℕ) → crosses row f j ≡ outside row gs i f
    unfolding Clean outside
    server_flows j hi hl clean alone f = go (decide (later row gs f))
      where
        go : (later row gs f ≡ true) ⊎ (later row gs f ≡ false) → crosses row f j ≡ (crosses row f i && not (later row gs f))
        go (inl e) = same_test (crosses row f j) (crosses row f i && not (later row gs f)) (λ k. absurd (never k))
            (λ k. absurd (true≢false (sym e ∙ false_of_not (later row gs f) (both_true (crosses row f i) (not (later row gs f)) k).1)))
          where
            never : crosses row f j ≡ true → ⊥
            never k = less (le_or_lt j (flow row f).first)
              where
                less : (j ≤ (flow row f).first) ⊎ ((flow row f).first < j) → ⊥
                less (inl x) = let c = crosses_is row f j k in alone f e (omega (arith, c.1))
                less (inr x) = let c = crosses_is row f j k in omega (arith, c.2, clean f e x)
        go (inr e) = node.level f j e hi hl ∙ same_test (crosses row f i) (crosses row f i && not (later row gs f))
            (λ k. true_both (crosses row f i) (not (later row gs f)) k (not_false (later row gs f) e))
            (λ k. (both_true (crosses row f i) (not (later row gs f)) k).0)

    group_flows : (j : ℕ) → i ≤ j → j ≤ l → Clean gs j → (g : Path) (q : Stretch) (x : Whole gs j g q)
        → (f : ℕ) → (outside row gs i f || on row g f) ≡ outside row x.after j f
    unfolding Clean outside
    group_flows j hi hl clean g q x f = same_test (outside row gs i f || on row g f) (outside row x.after j f) there back
      where
        there : (outside row gs i f || on row g f) ≡ true → (crosses row f j && not (later row x.after f)) ≡ true
        there k = step (or_cases (outside row gs i f) (on row g f) k)
          where
            step : (outside row gs i f ≡ true) ⊎ (on row g f ≡ true) → (crosses row f j && not (later row x.after f)) ≡ true
            step (inl e) =
                let b = both_true (crosses row f i) (not (later row gs f)) e in
                let d = false_of_not (later row gs f) b.1 in
                true_both (crosses row f j) (not (later row x.after f)) (node.level f j d hi hl ∙ b.0)
                (not_false (later row x.after f) (not_passed (later row x.after f) (λ y. true≢false (sym (x.down f y) ∙ d))))
            step (inr e) =
                let o = on_is row g f e in
                true_both (crosses row f j) (not (later row x.after f))
                (is_crosses row f j o.1 (omega (arith, o.2, x.begins)) (omega (arith, o.3, x.ends, x.some)))
                (not_false (later row x.after f) (x.mine f e).1)

        back : (crosses row f j && not (later row x.after f)) ≡ true → (outside row gs i f || on row g f) ≡ true
        back k = step (decide (later row gs f))
          where
            c : crosses row f j ≡ true
            c = (both_true (crosses row f j) (not (later row x.after f)) k).0

            a : later row x.after f ≡ false
            a = false_of_not (later row x.after f) (both_true (crosses row f j) (not (later row x.after f)) k).1

            inner : ((later row x.after f ≡ true) ⊎ (on row g f ≡ true)) ⊎ ((flow row f).first < j) → later row gs f ≡ true
                → (outside row gs i f || on row g f) ≡ true
            inner (inl (inl y)) e = absurd (true≢false (sym y ∙ a))
            inner (inl (inr y)) e = or_right (outside row gs i f) (on row g f) y
            inner (inr y) e = let b = crosses_is row f j c in absurd (omega (arith, clean f e y, b.2))

            step : (later row gs f ≡ true) ⊎ (later row gs f ≡ false) → (outside row gs i f || on row g f) ≡ true
            step (inl e) = inner (x.up f e) e
            step (inr e) = or_left (outside row gs i f) (on row g f)
                (true_both (crosses row f i) (not (later row gs f)) (sym (node.level f j e hi hl) ∙ c) (not_false (later row gs f) e))

    group_clean : (j : ℕ) → Clean gs j → (g : Path) (q : Stretch) → Whole gs j g q → Clean gs (suc g.last)
    unfolding Clean
    group_clean j clean g q x f e h = step (le_or_lt j (flow row f).first)
      where
        w : ℕ
        w = x.flow_on.0

        o : (0 < w) × (w < length row.flows) × ((flow row w).first ≡ g.first) × ((flow row w).last ≡ g.last)
        o = on_is row g w x.flow_on.1

        step₂ : j ≤ (flow row f).first → ((flow row f).first ≤ j) ⊎ (j < (flow row f).first) → (flow row f).last < suc g.last
        step₂ k (inl m) = let y = x.longest f e (omega arith) in omega arith
        step₂ k (inr m) = let y = ok.nested w f o.1 (later_real row ok gs f e).1 (omega (arith, o.2, x.begins)) (omega (arith, o.3)) in omega
            (arith, o.3)

        step : (j ≤ (flow row f).first) ⊎ ((flow row f).first < j) → (flow row f).last < suc g.last
        step (inl k) = step₂ k (le_or_lt (flow row f).first j)
        step (inr k) = omega (arith, clean f e k, x.ends, x.some)

    server_clean : (j : ℕ) → Clean gs j → ((f : ℕ) → later row gs f ≡ true → (flow row f).first ≢ j) → Clean gs (suc j)
    unfolding Clean
    server_clean j clean alone f e h = step (le_or_lt j (flow row f).first)
      where
        step : (j ≤ (flow row f).first) ⊎ ((flow row f).first < j) → (flow row f).last < suc j
        step (inl k) = absurd (alone f e (omega arith))
        step (inr k) = omega (arith, clean f e k)

    Goal : Stretch → Type 0
    Goal r = (Fits row (outside row gs i) i r) × (i + span r ≡ suc l)

    Stretched : ℕ → (ℕ → Piece) → Type 0
    Stretched n t = (p : Stretch) (j : ℕ) → Fits row (outside row gs i) i p → i + span p ≡ j → j ≤ suc l → Clean gs j → suc l ≤ j + n
        → Goal (stretch_from n t p j l)

    stretch_step : (n : ℕ) (t : ℕ → Piece) → ((j : ℕ) → Begins gs j (t j)) → Stretched n t → Stretched (suc n) t
    unfolding Stretched Goal Begins span Fits outside
    stretch_step n t good rec p j h e hj clean enough = go (le_or_lt j l)
      where
        piece : j ≤ l → ltb l j ≡ false → (x : Piece) → t j ≡ x → Begins gs j x → Goal (stretch_from (suc n) t p j l)
        piece k z single y b =
            subst Goal (sym (stretch_single n t p j l z y))
            (rec (then_server p j) (suc j) (h, sym e, omega (arith, node.last_in), server_flows j (omega arith) k clean b) (omega arith)
            (omega arith) (server_clean j clean b) (omega arith))
        piece k z (whole m g q) y b =
            subst Goal (sym (stretch_whole n t p j l m g q z y))
            (rec (then_group p m g q) (suc g.last) (h, b.some, within, apart, b.begins ∙ sym e, omega (arith, b.ends), b.flow_on)
            (omega (arith, b.ends)) (omega (arith, stays)) (group_clean j clean g q b) (omega (arith, b.ends, b.some)))
          where
            flows : (λ f. outside row gs i f || on row g f) ≡ outside row b.after j
            flows = fun_ext (group_flows j (omega arith) k clean g q b)

            within : Fits row (λ f. outside row gs i f || on row g f) (i + span p) q
            within = rw (flows, e) b.fits

            apart : (f : ℕ) → outside row gs i f ≡ true → on row g f ≡ false
            apart f x = not_passed (on row g f)
                (λ o. true≢false (sym (b.mine f o).0 ∙ false_of_not (later row gs f) (both_true (crosses row f i) (not (later row gs f)) x).1))

            stays : g.last ≤ l
            stays =
                let w = b.flow_on.0 in
                let o = on_is row g w b.flow_on.1 in
                omega (arith, o.3, node.stay w (b.mine w b.flow_on.1).0 (omega (arith, o.2, b.begins)))

        go : (j ≤ l) ⊎ (l < j) → Goal (stretch_from (suc n) t p j l)
        go (inr k) = subst Goal (sym (stretch_end n t p j l (lt-ltb l j k))) (h, omega arith)
        go (inl k) = piece k (not_passed (ltb l j) (λ z. let y = ltb-true l j z in omega arith)) (t j) refl (good j)

    stretched : (n : ℕ) (t : ℕ → Piece) → ((j : ℕ) → Begins gs j (t j)) → Stretched n t
    unfolding Stretched Goal stretch_from
    stretched zero t good = λ p j h e hj clean enough. (h, omega arith)
    stretched (suc n) t good = stretch_step n t good (stretched n t good)

  module _ (g : Path) (gs : List Path) (order : Order row (g ∷ gs)) (outer : Outer (g ∷ gs)) where
    chosen : ℕ
    unfolding Order
    chosen = order.0.0

    chosen_on : on row g chosen ≡ true
    unfolding Order chosen
    chosen_on = order.0.1

    chosen_real : g.first ≤ g.last
    unfolding Order
    chosen_real = order.0.2

    chosen_is : (0 < chosen) × (chosen < length row.flows) × ((flow row chosen).first ≡ g.first) × ((flow row chosen).last ≡ g.last)
    chosen_is = on_is row g chosen chosen_on

    comes_after : (h : ℕ) → later row gs h ≡ true → (g.first < (flow row h).first) ⊎ ((g.first ≡ (flow row h).first) × ((flow row h).last < g.last))
    unfolding Order
    comes_after = order.1

    -- a flow of g is in none of the groups after it
    strict : (f : ℕ) → on row g f ≡ true → later row gs f ≡ false
    strict f e = not_passed (later row gs f) (λ h. go (comes_after f h) (on_is row g f e))
      where
        go : (g.first < (flow row f).first) ⊎ ((g.first ≡ (flow row f).first) × ((flow row f).last < g.last))
            → (0 < f) × (f < length row.flows) × ((flow row f).first ≡ g.first) × ((flow row f).last ≡ g.last) → ⊥
        go (inl k) o = omega (arith, o.2)
        go (inr k) o = omega (arith, o.3, k.1)

    -- a flow in none of the groups after g begins before g, or with it and ends no earlier
    before : (f : ℕ) → f < length row.flows → (flow row f).first ≤ (flow row f).last → later row gs f ≡ false
        → ((flow row f).first < g.first) ⊎ (((flow row f).first ≡ g.first) × (g.last ≤ (flow row f).last))
    unfolding Outer later
    before f r p e = go (decide (on row g f))
      where
        o : (0 < chosen) × (chosen < length row.flows) × ((flow row chosen).first ≡ g.first) × ((flow row chosen).last ≡ g.last)
        o = chosen_is

        turn : ((flow row f).first < (flow row chosen).first) ⊎ (((flow row f).first ≡ (flow row chosen).first) × ((flow row chosen).last ≤ (flow row f).last))
            → ((flow row f).first < g.first) ⊎ (((flow row f).first ≡ g.first) × (g.last ≤ (flow row f).last))
        turn (inl k) = inl (omega (arith, o.2))
        turn (inr k) = inr (omega (arith, o.2, k.0), omega (arith, o.3, k.1))

        go : (on row g f ≡ true) ⊎ (on row g f ≡ false) → ((flow row f).first < g.first) ⊎ (((flow row f).first ≡ g.first) × (g.last ≤ (flow row f).last))
        go (inl k) = let p = on_is row g f k in inr (p.2, omega (arith, p.3))
        go (inr k) = turn (outer f chosen r p (rw (k, e)) (or_left (on row g chosen) (later row gs chosen) chosen_on))

    pub outer_tail : Outer gs
    unfolding Outer later
    outer_tail f h r p e l = go (decide (on row g f))
      where
        turn : (g.first < (flow row h).first) ⊎ ((g.first ≡ (flow row h).first) × ((flow row h).last < g.last))
            → (0 < f) × (f < length row.flows) × ((flow row f).first ≡ g.first) × ((flow row f).last ≡ g.last)
            → ((flow row f).first < (flow row h).first) ⊎ (((flow row f).first ≡ (flow row h).first) × ((flow row h).last ≤ (flow row f).last))
        turn (inl k) p = inl (omega (arith, p.2))
        turn (inr k) p = inr (omega (arith, p.2, k.0), omega (arith, p.3, k.1))

        go : (on row g f ≡ true) ⊎ (on row g f ≡ false) → ((flow row f).first < (flow row h).first)
            ⊎ (((flow row f).first ≡ (flow row h).first) × ((flow row h).last ≤ (flow row f).last))
        go (inl k) = turn (comes_after h l) (on_is row g f k)
        go (inr k) = outer f h r p (rw (k, e)) (or_right (on row g h) (later row gs h) l)

    node_of : Node gs g.first g.last
    node_of = record { level = level; start = start; stay = stay; last_in = omega (arith, o.3, v.2) }
      where
        o : (0 < chosen) × (chosen < length row.flows) × ((flow row chosen).first ≡ g.first) × ((flow row chosen).last ≡ g.last)
        o = chosen_is

        v : (0 < (flow row chosen).first) × ((flow row chosen).first ≤ (flow row chosen).last) × ((flow row chosen).last ≤ size row)
        v = let p = ok.sound.paths chosen o.1 in (p.0, omega (arith, o.2, o.3, chosen_real), p.1)

        level : (f j : ℕ) → later row gs f ≡ false → g.first ≤ j → j ≤ g.last → crosses row f j ≡ crosses row f g.first
        level f j e a b = same_test (crosses row f j) (crosses row f g.first) there back
          where
            there : crosses row f j ≡ true → crosses row f g.first ≡ true
            there k = let c = crosses_is row f j k in step c (before f c.0 (omega (arith, c.1, c.2)) e)
              where
                step : (f < length row.flows) × ((flow row f).first ≤ j) × (j ≤ (flow row f).last)
                    → ((flow row f).first < g.first) ⊎ (((flow row f).first ≡ g.first) × (g.last ≤ (flow row f).last)) → crosses row f g.first ≡ true
                step c (inl x) = is_crosses row f g.first c.0 (omega arith) (omega (arith, c.2))
                step c (inr x) = is_crosses row f g.first c.0 (omega (arith, x.0)) (omega (arith, c.2))

            back : crosses row f g.first ≡ true → crosses row f j ≡ true
            back k = let c = crosses_is row f g.first k in step c (before f c.0 (omega (arith, c.1, c.2)) e)
              where
                step : (f < length row.flows) × ((flow row f).first ≤ g.first) × (g.first ≤ (flow row f).last)
                    → ((flow row f).first < g.first) ⊎ (((flow row f).first ≡ g.first) × (g.last ≤ (flow row f).last)) → crosses row f j ≡ true
                step c (inl x) =
                    let n = ok.nested f chosen c.0 o.1 (omega (arith, o.2)) (omega (arith, o.2, c.2)) in
                    is_crosses row f j c.0 (omega arith) (omega (arith, n, o.3))
                step c (inr x) = is_crosses row f j c.0 (omega (arith, x.0)) (omega (arith, x.1))

        start : (h : ℕ) → later row gs h ≡ true → g.first ≤ (flow row h).first
        start h e = step (comes_after h e)
          where
            step : (g.first < (flow row h).first) ⊎ ((g.first ≡ (flow row h).first) × ((flow row h).last < g.last)) → g.first ≤ (flow row h).first
            step (inl k) = omega arith
            step (inr k) = omega (arith, k.0)

        stay : (h : ℕ) → later row gs h ≡ true → (flow row h).first ≤ g.last → (flow row h).last ≤ g.last
        stay h e l = step (comes_after h e)
          where
            step : (g.first < (flow row h).first) ⊎ ((g.first ≡ (flow row h).first) × ((flow row h).last < g.last)) → (flow row h).last ≤ g.last
            step (inl k) =
                let n = ok.nested chosen h o.1 (later_real row ok gs h e).1 (omega (arith, o.2)) (omega (arith, o.3)) in
                omega (arith, n, o.3)
            step (inr k) = omega (arith, k.1)

    -- the piece of g itself
    own : (k : ℕ) → ((j : ℕ) → Begins gs j (top row k gs j))
        → Whole (g ∷ gs) g.first g (stretch_from (size row) (top row k gs) none g.first g.last)
    unfolding later Stretched Goal Fits span Clean
    own k good = record {
      after = gs;
      begins = refl;
      flow_on = (chosen, chosen_on);
      mine = λ f e. (or_left (on row g f) (later row gs f) e, strict f e);
      longest = λ f e h. far f h (or_cases (on row g f) (later row gs f) e);
      down = λ f e. or_right (on row g f) (later row gs f) e;
      up = λ f e. split f (or_cases (on row g f) (later row gs f) e);
      fits = r.0;
      ends = r.1;
      some = omega (arith, r.1, o.2, o.3, v.1);
    }
      where
        o : (0 < chosen) × (chosen < length row.flows) × ((flow row chosen).first ≡ g.first) × ((flow row chosen).last ≡ g.last)
        o = chosen_is

        v : (0 < (flow row chosen).first) × ((flow row chosen).first ≤ (flow row chosen).last) × ((flow row chosen).last ≤ size row)
        v = let p = ok.sound.paths chosen o.1 in (p.0, omega (arith, o.2, o.3, chosen_real), p.1)

        far : (f : ℕ) → (flow row f).first ≡ g.first → (on row g f ≡ true) ⊎ (later row gs f ≡ true) → (flow row f).last ≤ g.last
        far f h (inl e) = omega (arith, (on_is row g f e).3)
        far f h (inr e) = step (comes_after f e)
          where
            step : (g.first < (flow row f).first) ⊎ ((g.first ≡ (flow row f).first) × ((flow row f).last < g.last)) → (flow row f).last ≤ g.last
            step (inl k) = absurd (omega arith)
            step (inr k) = omega (arith, k.1)

        split : (f : ℕ) → (on row g f ≡ true) ⊎ (later row gs f ≡ true) → ((later row gs f ≡ true) ⊎ (on row g f ≡ true)) ⊎ ((flow row f).first < g.first)
        split f (inl e) = inl (inr e)
        split f (inr e) = inl (inl e)

        r : Goal gs g.first g.last node_of (stretch_from (size row) (top row k gs) none g.first g.last)
        r = stretched gs g.first g.last node_of (size row) (top row k gs) good none g.first tt (omega arith) (omega (arith, o.2, o.3, v.1))
            (λ f e h. absurd (omega (arith, node_of.start f e))) (omega (arith, o.2, o.3, v.0, v.2))

    -- a piece that begins elsewhere stays what it is when g is put in front
    widen : (j : ℕ) → g.first ≢ j → (x : Piece) → Begins gs j x → Begins (g ∷ gs) j x
    unfolding Begins later
    widen j ne single b = λ f e. step f (or_cases (on row g f) (later row gs f) e)
      where
        step : (f : ℕ) → (on row g f ≡ true) ⊎ (later row gs f ≡ true) → (flow row f).first ≢ j
        step f (inl e) = let o = on_is row g f e in omega (arith, o.2)
        step f (inr e) = b f e
    widen j ne (whole k c q) b = record {
      after = b.after;
      begins = b.begins;
      flow_on = b.flow_on;
      mine = λ f e. (or_right (on row g f) (later row gs f) (b.mine f e).0, (b.mine f e).1);
      longest = λ f e h. far f h (or_cases (on row g f) (later row gs f) e);
      down = λ f e. or_right (on row g f) (later row gs f) (b.down f e);
      up = λ f e. split f (or_cases (on row g f) (later row gs f) e);
      fits = b.fits;
      ends = b.ends;
      some = b.some;
    }
      where
        far : (f : ℕ) → (flow row f).first ≡ j → (on row g f ≡ true) ⊎ (later row gs f ≡ true) → (flow row f).last ≤ c.last
        far f h (inl e) = let o = on_is row g f e in absurd (omega (arith, o.2))
        far f h (inr e) = b.longest f e h

        low : g.first < j
        low =
            let w = b.flow_on.0 in
            let o = on_is row c w b.flow_on.1 in
            let s = node_of.start w (b.mine w b.flow_on.1).0 in
            omega (arith, o.2, b.begins, s)

        split : (f : ℕ) → (on row g f ≡ true) ⊎ (later row gs f ≡ true) → ((later row b.after f ≡ true) ⊎ (on row c f ≡ true)) ⊎ ((flow row f).first < j)
        split f (inl e) = let o = on_is row g f e in inr (omega (arith, o.2, low))
        split f (inr e) = b.up f e

  begins_all : (gs : List Path) → Order row gs → Outer gs → (k j : ℕ) → Begins gs j (top row k gs j)
  unfolding Order top Begins later
  begins_all [] order outer k j = λ f e. absurd (false≢true e)
  begins_all (g ∷ gs) order outer k j = go (decide (eqb g.first j)) (begins_all gs order.2 (outer_tail g gs order outer) (suc k))
    where
      go : (eqb g.first j ≡ true) ⊎ (eqb g.first j ≡ false) → ((j : ℕ) → Begins gs j (top row (suc k) gs j))
          → Begins (g ∷ gs) j (pick (eqb g.first j) (whole k g (stretch_from (size row) (top row (suc k) gs) none g.first g.last))
          (top row (suc k) gs j))
      go (inl e) r = rw e (subst (λ (j : ℕ). Whole (g ∷ gs) j g (stretch_from (size row) (top row (suc k) gs) none g.first g.last))
          (eqb-true g.first j e) (own g gs order outer (suc k) r))
      go (inr e) r = rw e (widen g gs order outer j (λ d. true≢false (sym (eq-eqb g.first j d) ∙ e)) (top row (suc k) gs j) (r j))

  pub outer_all : Outer (groups row)
  unfolding Outer
  outer_all f h r p e k =
      let z = lone row ok f r p e in
      let v = ok.sound.paths h (later_real row ok (groups row) h k).1 in
      go z v (le_or_lt (flow row h).first 1)
    where
      go : f ≡ 0 → Lies row h
          → ((flow row h).first ≤ 1) ⊎ (1 < (flow row h).first)
          → ((flow row f).first < (flow row h).first) ⊎ (((flow row f).first ≡ (flow row h).first) × ((flow row h).last ≤ (flow row f).last))
      go z v (inl x) = inr (rw z (omega (arith, ok.sound.enters, v.0)), rw z (omega (arith, ok.sound.leaves, v.1)))
      go z v (inr x) = inl (rw z (omega (arith, ok.sound.enters)))

  root : Node (groups row) 1 (size row)
  root = record {
    level = level;
    start = λ h e. (ok.sound.paths h (later_real row ok (groups row) h e).1).0;
    stay = λ h e l. (ok.sound.paths h (later_real row ok (groups row) h e).1).1;
    last_in = omega arith;
  }
    where
      level : (f j : ℕ) → later row (groups row) f ≡ false → 1 ≤ j → j ≤ size row → crosses row f j ≡ crosses row f 1
      level f j e a b = same_test (crosses row f j) (crosses row f 1) there back
        where
          all : (k : ℕ) → f ≡ 0 → 1 ≤ k → k ≤ size row → crosses row f k ≡ true
          all k z x y = rw z (is_crosses row 0 k ok.sound.some (omega (arith, ok.sound.enters)) (omega (arith, ok.sound.leaves)))

          there : crosses row f j ≡ true → crosses row f 1 ≡ true
          there k = let c = crosses_is row f j k in all 1 (lone row ok f c.0 (omega (arith, c.1, c.2)) e) (omega arith) (omega arith)

          back : crosses row f 1 ≡ true → crosses row f j ≡ true
          back k = let c = crosses_is row f 1 k in all j (lone row ok f c.0 (omega (arith, c.1, c.2)) e) a b

  root_flows : (f : ℕ) → outside row (groups row) 1 f ≡ watched f
  unfolding outside watched
  root_flows f = same_test (outside row (groups row) 1 f) (eqb 0 f) there back
    where
      there : (crosses row f 1 && not (later row (groups row) f)) ≡ true → eqb 0 f ≡ true
      there k =
          let b = both_true (crosses row f 1) (not (later row (groups row) f)) k in
          let c = crosses_is row f 1 b.0 in
          eq-eqb 0 f (sym (lone row ok f c.0 (omega (arith, c.1, c.2)) (false_of_not (later row (groups row) f) b.1)))

      back : eqb 0 f ≡ true → (crosses row f 1 && not (later row (groups row) f)) ≡ true
      back k =
          let z = eqb-true 0 f k in
          true_both (crosses row f 1) (not (later row (groups row) f))
          (subst (λ (x : ℕ). crosses row x 1 ≡ true) z
          (is_crosses row 0 1 ok.sound.some (omega (arith, ok.sound.enters)) (omega (arith, ok.sound.leaves, ok.sound.long))))
          (not_false (later row (groups row) f)
          (not_passed (later row (groups row) f) (λ e. let x = later_real row ok (groups row) f e in omega (arith, x.0))))

  -- "The watched flow crosses all of them": the tree is the stretch from the first server to the last
  tree_whole : tree row ≡ inside row (top row 0 (groups row)) (path 1 (size row))
  unfolding tree
  tree_whole = ap (λ (g : Path). inside row (top row 0 (groups row)) g) (λ d. record { first = ok.sound.enters d; last = ok.sound.leaves d })

  -- the main law: the tree fits the row, for the watched flow, and spans it
  pub tree_fits : (Fits row watched 1 (tree row)) × (span (tree row) ≡ size row)
  unfolding Stretched Goal Fits span Clean groups
  tree_fits =
      let r : Goal (groups row) 1 (size row) root (inside row (top row 0 (groups row)) (path 1 (size row))) =
      stretched (groups row) 1 (size row) root (size row) (top row 0 (groups row)) (begins_all (groups row) (order_groups row ok) outer_all 0) none 1 tt
      (omega arith) (omega arith)
      (λ f e h. absurd (omega (arith, root.start f e))) (omega arith) in
      rw tree_whole (rw (← (fun_ext root_flows)) r.0, omega (arith, r.1))

  -- and so does the stretch of each group: of the groups behind it in the order, those inside its path are taken out
  pub node_fits : (g : Path) (gs : List Path) → Order row (g ∷ gs) → Outer (g ∷ gs) → (k : ℕ)
      → Fits row (outside row gs g.first) g.first (inside row (top row k gs) g) × (g.first + span (inside row (top row k gs) g) ≡ suc g.last)
  unfolding Order own
  node_fits g gs order outer k =
      let x = own g gs order outer k (begins_all gs order.2 (outer_tail g gs order outer) k) in
      (x.fits, x.ends)

  -- a group's own flows cross the whole of its stretch and are in no group inside it
  pub own_outside : (g : Path) (gs : List Path) → Order row (g ∷ gs) → (f : ℕ) → on row g f ≡ true → outside row gs g.first f ≡ true
  unfolding Order outside
  own_outside g gs order f e =
      let o = on_is row g f e in
      true_both (crosses row f g.first) (not (later row gs f))
      (is_crosses row f g.first o.1 (omega (arith, o.2)) (omega (arith, o.3, order.0.2)))
      (not_false (later row gs f) (not_passed (later row gs f) (λ h. go o (order.1 f h))))
    where
      go : (0 < f) × (f < length row.flows) × ((flow row f).first ≡ g.first) × ((flow row f).last ≡ g.last)
          → (g.first < (flow row f).first) ⊎ ((g.first ≡ (flow row f).first) × ((flow row f).last < g.last)) → ⊥
      go o (inl k) = omega (arith, o.2)
      go o (inr k) = omega (arith, o.3, k.1)
