-- Check 6 and the groups by the furthest last server of each first one. Two paths cross exactly if some flow begins behind a flow's first server, up to
-- its last, and ends behind it: and then the furthest that begins there does. And no path from a server on ends behind the furthest.
-- Assumes nothing.
use mathlib.Core.Path.{◌≡◌, refl, sym, ap, ◌∙◌}
use mathlib.Core.Bool.{Bool, true, false}
use mathlib.Core.Logic.{◌⊎◌, inl, inr}
use mathlib.Core.List.{List, []}
use Prim.Native.Nat.{ℕ, zero, suc, ◌+◌, ◌-◌, ◌≤◌, ◌<◌, max}
use native.Mathlib.Numerals.{add-one}
use native.Mathlib.Omega.{arith}
use lib.Dec.{ltb, eqb}
use borrow.Author.Tests.{lt-ltb, ltb-true, eq-eqb, eqb-true, eqb-false}
use lib.ListN.{length, get_or, set, replicate, get_or-replicate, length-set}
use Rattle.std.specs.Prelude.{slice_range, drop}
use Rattle.std.proofs.lemmas.List.{get_or-take, get_or-drop, length-drop, length-take-le}
use Rattle.std.specs.List.{list_any}
use lib.Seq.{get_or-set_same, get_or-set_other}
use Rattle.tandem.specs.declared.Flow.{Flow}
use Rattle.tandem.specs.Sums.{weigh, any}
use Rattle.tandem.specs.Tandem.{Tandem, Path, size, flow, on, no_flow}
use Rattle.tandem.specs.Lent.{row_in, Listed}
use Rattle.ground.proofs.OrderLaws.{le_or_lt}
use Rattle.tandem.proofs.TestLaws.{not_passed, same_test}
use Rattle.tandem.proofs.SumLaws.{any_at, any_found, none_passes}
use Rattle.tandem.proofs.TandemLaws.{on_is}
use Rattle.row.specs.Groups.{used, path, from}
use Rattle.row.specs.Checks.{not_nested}
use Rattle.row.specs.Sentences.{Crossed}
use Rattle.row.proofs.CheckLaws.{not_nested_crossed, crossed_not_nested}
use Rattle.row.specs.Alike.{Inside}
use Rattle.row.specs.Parts.{reach_of, Reached, overreached_by, overreached}
use Rattle.row.proofs.Checking.{list_any_any}

pub begin_reaches : (row : Tandem) → Reached row 0 (replicate 18 0)
unfolding reach_of
begin_reaches row = record { long = refl; reach_at = λ i h. get_or-replicate {A = ℕ} 18 i 0 0 h }

-- one flow more
pub turn_reaches : (row : Tandem) (n : ℕ) (reaches : List ℕ) (m : ℕ) → Reached row n reaches → (flow row n).first < 18
    → m ≡ max (get_or reaches (flow row n).first 0) (flow row n).last → Reached row (n + 1) (set reaches (flow row n).first m)
unfolding reach_of
turn_reaches row n reaches m d l q =
    record { long = length-set reaches a m ∙ d.long; reach_at = λ i h. rw (add-one n) (go i h (eqb a i) refl) }
  where
    a : ℕ
    a = (flow row n).first

    go : (i : ℕ) → i < 18 → (b : Bool) → eqb a i ≡ b → get_or (set reaches a m) i 0 ≡ max (reach_of row i n) (weigh (eqb a i) (flow row n).last)
    go i h true t =
        let e : a ≡ i = eqb-true a i t in
        let g : get_or (set reaches a m) a 0 ≡ m = get_or-set_same reaches a m 0 (omega (arith, d.long)) in
        let w : get_or (set reaches a m) i 0 ≡ m = ap (λ (k : ℕ). get_or (set reaches a m) k 0) (sym e) ∙ g in
        let r : get_or reaches a 0 ≡ reach_of row i n = ap (λ (k : ℕ). get_or reaches k 0) e ∙ d.reach_at i h in
        rw t (omega (arith, w, q, r))
    go i h false t =
        let e : i ≡ a → ⊥ = λ k. eqb-false a i t (sym k) in
        rw t (omega (arith, get_or-set_other reaches a i m 0 e, d.reach_at i h))

-- no flow that begins at server i ends behind the furthest
reach_covers : (row : Tandem) (i n f : ℕ) → f < n → (flow row f).first ≡ i → (flow row f).last ≤ reach_of row i n
unfolding reach_of
reach_covers row i zero f h e = absurd (omega arith)
reach_covers row i (suc n) f h e = go (le_or_lt n f) (reach_covers row i n f)
  where
    go : (n ≤ f) ⊎ (f < n) → (f < n → (flow row f).first ≡ i → (flow row f).last ≤ reach_of row i n)
        → (flow row f).last ≤ max (reach_of row i n) (weigh (eqb (flow row n).first i) (flow row n).last)
    go (inl k) r =
        let d : n ≡ f = omega arith in
        let a : (flow row n).first ≡ i = ap (λ (z : ℕ). (flow row z).first) d ∙ e in
        let b : (flow row n).last ≡ (flow row f).last = ap (λ (z : ℕ). (flow row z).last) d in
        rw (eq-eqb (flow row n).first i a) (omega (arith, b))
    go (inr k) r = omega (arith, r k e)

-- and one of them ends there
reach_comes : (row : Tandem) (i n : ℕ) → 0 < reach_of row i n → (f : ℕ) × (f < n) × ((flow row f).first ≡ i) × ((flow row f).last ≡ reach_of row i n)
unfolding reach_of
reach_comes row i zero h = absurd (omega arith)
reach_comes row i (suc n) h = go (eqb (flow row n).first i) refl (reach_comes row i n) h
  where
    go : (b : Bool) → eqb (flow row n).first i ≡ b
        → (0 < reach_of row i n → (f : ℕ) × (f < n) × ((flow row f).first ≡ i) × ((flow row f).last ≡ reach_of row i n))
        → 0 < max (reach_of row i n) (weigh b (flow row n).last)
        → (f : ℕ) × (f < suc n) × ((flow row f).first ≡ i) × ((flow row f).last ≡ max (reach_of row i n) (weigh (eqb (flow row n).first i) (flow row n).last))
    go false t r p = let x = r (omega arith) in rw t (x.0, omega (arith, x.1), x.2, omega (arith, x.3))
    go true t r p = by (le_or_lt (flow row n).last (reach_of row i n))
      where
        by : ((flow row n).last ≤ reach_of row i n) ⊎ (reach_of row i n < (flow row n).last)
            → (f : ℕ) × (f < suc n) × ((flow row f).first ≡ i) × ((flow row f).last ≡ max (reach_of row i n) (weigh (eqb (flow row n).first i) (flow row n).last))
        by (inl k) = let x = r (omega arith) in rw t (x.0, omega (arith, x.1), x.2, omega (arith, x.3))
        by (inr k) = rw t (n, omega arith, eqb-true (flow row n).first i t, omega arith)

-- THE LAW of check 6: some flow is overreached exactly if two paths cross
module _ (row : Tandem) where
  abbrev N : ℕ
  N = length row.flows

  crossed_reached : Crossed row → any N (overreached row N) ≡ true
  unfolding overreached
  crossed_reached c =
      let a = flow row c.f in
      let b = flow row c.h in
      let d = b.first - (a.first + 1) in
      let e : a.first + 1 + d ≡ b.first = omega (arith, c.begins_behind) in
      let k = reach_covers row (a.first + 1 + d) N c.h c.h_flows (sym e) in
      let l : a.last < reach_of row (a.first + 1 + d) N = omega (arith, k, c.ends_behind) in
      any_at N c.f (λ f. any ((flow row f).last - (flow row f).first) (λ d. ltb (flow row f).last (reach_of row ((flow row f).first + 1 + d) N))) c.f_flows
      (any_at (a.last - a.first) d (λ d. ltb a.last (reach_of row (a.first + 1 + d) N)) (omega (arith, c.begins_inside, c.begins_behind)) (lt-ltb _ _ l))

  reached_crossed : any N (overreached row N) ≡ true → Crossed row
  unfolding overreached
  reached_crossed h =
      let x = any_found N (λ f. any ((flow row f).last - (flow row f).first) (λ d. ltb (flow row f).last (reach_of row ((flow row f).first + 1 + d) N))) h in
      let a = flow row x.0 in
      let y = any_found (a.last - a.first) (λ d. ltb a.last (reach_of row (a.first + 1 + d) N)) x.2 in
      let l = ltb-true a.last (reach_of row (a.first + 1 + y.0) N) y.2 in
      let w = reach_comes row (a.first + 1 + y.0) N (omega (arith, l)) in
      record {
        f = x.0;
        h = w.0;
        f_flows = x.1;
        h_flows = w.1;
        begins_behind = omega (arith, w.2);
        begins_inside = omega (arith, w.2, y.1);
        ends_behind = omega (arith, w.3, l);
      }

  pub nested_by_reach : any N (overreached row N) ≡ not_nested row
  nested_by_reach =
      same_test (any N (overreached row N)) (not_nested row) (λ e. crossed_not_nested row (reached_crossed e)) (λ e. crossed_reached (not_nested_crossed row e))

any_same : (n : ℕ) (P Q : ℕ → Bool) → ((d : ℕ) → d < n → P d ≡ Q d) → any n P ≡ any n Q
unfolding any
any_same zero P Q h = refl
any_same (suc n) P Q h = rw (any_same n P Q (λ d l. h d (omega arith)), h n (omega arith))

-- check 6 of one flow by the array
overreached_is : (row : Tandem) (n f : ℕ) (reaches : List ℕ) → Reached row n reaches → (flow row f).first ≤ (flow row f).last → (flow row f).last ≤ 16
    → overreached_by reaches (flow row f) ≡ overreached row n f
unfolding overreached
overreached_is row n f reaches r p l =
    list_any_any (λ reach. ltb a.last reach) 0 reached
    ∙ ap (λ (k : ℕ). any k (λ d. ltb a.last (get_or reached d 0))) long
    ∙ any_same (a.last - a.first) _ _ (λ d h. ap (λ (k : ℕ). ltb a.last k) (at_place d h))
  where
    a : Flow
    a = flow row f

    reached : List ℕ
    reached = slice_range reaches (a.first + 1) (a.last + 1)

    long : length reached ≡ a.last - a.first
    long = omega (
      arith,
      length-take-le (a.last + 1 - (a.first + 1)) (drop (a.first + 1) reaches) (omega (arith, length-drop (a.first + 1) reaches, r.long)),
    )

    at_place : (d : ℕ) → d < a.last - a.first → get_or reached d 0 ≡ reach_of row (a.first + 1 + d) n
    at_place d h =
        get_or-take (a.last + 1 - (a.first + 1)) (drop (a.first + 1) reaches) d 0 (omega arith) ∙ get_or-drop (a.first + 1) reaches d 0
        ∙ r.reach_at (a.first + 1 + d) (omega arith)

-- and of all
pub not_nested_is : (flows : List Flow) (reaches : List ℕ) → Listed 16 flows → Reached (row_in [] flows) (length flows) reaches
    → list_any (overreached_by reaches) flows ≡ not_nested (row_in [] flows)
not_nested_is flows reaches k r =
    let row : Tandem = row_in [] flows in
    list_any_any (overreached_by reaches) no_flow flows
    ∙ any_same (length flows) _ _ (λ f h. let w = k.ranges f h in overreached_is row (length flows) f reaches r w.path w.ends)
    ∙ nested_by_reach row

-- the groups from a first server on
module _ (row : Tandem) where
  -- nobody's path
  unused : (g : Path) → ((f : ℕ) → f < length row.flows → (flow row f).first ≡ g.first → (flow row f).last ≡ g.last → ⊥) → used row g ≡ false
  unfolding used
  unused g h = none_passes (length row.flows) (on row g) (λ f l. not_passed (on row g f) (λ e. h f l (on_is row g f e).2 (on_is row g f e).3))

  -- none ends behind the furthest
  pub from_reach : (i m : ℕ) → reach_of row i (length row.flows) ≤ m → from row i m ≡ from row i (reach_of row i (length row.flows))
  unfolding from
  from_reach i zero h = let e : 0 ≡ reach_of row i (length row.flows) = omega arith in ap (λ (n : ℕ). from row i n) e
  from_reach i (suc m) h = go (le_or_lt (reach_of row i (length row.flows)) m) (from_reach i m)
    where
      go : (reach_of row i (length row.flows) ≤ m) ⊎ (m < reach_of row i (length row.flows))
          → (reach_of row i (length row.flows) ≤ m → from row i m ≡ from row i (reach_of row i (length row.flows)))
          → from row i (suc m) ≡ from row i (reach_of row i (length row.flows))
      go (inl k) r =
          rw (unused (path i (suc m)) (λ f l a b. let c = reach_covers row i (length row.flows) f l a in omega (arith, b, c))) (r k)
      go (inr k) r = let e : suc m ≡ reach_of row i (length row.flows) = omega arith in ap (λ (n : ℕ). from row i n) e

  -- nor before its first server
  pub from_before : ((f : ℕ) → f < length row.flows → (flow row f).first ≤ (flow row f).last) → (i m : ℕ) → m < i → from row i m ≡ []
  unfolding from
  from_before on i zero h = refl
  from_before on i (suc m) h =
      rw (unused (path i (suc m)) (λ f l a b. let c = on f l in omega (arith, a, b, c)), from_before on i m (omega arith))

  pub reach_inside : Inside row → (i : ℕ) → reach_of row i (length row.flows) ≤ size row
  reach_inside inside i = go (le_or_lt (reach_of row i (length row.flows)) 0)
    where
      go : (reach_of row i (length row.flows) ≤ 0) ⊎ (0 < reach_of row i (length row.flows)) → reach_of row i (length row.flows) ≤ size row
      go (inl k) = omega arith
      go (inr k) = let x = reach_comes row i (length row.flows) k in omega (arith, x.3, (inside x.0 x.1).1)
