-- A row reads cross flows only as sums: alike rows with the same servers have the same groups, the same groups as flows, and the same outcome of
-- checks 6, 7 and 8. The rates at a server are the watched flow's and, path by path, the sums of the paths that have the server.
-- Assumes nothing.
use Rattle.std.specs.Prelude.{◌≡◌, Bool, false, ◌&&◌, get_or}
use Rattle.std.proofs.Math.Path.{refl, ap}
use Rattle.std.proofs.Common.{sym, ◌∙◌, subst, true≢false}
use Rattle.std.proofs.Math.Bool.{true}
use mathlib.Core.List.{List, [], ◌∷◌, map}
use Prim.Native.Nat.{ℕ, zero, suc, ◌+◌, ◌-◌, ◌<◌}
use native.Mathlib.Omega.{arith}
use Rattle.std.proofs.Math.Dec.{leb, ltb, eqb}
use Rattle.std.proofs.Math.ListN.{length}
use borrow.Author.Tests.{lt-ltb, ltb-true, le-leb, leb-true, eq-eqb, eqb-true}
use Rattle.tandem.specs.declared.Server.{Server}
use Rattle.tandem.specs.declared.Flow.{Flow}
use Rattle.tandem.specs.Sums.{weigh, total, any}
use Rattle.tandem.specs.Tandem.{Tandem, Path, size, server, flow, crosses, on, rates, no_server}
use Rattle.row.specs.Groups.{used, path, from, from_on, groups, grouped, reads}
use Rattle.tandem.specs.Crowded.{crowded, lowest_crowded}
use Rattle.row.specs.Checks.{overlaps, not_nested, too_many}
use Rattle.row.specs.Alike.{Alike, Inside}
use Rattle.tandem.proofs.TestLaws.{not_passed, both_true, true_both, same_test}
use Rattle.tandem.proofs.SumLaws.{total_add, total_zero, total_same, total_pick, total_by_key, any_at, any_found}
use Rattle.tandem.proofs.TandemLaws.{on_is, is_on, crosses_is, is_crosses}

abbrev mk : List Server → List Flow → Tandem
mk S F = record { servers = S; flows = F }

module _ (S : List Server) (F G : List Flow) (a : Alike (mk S F) (mk S G)) where
  from_alike : (i m : ℕ) → from (mk S F) i m ≡ from (mk S G) i m
  unfolding from
  from_alike i zero = refl
  from_alike i (suc m) = rw (a.paths (path i (suc m)), from_alike i m)

  from_on_alike : (n i : ℕ) → from_on (mk S F) i n ≡ from_on (mk S G) i n
  unfolding from_on
  from_on_alike zero i = refl
  from_on_alike (suc n) i = rw (from_alike i (length S), from_on_alike n (suc i))

  groups_alike : groups (mk S F) ≡ groups (mk S G)
  unfolding groups
  groups_alike = from_on_alike (length S) 1

  grouped_alike : (gs : List Path) → map (grouped (mk S F)) gs ≡ map (grouped (mk S G)) gs
  unfolding grouped
  grouped_alike [] = refl
  grouped_alike (g ∷ gs) = rw (a.burst_sums g, a.rate_sums g, grouped_alike gs)

  reads_alike : reads (mk S F) ≡ reads (mk S G)
  unfolding reads
  reads_alike = rw (a.watched, groups_alike, grouped_alike (groups (mk S G)))

same_list : (row other : Tandem) → row.servers ≡ other.servers → mk row.servers other.flows ≡ other
same_list row other s = λ i. record { servers = s i; flows = other.flows }

-- the same groups, in the same order
pub groups_same : (row other : Tandem) → row.servers ≡ other.servers → Alike row other → groups row ≡ groups other
groups_same row other s a =
    let e = same_list row other s in
    subst (λ (z : Tandem). groups row ≡ groups z) e (groups_alike row.servers row.flows other.flows (subst (λ (z : Tandem). Alike row z) (sym e) a))

-- and each has the same bucket
pub reads_same : (row other : Tandem) → row.servers ≡ other.servers → Alike row other → reads row ≡ reads other
reads_same row other s a =
    let e = same_list row other s in
    subst (λ (z : Tandem). reads row ≡ reads z) e (reads_alike row.servers row.flows other.flows (subst (λ (z : Tandem). Alike row z) (sym e) a))

-- a flow's path occurs in the other row
partner : (row other : Tandem) → Alike row other → (f : ℕ) → f < length row.flows
    → (h : ℕ) × (h < length other.flows) × ((flow other h).first ≡ (flow row f).first) × ((flow other h).last ≡ (flow row f).last)
unfolding used
partner row other a zero k = (0, a.some_other, ap (λ (z : Flow). z.first) (sym a.watched), ap (λ (z : Flow). z.last) (sym a.watched))
partner row other a (suc f) k =
    let g : Path = path (flow row (suc f)).first (flow row (suc f)).last in
    let u : used row g ≡ true = any_at (length row.flows) (suc f) (on row g) k (is_on row g (suc f) (omega arith) k refl refl) in
    let v : used other g ≡ true = sym (a.paths g) ∙ u in
    let w = any_found (length other.flows) (on other g) v in
    let o = on_is other g w.0 w.2 in
    (w.0, w.1, o.2, o.3)

crossed : (row other : Tandem) → Alike row other → not_nested row ≡ true → not_nested other ≡ true
unfolding not_nested overlaps
crossed row other a e =
    let x = any_found (length row.flows) (λ f. any (length row.flows) (overlaps row f)) e in
    let y = any_found (length row.flows) (overlaps row x.0) x.2 in
    let p = partner row other a x.0 x.1 in
    let q = partner row other a y.0 y.1 in
    any_at (length other.flows) p.0 (λ f. any (length other.flows) (overlaps other f)) p.1
    (any_at (length other.flows) q.0 (overlaps other p.0) q.1 (rw (p.2, p.3, q.2, q.3) y.2))

back : (row other : Tandem) → Alike row other → Alike other row
back row other a = record {
  some = a.some_other;
  some_other = a.some;
  watched = sym a.watched;
  paths = λ g. sym (a.paths g);
  burst_sums = λ g. sym (a.burst_sums g);
  rate_sums = λ g. sym (a.rate_sums g);
}

-- check 6 has the same outcome
pub nested_same : (row other : Tandem) → Alike row other → not_nested row ≡ not_nested other
nested_same row other a = same_test (not_nested row) (not_nested other) (crossed row other a) (crossed other row (back row other a))

module _ (row : Tandem) (W : ℕ) (small : (f : ℕ) → f < length row.flows → ((flow row f).first < W) × ((flow row f).last < W))
    (some : 0 < length row.flows) (j : ℕ) where
  -- a cross flow at the server
  other : ℕ → Bool
  other f = ltb 0 f && crosses row f j

  cell : (i l : ℕ) → total (length row.flows) (λ f. weigh ((other f && eqb i (flow row f).first) && eqb l (flow row f).last) (flow row f).rate)
      ≡ weigh (leb i j && leb j l) (rates row (on row (path i l)))
  unfolding other rates
  cell i l = go (leb i j && leb j l) refl
    where
      go : (b : Bool) → (leb i j && leb j l) ≡ b
          → total (length row.flows) (λ f. weigh ((other f && eqb i (flow row f).first) && eqb l (flow row f).last) (flow row f).rate)
          ≡ weigh (leb i j && leb j l) (total (length row.flows) (λ f. weigh (on row (path i l) f) (flow row f).rate))
      go true e = rw e (total_same (length row.flows) _ _
          (λ f h. ap (λ (b : Bool). weigh b (flow row f).rate)
          (same_test ((other f && eqb i (flow row f).first) && eqb l (flow row f).last) (on row (path i l) f) (there f) (here f h))))
        where
          x : (leb i j ≡ true) × (leb j l ≡ true)
          x = both_true (leb i j) (leb j l) e

          there : (f : ℕ) → ((other f && eqb i (flow row f).first) && eqb l (flow row f).last) ≡ true → on row (path i l) f ≡ true
          there f k =
              let p = both_true (other f && eqb i (flow row f).first) (eqb l (flow row f).last) k in
              let q = both_true (other f) (eqb i (flow row f).first) p.0 in
              let o = both_true (ltb 0 f) (crosses row f j) q.0 in
              is_on row (path i l) f (ltb-true 0 f o.0) (crosses_is row f j o.1).0 (sym (eqb-true i (flow row f).first q.1))
              (sym (eqb-true l (flow row f).last p.1))

          here : (f : ℕ) → f < length row.flows → on row (path i l) f ≡ true → ((other f && eqb i (flow row f).first) && eqb l (flow row f).last) ≡ true
          here f h k =
              let o = on_is row (path i l) f k in
              let c = is_crosses row f j h (omega (arith, o.2, leb-true i j x.0)) (omega (arith, o.3, leb-true j l x.1)) in
              rw (lt-ltb 0 f o.0, c, eq-eqb i (flow row f).first (sym o.2), eq-eqb l (flow row f).last (sym o.3))
      go false e = rw e (total_zero (length row.flows) _
          (λ f h. ap (λ (b : Bool). weigh b (flow row f).rate) (not_passed ((other f && eqb i (flow row f).first) && eqb l (flow row f).last) (never f))))
        where
          never : (f : ℕ) → ((other f && eqb i (flow row f).first) && eqb l (flow row f).last) ≡ true → ⊥
          never f k =
              let p = both_true (other f && eqb i (flow row f).first) (eqb l (flow row f).last) k in
              let q = both_true (other f) (eqb i (flow row f).first) p.0 in
              let o = both_true (ltb 0 f) (crosses row f j) q.0 in
              let c = crosses_is row f j o.1 in
              true≢false (sym (true_both (leb i j) (leb j l) (le-leb i j (omega (arith, c.1, eqb-true i (flow row f).first q.1)))
              (le-leb j l (omega (arith, c.2, eqb-true l (flow row f).last p.1)))) ∙ e)

  -- the rates at the server: the watched flow's, and path by path
  pub rates_by_path : rates row (λ f. crosses row f j)
      ≡ weigh (crosses row 0 j) (flow row 0).rate + total W (λ i. total W (λ l. weigh (leb i j && leb j l) (rates row (on row (path i l)))))
  unfolding rates other
  rates_by_path =
      let n = length row.flows in
      let r : ℕ → ℕ = λ f. (flow row f).rate in
      let a : total n (λ f. weigh (crosses row f j) (r f))
      ≡ total n (λ f. weigh (eqb f 0) (weigh (crosses row 0 j) (r 0)) + weigh (ltb 0 f && crosses row f j) (r f)) =
      total_same n _ _ (λ f h. split f) in
      let b = total_add n (λ f. weigh (eqb f 0) (weigh (crosses row 0 j) (r 0))) (λ f. weigh (ltb 0 f && crosses row f j) (r f)) in
      let c = total_pick n 0 (weigh (crosses row 0 j) (r 0)) some in
      let d : total n (λ f. weigh (ltb 0 f && crosses row f j) (r f))
      ≡ total W (λ i. total n (λ f. weigh ((ltb 0 f && crosses row f j) && eqb i (flow row f).first) (r f))) =
      total_by_key n W (λ f. ltb 0 f && crosses row f j) (λ f. (flow row f).first) r (λ f h k. (small f h).0) in
      let e : total W (λ i. total n (λ f. weigh ((ltb 0 f && crosses row f j) && eqb i (flow row f).first) (r f)))
      ≡ total W (λ i. total W (λ l. weigh (leb i j && leb j l) (rates row (on row (path i l))))) =
      total_same W _ _ (λ i h. total_by_key n W (λ f. (ltb 0 f && crosses row f j) && eqb i (flow row f).first) (λ f. (flow row f).last) r
      (λ f h k. (small f h).1) ∙ total_same W _ _ (λ l k. cell i l)) in
      omega (arith, a, b, c, d, e)
    where
      split : (f : ℕ) → weigh (crosses row f j) (flow row f).rate ≡ weigh (eqb f 0) (weigh (crosses row 0 j) (flow row 0).rate)
          + weigh (ltb 0 f && crosses row f j) (flow row f).rate
      split zero = omega arith
      split (suc f) = rw (lt-ltb 0 (suc f) (omega arith), not_passed (eqb (suc f) 0) (λ e. let z = eqb-true (suc f) 0 e in omega arith)) (omega arith)

-- check 7 has the same outcome, server by server
pub crowded_same : (row other : Tandem) → row.servers ≡ other.servers → Alike row other → Inside row → Inside other → (j : ℕ)
    → crowded row j ≡ crowded other j
unfolding crowded crosses
crowded_same row other s a i k j =
    let z : server row j ≡ server other j = ap (λ (l : List Server). get_or l (j - 1) no_server) s in
    let n : size row ≡ size other = ap length s in
    let W = suc (size row) in
    let x = rates_by_path row W (λ f h. (omega (arith, (i f h).0), omega (arith, (i f h).1))) a.some j in
    let y = rates_by_path other W (λ f h. (omega (arith, (k f h).0), omega (arith, (k f h).1))) a.some_other j in
    let c : crosses row 0 j ≡ crosses other 0 j = rw (lt-ltb 0 (length row.flows) a.some, lt-ltb 0 (length other.flows) a.some_other, a.watched) in
    let t : total W (λ i. total W (λ l. weigh (leb i j && leb j l) (rates row (on row (path i l)))))
    ≡ total W (λ i. total W (λ l. weigh (leb i j && leb j l) (rates other (on other (path i l))))) =
    total_same W _ _ (λ i h. total_same W _ _ (λ l k. ap (λ (v : ℕ). weigh (leb i j && leb j l) v) (a.rate_sums (path i l)))) in
    let d : rates row (λ f. crosses row f j) ≡ rates other (λ f. crosses other f j) =
    x ∙ sums (weigh (crosses row 0 j) (flow row 0).rate) _ _ _
    (ap (λ (b : Bool). weigh b (flow row 0).rate) c ∙ ap (λ (f : Flow). weigh (crosses other 0 j) f.rate) a.watched) t ∙ sym y in
    rw (z, d)
  where
    sums : (a b c d : ℕ) → a ≡ c → b ≡ d → a + b ≡ c + d
    sums a b c d h k = omega arith

pub lowest_same : (row other : Tandem) → row.servers ≡ other.servers → Alike row other → Inside row → Inside other
    → (n j : ℕ) → lowest_crowded row j n ≡ lowest_crowded other j n
unfolding lowest_crowded
lowest_same row other s a i k zero j = refl
lowest_same row other s a i k (suc n) j = rw (crowded_same row other s a i k j, lowest_same row other s a i k n (suc j))

-- check 8 has the same outcome
pub many_same : (row other : Tandem) → row.servers ≡ other.servers → Alike row other → (mode g : ℕ) → too_many row mode g ≡ too_many other mode g
unfolding too_many
many_same row other s a mode g = rw (groups_same row other s a)
