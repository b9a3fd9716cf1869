-- The rates added up for each server: a path's servers get a flow's rate one by one, the flows are added one by one, and the sums tell
-- which server is crowded.
-- Assumes nothing.
use mathlib.Core.Path.{◌≡◌, refl, sym, ap, ◌∙◌}
use mathlib.Core.Bool.{true, false, ◌&&◌}
use mathlib.Core.Logic.{◌⊎◌, inl, inr}
use mathlib.Core.List.{List}
use Prim.Native.Nat.{ℕ, suc, ◌+◌, ◌-◌, ◌≤◌, ◌<◌}
use native.Mathlib.Numerals.{add-one}
use native.Mathlib.Omega.{arith}
use lib.Dec.{ltb, leb}
use borrow.Author.Tests.{lt-ltb, le-leb, leb-true}
use lib.ListN.{length, get_or, take, replicate, get_or-replicate}
use borrow.Rule.Slice.PartMut.{mid_of, put_mid, mid_len, same_len_mid}
use Rattle.std.proofs.lemmas.List.{get_or-take, get_or-drop, length-take-le, places}
use Rattle.std.proofs.Common.{rules}
use Rattle.ground.proofs.OrderLaws.{le_or_lt}
use Rattle.sheet.specs.Valid.{Valid, server_count}
use Rattle.tandem.specs.declared.Flow.{Flow}
use Rattle.tandem.specs.declared.Server.{Server}
use Rattle.tandem.specs.Sums.{weigh, total}
use Rattle.tandem.specs.Tandem.{Tandem, server, flow, crosses, rates}
use Rattle.tandem.specs.Crowded.{crowded, lowest_crowded}
use Rattle.tandem.specs.OfSheet.{server_of, tandem_of}
use Rattle.tandem.proofs.OfSheetLaws.{row_flows, row_server, ranged}
use Rattle.tandem.specs.Ranges.{Ranged}
use Rattle.tandem.proofs.TestLaws.{not_passed, both_true}
use Rattle.tandem.proofs.SumLaws.{total_most, weigh_most}
use Rattle.tandem.specs.Loads.{Roomy, Added, Loaded}

-- a path without the server adds nothing there
off_path : (first last j x : ℕ) → (first ≤ j → last < j) → weigh (leb first j && leb j last) x ≡ 0
off_path first last j x h = rw (not_passed (leb first j && leb j last) (λ e.
    let b = both_true (leb first j) (leb j last) e in
    omega (arith, leb-true j last b.1, h (leb-true first j b.0))))

on_path_lem : (first last j x : ℕ) → first ≤ j → j ≤ last → weigh (leb first j && leb j last) x ≡ x
on_path_lem first last j x h k = rw (le-leb first j h, le-leb j last k)

-- a rate added to what stands at a path's servers, from the first to the last; the others are as they were
module _ (first last rate : ℕ) (before : List ℕ) (h : 1 ≤ first) (g : first ≤ last) (l : last ≤ 16) (r : Roomy before rate) where
  abbrev part : List ℕ
  part = mid_of (first - 1) (last - (first - 1)) before

  part_long : length part ≡ last - (first - 1)
  part_long = mid_len (first - 1) last before (omega (arith, r.long))

  part_at : (k : ℕ) → k < last - (first - 1) → get_or part k 0 ≡ get_or before (first + k - 1) 0
  part_at k a =
      let e : first - 1 + k ≡ first + k - 1 = omega arith in
      get_or-take _ _ k 0 a ∙ get_or-drop (first - 1) before k 0 ∙ ap (λ (i : ℕ). get_or before i 0) e

  pub part_fits : (k : ℕ) → k < length part → get_or part k 0 + rate < 18446744073709551616
  part_fits k a =
      let b : k < last - (first - 1) = omega (arith, part_long) in
      omega (arith, part_at k b, r.room (first + k) (omega arith) (omega arith))

  pub part_added : (now : List ℕ) → length now ≡ length part → ((k : ℕ) → k < length part → get_or now k 0 ≡ get_or part k 0 + rate)
      → Added first last rate before (put_mid (first - 1) (last - (first - 1)) before now)
  part_added now m e = record { long = same_len_mid (first - 1) (last - (first - 1)) before now m ∙ r.long; load_at = λ j a b. at j a b (le_or_lt first j) (le_or_lt j last) }
    where
      after : List ℕ
      after = put_mid (first - 1) (last - (first - 1)) before now

      long : length now ≡ last - (first - 1)
      long = m ∙ part_long

      at : (j : ℕ) → 1 ≤ j → j ≤ 16 → (first ≤ j) ⊎ (j < first) → (j ≤ last) ⊎ (last < j)
          → get_or after (j - 1) 0 ≡ get_or before (j - 1) 0 + weigh (leb first j && leb j last) rate
      at j a b (inl c) (inl d) =
          let k : j - first < last - (first - 1) = omega arith in
          let s : get_or after (j - 1) 0 ≡ get_or now (j - first) 0 = search (rules, places) in
          let i : first + (j - first) - 1 ≡ j - 1 = omega arith in
          let p : get_or part (j - first) 0 ≡ get_or before (j - 1) 0 = part_at (j - first) k ∙ ap (λ (z : ℕ). get_or before z 0) i in
          omega (arith, s, p, e (j - first) (omega (arith, part_long)), on_path_lem first last j rate c d)
      at j a b (inr c) d =
          let s : get_or after (j - 1) 0 ≡ get_or before (j - 1) 0 = search (rules, places) in
          omega (arith, s, off_path first last j rate (λ k. omega arith))
      at j a b (inl c) (inr d) =
          let s : get_or after (j - 1) 0 ≡ get_or before (j - 1) 0 = search (rules, places) in
          omega (arith, s, off_path first last j rate (λ k. d))

-- where the loop over the flows stands once it has read flow f
pub record Carrying (xs : List ℕ) (f : ℕ) (loads : List ℕ) (a : Flow) : Type 0 where
  pub sheet : Valid xs
  pub loaded : Loaded (tandem_of xs) f loads
  pub here : f < length (tandem_of xs).flows
  pub is : a ≡ flow (tandem_of xs) f

pub begin_loads : (row : Tandem) → Loaded row 0 (replicate 16 0)
unfolding total
begin_loads row = record { long = refl; load_at = λ j a b. get_or-replicate {A = ℕ} 16 (j - 1) 0 0 (omega arith) }

module _ {xs : List ℕ} {f : ℕ} {loads : List ℕ} {a : Flow} (d : Carrying xs f loads a) where
  abbrev row : Tandem
  row = tandem_of xs

  pub path_of : Ranged (server_count xs) 65535 a
  path_of = rw d.is (ranged xs d.sheet f d.here)

  -- at most 49 rates of at most 65,535
  pub has_room : Roomy loads a.rate
  has_room = record { long = d.loaded.long; room = fits }
    where
      each : (j g : ℕ) → g < length row.flows → weigh (crosses row g j) (flow row g).rate ≤ 65535
      each j g b = omega (arith, weigh_most (crosses row g j) (flow row g).rate, (ranged xs d.sheet g b).small_rate)

      fits : (j : ℕ) → 1 ≤ j → j ≤ 16 → get_or loads (j - 1) 0 + a.rate < 18446744073709551616
      fits j h k =
          let m = total_most f 65535 (λ g. weigh (crosses row g j) (flow row g).rate) (λ g b. each j g (omega (arith, d.here))) in
          omega (arith, d.here, row_flows xs, d.sheet.flows.most, d.loaded.load_at j h k, m, path_of.small_rate)

  pub turn_loads : (after : List ℕ) → Added a.first a.last a.rate loads after → Loaded row (f + 1) after
  unfolding total crosses
  turn_loads after t = record { long = t.long; load_at = λ j h k. rw (add-one f) (go j h k) }
    where
      adds : (j : ℕ) → weigh (leb a.first j && leb j a.last) a.rate ≡ weigh (crosses row f j) (flow row f).rate
      adds j = ap (λ (z : Flow). weigh (leb z.first j && leb j z.last) z.rate) d.is ∙ rw (lt-ltb f (length row.flows) d.here)

      go : (j : ℕ) → 1 ≤ j → j ≤ 16
          → get_or after (j - 1) 0 ≡ total f (λ g. weigh (crosses row g j) (flow row g).rate) + weigh (crosses row f j) (flow row f).rate
      go j h k = omega (arith, t.load_at j h k, d.loaded.load_at j h k, adds j)

-- the first n sums are those at the n servers: a server's rate below the sum there, the server is crowded
module _ (xs : List ℕ) (n j : ℕ) (loads : List ℕ) (v : Valid xs) (d : Loaded (tandem_of xs) (length (tandem_of xs).flows) loads) (e : n ≡ server_count xs)
  where
    pub sums_long : length (take n loads) ≡ n
    sums_long = length-take-le n loads (omega (arith, v.servers.most, d.long))

    sum_at : j < n → get_or (take n loads) j 0 ≡ rates (tandem_of xs) (λ f. crosses (tandem_of xs) f (j + 1))
    unfolding rates
    sum_at h =
        let i : j ≡ j + 1 - 1 = omega arith in
        get_or-take n loads j 0 h ∙ ap (λ (z : ℕ). get_or loads z 0) i ∙ d.load_at (j + 1) (omega arith) (omega (arith, v.servers.most))

    pub crowded_is : (s : Server) → s ≡ server_of xs j → j < n → crowded (tandem_of xs) (j + 1) ≡ ltb s.rate (get_or (take n loads) j 0)
    unfolding crowded
    crowded_is s q h =
        let i : j + 1 - 1 ≡ j = omega arith in
        let r : server (tandem_of xs) (j + 1) ≡ s = row_server xs (j + 1) (omega arith) ∙ ap (server_of xs) i ∙ sym q in
        rw (r, sum_at h)

-- the loop over the servers: j are passed, and one more
module _ (row : Tandem) (n j : ℕ) where
  pub lowest_here : j < n → crowded row (j + 1) ≡ true → lowest_crowded row (j + 1) (n - j) ≡ j + 1
  unfolding lowest_crowded
  lowest_here h k = let e : n - j ≡ suc (n - (j + 1)) = omega arith in rw (e, k)

  pub lowest_behind : j < n → crowded row (j + 1) ≡ false → lowest_crowded row (j + 1 + 1) (n - (j + 1)) ≡ lowest_crowded row (j + 1) (n - j)
  unfolding lowest_crowded
  lowest_behind h k = let e : n - j ≡ suc (n - (j + 1)) = omega arith in rw (e, k, add-one (j + 1))

  pub lowest_none : n ≤ j → lowest_crowded row (j + 1) (n - j) ≡ 0
  unfolding lowest_crowded
  lowest_none h = let e : n - j ≡ 0 = omega arith in rw e
