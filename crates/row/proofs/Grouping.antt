-- The paths from each first server, the last servers from the furthest down: the groups that the row has so far, and behind them those still to come,
-- are all that it is to have. A path is some cross flow's exactly if its rates add up to more than 0, for every rate is at least 1.
-- Assumes nothing.
use mathlib.Core.Path.{◌≡◌, refl, sym, ap, ◌∙◌}
use mathlib.Core.Bool.{Bool, true, false}
use mathlib.Core.Logic.{◌⊎◌, inl, inr}
use mathlib.Core.List.{List, [], ◌∷◌, map, map-append}
use Prim.Native.Nat.{ℕ, zero, suc, ◌+◌, ◌-◌, ◌≤◌, ◌<◌}
use native.Mathlib.Numerals.{add-one}
use native.Mathlib.Omega.{arith}
use lib.ListN.{length, get_or, length-map}
use Rattle.tandem.specs.declared.Server.{Server}
use Rattle.tandem.specs.declared.Flow.{Flow}
use Rattle.tandem.specs.Sums.{any}
use Rattle.tandem.specs.Tandem.{Tandem, Path, size, flow, on, bursts, rates, no_flow, no_server}
use Rattle.tandem.specs.Lent.{row_in, Wide, Handed}
use Rattle.tandem.proofs.TestLaws.{not_passed, decide}
use Rattle.tandem.proofs.SumLaws.{some_weight, no_weight}
use Rattle.row.specs.declared.Row.{Row}
use Rattle.row.specs.declared.Sum.{Sum}
use Rattle.row.specs.Groups.{used, path, put, from, from_on, groups, grouped, reads}
use Rattle.row.specs.Alike.{Inside}
use Rattle.row.specs.Parts.{reach_of, Reached, place_of, no_sum, Summed, with_group, with_groups}
use Rattle.row.specs.RowFor.{padded, row_for}
use Rattle.row.proofs.Filling.{with_none, with_one, with_all, count_with, filled_with}
use Rattle.row.proofs.Reaching.{from_before, from_reach, reach_inside}

-- a row's groups from its flows with that first server, up to a last one
abbrev pub from_groups : Tandem → ℕ → ℕ → List Flow
from_groups row i l = map (grouped row) (from row i l)

from_put : (row : Tandem) (i l : ℕ) → 1 ≤ l → from row i l ≡ put (used row (path i l)) (path i l) (from row i (l - 1))
unfolding from
from_put row i zero h = absurd (omega arith)
from_put row i (suc m) h = let e : suc m - 1 ≡ m = omega arith in rw e

module _ (row : Tandem) (ok : Handed row) where
  wide : (f : ℕ) → f < length row.flows → Wide (size row) (flow row f)
  wide f h = ok.listed.ranges f h

  inside : Inside row
  inside f h = let w = wide f h in (omega (arith, w.path, w.ends), w.ends)

  onward : (f : ℕ) → f < length row.flows → (flow row f).first ≤ (flow row f).last
  onward f h = (wide f h).path

  used_moves : (g : Path) → used row g ≡ true → 0 < rates row (on row g)
  unfolding used rates
  used_moves g e = some_weight (length row.flows) (on row g) (λ f. (flow row f).rate) (λ f h k. ok.sound.moves f h) e

  moves_used : (g : Path) → 0 < rates row (on row g) → used row g ≡ true
  unfolding used rates
  moves_used g h = go (decide (any (length row.flows) (on row g)))
    where
      go : (any (length row.flows) (on row g) ≡ true) ⊎ (any (length row.flows) (on row g) ≡ false) → any (length row.flows) (on row g) ≡ true
      go (inl e) = e
      go (inr e) = let z = no_weight (length row.flows) (on row g) (λ f. (flow row f).rate) e in absurd (omega (arith, h, z))

  still_unused : (g : Path) → rates row (on row g) ≡ 0 → used row g ≡ false
  still_unused g h = not_passed (used row g) (λ e. let m = used_moves g e in omega arith)

  alone_reach : (i k : ℕ) → reach_of (row_in [] row.flows) i k ≡ reach_of row i k
  unfolding reach_of
  alone_reach i zero = refl
  alone_reach i (suc k) = rw (alone_reach i k)

  -- no path of a first server ends behind the furthest
  pub all_groups : (reaches : List ℕ) → Reached (row_in [] row.flows) (length row.flows) reaches → (i : ℕ) → i < 18
      → (get_or reaches i 0 ≤ size row) × (from_groups row i (get_or reaches i 0) ≡ from_groups row i (size row))
  all_groups reaches r i h =
      let e : get_or reaches i 0 ≡ reach_of row i (length row.flows) = r.reach_at i h ∙ alone_reach i (length row.flows) in
      let s = reach_inside row inside i in
      (omega (arith, e, s), ap (from_groups row i) e ∙ ap (map (grouped row)) (sym (from_reach row i (size row) s)))

  -- nor before its first server
  pub no_groups : (held : Row) (i l : ℕ) → l < i → with_groups held (from_groups row i l) ≡ held
  no_groups held i l h = ap (λ (ps : List Path). with_groups held (map (grouped row) ps)) (from_before row onward i l h) ∙ with_none held

-- the path from one server to another, and what stands at its place among the sums
pub record AtPath (row : Tandem) (i l : ℕ) (s : Sum) : Type 0 where
  pub handed : Handed row
  pub begins : 1 ≤ l
  pub is : s ≡ record { burst = bursts row (on row (path i l)); rate = rates row (on row (path i l)) }

pub sum_at_path : (row : Tandem) (sums : List Sum) (i l : ℕ) → Summed (row_in [] row.flows) (length row.flows) sums
    → 1 ≤ i → i ≤ 16 → 1 ≤ l → l ≤ 16
    → get_or sums (place_of i l) no_sum ≡ record { burst = bursts row (on row (path i l)); rate = rates row (on row (path i l)) }
unfolding bursts rates on
sum_at_path row sums i l summed a b c d = summed.sum_at i l a b c d

module _ {row : Tandem} {i l : ℕ} {s : Sum} (d : AtPath row i l s) (held : Row) where
  rate_is : s.rate ≡ rates row (on row (path i l))
  rate_is = ap (λ (x : Sum). x.rate) d.is

  from_more : 0 < s.rate → from row i l ≡ path i l ∷ from row i (l - 1)
  from_more h = from_put row i l d.begins
      ∙ ap (λ (u : Bool). put u (path i l) (from row i (l - 1))) (moves_used row d.handed (path i l) (omega (arith, rate_is)))

  from_same : s.rate ≤ 0 → from row i l ≡ from row i (l - 1)
  from_same h = from_put row i l d.begins
      ∙ ap (λ (u : Bool). put u (path i l) (from row i (l - 1))) (still_unused row d.handed (path i l) (omega (arith, rate_is)))

  -- the path as one flow, with its sums
  abbrev group : Flow
  group = record { first = i; last = l; burst = s.burst; rate = s.rate }

  group_is : group ≡ grouped row (path i l)
  unfolding grouped
  group_is = ap (λ (x : Sum). record { first = i; last = l; burst = x.burst; rate = x.rate }) d.is

  -- where some cross flow has the path, it is listed with its sums; where none has, it is passed over
  pub turned : (after : Row) → ((0 < s.rate) × (after ≡ with_group held group)) ⊎ ((s.rate ≤ 0) × (after ≡ held))
      → with_groups after (from_groups row i (l - 1)) ≡ with_groups held (from_groups row i l)
  turned after (inl (h, e)) =
      ap (λ (r : Row). with_groups r (from_groups row i (l - 1))) e
      ∙ ap (λ (g : Flow). with_groups (with_group held g) (from_groups row i (l - 1))) group_is
      ∙ with_one held (grouped row (path i l)) (from_groups row i (l - 1))
      ∙ ap (λ (ps : List Path). with_groups held (map (grouped row) ps)) (sym (from_more h))
  turned after (inr (h, e)) =
      ap (λ (r : Row). with_groups r (from_groups row i (l - 1))) e
      ∙ ap (λ (ps : List Path). with_groups held (map (grouped row) ps)) (sym (from_same h))

  pub room : 0 < s.rate → held.count < (with_groups held (from_groups row i l)).count
  room h = omega (
    arith,
    count_with held (from_groups row i l),
    ap (λ (ps : List Path). length (map (grouped row) ps)) (from_more h),
  )

-- a row's groups from n first servers
abbrev pub from_on_groups : Tandem → ℕ → ℕ → List Flow
from_on_groups row i n = map (grouped row) (from_on row i n)

module _ (row : Tandem) (held : Row) (i : ℕ) where
  -- the groups from one first server, and from those behind it
  pub next_with : i ≤ size row
      → with_groups (with_groups held (from_groups row i (size row))) (from_on_groups row (i + 1) (size row + 1 - (i + 1)))
      ≡ with_groups held (from_on_groups row i (size row + 1 - i))
  unfolding from_on
  next_with h =
      let e : size row + 1 - i ≡ suc (size row - i) = omega arith in
      let d : size row + 1 - (i + 1) ≡ size row - i = omega arith in
      rw (e, d, add-one i)
      (sym (ap (with_groups held) (map-append (grouped row) (from row i (size row)) (from_on row (suc i) (size row - i)))
      ∙ with_all held (from_groups row i (size row)) (from_on_groups row (suc i) (size row - i))))

  pub last_with : size row < i → with_groups held (from_on_groups row i (size row + 1 - i)) ≡ held
  unfolding from_on
  last_with h = let e : size row + 1 - i ≡ 0 = omega arith in rw e (with_none held)

module _ (row : Tandem) (mode g : ℕ) (few : length (groups row) ≤ 31) where
  -- a row with the watched flow alone, and with all groups behind it
  pub first_with : (servers : List Server) → servers ≡ padded 16 no_server row.servers
      → with_groups (record {
        size = size row;
        servers = servers;
        count = 1;
        groups = padded 32 no_flow (flow row 0 ∷ []);
        mode = mode;
        grid = g;
      }) (from_on_groups row 1 (size row + 1 - 1)) ≡ row_for row mode g
  unfolding groups reads
  first_with servers e =
      let n : size row + 1 - 1 ≡ size row = omega arith in
      rw (e, n) (filled_with (record {
        size = size row;
        servers = padded 16 no_server row.servers;
        count = 1;
        groups = padded 32 no_flow (flow row 0 ∷ []);
        mode = mode;
        grid = g;
      }) (flow row 0 ∷ []) (map (grouped row) (groups row)) refl refl (omega (arith, few, length-map (groups row) (grouped row))))

  pub room_with : (held : Row) (i : ℕ) → i ≤ size row → with_groups held (from_on_groups row i (size row + 1 - i)) ≡ row_for row mode g
      → held.count + length (from row i (size row)) ≤ 32
  unfolding reads
  room_with held i h e =
      let f = from_groups row i (size row) in
      let r = from_on_groups row (i + 1) (size row + 1 - (i + 1)) in
      omega (
        arith,
        few,
        ap (λ (z : Row). z.count) (next_with row held i h ∙ e),
        count_with (with_groups held f) r,
        count_with held f,
        length-map (from row i (size row)) (grouped row),
        length-map (groups row) (grouped row),
      )
