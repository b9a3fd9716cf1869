-- The sums of each path: a flow's burst and rate are added at the place of its path and nowhere else, for the place and the path tell each other.
-- Assumes nothing.
use mathlib.Core.Path.{◌≡◌, refl, sym, ap, ◌∙◌}
use mathlib.Core.Bool.{Bool, true, false}
use mathlib.Core.List.{List, []}
use Prim.Native.Nat.{ℕ, ◌+◌, ◌*◌, ◌-◌, ◌≤◌, ◌<◌}
use native.Mathlib.Numerals.{add-one}
use Rattle.std.proofs.Common.{add-zero}
use native.Mathlib.Omega.{arith}
use lib.Dec.{eqb}
use borrow.Author.Tests.{eqb-true, eqb-false}
use lib.ListN.{length, get_or, set, replicate, take, drop, get_or-replicate, length-set}
use Rattle.std.proofs.lemmas.List.{get_or-take, length-take}
use Rattle.std.proofs.lemmas.Grind.{get_or_after_one}
use lib.Seq.{get_or-set_same, get_or-set_other}
use Rattle.tandem.specs.declared.Flow.{Flow}
use Rattle.tandem.specs.Sums.{weigh, total}
use Rattle.tandem.specs.Tandem.{Tandem, flow, on, no_flow}
use Rattle.tandem.specs.Lent.{row_in, Wide, Listed}
use Rattle.tandem.proofs.TestLaws.{not_passed}
use Rattle.tandem.proofs.SumLaws.{total_most, weigh_most}
use Rattle.tandem.proofs.TandemLaws.{on_is, is_on}
use Rattle.row.specs.declared.Sum.{Sum}
use Rattle.row.specs.Groups.{path}
use Rattle.row.specs.Parts.{place_of, no_sum, summed_at, Summed}

-- a sum with a flow's burst and rate
abbrev pub with_flow : Sum → Flow → Sum
with_flow s a = record { burst = s.burst + a.burst; rate = s.rate + a.rate }

-- the same where a test passes
abbrev weighed : Sum → Bool → Flow → Sum
weighed s b a = record { burst = s.burst + weigh b a.burst; rate = s.rate + weigh b a.rate }

weighed_none : (s : Sum) (b : Bool) (a : Flow) → b ≡ false → s ≡ weighed s b a
weighed_none s b a e = rw e (simp add-zero)

weighed_flow : (s : Sum) (b : Bool) (a : Flow) → b ≡ true → with_flow s a ≡ weighed s b a
weighed_flow s b a e = rw e refl

pub begin_sums : (row : Tandem) → Summed row 1 (replicate 256 no_sum)
unfolding total on
begin_sums row = record { long = refl; sum_at = λ i l a b c d. get_or-replicate {A = Sum} 256 (place_of i l) no_sum no_sum (omega arith) }

-- the flows behind the first, by number
pub tail_below : (flows : List Flow) (k : ℕ) → k < length (take (length flows - 1) (drop 1 flows)) → k < length flows - 1
tail_below flows k h = omega (arith, length-take (length flows - 1) (drop 1 flows))

pub tail_at : (flows : List Flow) (k : ℕ) (d : Flow) → k < length flows - 1 → get_or (take (length flows - 1) (drop 1 flows)) k d ≡ get_or flows (k + 1) d
tail_at flows k d h =
    get_or-take (length flows - 1) (drop 1 flows) k d h ∙ get_or_after_one flows k d ∙ let e : 1 + k ≡ k + 1 = omega arith in ap (λ (i : ℕ). get_or flows i d) e

pub tail_wide : (flows : List Flow) → Listed 16 flows → (k : ℕ) → k < length (take (length flows - 1) (drop 1 flows))
    → Wide 16 (get_or (take (length flows - 1) (drop 1 flows)) k no_flow)
tail_wide flows l k h = let b = tail_below flows k h in rw (tail_at flows k no_flow b) (l.ranges (k + 1) (omega arith))

-- where the loop stands once it has read flow f and the place of its path
pub record Adding (flows : List Flow) (f : ℕ) (sums : List Sum) (a : Flow) (place : ℕ) : Type 0 where
  pub listed : Listed 16 flows
  pub summed : Summed (row_in [] flows) f sums
  pub some : 0 < f
  pub here : f < length flows
  pub is : a ≡ flow (row_in [] flows) f
  pub at : place ≡ place_of a.first a.last

module _ {flows : List Flow} {f : ℕ} {sums : List Sum} {a : Flow} {place : ℕ} (d : Adding flows f sums a place) where
  abbrev row : Tandem
  row = row_in [] flows

  wide : Wide 16 a
  wide = rw d.is (d.listed.ranges f d.here)

  pub place_small : place < 256
  place_small = omega (arith, wide.begins, wide.path, wide.ends, d.at)

  -- the sum at the place
  held : get_or sums place no_sum ≡ summed_at row f (path a.first a.last)
  held = rw d.at (d.summed.sum_at a.first a.last wide.begins (omega (arith, wide.path, wide.ends)) (omega (arith, wide.begins, wide.path)) wide.ends)

  -- no sum is large
  small_part : (part : Flow → ℕ) (most : ℕ) → ((h : ℕ) → h < length flows → part (flow row h) ≤ most)
      → total f (λ h. weigh (on row (path a.first a.last) h) (part (flow row h))) ≤ f * most
  small_part part most each = total_most f most (λ h. weigh (on row (path a.first a.last) h) (part (flow row h)))
      (λ h b. let k : h < length flows = omega (arith, d.here) in omega (arith, weigh_most (on row (path a.first a.last) h) (part (flow row h)), each h k))

  pub small_burst : (get_or sums place no_sum).burst ≤ 822083535
  small_burst = omega (
    arith,
    d.here,
    d.listed.few,
    ap (λ (z : Sum). z.burst) held,
    small_part (λ (z : Flow). z.burst) 16777215 (λ h b. (d.listed.ranges h b).small_burst),
  )

  pub small_rate : (get_or sums place no_sum).rate ≤ 3211215
  small_rate = omega (
    arith,
    d.here,
    d.listed.few,
    ap (λ (z : Sum). z.rate) held,
    small_part (λ (z : Flow). z.rate) 65535 (λ h b. (d.listed.ranges h b).small_rate),
  )

  pub small_flow : (a.burst ≤ 16777215) × (a.rate ≤ 65535)
  small_flow = (wide.small_burst, wide.small_rate)

  module _ (i l : ℕ) (p : 1 ≤ i) (q : i ≤ 16) (s : 1 ≤ l) (t : l ≤ 16) where
    at_place : place_of i l ≡ place → on row (path i l) f ≡ true
    at_place e =
        let x : a.first ≡ i = omega (arith, wide.begins, wide.path, wide.ends, d.at) in
        let y : a.last ≡ l = omega (arith, wide.begins, wide.path, wide.ends, d.at) in
        is_on row (path i l) f d.some d.here (ap (λ (z : Flow). z.first) (sym d.is) ∙ x) (ap (λ (z : Flow). z.last) (sym d.is) ∙ y)

    off_place : (place_of i l ≡ place → ⊥) → on row (path i l) f ≡ false
    off_place e = not_passed (on row (path i l) f) (λ k.
        let o = on_is row (path i l) f k in
        let x : a.first ≡ i = ap (λ (z : Flow). z.first) d.is ∙ o.2 in
        let y : a.last ≡ l = ap (λ (z : Flow). z.last) d.is ∙ o.3 in
        e (omega (arith, x, y, d.at)))

    -- what stands at a path's place once the flow is added
    turn_at : (b : Bool) → eqb (place_of i l) place ≡ b
        → get_or (set sums place (with_flow (get_or sums place no_sum) a)) (place_of i l) no_sum
        ≡ weighed (get_or sums (place_of i l) no_sum) (on row (path i l) f) a
    turn_at true e =
        let k : place_of i l ≡ place = eqb-true (place_of i l) place e in
        let m : place < length sums = omega (arith, d.summed.long, place_small) in
        rw k (get_or-set_same sums place (with_flow (get_or sums place no_sum) a) no_sum m)
        ∙ weighed_flow (get_or sums place no_sum) (on row (path i l) f) a (at_place k)
        ∙ ap (λ (z : ℕ). weighed (get_or sums z no_sum) (on row (path i l) f) a) (sym k)
    turn_at false e =
        let k : place_of i l ≡ place → ⊥ = eqb-false (place_of i l) place e in
        get_or-set_other sums place (place_of i l) (with_flow (get_or sums place no_sum) a) no_sum k
        ∙ weighed_none (get_or sums (place_of i l) no_sum) (on row (path i l) f) a (off_place k)

  -- one flow more
  pub turn_sums : Summed row (f + 1) (set sums place (with_flow (get_or sums place no_sum) a))
  unfolding total
  turn_sums =
      record {
        long = length-set sums place (with_flow (get_or sums place no_sum) a) ∙ d.summed.long;
        sum_at = λ i l p q s t. rw (add-one f) (turn_at i l p q s t (eqb (place_of i l) place) refl
            ∙ ap (λ (z : Sum). weighed z (on row (path i l) f) a) (d.summed.sum_at i l p q s t)
            ∙ ap (weighed (summed_at row f (path i l)) (on row (path i l) f)) d.is);
      }
