-- What a turn of the reader's loop does to what is left to scan.
-- Assumes nothing.
use Prim.Native.Nat.{ℕ, zero, suc, ◌+◌, ◌-◌, ◌*◌, ◌^◌, ◌≤◌, ◌<◌}
use mathlib.Core.Path.{◌≡◌, refl, sym, ap, ◌∙◌}
use mathlib.Core.Logic.{⊎_elim}
use mathlib.Core.List.{List}
use mathlib.Core.Bool.{Bool, true, false, ◌&&◌, and-false}
use native.Mathlib.Nat.{mul-add, mul_assoc, mul_comm, mul-le-mul_left, mul-le-mul_right, mul-le-mul, pow-suc, one-le-pow}
use native.Mathlib.Numerals.{add-one}
use native.Mathlib.Omega.{arith}
use lib.ListN.{length, get_or, drop, drop_of_length-le}
use lib.Seq.{drop-cons}
use lib.Dec.{eqb}
use borrow.Author.Tests.{lt-ltb, le-ltb}
use Rattle.ground.proofs.OrderLaws.{lt_or_ge}
use Rattle.std.specs.Prelude.{Ok, Err}
use Rattle.numbers.specs.declared.Fault.TheVariants.{Ends, Large}
use Rattle.numbers.specs.Inside.{settled, fifth_of, Continues}
use Rattle.numbers.specs.Seven.{Run, ends, long, run, push, scan, judge, number_at}

-- j groups stand below these, worth `sum`, and w is the weight of the next
abbrev pub below : ℕ → ℕ → ℕ → Run → Run
below sum w j ends = ends
below sum w j long = long
below sum w j (run v k z) = run (sum + w * v) (j + k) z

pub below_none : (r : Run) → r ≡ below 0 1 0 r
below_none ends = refl
below_none long = refl
below_none (run v k z) = cc (the_value v, the_count k)
  where
    the_value : (x : ℕ) → 0 + 1 * x ≡ x
    the_value x = omega arith

    the_count : (x : ℕ) → 0 + x ≡ x
    the_count x = omega arith

value_more : (sum w d v : ℕ) → sum + w * (d + 128 * v) ≡ sum + d * w + w * 128 * v
value_more sum w d v = rw (mul-add, mul_assoc) (omega (arith, mul_comm w d))

pub below_more : (sum w j d : ℕ) (r : Run) → below sum w j (push d r) ≡ below (sum + d * w) (w * 128) (j + 1) r
below_more sum w j d ends = refl
below_more sum w j d long = refl
below_more sum w j d (run v k z) =
    let e : j + (k + 1) ≡ j + 1 + k = omega arith in
    cc (value_more sum w d v)

-- the weight of a group that may still come
pub weight_cap : (w n : ℕ) → w * 128 ^ suc n ≡ 34359738368 → w ≤ 268435456
weight_cap w n e =
    let h : w * 128 ≤ w * 128 ^ suc n = mul-le-mul_left w (omega (arith, pow-suc 128 n, one-le-pow n 128 (omega arith))) in
    omega arith

pub weight_next : (w n : ℕ) → w * 128 ^ suc n ≡ 34359738368 → w * 128 * 128 ^ n ≡ 34359738368
weight_next w n e = mul_assoc w 128 (128 ^ n) ∙ ap (λ (x : ℕ). w * x) (mul_comm 128 (128 ^ n) ∙ sym (pow-suc 128 n)) ∙ e

pub scan_end : (s : List ℕ) (p n : ℕ) → length s ≤ p → scan (suc n) (drop p s) ≡ ends
scan_end s p n h = rw (drop_of_length-le s h)

pub scan_last : (s : List ℕ) (p n : ℕ) → p < length s → get_or s p 0 < 128 → scan (suc n) (drop p s) ≡ run (get_or s p 0) 1 (get_or s p 0)
scan_last s p n h l = rw (drop-cons s p 0) (rw (lt-ltb (get_or s p 0) 128 l))

pub scan_more : (s : List ℕ) (p n : ℕ) → p < length s → 128 ≤ get_or s p 0
    → scan (suc n) (drop p s) ≡ push (get_or s p 0 - 128) (scan n (drop (p + 1) s))
scan_more s p n h l = rw (add-one, drop-cons s p 0) (rw (le-ltb (get_or s p 0) 128 l))

-- where the reader stands: the groups passed, up to p, are worth `sum`, and `more` groups may follow the next
pub record Going (s : List ℕ) (at p w sum : ℕ) : Type 0 where
  pub more : ℕ
  pub few : more ≤ 3
  pub place : p + more ≡ at + 4
  pub weight : w * 128 ^ suc more ≡ 34359738368
  pub small : sum < w
  pub same : scan 5 (drop at s) ≡ below sum w (4 - more) (scan (suc more) (drop p s))

pub start : (s : List ℕ) (at first : ℕ) → Continues s at first → Going s at (at + 1) 128 first
start s at first c =
    let d : get_or s at 0 - 128 ≡ first = omega (arith, c.group) in
    let v : 0 + first * 1 ≡ first = omega arith in
    let h : scan 5 (drop at s) ≡ below first 128 1 (scan 4 (drop (at + 1) s)) =
    scan_more s at 4 c.inside (omega (arith, c.group)) ∙ below_none (push (get_or s at 0 - 128) (scan 4 (drop (at + 1) s))) ∙ rw (d, below_more, v) in
    record { more = 3; few = omega arith; place = omega arith; weight = refl; small = c.small; same = h }

-- a number of one group, and none where the bytes have ended
pub no_group : (s : List ℕ) (at : ℕ) → length s ≤ at → number_at s at ≡ Err Ends
unfolding number_at
no_group s at h = rw (scan_end s at 4 h)

pub one_group : (s : List ℕ) (at b : ℕ) → at < length s → b ≡ get_or s at 0 → b < 128 → number_at s at ≡ Ok (b, at + 1)
unfolding number_at
one_group s at b h e l = rw (scan_last s at 4 h (omega arith), ← e, le-ltb 4294967295 b (omega arith), and-false)

and_true : (b : Bool) → (b && true) ≡ b
and_true true = refl
and_true false = refl

-- of several groups a last one of 0 is padded
several_groups : (at v k z : ℕ) → 1 < k → judge at (run v k z) ≡ settled v z (at + k)
several_groups at v k z h = rw (lt-ltb 1 k h, and_true (eqb z 0))

-- the fifth group, where it stands at p: too large above 15, whether it continues or not
module _ (s : List ℕ) (p sum : ℕ) (small : sum < 268435456) where
  pub fifth_ends : length s ≤ p → Err Ends ≡ fifth_of sum p (scan 1 (drop p s))
  fifth_ends h = rw (scan_end s p 0 h)

  module _ (b : ℕ) (inside : p < length s) (e : b ≡ get_or s p 0) where
    pub fifth_large : 15 < b → Err Large ≡ fifth_of sum p (scan 1 (drop p s))
    fifth_large h =
        ⊎_elim
        (λ (l : b < 128).
        let v : 4294967295 < sum + 268435456 * b = omega arith in
        rw (scan_last s p 0 inside (omega arith), ← e, lt-ltb 4294967295 (sum + 268435456 * b) v))
        (λ (g : 128 ≤ b). rw (scan_more s p 0 inside (omega arith)))
        (lt_or_ge b 128)

    pub fifth_settled : b ≤ 15 → settled (sum + b * 268435456) b (p + 1) ≡ fifth_of sum p (scan 1 (drop p s))
    fifth_settled h = rw (scan_last s p 0 inside (omega arith), ← e, mul_comm b 268435456)

-- a number of which four groups are passed is what the fifth makes of it
fifth_by : (at p sum : ℕ) (r : Run) → p ≡ at + 4 → judge at (below sum 268435456 4 r) ≡ fifth_of sum p r
fifth_by at p sum ends e = refl
fifth_by at p sum long e = refl
fifth_by at p sum (run v k z) e =
    let q : at + (4 + k) ≡ p + k = omega arith in
    several_groups at (sum + 268435456 * v) (4 + k) z (omega arith) ∙ rw q

cap_of : (w more : ℕ) → 1 ≤ more → w * 128 ^ suc more ≡ 34359738368 → w ≤ 2097152
cap_of w zero h e = absurd (omega arith)
cap_of w (suc n) h e =
    let a : w * 128 * 128 ^ suc n ≡ 34359738368 = weight_next w (suc n) e in
    let b : w * 128 ≤ 268435456 = weight_cap (w * 128) n a in
    omega arith

product_cap : {b w : ℕ} → b ≤ 127 → w ≤ 2097152 → b * w ≤ 266338304
product_cap h k = mul-le-mul h k

-- what the reader knows before the group at p
module _ {s : List ℕ} {at p w sum : ℕ} where
  pub cap : Going s at p w sum → p < at + 4 → w ≤ 2097152
  cap g h = cap_of w g.more (omega (arith, g.place)) g.weight

  -- what a group adds, whether it says that another follows or not
  pub product : {b : ℕ} → Going s at p w sum → p < at + 4 → b < 128 → b * w ≤ 266338304
  product g h l = product_cap (omega arith) (cap g h)

  pub at_end : Going s at p w sum → length s ≤ p → number_at s at ≡ Err Ends
  unfolding number_at
  at_end g h = rw (g.same, scan_end s p g.more h)

  pub done : (b : ℕ) → Going s at p w sum → p < length s → b ≡ get_or s p 0 → b < 128 → number_at s at ≡ settled (sum + b * w) b (p + 1)
  unfolding number_at
  done b g l e k =
      let q : at + (4 - g.more + 1) ≡ p + 1 = omega (arith, g.place, g.few) in
      rw (g.same, scan_last s p g.more l (omega arith), ← e, mul_comm w b)
      (several_groups at (sum + b * w) (4 - g.more + 1) b (omega (arith, g.few)) ∙ rw q)

  pub turn : (b : ℕ) → Going s at p w sum → p < at + 4 → p < length s → b ≡ get_or s p 0 → 128 ≤ b → b < 256
      → Going s at (p + 1) (w * 128) (sum + (b - 128) * w)
  turn b g h l e k u =
      let q : suc (g.more - 1) ≡ g.more = omega (arith, g.place) in
      let j : 4 - g.more + 1 ≡ 4 - (g.more - 1) = omega (arith, g.place, g.few) in
      let m : (b - 128) * w ≤ 127 * w = mul-le-mul_right w (omega arith) in
      record {
        more = g.more - 1;
        few = omega (arith, g.few);
        place = omega (arith, g.place);
        weight = rw q (weight_next w g.more g.weight);
        small = omega (arith, g.small);
        same = rw q (g.same ∙ rw (scan_more s p g.more l (omega arith), ← e, below_more, j));
      }

  -- behind four groups the fifth is left
  pub last : Going s at p w sum → at + 4 ≤ p → number_at s at ≡ fifth_of sum (at + 4) (scan 1 (drop (at + 4) s))
  unfolding number_at
  last g h =
      let z : g.more ≡ 0 = omega (arith, g.place) in
      let t : p ≡ at + 4 = omega (arith, g.place) in
      let v : w ≡ 268435456 = omega (arith, rw z at g.weight) in
      rw (rw (z, t, v) at g.same) (fifth_by at (at + 4) sum (scan 1 (drop (at + 4) s)) refl)
