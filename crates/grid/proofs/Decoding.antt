-- A number's digits taken from the last group to the first: the extras that are still to be found, before those found so far, are the point.
-- Assumes nothing.
use mathlib.Core.Path.{◌≡◌, refl, sym, ap, ◌∙◌}
use mathlib.Core.List.{List, [], ◌∷◌, ◌++◌, append_assoc}
use Prim.Native.Nat.{ℕ, zero, suc, ◌-◌, ◌/◌, ◌%◌, ◌≤◌, ◌<◌}
use native.Mathlib.Omega.{arith}
use lib.ListN.{length, set, drop, replicate, length-set}
use lib.Seq.{drop-cons, get_or-set_same, drop-set-lt}
use Rattle.row.specs.RowFor.{padded}
use Rattle.keys.specs.Numbers.{point_at}
use Rattle.keys.proofs.UseLaws.{point_length}

-- the extras of `rest` to the first k groups, and those of the other groups in place, are the whole
pub record Decoding (step : ℕ → ℕ) (g groups number : ℕ) (extra : List ℕ) (rest k : ℕ) : Type 0 where
  pub left : k ≤ groups
  pub full : length extra ≡ 32
  pub whole : point_at step g k rest ++ drop k extra ≡ padded 32 0 (point_at step g groups number)

drop_zeros : (n m : ℕ) → drop {A = ℕ} n (replicate m 0) ≡ replicate (m - n) 0
drop_zeros zero m = let e : m - 0 ≡ m = omega arith in rw e
drop_zeros (suc n) zero = let e : 0 - suc n ≡ 0 = omega arith in rw e
drop_zeros (suc n) (suc m) = let e : suc m - suc n ≡ m - n = omega arith in rw e (drop_zeros n m)

pub decoding_begins : (step : ℕ → ℕ) (g groups number : ℕ) → Decoding step g groups number (replicate 32 0) number groups
decoding_begins step g groups number =
    record {
      left = omega arith;
      full = refl;
      whole = rw (drop_zeros groups 32, point_length step g groups number);
    }

-- the lowest digit of what is left is the extra of the last group that is left
pub decoding_turns : (step : ℕ → ℕ) (g groups number : ℕ) (extra : List ℕ) (rest k : ℕ) → 0 < k → groups ≤ 31 → Decoding step g groups number extra rest k
    → Decoding step g groups number (set extra (k - 1) (step (rest % g))) (rest / g) (k - 1)
decoding_turns step g groups number extra rest zero h f d = absurd (omega arith)
decoding_turns step g groups number extra rest (suc k) h f d =
    let v = step (rest % g) in
    let e : suc k - 1 ≡ k = omega arith in
    let l : k < length extra = omega (arith, d.left, d.full) in
    let m : k < length (set extra k v) = omega (arith, length-set extra k v) in
    let t : drop k (set extra k v) ≡ v ∷ drop (suc k) extra =
    drop-cons (set extra k v) k 0 m
    ∙ ap (λ (x : ℕ). x ∷ drop (suc k) (set extra k v)) (get_or-set_same extra k v 0 l)
    ∙ ap (λ (r : List ℕ). v ∷ r) (drop-set-lt (suc k) extra k v (omega arith)) in
    rw e (record {
      left = omega (arith, d.left);
      full = length-set extra k v ∙ d.full;
      whole = ap (λ (r : List ℕ). point_at step g k (rest / g) ++ r) t
          ∙ sym (append_assoc (point_at step g k (rest / g)) (v ∷ []) (drop (suc k) extra)) ∙ d.whole;
    })

-- no group is left
pub decoding_ends : (step : ℕ → ℕ) (g groups number : ℕ) (extra : List ℕ) (rest k : ℕ) → k ≡ 0 → Decoding step g groups number extra rest k
    → extra ≡ padded 32 0 (point_at step g groups number)
decoding_ends step g groups number extra rest zero h d = d.whole
decoding_ends step g groups number extra rest (suc k) h d = absurd (omega arith)
