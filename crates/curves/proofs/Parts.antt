-- The loop of `lag` over a part of the stages, one place a turn.
-- Assumes nothing.
use mathlib.Core.Path.{◌≡◌, ap, subst}
use mathlib.Core.List.{List, []}
use Prim.Native.Nat.{ℕ, suc, ◌+◌, ◌≤◌, ◌<◌, max}
use native.Mathlib.Numerals.{add-one}
use native.Mathlib.Omega.{arith}
use lib.ListN.{length, take, get_or, drop_of_length-le, length-take}
use lib.Seq.{slice}
use Rattle.ground.specs.Each.{Each}
use Rattle.curves.specs.declared.Stage.{Stage}
use Rattle.curves.specs.Curve.{greatest}
use Rattle.curves.specs.Held.{Live, blank}
use Rattle.curves.proofs.PartLaws.{next_slice}

-- the greatest of f over a part of the stages, none of which is above `top`: `most` and what the stages from i on have make the whole; n stages of the
-- array are the curve's
pub record Rising (f : Stage → ℕ) (top : ℕ) (l : List Stage) (n from to most i : ℕ) : Type 0 where
  pub below : most ≤ top
  pub live : Each Live (slice i to (take n l))
  pub whole : max most (greatest f (slice i to (take n l))) ≡ greatest f (slice from to (take n l))

pub turn_rising : {f : Stage → ℕ} {top : ℕ} {l : List Stage} {n from to most i : ℕ} → Rising f top l n from to most i → i < to → to ≤ n → n ≤ length l
    → ((s : Stage) → Live s → f s ≤ top) → (m : ℕ) → m ≡ max most (f (get_or l i blank)) → Rising f top l n from to m (i + 1)
unfolding greatest
turn_rising {f} {top} {l} {n} {from} {to} {most} {i} h p q r low m e =
    let s = next_slice l n i to p q r in
    let v = subst (Each Live) s h.live in
    let g : greatest f (slice i to (take n l)) ≡ max (f (get_or l i blank)) (greatest f (slice (suc i) to (take n l))) = ap (greatest f) s in
    record {
      below = omega (arith, e, h.below, low (get_or l i blank) v.0);
      live = rw (add-one i) v.1;
      whole = rw (add-one i) (omega (arith, e, g, h.whole));
    }

slice_end : (l : List Stage) (i to : ℕ) → to ≤ i → slice i to l ≡ []
slice_end l i to h = drop_of_length-le (take to l) {i = i} (omega (arith, length-take to l))

pub end_rising : {f : Stage → ℕ} {top : ℕ} {l : List Stage} {n from to most i : ℕ} → Rising f top l n from to most i → to ≤ i
    → most ≡ greatest f (slice from to (take n l))
unfolding greatest
end_rising {f} {top} {l} {n} {from} {to} {most} {i} h p =
    let g : greatest f (slice i to (take n l)) ≡ 0 = ap (greatest f) (slice_end (take n l) i to p) in
    omega (arith, g, h.whole)
