-- An array that is filled from the front: a list filled up to n entries takes one more behind its last; and a row that takes its groups one by one.
-- Assumes nothing.
use mathlib.Core.Path.{◌≡◌, refl, sym, ap, ◌∙◌}
use mathlib.Core.List.{List, [], ◌∷◌, ◌++◌, append_assoc, append-nil}
use Prim.Native.Nat.{ℕ, suc, ◌+◌, ◌-◌, ◌≤◌, ◌<◌}
use native.Mathlib.Omega.{arith}
use lib.ListN.{length, set, take, replicate, length-append}
use Rattle.std.proofs.Math.Seq.{take-append_seam}
use lib.Seq.{set-append_seam}
use Rattle.tandem.specs.declared.Flow.{Flow}
use Rattle.tandem.specs.Tandem.{no_flow}
use Rattle.row.specs.declared.Row.{Row}
use Rattle.row.specs.RowFor.{padded}
use Rattle.row.specs.Parts.{with_group, with_groups}

-- what stands at a list's front
pub take_front : {B : Type 0} (l front rest : List B) (n : ℕ) → l ≡ front ++ rest → n ≡ length front → take n l ≡ front
take_front l front rest n e h = rw (e, h) (take-append_seam front rest)

module _ {B : Type 0} (n : ℕ) (z : B) (l : List B) where
  pub padded_more : (x : B) → length l < n → set (padded n z l) (length l) x ≡ padded n z (l ++ (x ∷ []))
  padded_more x h =
      let k = n - (length l + 1) in
      let e : n - length l ≡ suc k = omega arith in
      let d : n - length (l ++ (x ∷ [])) ≡ k = omega (arith, length-append l (x ∷ [])) in
      ap (λ (m : ℕ). set (l ++ replicate m z) (length l) x) e ∙ set-append_seam l z (replicate k z) x ∙ sym (append_assoc l (x ∷ []) (replicate k z))
      ∙ ap (λ (m : ℕ). (l ++ (x ∷ [])) ++ replicate m z) (sym d)

-- a row without more groups, and with one more
pub with_none : (row : Row) → with_groups row [] ≡ row
unfolding with_groups
with_none row = refl

pub with_one : (row : Row) (g : Flow) (gs : List Flow) → with_groups (with_group row g) gs ≡ with_groups row (g ∷ gs)
unfolding with_groups
with_one row g gs = refl

pub with_all : (row : Row) (gs hs : List Flow) → with_groups row (gs ++ hs) ≡ with_groups (with_groups row gs) hs
unfolding with_groups
with_all row [] hs = refl
with_all row (g ∷ gs) hs = with_all (with_group row g) gs hs

pub count_with : (row : Row) (gs : List Flow) → (with_groups row gs).count ≡ row.count + length gs
unfolding with_groups
count_with row [] = omega arith
count_with row (g ∷ gs) = omega (arith, count_with (with_group row g) gs)

-- the groups of a row whose array is filled from the front
pub filled_with : (row : Row) (done gs : List Flow) → row.groups ≡ padded 32 no_flow done → row.count ≡ length done → length done + length gs ≤ 32
    → with_groups row gs ≡ record row { count = length (done ++ gs); groups = padded 32 no_flow (done ++ gs) }
unfolding with_groups
filled_with row done [] e c h = rw append-nil (λ i. record row { count = c i; groups = e i })
filled_with row done (g ∷ gs) e c h =
    let more : set row.groups row.count g ≡ padded 32 no_flow (done ++ (g ∷ [])) =
    ap (λ (l : List Flow). set l row.count g) e ∙ ap (λ (k : ℕ). set (padded 32 no_flow done) k g) c ∙ padded_more 32 no_flow done g (omega arith) in
    filled_with (with_group row g) (done ++ (g ∷ [])) gs more (omega (arith, length-append done (g ∷ []))) (omega (arith, length-append done (g ∷ [])))
    ∙ ap (λ (l : List Flow). record row { count = length l; groups = padded 32 no_flow l }) (append_assoc done (g ∷ []) gs)
