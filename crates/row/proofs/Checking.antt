-- A test of a list's entries, by number.
-- Assumes nothing.
use Rattle.std.proofs.Common.{◌≡◌, refl, sym, ap, ◌∙◌, Bool, List, ℕ, zero, suc, ◌≤◌, length, get_or, take, arith, add-one}
use Rattle.std.proofs.Math.Seq.{take-length}
use Rattle.std.specs.List.{list_any}
use Rattle.std.proofs.lemmas.List.Folds.{list_any_more}
use Rattle.tandem.specs.Sums.{any}

front_any : {B : Type 0} (p : B → Bool) (d : B) (xs : List B) (n : ℕ) → n ≤ length xs → list_any p (take n xs) ≡ any n (λ f. p (get_or xs f d))
unfolding any
front_any p d xs zero h = refl
front_any p d xs (suc n) h =
    ap (λ (k : ℕ). list_any p (take k xs)) (sym (add-one n)) ∙ list_any_more p xs n d (omega arith) ∙ rw (front_any p d xs n (omega arith))

pub list_any_any : {B : Type 0} (p : B → Bool) (d : B) (xs : List B) → list_any p xs ≡ any (length xs) (λ f. p (get_or xs f d))
list_any_any p d xs = ap (list_any p) (sym (take-length xs)) ∙ front_any p d xs (length xs) (omega arith)
