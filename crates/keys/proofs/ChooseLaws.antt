-- The least of keys block by block: one block more, and blocks with no key below the least so far, which leave it as it is.
-- Assumes nothing.
use Rattle.std.specs.Prelude.{◌≡◌, Bool, true, false, List, [], ◌∷◌, ℕ, zero, suc, ◌+◌, ◌≤◌, ◌<◌, eqb, length, get_or, take, drop}
use Rattle.std.proofs.Common.{sym, ap, ◌∙◌, append-nil, add-one, arith, take-append-drop, length-append, take-suc}
use Rattle.tree.specs.Grid.{flat}
use Rattle.tree.proofs.GridLaws.{flat_append}
use Rattle.ground.specs.Each.{Each}
use Rattle.keys.specs.Keys.{least_of}
use Rattle.keys.proofs.KeyLaws.{least_append, least_stays}
use Rattle.keys.specs.Numbers.{keep, first_digits}

-- blocks of keys

-- one block more
pub least_more : (b : ℕ) (h : ℕ → List ℕ) (l : List ℕ) (i : ℕ) → i < length l
    → least_of b (flat h (take (i + 1) l)) ≡ least_of (least_of b (flat h (take i l))) (h (get_or l i 0))
least_more b h l i p =
    rw (add-one, take-suc l i 0, flat_append h (take i l) (get_or l i 0 ∷ []), append-nil (h (get_or l i 0)), least_append b (flat h (take i l)) (h (get_or l i 0)))

-- the blocks from i on are passed over
pub least_rest : (b : ℕ) (h : ℕ → List ℕ) (l : List ℕ) (i : ℕ) → Each (λ x. least_of b (flat h (take i l)) ≤ x) (flat h (drop i l))
    → least_of b (flat h l) ≡ least_of b (flat h (take i l))
least_rest b h l i e =
    ap (λ (m : List ℕ). least_of b (flat h m)) (sym (take-append-drop i l))
    ∙ ap (least_of b) (flat_append h (take i l) (drop i l))
    ∙ least_append b (flat h (take i l)) (flat h (drop i l))
    ∙ least_stays (least_of b (flat h (take i l))) (flat h (drop i l)) e

-- there are no more first digits than digits
few_keep : (l : List ℕ) (d n : ℕ) (t : Bool) → length l ≤ n → length (keep t l d) ≤ suc n
few_keep l d n true h = omega arith
few_keep l d n false h = omega (arith, length-append l (d ∷ []))

pub first_digits_few : (step : ℕ → ℕ) (n : ℕ) → length (first_digits step n) ≤ n
first_digits_few step zero = omega arith
first_digits_few step (suc zero) = omega arith
first_digits_few step (suc (suc n)) = few_keep (first_digits step (suc n)) (suc n) (suc n) (eqb (step n) (step (suc n))) (first_digits_few step (suc n))
