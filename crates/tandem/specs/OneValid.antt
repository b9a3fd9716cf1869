-- A list of numbers is a valid sheet's in one way at most, so that a struct can carry it as a fact.
-- Assumes nothing.
use Rattle.std.specs.Prelude.{◌≡◌, ℕ, List, ◌⊎◌, ◌≤◌}
use Rattle.std.proofs.Common.{ap, subst, inl, inr}
use Rattle.std.proofs.Math.Nat.{not-suc-le-zero}
use Rattle.std.proofs.Props.{props}
use Rattle.sheet.specs.Valid.{Within, Valid}

-- 0 is not in a range that begins at 2
not_low : (x : ℕ) → x ≡ 0 → Within 2 9 x → ⊥
not_low x e w = not-suc-le-zero (subst (λ (y : ℕ). 2 ≤ y) e w.least)

one_grid : (x : ℕ) → IsProp ((x ≡ 0) ⊎ Within 2 9 x)
one_grid x (inl a) (inl b) = let p : IsProp (x ≡ 0) = Prim.hlevel props in ap inl (p a b)
one_grid x (inl a) (inr b) = absurd (not_low x a b)
one_grid x (inr a) (inl b) = absurd (not_low x b a)
one_grid x (inr a) (inr b) = let p : IsProp (Within 2 9 x) = Prim.hlevel props in ap inr (p a b)

ruleset valid_props = (props, one_grid)

pub one_valid : (xs : List ℕ) → IsProp (Valid xs)
one_valid xs = Prim.hlevel valid_props
