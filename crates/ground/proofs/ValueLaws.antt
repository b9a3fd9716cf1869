-- Two values that are equal to the same.
-- Assumes nothing.
use Rattle.std.specs.Prelude.{◌≡◌}
use Rattle.std.proofs.Common.{sym, ◌∙◌}

pub one_value : {A : Type 0} {x a b : A} → a ≡ x → b ≡ x → a ≡ b
one_value p q = p ∙ sym q
