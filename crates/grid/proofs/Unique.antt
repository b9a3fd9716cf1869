-- Each public function leaves one possible result: two results that both meet its contract are equal.
-- Assumes nothing.
use Rattle.std.specs.Prelude.{◌≡◌, List, ℕ}
use Rattle.ground.proofs.ValueLaws.{one_value}
use Rattle.grid.specs.declared.Steps.{Steps}
use Rattle.grid.specs.Contract.{StepsOf, ExtrasAt}

pub steps_of_unique : (start g : ℕ) (a b : Steps) → StepsOf start g a → StepsOf start g b → a ≡ b
steps_of_unique start g a b h k = one_value h.is k.is

pub extras_at_unique : (number start g groups : ℕ) (a b : List ℕ) → ExtrasAt number start g groups a → ExtrasAt number start g groups b → a ≡ b
extras_at_unique number start g groups a b h k = one_value h.is k.is
