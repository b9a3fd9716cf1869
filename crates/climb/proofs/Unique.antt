-- The public function leaves one possible result: two results that both meet its contract are equal.
-- Assumes nothing.
use Rattle.std.specs.Prelude.{◌≡◌, List, ℕ}
use Rattle.ground.proofs.ValueLaws.{one_value}
use Rattle.tandem.specs.declared.Flow.{Flow}
use Rattle.grid.specs.declared.Steps.{Steps}
use Rattle.climb.specs.declared.Branch.{Branch}
use Rattle.climb.specs.Contract.{Choose}

pub choose_unique : (flows : List Flow) (steps : Steps) (k : ℕ) (s : Branch) (best a b : ℕ) → Choose flows steps k s best a → Choose flows steps k s best b → a ≡ b
choose_unique flows steps k s best a b h j = one_value h.is j.is
