-- The contract of `compose` leaves one possible result, and one possible content of the lent buffer, for every input.
-- Assumes nothing.
use Rattle.std.specs.Prelude.{ℕ, ◌≡◌, List, Result}
use Rattle.ground.proofs.ValueLaws.{one_value}
use Rattle.text.specs.declared.Refused.{Refused}
use Rattle.composing.specs.Contract.{Compose}

pub compose_unique : (text before : List ℕ) (r r' : Result ℕ Refused) (after after' : List ℕ) → Compose text before r after → Compose text before r' after'
    → (r ≡ r') × (after ≡ after')
compose_unique text before r r' after after' p q = (one_value p.gives q.gives, one_value p.leaves q.leaves)
