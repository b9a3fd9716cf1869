-- The contract of `report` leaves one possible result, and one possible content of the lent buffer, for every input.
-- Assumes nothing.
use Rattle.std.specs.Prelude.{ℕ, ◌≡◌, List, Result}
use Rattle.ground.proofs.ValueLaws.{one_value}
use Rattle.text.specs.declared.Refused.{Refused}
use Rattle.listing.specs.Contract.{Report}

pub report_unique : (bytes before : List ℕ) (r r' : Result ℕ Refused) (after after' : List ℕ) → Report bytes before r after → Report bytes before r' after'
    → (r ≡ r') × (after ≡ after')
report_unique bytes before r r' after after' p q = (one_value p.gives q.gives, one_value p.leaves q.leaves)
