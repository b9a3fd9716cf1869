-- The public function's contract leaves one possible result, and one possible content of the lent list, for every input.
-- Assumes nothing.
use Rattle.std.specs.Prelude.{◌≡◌, List, ℕ, Result}
use Rattle.ground.proofs.ValueLaws.{one_value}
use Rattle.scribe.specs.declared.Mistake.{Mistake}
use Rattle.scribe.specs.Contract.{NumbersOfText}

pub numbers_of_text_unique : (text before : List ℕ) (r r' : Result ℕ Mistake) (after after' : List ℕ) → NumbersOfText text before r after
    → NumbersOfText text before r' after' → (r ≡ r') × (after ≡ after')
numbers_of_text_unique text before r r' after after' p q = (one_value p.gives q.gives, one_value p.holds q.holds)
