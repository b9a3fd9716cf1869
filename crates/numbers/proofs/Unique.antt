-- Each public function's contract leaves one possible result, and one possible content of each lent buffer, for every input.
-- Assumes nothing.
use Rattle.std.specs.Prelude.{ℕ, ◌≡◌, List, Result}
use Rattle.ground.proofs.ValueLaws.{one_value}
use Rattle.numbers.specs.declared.Fault.{Fault}
use Rattle.numbers.specs.Contract.{ReadNumber, Width, PutNumber}

pub read_number_unique : (bytes : List ℕ) (at : ℕ) (r r' : Result (ℕ × ℕ) Fault) → ReadNumber bytes at r → ReadNumber bytes at r' → r ≡ r'
read_number_unique bytes at r r' p q = one_value p.is q.is

pub width_unique : (x r r' : ℕ) → Width x r → Width x r' → r ≡ r'
width_unique x r r' p q = one_value p.is q.is

pub put_number_unique : (x : ℕ) (before : List ℕ) (at r r' : ℕ) (after after' : List ℕ) → PutNumber x before at r after → PutNumber x before at r' after'
    → (r ≡ r') × (after ≡ after')
put_number_unique x before at r r' after after' p q = (one_value p.next q.next, one_value p.holds q.holds)
