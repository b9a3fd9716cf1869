-- Each public function's contract leaves one possible result, and one possible content of each lent buffer, for every input.
-- Assumes nothing.
use Rattle.std.specs.Prelude.{ℕ, ◌≡◌, List, Result}
use Rattle.ground.proofs.ValueLaws.{one_value}
use Rattle.text.specs.declared.Refused.{Refused}
use Rattle.text.specs.declared.Page.{Page}
use Rattle.text.specs.Contract.{BytesOf, DecimalWidth, Put, Written, HandOver}

pub bytes_of_unique : (printed : Result ℕ Refused) (r r' : ℕ) → BytesOf printed r → BytesOf printed r' → r ≡ r'
bytes_of_unique printed r r' p q = one_value p.is q.is

pub decimal_width_unique : (x r r' : ℕ) → DecimalWidth x r → DecimalWidth x r' → r ≡ r'
decimal_width_unique x r r' p q = one_value p.is q.is

pub put_unique : (bytes before : List ℕ) (at r r' : ℕ) (after after' : List ℕ) → Put bytes before at r after → Put bytes before at r' after'
    → (r ≡ r') × (after ≡ after')
put_unique bytes before at r r' after after' p q = (one_value p.next q.next, one_value p.stored q.stored)

pub written_unique : (bytes : List ℕ) (before after after' : Page) → Written bytes before after → Written bytes before after' → after ≡ after'
written_unique bytes before after after' p q = λ i. record {
  bytes = record { ref_ptr = one_value p.stays q.stays i; ghost_name = one_value p.same q.same i; now = one_value p.put.stored q.put.stored i };
  at = one_value p.put.next q.put.next i;
}

pub hand_over_unique : (bytes before after after' : List ℕ) → HandOver bytes before after → HandOver bytes before after' → after ≡ after'
hand_over_unique bytes before after after' p q = one_value p.leaves q.leaves
