-- Each public function's contract leaves one possible result, and one possible content of each lent buffer, for every input.
-- Assumes nothing.
use Rattle.std.specs.Prelude.{ℕ, ◌≡◌, List, Result}
use Rattle.ground.proofs.ValueLaws.{one_value}
use Rattle.fields.specs.declared.Refusal.{Refusal}
use Rattle.sheet.specs.Contract.{ReadSheet, WriteSheet, ListWidth, PutAll}

pub read_sheet_unique : (bytes before : List ℕ) (r r' : Result ℕ Refusal) (after after' : List ℕ) → ReadSheet bytes before r after
    → ReadSheet bytes before r' after' → (r ≡ r') × (after ≡ after')
read_sheet_unique bytes before r r' after after' p q = (one_value p.gives q.gives, one_value p.holds q.holds)

pub write_sheet_unique : (numbers before : List ℕ) (r r' : Result ℕ Refusal) (after after' : List ℕ) → WriteSheet numbers before r after
    → WriteSheet numbers before r' after' → (r ≡ r') × (after ≡ after')
write_sheet_unique numbers before r r' after after' p q = (one_value p.gives q.gives, one_value p.holds q.holds)

pub list_width_unique : (xs : List ℕ) (r r' : ℕ) → ListWidth xs r → ListWidth xs r' → r ≡ r'
list_width_unique xs r r' p q = one_value p.is q.is

pub put_all_unique : (xs before after after' : List ℕ) → PutAll xs before after → PutAll xs before after' → after ≡ after'
put_all_unique xs before after after' p q = one_value p.holds q.holds
