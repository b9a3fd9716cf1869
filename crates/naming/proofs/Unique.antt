-- Each public function's contract leaves one possible result for every input; what `put_name_at` and `put_range` leave is `written_unique` of text.
-- Assumes nothing.
use Rattle.std.specs.Prelude.{ℕ, ◌≡◌, List}
use Rattle.ground.proofs.ValueLaws.{one_value}
use Rattle.naming.specs.declared.Extent.{Extent}
use Rattle.naming.specs.Contract.{NumberAt, ExtentOf, FieldAt}

pub number_at_unique : (xs : List ℕ) (i r r' : ℕ) → NumberAt xs i r → NumberAt xs i r' → r ≡ r'
number_at_unique xs i r r' p q = one_value p.is q.is

pub extent_of_unique : (xs : List ℕ) (r r' : Extent) → ExtentOf xs r → ExtentOf xs r' → r ≡ r'
extent_of_unique xs r r' p q = one_value p.is q.is

pub field_at_unique : (i : ℕ) (e : Extent) (r r' : ℕ) → FieldAt i e r → FieldAt i e r' → r ≡ r'
field_at_unique i e r r' p q = one_value p.is q.is
