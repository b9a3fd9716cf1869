-- Each entry's contract leaves one possible result, and one possible content of the lent buffer, for every input.
-- Assumes nothing.
use Rattle.std.specs.Prelude.{ℕ, ◌≡◌, List}
use Rattle.ground.proofs.ValueLaws.{one_value}
use Rattle.desk.specs.Contract.{GullbiscuitReadSheet, GullbiscuitWriteSheet, GullbiscuitAnalyse}

pub gullbiscuit_read_sheet_unique : (sheet before : List ℕ) (r r' : ℕ) (after after' : List ℕ) → GullbiscuitReadSheet sheet before r after
    → GullbiscuitReadSheet sheet before r' after' → (r ≡ r') × (after ≡ after')
gullbiscuit_read_sheet_unique sheet before r r' after after' p q = (one_value p.gives q.gives, one_value p.holds q.holds)

pub gullbiscuit_write_sheet_unique : (numbers before : List ℕ) (r r' : ℕ) (after after' : List ℕ) → GullbiscuitWriteSheet numbers before r after
    → GullbiscuitWriteSheet numbers before r' after' → (r ≡ r') × (after ≡ after')
gullbiscuit_write_sheet_unique numbers before r r' after after' p q = (one_value p.gives q.gives, one_value p.holds q.holds)

pub gullbiscuit_analyse_unique : (sheet before : List ℕ) (r r' : ℕ) (after after' : List ℕ) → GullbiscuitAnalyse sheet before r after
    → GullbiscuitAnalyse sheet before r' after' → (r ≡ r') × (after ≡ after')
gullbiscuit_analyse_unique sheet before r r' after after' p q = (one_value p.gives q.gives, one_value p.holds q.holds)
