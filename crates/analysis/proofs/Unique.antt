-- The public function's contract leaves one possible result for every input.
-- Assumes nothing.
use Rattle.std.specs.Prelude.{ℕ, ◌≡◌, List, Result}
use Rattle.ground.proofs.ValueLaws.{one_value}
use Rattle.fields.specs.declared.Refusal.{Refusal}
use Rattle.analysis.specs.declared.Analysed.{Analysed}
use Rattle.analysis.specs.Contract.{Analyse}

pub analyse_unique : (bytes : List ℕ) (r r' : Result Analysed Refusal) → Analyse bytes r → Analyse bytes r' → r ≡ r'
analyse_unique bytes r r' p q = one_value p.is q.is
