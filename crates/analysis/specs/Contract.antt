-- What the public function promises.
-- Assumes nothing.
use Rattle.std.specs.Prelude.{ℕ, ◌≡◌, List, Result}
use Rattle.fields.specs.declared.Refusal.{Refusal}
use Rattle.analysis.specs.declared.Analysed.{Analysed}
use Rattle.analysis.specs.Held.{analysed_of}

-- `analyse`: the verdict on a sheet's bytes, as the code holds it
pub record Analyse (bytes : List ℕ) (r : Result Analysed Refusal) : Type 0 where
  pub is : r ≡ analysed_of bytes
