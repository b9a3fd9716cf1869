-- What the public function promises.
-- Assumes nothing.
use Rattle.std.specs.Prelude.{◌≡◌, ℕ, List, Result}
use Rattle.ground.specs.Buffer.{holds}
use Rattle.text.specs.declared.Refused.{Refused}
use Rattle.composing.specs.Composed.{composed, composed_bytes, composed_printed}

-- `compose`: what there is to print of a text, which stands at the front of the buffer where it has room; else the buffer stays as it was
pub record Compose (text before : List ℕ) (r : Result ℕ Refused) (after : List ℕ) : Type 0 where
  pub gives : r ≡ composed_printed (composed text)
  pub leaves : after ≡ holds (composed_bytes (composed text)) before
