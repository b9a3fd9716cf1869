-- Lists of bytes: those of a kind, all that a line has taken in by a slot, and when one list is the front of another.
-- Assumes nothing.
use Rattle.std.specs.Prelude.{ℕ, zero, suc, ◌≡◌, Bool, List, [], ◌∷◌, ◌++◌}
use Rattle.row.specs.Groups.{put}

-- those of a list that pass a test, in order
unfoldable pub keep : {B : Type 0} → (B → Bool) → List B → List B
keep p [] = []
keep p (x ∷ xs) = put (p x) x (keep p xs)

-- ""By slot t" means in slots 1..t; by slot 0 nothing has arrived and nothing has left.": what stands in slots 1 to t, one slot after the
-- other. Slot 0 holds nothing, whatever the record has there, so every line starts empty.
unfoldable pub by : {B : Type 0} → (ℕ → List B) → ℕ → List B
by line zero = []
by line (suc t) = by line t ++ line (suc t)

-- m begins with l
pub record Prefix {B : Type 0} (l m : List B) : Type 0 where
  pub rest : List B
  pub whole : l ++ rest ≡ m
