-- What each public function promises of its result and of the buffer lent to it, for every input.
-- Assumes nothing.
use Rattle.std.specs.Prelude.{ℕ, ◌+◌, ◌≡◌, List, Result, length}
use Rattle.std.proofs.lemmas.List.Edits.{sets}
use Rattle.numbers.specs.declared.Fault.{Fault}
use Rattle.numbers.specs.Seven.{number_at, encode}

pub record ReadNumber (bytes : List ℕ) (at : ℕ) (r : Result (ℕ × ℕ) Fault) : Type 0 where
  -- the number that begins at the place and the place behind it, or why there is none
  pub is : r ≡ number_at bytes at

pub record Width (x r : ℕ) : Type 0 where
  -- as many bytes as the number takes
  pub is : r ≡ length (encode x)

pub record PutNumber (x : ℕ) (before : List ℕ) (at r : ℕ) (after : List ℕ) : Type 0 where
  -- the place behind the number
  pub next : r ≡ at + length (encode x)
  -- the buffer has the number's bytes at the place, and all else stays
  pub holds : after ≡ sets before at (encode x)
