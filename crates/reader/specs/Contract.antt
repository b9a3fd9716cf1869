-- What each public function promises of its result, for every input: of a reader, the bytes that it holds, their place in memory with them,
-- and the place in them.
-- Assumes nothing.
use Rattle.std.specs.Prelude.{ℕ, ◌≡◌, List, Result}
use Rattle.std.specs.Borrow.{Bor}
use Rattle.numbers.specs.declared.Fault.{Fault}
use Rattle.numbers.specs.Seven.{number_at}
use Rattle.reader.specs.declared.Reader.{Reader}

pub record New (bytes : Bor (List ℕ)) (r : Reader) : Type 0 where
  -- over the bytes passed, at the first of them
  pub over : r.bytes ≡ bytes
  pub there : r.at ≡ 0

pub record Moved (r : Reader) (at : ℕ) (n : Reader) : Type 0 where
  -- over the same bytes, at the place passed
  pub over : n.bytes ≡ r.bytes
  pub there : n.at ≡ at

pub record NextNumber (r : Reader) (g : Result (ℕ × ℕ) Fault) : Type 0 where
  -- the number at the reader's place
  pub is : g ≡ number_at r.bytes.now r.at

pub record NumberFrom (bytes : List ℕ) (at : ℕ) (g : Result (ℕ × ℕ) Fault) : Type 0 where
  -- the number at the place passed
  pub is : g ≡ number_at bytes at
