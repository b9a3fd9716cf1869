-- What each public function promises of its result and of what was lent to it, for every input.
-- Assumes nothing.
use Rattle.std.specs.Prelude.{ℕ, ◌≡◌, List, Result, length}
use Rattle.std.proofs.lemmas.List.Edits.{sets}
use Rattle.fields.specs.declared.Refusal.{Refusal}
use Rattle.sheet.specs.Sheet.{sheet_of, list_of, encode_all, read_gives, read_holds, write_gives, write_holds}

pub record ReadSheet (bytes before : List ℕ) (r : Result ℕ Refusal) (after : List ℕ) : Type 0 where
  -- the count of the sheet's numbers, or its refusal
  pub gives : r ≡ read_gives (sheet_of bytes) (length before)
  -- "writes the numbers in sheet order", "entries past them stay"; "On refusal the buffer stays as it was."
  pub holds : after ≡ read_holds (sheet_of bytes) before

pub record WriteSheet (numbers before : List ℕ) (r : Result ℕ Refusal) (after : List ℕ) : Type 0 where
  -- the length of the sheet's bytes, or its refusal
  pub gives : r ≡ write_gives (list_of numbers) (length before)
  -- the bytes stand in front, "bytes past the length stay"; "On refusal the buffer stays as it was."
  pub holds : after ≡ write_holds (list_of numbers) before

pub record ListWidth (xs : List ℕ) (r : ℕ) : Type 0 where
  -- as many bytes as the numbers take
  pub is : r ≡ length (encode_all xs)

pub record PutAll (xs before after : List ℕ) : Type 0 where
  -- the numbers' bytes stand in front, and all else stays
  pub holds : after ≡ sets before 0 (encode_all xs)
