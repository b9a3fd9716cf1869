-- What each entry promises of its result and of the list or buffer lent to it: "it gets one number, refusal × 2^32 + detail, with refusal 0 and
-- the written length on success".
-- Assumes nothing.
use Rattle.std.specs.Prelude.{ℕ, ◌≡◌, List, length}
use Rattle.sheet.specs.Sheet.{sheet_of, list_of, read_gives, read_holds, write_gives, write_holds}
use Rattle.analysis.specs.Verdict.{verdict_of}
use Rattle.desk.specs.Packed.{packed}
use Rattle.desk.specs.Answer.{answer_gives, answer_holds}

-- `gullbiscuit_read_sheet`: the count of the sheet's numbers, which the list then holds; or a refusal, and the list stays as it was
pub record GullbiscuitReadSheet (sheet before : List ℕ) (r : ℕ) (after : List ℕ) : Type 0 where
  pub gives : r ≡ packed (read_gives (sheet_of sheet) (length before))
  pub holds : after ≡ read_holds (sheet_of sheet) before

-- `gullbiscuit_write_sheet`: the length of the sheet's bytes, which the buffer then holds; or a refusal, and the buffer stays as it was
pub record GullbiscuitWriteSheet (numbers before : List ℕ) (r : ℕ) (after : List ℕ) : Type 0 where
  pub gives : r ≡ packed (write_gives (list_of numbers) (length before))
  pub holds : after ≡ write_holds (list_of numbers) before

-- `gullbiscuit_analyse`: the length of the answer record, which the buffer then holds; or a refusal, and the buffer stays as it was
pub record GullbiscuitAnalyse (sheet before : List ℕ) (r : ℕ) (after : List ℕ) : Type 0 where
  pub gives : r ≡ packed (answer_gives (verdict_of sheet) (length before))
  pub holds : after ≡ answer_holds (verdict_of sheet) before
