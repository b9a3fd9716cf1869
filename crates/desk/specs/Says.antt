-- What the entry of the analysis gives and leaves, case by case, with document 01's sentences of a row in place of the tests that compute them: each
-- refusal under its condition and where no earlier one holds ("then 3, 6, 7, 8, 9, 10"), or the answer record. There is no case with 9.
-- Assumes nothing.
use Rattle.std.specs.Prelude.{ℕ, ◌^◌, ◌≤◌, ◌<◌, ◌≡◌, ◌⊎◌, List, ◌++◌, length, drop}
use Rattle.fields.specs.declared.Why.{Why}
use Rattle.fields.specs.declared.Why.TheVariants.{Crossing, Crowded, Points, Short}
use Rattle.fields.specs.Refusal.{refusal}
use Rattle.sheet.specs.Sheet.{fail, these, sheet_of}
use Rattle.sheet.specs.Valid.{mode}
use Rattle.tandem.specs.Tandem.{size}
use Rattle.row.specs.Groups.{groups}
use Rattle.tandem.specs.OfSheet.{tandem_of}
use Rattle.tandem.specs.Crowded.{Crowds, Lowest}
use Rattle.row.specs.Sentences.{Crossed}
use Rattle.analysis.specs.Verdict.{grid_used, listing_of, record_of}
use Rattle.desk.specs.Packed.{as_one}

-- no server's rates sum above R
abbrev pub Uncrowded : List ℕ → Type 0
Uncrowded xs = (j : ℕ) → 0 < j → j ≤ size (tandem_of xs) → Crowds (tandem_of xs) j → ⊥

-- "mode 0 and g to the power of the number of groups is above 65,536"
abbrev pub TooManyPoints : List ℕ → Type 0
TooManyPoints xs = (mode xs ≡ 0) × (65536 < grid_used xs ^ length (groups (tandem_of xs)))

-- neither 6 nor 7 nor 8 holds
pub record Passes (xs : List ℕ) : Type 0 where
  pub nested : Crossed (tandem_of xs) → ⊥
  pub uncrowded : Uncrowded xs
  pub few_points : TooManyPoints xs → ⊥

-- the bytes of the answer record
abbrev pub answer_of : List ℕ → List ℕ
answer_of xs = record_of (listing_of xs)

-- refusal n with detail d is given, and the buffer, which held `before`, holds `after`
pub data Says (s before : List ℕ) (n d : ℕ) (after : List ℕ) : Type 0 where
  -- 1 to 5: what the reader says of the bytes
  of_bytes : (w : Why) → sheet_of s ≡ fail w d → n ≡ refusal w → after ≡ before → Says s before n d after
  -- 6, "the row is not nested": "0"
  six : (xs : List ℕ) → sheet_of s ≡ these xs → Crossed (tandem_of xs) → n ≡ refusal Crossing → d ≡ 0 → after ≡ before → Says s before n d after
  -- 7, "the rates at a server, the watched flow's included, sum above R": "lowest such server"
  seven : (xs : List ℕ) → sheet_of s ≡ these xs → (Crossed (tandem_of xs) → ⊥) → Lowest (tandem_of xs) 1 (size (tandem_of xs)) d
      → n ≡ refusal Crowded → after ≡ before → Says s before n d after
  -- 8, "mode 0 and g to the power of the number of groups is above 65,536": "number of groups"
  eight : (xs : List ℕ) → sheet_of s ≡ these xs → (Crossed (tandem_of xs) → ⊥) → Uncrowded xs → TooManyPoints xs
      → n ≡ refusal Points → d ≡ length (groups (tandem_of xs)) → after ≡ before → Says s before n d after
  -- 10, "the buffer is too short": "length needed"
  ten : (xs : List ℕ) → sheet_of s ≡ these xs → Passes xs → length before < length (answer_of xs)
      → n ≡ refusal Short → d ≡ length (answer_of xs) → after ≡ before → Says s before n d after
  -- "refusal 0 and the written length on success"; "bytes past the length stay"
  answers : (xs : List ℕ) → sheet_of s ≡ these xs → Passes xs → length (answer_of xs) ≤ length before
      → n ≡ 0 → d ≡ length (answer_of xs) → after ≡ answer_of xs ++ drop (length (answer_of xs)) before → Says s before n d after

-- What the entry of the reader or of the writer gives and leaves where it refuses, r being the one number: "1 to 5 and 10 only"; "On refusal the
-- buffer stays as it was."
pub record Refused (before : List ℕ) (r : ℕ) (after : List ℕ) : Type 0 where
  pub number : ℕ
  pub detail : ℕ
  pub one : r ≡ as_one number detail
  pub small : detail < 4294967296
  pub known : ((1 ≤ number) × (number ≤ 5)) ⊎ (number ≡ refusal Short)
  pub stays : after ≡ before
