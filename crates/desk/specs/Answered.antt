-- DEMANDS 2 AND 3 of a call of the analysis that succeeds, of what it gave and of what its buffer holds: the numbers of the answer record, where on
-- the grid they stand and what the bound bounds, and that no run breaks it. DemandLaws.antt proves it of every such call.
-- Assumes nothing.
use Rattle.std.specs.Prelude.{ℕ, ◌≡◌, List, ◌∷◌, ◌++◌, Ok, length, drop}
use Rattle.numbers.specs.Seven.{encode, number_at}
use Rattle.sheet.specs.Sheet.{these, sheet_of, encode_all}
use Rattle.sheet.specs.Valid.{mode}
use Rattle.tandem.specs.Tandem.{size}
use Rattle.row.specs.Groups.{groups}
use Rattle.tandem.specs.OfSheet.{tandem_of}
use Rattle.tree.specs.Grid.{Answer}
use Rattle.tree.specs.Chosen.{Chosen}
use Rattle.runs.specs.Run.{Run, Keeps}
use Rattle.runs.specs.Demand.{OnTime, Within}
use Rattle.analysis.specs.Verdict.{grid_used}

-- "The answer record is bound, start, g (0 replaced by its meaning), number of groups, each group's wait, as seven-bit numbers"
abbrev pub answer_record : List ℕ → ℕ → Answer → List ℕ
answer_record xs start best = encode_all (best.delay ∷ start ∷ grid_used xs ∷ length (groups (tandem_of xs)) ∷ best.waits)

-- the call was lent the sheet s and a buffer that held `before`; it gave r, and the buffer holds `after`
pub record Answered (s before : List ℕ) (r : ℕ) (after : List ℕ) : Type 1 where
  -- the sheet's numbers, the start, and the best answer: its delay is the bound
  pub numbers : List ℕ
  pub read : sheet_of s ≡ these numbers
  pub start : ℕ
  pub best : Answer
  -- "the written length on success"; "bytes past the length stay"
  pub length_is : r ≡ length (answer_record numbers start best)
  pub record_is : after ≡ answer_record numbers start best ++ drop r before
  -- so the number that stands first is the bound
  pub first : number_at after 0 ≡ Ok (best.delay, length (encode best.delay))
  -- DEMAND 2: the point with the least delay, the first on a tie; in mode 1 the first point
  pub chosen : Chosen (tandem_of numbers) (mode numbers) (grid_used numbers) start best
  -- DEMAND 3: in every run that keeps the premises each watched byte is out in time; and byte for byte, in order
  pub on_time : {B : Type 0} (run : Run B) (H : ℕ) → Keeps (tandem_of numbers) run H → OnTime (tandem_of numbers) run H best.delay
  pub in_order : {B : Type 0} (run : Run B) (H : ℕ) → Keeps (tandem_of numbers) run H → Within run H 1 (size (tandem_of numbers)) best.delay
