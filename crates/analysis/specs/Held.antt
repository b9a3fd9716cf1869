-- How the code holds a verdict: a refusal, or a listing as the record `Analysed`.
-- Assumes nothing.
use Rattle.std.specs.Prelude.{ℕ, ◌-◌, List, Result, Ok, Err, length}
use Rattle.fields.specs.declared.Refusal.{Refusal}
use Rattle.fields.specs.Refusal as fields
use Rattle.sheet.specs.Sheet.{Found, fail, these, sheet_of}
use Rattle.tandem.specs.declared.Flow.{Flow}
use Rattle.row.specs.declared.Row.{Row}
use Rattle.row.specs.declared.Unfit.{Unfit}
use Rattle.row.specs.RowFor.{padded}
use Rattle.row.specs.OfSheet.{row_of}
use Rattle.row.specs.Refused.{refusal_for}
use Rattle.tree.specs.Grid as grid
use Rattle.search.specs.Point.{searched}
use Rattle.analysis.specs.declared.Analysed.{Analysed}
use Rattle.analysis.specs.Verdict.{Listing, Verdict, refused, bounded, verdict_on}

-- a listing, with the flows that it was worked out of
abbrev pub filled : List Flow → Listing → Analysed
filled flows l =
    record {
      bound = l.bound;
      start = l.start;
      grid = l.grid;
      count = length l.paths;
      groups = flows;
      waits = padded 32 0 l.waits;
    }

-- the listing of a row, from what its search gives
abbrev pub row_held : Row → grid.Found → Analysed
row_held row found =
    record {
      bound = found.best.delay;
      start = found.start;
      grid = row.grid;
      count = row.count - 1;
      groups = row.groups;
      waits = padded 32 0 found.best.waits;
    }

-- what is said of a row: why it is unfit, or what its search gives
abbrev pub judged : Result Row Unfit → Result Analysed Refusal
judged (Ok row) = Ok (row_held row (searched row))
judged (Err unfit) = Err (refusal_for unfit)

-- a verdict, with the flows that its listing was worked out of
abbrev pub verdict_held : List Flow → Verdict → Result Analysed Refusal
verdict_held flows (refused w d) = Err (fields.refused w d)
verdict_held flows (bounded l) = Ok (filled flows l)

-- the analysis of a sheet's numbers
unfoldable pub numbers_held : List ℕ → Result Analysed Refusal
numbers_held xs = verdict_held (row_of xs).groups (verdict_on xs)

-- and of its bytes
abbrev pub sheet_held : Found → Result Analysed Refusal
sheet_held (fail w d) = Err (fields.refused w d)
sheet_held (these xs) = numbers_held xs

unfoldable pub analysed_of : List ℕ → Result Analysed Refusal
analysed_of bytes = sheet_held (sheet_of bytes)
