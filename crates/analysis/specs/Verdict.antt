-- What the analysis says of a sheet (document 01, "The sheet", "Refusals by number"): a refusal, or the bound with its record.
-- Assumes nothing.
use Rattle.std.specs.Prelude.{ℕ, cond, Option, Some, None, List, ◌∷◌, length}
use Rattle.fields.specs.declared.Why.{Why}
use Rattle.fields.specs.declared.Why.TheVariants.{Crossing, Crowded, Points, TooLarge}
use Rattle.sheet.specs.Sheet.{Found, fail, these, sheet_of, encode_all}
use Rattle.sheet.specs.Valid.{server_count, mode, grid}
use Rattle.row.specs.declared.Unfit.{Unfit}
use Rattle.row.specs.declared.Unfit.TheVariants as unfit
use Rattle.tandem.specs.Tandem.{Path}
use Rattle.row.specs.Groups.{groups}
use Rattle.tandem.specs.OfSheet.{tandem_of}
use Rattle.row.specs.OfSheet.{grid_of, check_of}
use Rattle.tree.specs.Bound.{searched}
use Rattle.tree.specs.Large.{too_large}

-- "bound, start, g (0 replaced by its meaning), number of groups, each group's wait", and the groups' paths for the report
pub record Listing : Type 0 where
  pub bound : ℕ
  pub start : ℕ
  pub grid : ℕ
  pub paths : List Path
  pub waits : List ℕ

-- the grid that a sheet's numbers ask for
abbrev pub grid_used : List ℕ → ℕ
grid_used xs = grid_of (server_count xs) (grid xs)

unfoldable pub listing_of : List ℕ → Listing
listing_of xs =
    let found = searched (tandem_of xs) (mode xs) (grid_used xs) in
    record { bound = found.best.delay; start = found.start; grid = grid_used xs; paths = groups (tandem_of xs); waits = found.best.waits }

-- a refusal with its detail, or the bound with its listing
pub data Verdict : Type 0 where
  refused : Why → ℕ → Verdict
  bounded : Listing → Verdict

-- "then 3, 6, 7, 8, 9": what the checks of a sheet's row say, and behind them 9; the details are "0", "lowest such server", "number of groups", "0"
abbrev pub verdict_by : Option Unfit → List ℕ → Verdict
verdict_by (Some unfit.Crossing) xs = refused Crossing 0
verdict_by (Some (unfit.Crowded j)) xs = refused Crowded j
verdict_by (Some (unfit.Points n)) xs = refused Points n
verdict_by None xs = cond (too_large (tandem_of xs) (mode xs) (grid_used xs)) (refused TooLarge 0) (bounded (listing_of xs))

-- the verdict on a sheet's numbers
unfoldable pub verdict_on : List ℕ → Verdict
verdict_on xs = verdict_by (check_of xs) xs

abbrev pub on_sheet : Found → Verdict
on_sheet (fail w d) = refused w d
on_sheet (these xs) = verdict_on xs

-- and on its bytes
unfoldable pub verdict_of : List ℕ → Verdict
verdict_of bytes = on_sheet (sheet_of bytes)

-- "The answer record is bound, start, g, number of groups, each group's wait, as seven-bit numbers."
abbrev pub record_numbers : Listing → List ℕ
record_numbers l = l.bound ∷ l.start ∷ l.grid ∷ length l.paths ∷ l.waits

abbrev pub record_of : Listing → List ℕ
record_of l = encode_all (record_numbers l)
