-- The row that is handed on for a row with its single flows, a mode and a grid, and what the checks say of it: a sheet's row is one of these, and so is
-- a part of a cut row.
-- Assumes nothing.
use Rattle.std.specs.Prelude.{ℕ, ◌-◌, cond, Option, Some, None, Result, Ok, Err, List, ◌++◌, ltb, length, replicate}
use Rattle.row.specs.declared.Row.{Row}
use Rattle.row.specs.declared.Unfit.{Unfit}
use Rattle.row.specs.declared.Unfit.TheVariants.{Crossing, Crowded, Points}
use Rattle.tandem.specs.Tandem.{Tandem, size, no_flow, no_server}
use Rattle.tandem.specs.Crowded.{lowest_crowded}
use Rattle.row.specs.Groups.{groups, reads}
use Rattle.row.specs.Checks.{not_nested, too_many}

-- a list filled up to n entries
abbrev pub padded : {B : Type 0} → ℕ → B → List B → List B
padded n z l = l ++ replicate (n - length l) z

-- the row that is handed on: the groups stand for the flows
abbrev pub row_for : Tandem → ℕ → ℕ → Row
row_for row mode g =
    record {
      size = size row;
      servers = padded 16 no_server row.servers;
      count = length (reads row);
      groups = padded 32 no_flow (reads row);
      mode = mode;
      grid = g;
    }

-- "then 3, 6, 7, 8": the first check that a row does not pass, if there is one
abbrev pub check_for : Tandem → ℕ → ℕ → Option Unfit
check_for row mode g =
    cond (not_nested row) (Some Crossing)
    (cond (ltb 0 (lowest_crowded row 1 (size row))) (Some (Crowded (lowest_crowded row 1 (size row))))
    (cond (too_many row mode g) (Some (Points (length (groups row)))) None))

-- a row is handed on only where it passes
abbrev pub row_where : Option Unfit → Row → Result Row Unfit
row_where None row = Ok row
row_where (Some unfit) row = Err unfit

abbrev pub formed_for : Tandem → ℕ → ℕ → Result Row Unfit
formed_for row mode g = row_where (check_for row mode g) (row_for row mode g)
