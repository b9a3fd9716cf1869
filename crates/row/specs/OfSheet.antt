-- The row that a sheet's numbers describe, its verdict on checks 6, 7 and 8, and the row that is handed on.
-- Assumes nothing.
use Rattle.std.specs.Prelude.{ℕ, cond, Option, Result, List, eqb}
use Rattle.sheet.specs.Valid.{server_count, mode, grid}
use Rattle.tandem.specs.OfSheet.{tandem_of}
use Rattle.row.specs.declared.Row.{Row}
use Rattle.row.specs.declared.Unfit.{Unfit}
use Rattle.row.specs.RowFor.{row_for, check_for, row_where}

-- "g | 0 or 2..9; 0 means 3": the grid of a row with n servers whose field is g
unfoldable pub grid_of : ℕ → ℕ → ℕ
grid_of n g = cond (eqb g 0) 3 g

unfoldable pub row_of : List ℕ → Row
row_of xs = row_for (tandem_of xs) (mode xs) (grid_of (server_count xs) (grid xs))

-- the first check that the sheet's row does not pass, if there is one
unfoldable pub check_of : List ℕ → Option Unfit
check_of xs = check_for (tandem_of xs) (mode xs) (grid_of (server_count xs) (grid xs))

unfoldable pub formed_of : List ℕ → Result Row Unfit
formed_of xs = row_where (check_of xs) (row_of xs)
