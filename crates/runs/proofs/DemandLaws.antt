-- DEMAND 3, from the bytes of a sheet, for the bound that the search of its row gives. OnTimeLaws.antt proves it of rows.
-- Assumes nothing.
use Rattle.std.specs.Prelude.{◌≡◌, None}
use mathlib.Core.List.{List}
use Prim.Native.Nat.{ℕ}
use Rattle.sheet.specs.Sheet.{sheet_of, these}
use Rattle.sheet.proofs.ValidLaws.{read_valid}
use Rattle.sheet.specs.Valid.{server_count, mode, grid}
use Rattle.tandem.specs.Tandem.{size}
use Rattle.tandem.specs.OfSheet.{tandem_of}
use Rattle.row.specs.OfSheet.{grid_of, check_of}
use Rattle.runs.specs.Run.{Run, Keeps}
use Rattle.runs.specs.Demand.{OnTime, Within, bound_of}
use Rattle.row.proofs.OfSheetLaws.{passed_row}
use Rattle.runs.proofs.OnTimeLaws.{searched_in_order, on_time_searched}

-- DEMAND 3, from the bytes of a sheet: if they are read as the numbers xs and these pass the checks, then in every run on the row of xs that keeps the
-- premises up to slot H, each byte of the watched flow that entered by the end of slot t has left the last server by the end of slot t + bound,
-- wherever t + bound ≤ H
pub demand_three : (s xs : List ℕ) → sheet_of s ≡ these xs → check_of xs ≡ None
    → {B : Type 0} (run : Run B) (H : ℕ) → Keeps (tandem_of xs) run H → OnTime (tandem_of xs) run H (bound_of xs)
unfolding bound_of
demand_three s xs read passed run H keeps =
    on_time_searched (tandem_of xs) (passed_row xs (read_valid s xs read) passed).accepts (mode xs) (grid_of (server_count xs) (grid xs)) run H keeps

-- and byte for byte, in order
pub demand_three_in_order : (s xs : List ℕ) → sheet_of s ≡ these xs → check_of xs ≡ None
    → {B : Type 0} (run : Run B) (H : ℕ) → Keeps (tandem_of xs) run H → Within run H 1 (size (tandem_of xs)) (bound_of xs)
unfolding bound_of
demand_three_in_order s xs read passed run H keeps =
    searched_in_order (tandem_of xs) (passed_row xs (read_valid s xs read) passed).accepts (mode xs) (grid_of (server_count xs) (grid xs)) run H keeps
