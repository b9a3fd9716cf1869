-- What demand 3 says: each byte of the watched flow is out in time, for the bound of demand 2.
-- Assumes nothing.
use Rattle.std.specs.Prelude.{ℕ, ◌+◌, ◌≤◌, ◌≡◌}
use mathlib.Core.List.{List, Memᴰ}
use Rattle.sheet.specs.Valid.{server_count, mode, grid}
use Rattle.tandem.specs.Tandem.{Tandem, size}
use Rattle.tandem.specs.OfSheet.{tandem_of}
use Rattle.row.specs.OfSheet.{grid_of}
use Rattle.tree.specs.Bound.{searched}
use Rattle.runs.specs.Lines.{keep, Prefix}
use Rattle.runs.specs.Run.{Run, joined_by, left_by, of_flow}

-- each byte of the watched flow that entered by the end of slot t has left the last server by the end of slot t + d, if the record has that slot
abbrev pub OnTime : Tandem → {B : Type 0} → Run B → ℕ → ℕ → Type 0
OnTime row {B} run H d =
    (t : ℕ) → t + d ≤ H → (b : B) → run.of b ≡ 0 → Memᴰ b (joined_by run 1 t) → Memᴰ b (left_by run (size row) (t + d))

-- the same of servers a to e, and byte for byte: the watched bytes that joined server a by slot t are, in order, the first of the watched
-- bytes that have left server e by slot t + d
abbrev pub Within : {B : Type 0} → Run B → ℕ → ℕ → ℕ → ℕ → Type 0
Within run H a e d = (t : ℕ) → t + d ≤ H → Prefix (keep (of_flow run 0) (joined_by run a t)) (keep (of_flow run 0) (left_by run e (t + d)))

-- "The bound is the least delay": what the search of the row of a sheet's numbers gives, in the sheet's mode and on its grid
unfoldable pub bound_of : List ℕ → ℕ
bound_of xs = (searched (tandem_of xs) (mode xs) (grid_of (server_count xs) (grid xs))).best.delay
