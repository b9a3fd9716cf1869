-- `row::Nested::row` meets its contract. The invariant: the row with the groups from the first servers still to come is the row that is handed on.
-- Assumes nothing.
use mathlib.Core.Path.{◌≡◌}
use Prim.Native.Nat.{◌+◌, ◌-◌}
use Rattle.tandem.specs.Tandem.{size}
use Rattle.row.specs.Held.{held}
use Rattle.row.specs.RowFor.{row_for}
use Rattle.row.specs.Parts.{with_groups}
use Rattle.row.proofs.Grouping.{from_on_groups}
use Rattle.row.proofs.Nested.row.Given as goal

abbrev pub invariant-loop-first : goal.invariant-loop-first
invariant-loop-first l =
    let row = held l.self in
    with_groups l.row (from_on_groups row l.first (size row + 1 - l.first)) ≡ row_for row l.fn.mode l.fn.grid
