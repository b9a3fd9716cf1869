-- What the search of a row gives.
-- Assumes nothing.
use Rattle.std.specs.Prelude.{◌-◌}
use Rattle.row.specs.declared.Row.{Row}
use Rattle.tree.specs.Grid.{Found, found_of}
use Rattle.point.specs.Point.{answer_at}

-- document 01's search over what stands at the points of the row's grid
abbrev pub searched : Row → Found
searched row = found_of (answer_at row) (row.count - 1) row.mode row.grid
