-- What the public function promises. Unique.antt proves that it leaves one result.
-- Assumes nothing.
use Rattle.std.specs.Prelude.{◌≡◌}
use Rattle.row.specs.declared.Row.{Row}
use Rattle.search.specs.declared.Found.{Found}
use Rattle.search.specs.Point.{searched}
use Rattle.search.specs.Searchable.{found_in}

pub record Search (row : Row) (r : Found) : Type 0 where
  -- the start, and the delay and the waits at the first point of the grid with the least delay
  pub is : r ≡ found_in (searched row).start (searched row).best
