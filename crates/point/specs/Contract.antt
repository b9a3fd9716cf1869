-- What the public function promises. Unique.antt proves that it leaves one result.
-- Assumes nothing.
use Rattle.std.specs.Prelude.{◌≡◌, List, ℕ}
use Rattle.row.specs.declared.Row.{Row}
use Rattle.point.specs.declared.Point.{Point}
use Rattle.point.specs.Point.{answer_at, extras_of, point_of}

pub record Evaluate (row : Row) (extra : List ℕ) (r : Point) : Type 0 where
  -- what stands at the point with these extras
  pub is : r ≡ point_of (answer_at row (extras_of row extra))
