-- What stands at a point of a row's grid, as the code holds it, and what is asked of the row.
-- Assumes nothing.
use Rattle.std.specs.Prelude.{List, ℕ, ◌-◌, ◌≤◌, ◌<◌, take, get_or}
use Rattle.tandem.specs.Tandem.{no_flow}
use Rattle.tandem.specs.declared.Server.{Server}
use Rattle.tandem.specs.declared.Flow.{Flow}
use Rattle.row.specs.declared.Row.{Row}
use Rattle.row.specs.RowFor.{padded}
use Rattle.tree.specs.Grid.{Answer}
use Rattle.tree.specs.Planned.{answer_of}
use Rattle.tree.specs.Ordered.{Placed}
use Rattle.point.specs.declared.Point.{Point}

-- the servers of a row, and its flows: the watched flow, and behind it the groups
abbrev pub servers_of : Row → List Server
servers_of row = take row.size row.servers

abbrev pub flows_of : Row → List Flow
flows_of row = take row.count row.groups

-- the answer at a point of a row
abbrev pub answer_at : Row → List ℕ → Answer
answer_at row es = answer_of (servers_of row) (flows_of row) es

-- the point that an array holds: an extra for each group
abbrev pub extras_of : Row → List ℕ → List ℕ
extras_of row extra = take (row.count - 1) extra

-- an answer as the code holds it: behind the groups' waits stand zeros
unfoldable pub point_of : Answer → Point
point_of a = record { delay = a.delay; waits = padded 32 0 a.waits }

-- the row's own numbers
pub record Shaped (row : Row) : Type 0 where
  pub long : 0 < row.size
  pub short : row.size ≤ 16
  pub some : 0 < row.count
  pub few : row.count ≤ 32
  pub paths : (k : ℕ) → k < row.count → Placed row.size (get_or row.groups k no_flow)
