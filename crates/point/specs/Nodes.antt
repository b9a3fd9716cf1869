-- The nodes behind a node as the code holds them: at each server the outermost group that begins there is marked by its number, and what
-- each group leaves is a curve record.
-- Assumes nothing.
use Rattle.std.specs.Prelude.{List, [], ℕ, suc, ◌≤◌, ◌<◌, ◌^◌, length, get_or, Option, Some, None}
use Rattle.tandem.specs.Tandem.{no_flow}
use Rattle.curves.specs.declared.Curve.{Curve}
use Rattle.curves.specs.Curve.{Shape, neutral}
use Rattle.curves.specs.Held.{shape_of, Holds}
use Rattle.tandem.specs.declared.Flow.{Flow}
use Rattle.row.specs.declared.Row.{Row}
use Rattle.tree.specs.Plan.{Top, alone, over, along}
use Rattle.tree.specs.Ordered.{Placed}
use Rattle.point.specs.Point.{servers_of}

abbrev pub no_curve : Curve
no_curve = record { offset = 0; count = 0; stages = [] }

abbrev pub flow_at : Row → ℕ → Flow
flow_at row k = get_or row.groups k no_flow

-- what begins at a server with this mark
abbrev pub marked_top : Row → List Curve → Option ℕ → Top
marked_top row lefts None = alone
marked_top row lefts (Some t) = over (shape_of (get_or lefts t no_curve)) (flow_at row t).last

abbrev pub top_in : Row → List (Option ℕ) → List Curve → ℕ → Top
top_in row tops lefts j = marked_top row lefts (get_or tops j None)

-- the curve of node k, joined along its path
abbrev pub path_curve : Row → ℕ → List (Option ℕ) → List Curve → Shape
path_curve row k tops lefts = along (servers_of row) (top_in row tops lefts) (length (servers_of row)) neutral (flow_at row k).first (flow_at row k).last

-- group t, marked at server j, is node k or one of those behind it; its path does not end before the server, and what it leaves is held
pub record Marked (row : Row) (lefts : List Curve) (k j t : ℕ) : Type 0 where
  pub behind : k ≤ t
  pub known : t < row.count
  pub holds : Holds (get_or lefts t no_curve) (shape_of (get_or lefts t no_curve))
  pub onward : j ≤ (flow_at row t).last
  pub ends : (flow_at row t).last ≤ row.size

abbrev pub Marks : Row → List Curve → ℕ → ℕ → Option ℕ → Type 0
Marks row lefts k j None = Unit {0}
Marks row lefts k j (Some t) = Marked row lefts k j t

-- what is asked before the curve of node k is worked out: its numbers fit
pub record Walkable (row : Row) (k : ℕ) (tops : List (Option ℕ)) (lefts : List Curve) : Type 0 where
  pub short : row.size ≤ 16
  pub few : row.count ≤ 32
  pub known : k < row.count
  pub placed : Placed row.size (flow_at row k)
  pub marks : (j : ℕ) → Marks row lefts (suc k) j (get_or tops j None)
  pub fits : length (path_curve row k tops lefts).stages ≤ 16
  pub near : (path_curve row k tops lefts).offset < 2 ^ 36
