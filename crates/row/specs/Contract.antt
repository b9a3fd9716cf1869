-- What each public function promises: one record a function, of its inputs and its result. Unique.antt proves that these leave one result.
-- Assumes nothing.
use Rattle.std.specs.Prelude.{◌≡◌, Bool, Result, List, [], length, ℕ}
use Rattle.tandem.specs.declared.Server.{Server}
use Rattle.tandem.specs.declared.Flow.{Flow}
use Rattle.tandem.specs.Lent.{row_in, Handed}
use Rattle.row.specs.declared.Row.{Row}
use Rattle.row.specs.declared.Unfit.{Unfit}
use Rattle.row.specs.Checks.{not_nested}
use Rattle.row.specs.RowFor.{formed_for}
use Rattle.row.specs.OfSheet.{formed_of}
use Rattle.row.specs.Parts.{Reached}

-- `reaches_of`
pub record ReachesOf (flows : List Flow) (r : List ℕ) : Type 0 where
  -- for each first server the furthest last one of the flows that begin there
  pub reaches : Reached (row_in [] flows) (length flows) r

-- `is_not_nested`
pub record IsNotNested (flows : List Flow) (r : Bool) : Type 0 where
  -- 6: "the row is not nested"
  pub is : r ≡ not_nested (row_in [] flows)

-- what `form` asks of the servers and flows: a row that may be formed
abbrev pub FormAsks : List Server → List Flow → Type 0
FormAsks servers flows = Handed (row_in servers flows)

-- `form`
pub record Form (servers : List Server) (flows : List Flow) (mode grid : ℕ) (r : Result Row Unfit) : Type 0 where
  -- the row that is handed on, or the first check that the row of these servers and flows does not pass
  pub is : r ≡ formed_for (row_in servers flows) mode grid

-- `row_of`
pub record RowOf (xs : List ℕ) (r : Result Row Unfit) : Type 0 where
  -- the row that is handed on, or the first check that the sheet's row does not pass
  pub is : r ≡ formed_of xs
