-- What each public function promises: one record a function, of its inputs and its result. Unique.antt proves that these leave one result.
-- Assumes nothing.
use Rattle.std.specs.Prelude.{◌≡◌, List, ℕ}
use Rattle.tandem.specs.declared.Flow.{Flow}
use Rattle.grid.specs.declared.Steps.{Steps}
use Rattle.climb.specs.declared.Branch.{Branch}
use Rattle.climb.specs.Choosing.{least_key}

-- `choose`
pub record Choose (flows : List Flow) (steps : Steps) (k : ℕ) (s : Branch) (best r : ℕ) : Type 0 where
  -- the least of the best so far and of the keys of all points below the branch
  pub is : r ≡ least_key flows steps k s best
