-- What each public function promises: one record a function, of its inputs and its result. Unique.antt proves that these leave one result.
-- Assumes nothing.
use Rattle.std.specs.Prelude.{◌≡◌, List, ℕ}
use Rattle.row.specs.RowFor.{padded}
use Rattle.keys.specs.Numbers.{point_at}
use Rattle.grid.specs.declared.Steps.{Steps}
use Rattle.grid.specs.Steps.{step_at, steps_in}

-- `steps_of`
pub record StepsOf (start g : ℕ) (r : Steps) : Type 0 where
  -- the steps of the grid, equal ones once, and entries of zeros behind them
  pub is : r ≡ steps_in start g

-- `extras_at`
pub record ExtrasAt (number start g groups : ℕ) (r : List ℕ) : Type 0 where
  -- the extras of the point with this number, and zeros behind them
  pub is : r ≡ padded 32 0 (point_at (step_at start g) g groups number)
