-- The steps of a grid as the code holds them: equal ones once, in order, each with the first digit that has it.
-- Assumes nothing.
use Rattle.std.specs.Prelude.{List, map, ℕ, ◌-◌, ◌*◌, ◌/◌, length, take}
use Rattle.row.specs.RowFor.{padded}
use Rattle.keys.specs.Numbers.{first_digits}
use Rattle.grid.specs.declared.Step.{Step}
use Rattle.grid.specs.declared.Steps.{Steps}

-- "e runs over floor(i·start / (g − 1)), i = 0..g − 1"
abbrev pub step_at : ℕ → ℕ → ℕ → ℕ
step_at start g i = i * start / (g - 1)

-- a digit with its step
abbrev pub step_with : ℕ → ℕ → ℕ → Step
step_with start g d = record { digit = d; value = step_at start g d }

-- an entry that holds no step
abbrev pub no_step : Step
no_step = record { digit = 0; value = 0 }

-- behind the steps stand entries that hold none
unfoldable pub steps_in : ℕ → ℕ → Steps
steps_in start g =
    record {
      start = start;
      grid = g;
      count = length (first_digits (step_at start g) g);
      steps = padded 9 no_step (map (step_with start g) (first_digits (step_at start g) g));
    }

-- the digits that the code holds, and their steps
abbrev pub digits_of : Steps → List ℕ
digits_of steps = map (λ s. s.digit) (take steps.count steps.steps)

abbrev pub values_of : Steps → List ℕ
values_of steps = map (λ s. s.value) (take steps.count steps.steps)
