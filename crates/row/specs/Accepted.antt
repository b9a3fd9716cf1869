-- What is asked of a row before it is searched.
-- Assumes nothing.
use Rattle.std.specs.Prelude.{ℕ, ◌≤◌, ◌<◌, length}
use Rattle.tandem.specs.Tandem.{Tandem, flow}
use Rattle.tandem.specs.Sound.{Sound}

-- what the ranges of the fields and check 7 give, and check 6
pub record Accepted (row : Tandem) : Type 0 where
  pub sound : Sound row
  -- "A row is nested if no two paths (i, j), (h, k) have i < h ≤ j < k."
  pub nested : (f h : ℕ) → f < length row.flows → h < length row.flows
      → (flow row f).first < (flow row h).first → (flow row h).first ≤ (flow row f).last → (flow row h).last ≤ (flow row f).last
