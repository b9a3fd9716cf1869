-- What the row of a valid sheet has once it passed the checks.
-- Assumes nothing.
use Rattle.std.specs.Prelude.{ℕ, ◌≡◌, false, List}
use Rattle.sheet.specs.Valid.{server_count, mode, grid}
use Rattle.row.specs.Checks.{too_many}
use Rattle.tandem.specs.Sound.{Limits}
use Rattle.row.specs.Accepted.{Accepted}
use Rattle.tandem.specs.OfSheet.{tandem_of}
use Rattle.row.specs.OfSheet.{grid_of}

-- what a row that passed has
pub record PassedRow (xs : List ℕ) : Type 0 where
  pub accepts : Accepted (tandem_of xs)
  pub limited : Limits (tandem_of xs)
  pub few_points : too_many (tandem_of xs) (mode xs) (grid_of (server_count xs) (grid xs)) ≡ false
