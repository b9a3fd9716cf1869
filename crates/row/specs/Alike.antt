-- Two rows that agree in all that is read of their flows: the watched flow, the paths of groups, and of each path the bursts and the rates added up.
-- Assumes nothing.
use Rattle.std.specs.Prelude.{ℕ, ◌≤◌, ◌<◌, ◌≡◌, length}
use Rattle.tandem.specs.Tandem.{Tandem, Path, size, flow, on, bursts, rates}
use Rattle.row.specs.Groups.{used}

pub record Alike (row other : Tandem) : Type 0 where
  pub some : 0 < length row.flows
  pub some_other : 0 < length other.flows
  pub watched : flow row 0 ≡ flow other 0
  pub paths : (g : Path) → used row g ≡ used other g
  pub burst_sums : (g : Path) → bursts row (on row g) ≡ bursts other (on other g)
  pub rate_sums : (g : Path) → rates row (on row g) ≡ rates other (on other g)

-- all paths end in the row
abbrev pub Inside : Tandem → Type 0
Inside row = (f : ℕ) → f < length row.flows → ((flow row f).first ≤ size row) × ((flow row f).last ≤ size row)
