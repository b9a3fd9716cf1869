-- What the ranges of a row's fields and check 7 give, and the ranges of its numbers, wider than a sheet's so that later rows fit too.
-- Assumes nothing.
use Rattle.std.specs.Prelude.{ℕ, ◌≤◌, ◌<◌, ◌≡◌, ◌⊎◌, length}
use Rattle.tandem.specs.Sums.{total}
use Rattle.tandem.specs.Tandem.{Tandem, size, server, flow, crosses, rates}

-- the path of flow f lies in the row; or the flow crosses no server of it, and its path ends before the first or begins behind the last
abbrev pub Lies : Tandem → ℕ → Type 0
Lies row f =
    (0 < (flow row f).first) × ((flow row f).last ≤ size row)
    × (((flow row f).first ≤ (flow row f).last) ⊎ (((flow row f).last ≡ 0) ⊎ (size row < (flow row f).first)))

-- what the ranges of the fields give, and check 7
pub record Sound (row : Tandem) : Type 0 where
  pub long : 0 < size row
  pub some : 0 < length row.flows
  -- "The watched flow crosses all of them"
  pub enters : (flow row 0).first ≡ 1
  pub leaves : (flow row 0).last ≡ size row
  pub paths : (f : ℕ) → f < length row.flows → Lies row f
  pub moves : (f : ℕ) → f < length row.flows → 0 < (flow row f).rate
  -- the rates at a server, the watched flow's included, do not sum above R
  pub room : (j : ℕ) → 0 < j → j ≤ size row → rates row (λ f. crosses row f j) ≤ (server row j).rate

-- the ranges
pub record Limits (row : Tandem) : Type 0 where
  pub few_servers : size row ≤ 16
  pub few_flows : length row.flows ≤ 49
  pub small_rates : (j : ℕ) → (server row j).rate ≤ 1000000
  pub small_latencies : (j : ℕ) → (server row j).latency ≤ 10216
  pub small_bursts : total (length row.flows) (λ f. (flow row f).burst) ≤ 822083535
