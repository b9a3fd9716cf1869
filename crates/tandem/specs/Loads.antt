-- The rates at each server added up, as the functions of src/lib.rt do it.
-- Assumes nothing.
use Rattle.std.specs.Prelude.{ℕ, ◌+◌, ◌-◌, ◌≤◌, ◌<◌, ◌≡◌, ◌&&◌, List, leb, length, get_or}
use Rattle.tandem.specs.Sums.{weigh, total}
use Rattle.tandem.specs.Tandem.{Tandem, flow, crosses}

-- sums for 16 servers, each with room for one rate more in a u64
pub record Roomy (loads : List ℕ) (rate : ℕ) : Type 0 where
  pub long : length loads ≡ 16
  pub room : (j : ℕ) → 1 ≤ j → j ≤ 16 → get_or loads (j - 1) 0 + rate < 18446744073709551616

-- a rate added at each server from the first to the last
pub record Added (first last rate : ℕ) (before after : List ℕ) : Type 0 where
  pub long : length after ≡ 16
  pub load_at : (j : ℕ) → 1 ≤ j → j ≤ 16 → get_or after (j - 1) 0 ≡ get_or before (j - 1) 0 + weigh (leb first j && leb j last) rate

-- the rates of the first n flows added up for each server
pub record Loaded (row : Tandem) (n : ℕ) (loads : List ℕ) : Type 0 where
  pub long : length loads ≡ 16
  pub load_at : (j : ℕ) → 1 ≤ j → j ≤ 16 → get_or loads (j - 1) 0 ≡ total n (λ f. weigh (crosses row f j) (flow row f).rate)
