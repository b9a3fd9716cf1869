-- The numbers of a sheet by name, and document 01's table of their ranges. Whoever uses an accepted sheet's numbers uses this.
-- Servers and cross flows are counted from 0 here: server j of a list is document 01's server j + 1.
-- Assumes nothing.
use Rattle.std.specs.Prelude.{ℕ, ◌+◌, ◌≤◌, ◌<◌, ◌≡◌, ◌⊎◌, List, length, get_or}
use Rattle.fields.specs.Rule.{server_at, flow_at}
use Rattle.sheet.specs.Sheet.{encode_all}

-- "edition", "N"
abbrev pub edition : List ℕ → ℕ
edition xs = get_or xs 0 0

abbrev pub server_count : List ℕ → ℕ
server_count xs = get_or xs 1 0

-- "per server: R, T": the place of number c of server j
abbrev pub server_place : List ℕ → ℕ → ℕ → ℕ
server_place xs j c = server_at (edition xs) j c

abbrev pub server_rate : List ℕ → ℕ → ℕ
server_rate xs j = get_or xs (server_place xs j 0) 0

abbrev pub server_latency : List ℕ → ℕ → ℕ
server_latency xs j = get_or xs (server_place xs j 1) 0

-- "number of cross flows", behind the last server
abbrev pub count_place : List ℕ → ℕ
count_place xs = server_place xs (server_count xs) 0

abbrev pub flow_count : List ℕ → ℕ
flow_count xs = get_or xs (count_place xs) 0

-- "per flow: first, last", "per flow: σ, ρ"
abbrev pub flow_place : List ℕ → ℕ → ℕ
flow_place xs k = flow_at (edition xs) (server_count xs) k

abbrev pub flow_first : List ℕ → ℕ → ℕ
flow_first xs k = get_or xs (flow_place xs k) 0

abbrev pub flow_last : List ℕ → ℕ → ℕ
flow_last xs k = get_or xs (flow_place xs k + 1) 0

abbrev pub flow_burst : List ℕ → ℕ → ℕ
flow_burst xs k = get_or xs (flow_place xs k + 2) 0

abbrev pub flow_rate : List ℕ → ℕ → ℕ
flow_rate xs k = get_or xs (flow_place xs k + 3) 0

-- "watched flow: σ, ρ", "mode", "g"
abbrev pub watched_place : List ℕ → ℕ
watched_place xs = flow_place xs (flow_count xs)

abbrev pub watched_burst : List ℕ → ℕ
watched_burst xs = get_or xs (watched_place xs) 0

abbrev pub watched_rate : List ℕ → ℕ
watched_rate xs = get_or xs (watched_place xs + 1) 0

abbrev pub mode : List ℕ → ℕ
mode xs = get_or xs (watched_place xs + 2) 0

abbrev pub grid : List ℕ → ℕ
grid xs = get_or xs (watched_place xs + 3) 0

-- low..high
pub record Within (low high x : ℕ) : Type 0 where
  pub least : low ≤ x
  pub most : x ≤ high

-- The table, field by field.
pub record Valid (xs : List ℕ) : Type 0 where
  -- "edition | 1"
  pub one_edition : Within 1 1 (edition xs)
  -- "N | 1..16"
  pub servers : Within 1 16 (server_count xs)
  -- "per server: R, T | 1..1,000,000; 0..1,000"
  pub rates : (j : ℕ) → j < server_count xs → Within 1 1000000 (server_rate xs j)
  pub latencies : (j : ℕ) → j < server_count xs → Within 0 1000 (server_latency xs j)
  -- "number of cross flows | 0..48"
  pub flows : Within 0 48 (flow_count xs)
  -- "per flow: first, last | 1..N; first..N"
  pub firsts : (k : ℕ) → k < flow_count xs → Within 1 (server_count xs) (flow_first xs k)
  pub lasts : (k : ℕ) → k < flow_count xs → Within (flow_first xs k) (server_count xs) (flow_last xs k)
  -- "per flow: σ, ρ | 0..65,535; 1..65,535"
  pub flow_bursts : (k : ℕ) → k < flow_count xs → Within 0 65535 (flow_burst xs k)
  pub flow_rates : (k : ℕ) → k < flow_count xs → Within 1 65535 (flow_rate xs k)
  -- "watched flow: σ, ρ | the same"
  pub watched_burst : Within 0 65535 (watched_burst xs)
  pub watched_rate_lem : Within 1 65535 (watched_rate xs)
  -- "mode | 0 or 1"
  pub modes : Within 0 1 (mode xs)
  -- "g | 0 or 2..9"
  pub grids : (grid xs ≡ 0) ⊎ Within 2 9 (grid xs)
  -- and no number is missing or left over
  pub size : length xs ≡ watched_place xs + 4

-- s is the sheet with the numbers xs: they meet the table, and s is their bytes
pub record IsSheet (s xs : List ℕ) : Type 0 where
  pub valid : Valid xs
  pub bytes : encode_all xs ≡ s
