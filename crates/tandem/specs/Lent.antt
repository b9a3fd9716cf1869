-- A row in lent lists, whoever made them: lists of servers and of flows, the watched flow first; and lists of numbers, two for a server, four for a
-- flow.
-- Assumes nothing.
use Rattle.std.specs.Prelude.{ℕ, ◌+◌, ◌*◌, ◌≤◌, ◌<◌, List, [], ◌∷◌, length, get_or}
use Rattle.tandem.specs.declared.Server.{Server}
use Rattle.tandem.specs.declared.Flow.{Flow}
use Rattle.tandem.specs.Tandem.{Tandem, size, no_flow}
use Rattle.tandem.specs.Ranges.{Ranged}
use Rattle.tandem.specs.Sound.{Sound, Limits}
use Rattle.tandem.specs.OfSheet.{listed}

-- the row with these servers and these flows
abbrev pub row_in : List Server → List Flow → Tandem
row_in servers flows = record { servers = servers; flows = flows }

-- of lists of numbers: server j, counted from 0, its rate and its latency
abbrev pub server_in : List ℕ → ℕ → Server
server_in xs j = record { rate = get_or xs (2 * j) 0; latency = get_or xs (2 * j + 1) 0 }

-- flow k: its first and last server, its burst and its rate
abbrev pub lent_flow : List ℕ → ℕ → Flow
lent_flow xs k = record { first = get_or xs (4 * k) 0; last = get_or xs (4 * k + 1) 0; burst = get_or xs (4 * k + 2) 0; rate = get_or xs (4 * k + 3) 0 }

-- the first n of them
abbrev pub flows_in : List ℕ → ℕ → List Flow
flows_in xs n = listed n (lent_flow xs)

-- n servers and m flows
abbrev pub tandem_in : List ℕ → ℕ → List ℕ → ℕ → Tandem
tandem_in servers n flows m = record { servers = listed n (server_in servers); flows = flows_in flows m }

-- the flows by themselves, where no server is read
abbrev pub alone : List ℕ → ℕ → Tandem
alone flows m = record { servers = []; flows = flows_in flows m }

-- the numbers of servers, and of flows, one behind the other
unfoldable pub spread_servers : List Server → List ℕ
spread_servers [] = []
spread_servers (s ∷ ss) = s.rate ∷ s.latency ∷ spread_servers ss

unfoldable pub spread_flows : List Flow → List ℕ
spread_flows [] = []
spread_flows (f ∷ fs) = f.first ∷ f.last ∷ f.burst ∷ f.rate ∷ spread_flows fs

-- the ranges of a flow, wider than a sheet's so that flows that are cut or grown fit too
abbrev pub Wide : ℕ → Flow → Type 0
Wide n f = Ranged n 16777215 f

-- the flows of a row of n servers
pub record Listed (n : ℕ) (flows : List Flow) : Type 0 where
  pub short : n ≤ 16
  pub some : 1 ≤ length flows
  pub few : length flows ≤ 49
  pub ranges : (f : ℕ) → f < length flows → Wide n (get_or flows f no_flow)

-- a row that may be formed: its flows are in range, and its rates fit
pub record Handed (row : Tandem) : Type 0 where
  pub listed : Listed (size row) row.flows
  pub sound : Sound row
  pub limits : Limits row

-- of lists of numbers: m flows in a list, of a row of n servers
pub record Laid (n : ℕ) (flows : List ℕ) (m : ℕ) : Type 0 where
  pub short : n ≤ 16
  pub some : 1 ≤ m
  pub few : m ≤ 49
  pub room : 4 * m ≤ length flows
  pub ranges : (f : ℕ) → f < m → Wide n (lent_flow flows f)

-- a row in lists of numbers that may be formed: its lists, and that its rates fit
pub record Lent (servers : List ℕ) (n : ℕ) (flows : List ℕ) (m : ℕ) : Type 0 where
  pub laid : Laid n flows m
  pub room : 2 * n ≤ length servers
  pub sound : Sound (tandem_in servers n flows m)
  pub limits : Limits (tandem_in servers n flows m)
