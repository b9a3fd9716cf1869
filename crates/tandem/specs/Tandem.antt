-- A row with its single flows (document 01, "The row being judged"): "A row has servers 1..N. The watched flow crosses all of them. A
-- cross flow enters at its first server and leaves after its last." The source papers call it a tandem.
-- Assumes nothing.
use Rattle.std.specs.Prelude.{ℕ, ◌-◌, Bool, ◌&&◌, List, leb, ltb, eqb, length, get_or}
use Rattle.tandem.specs.declared.Server.{Server}
use Rattle.tandem.specs.declared.Flow.{Flow}
use Rattle.tandem.specs.Sums.{weigh, total}

-- servers 1 to N, and the flows: flow 0 is the watched one, the others are the cross flows in sheet order
pub record Tandem : Type 0 where
  pub servers : List Server
  pub flows : List Flow

-- what stands where there is no server, or no flow
abbrev pub no_server : Server
no_server = record { rate = 0; latency = 0 }

abbrev pub no_flow : Flow
no_flow = record { first = 0; last = 0; burst = 0; rate = 0 }

-- N
abbrev pub size : Tandem → ℕ
size row = length row.servers

-- server j, counted from 1
abbrev pub server : Tandem → ℕ → Server
server row j = get_or row.servers (j - 1) no_server

abbrev pub flow : Tandem → ℕ → Flow
flow row f = get_or row.flows f no_flow

-- flow f is one of the row's, and its path has server j
unfoldable pub crosses : Tandem → ℕ → ℕ → Bool
crosses row f j = ltb f (length row.flows) && (leb (flow row f).first j && leb j (flow row f).last)

-- a first and a last server
pub record Path : Type 0 where
  pub first : ℕ
  pub last : ℕ

-- flow f is a cross flow of the row with the path g
unfoldable pub on : Tandem → Path → ℕ → Bool
on row g f = ltb 0 f && (ltb f (length row.flows) && (eqb (flow row f).first g.first && eqb (flow row f).last g.last))

-- flow f is the watched one
unfoldable pub watched : ℕ → Bool
watched f = eqb 0 f

-- the bursts and the rates of a set of flows, added up
unfoldable pub bursts : Tandem → (ℕ → Bool) → ℕ
bursts row P = total (length row.flows) (λ f. weigh (P f) (flow row f).burst)

unfoldable pub rates : Tandem → (ℕ → Bool) → ℕ
rates row P = total (length row.flows) (λ f. weigh (P f) (flow row f).rate)
