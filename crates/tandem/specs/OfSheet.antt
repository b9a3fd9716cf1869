-- The row with its single flows that a sheet's numbers describe.
-- Assumes nothing.
use Rattle.std.specs.Prelude.{ℕ, zero, suc, List, [], ◌∷◌, ◌++◌}
use Rattle.sheet.specs.Valid.{server_count, server_rate, server_latency, flow_count, flow_first, flow_last, flow_burst, flow_rate, watched_burst, watched_rate}
use Rattle.tandem.specs.declared.Server.{Server}
use Rattle.tandem.specs.declared.Flow.{Flow}
use Rattle.tandem.specs.Tandem.{Tandem}

-- f 0, .., f (n - 1)
unfoldable pub listed : {B : Type 0} → ℕ → (ℕ → B) → List B
listed zero f = []
listed (suc n) f = listed n f ++ (f n ∷ [])

abbrev pub server_of : List ℕ → ℕ → Server
server_of xs j = record { rate = server_rate xs j; latency = server_latency xs j }

abbrev pub flow_of : List ℕ → ℕ → Flow
flow_of xs k = record { first = flow_first xs k; last = flow_last xs k; burst = flow_burst xs k; rate = flow_rate xs k }

-- "The watched flow crosses all of them."
abbrev pub watched_of : List ℕ → Flow
watched_of xs = record { first = 1; last = server_count xs; burst = watched_burst xs; rate = watched_rate xs }

unfoldable pub tandem_of : List ℕ → Tandem
tandem_of xs = record { servers = listed (server_count xs) (server_of xs); flows = watched_of xs ∷ listed (flow_count xs) (flow_of xs) }
