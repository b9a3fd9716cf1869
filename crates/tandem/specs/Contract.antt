-- What each public function promises: one record a function, of its inputs, the entries' contents and its result. Unique.antt proves that these leave
-- one result.
-- Assumes nothing.
use Rattle.std.specs.Prelude.{◌≡◌, Option, List, ◌++◌, ℕ, ◌≤◌, length, drop}
use Rattle.sheet.specs.Valid.{server_count, flow_count, watched_place}
use Rattle.tandem.specs.declared.Server.{Server}
use Rattle.tandem.specs.declared.Flow.{Flow}
use Rattle.tandem.specs.Tandem.{flow}
use Rattle.tandem.specs.Crowded.{crowded_server}
use Rattle.tandem.specs.OfSheet.{server_of, flow_of, watched_of, tandem_of}
use Rattle.tandem.specs.Loads.{Loaded}
use Rattle.tandem.specs.Lent.{lent_flow}

-- `server_count`
pub record ServerCount (xs : List ℕ) (r : ℕ) : Type 0 where
  -- N, how many servers the row has
  pub is : r ≡ server_count xs

-- `flow_count`
pub record FlowCount (xs : List ℕ) (r : ℕ) : Type 0 where
  -- how many cross flows the row has
  pub is : r ≡ flow_count xs

-- `flow_total`
pub record FlowTotal (xs : List ℕ) (r : ℕ) : Type 0 where
  -- how many flows the row has, the watched one included
  pub is : r ≡ length (tandem_of xs).flows
  -- at most 48 cross flows
  pub few : r ≤ 49

-- `server_at`
pub record ServerAt (xs : List ℕ) (j : ℕ) (r : Server) : Type 0 where
  -- server j, counted from 0
  pub is : r ≡ server_of xs j

-- `cross_flow`
pub record CrossFlow (xs : List ℕ) (k : ℕ) (r : Flow) : Type 0 where
  -- cross flow k, counted from 0
  pub is : r ≡ flow_of xs k

-- `watched_place`
pub record WatchedPlace (xs : List ℕ) (r : ℕ) : Type 0 where
  -- the place of "watched flow: σ"
  pub is : r ≡ watched_place xs

-- `watched_flow`
pub record WatchedFlow (xs : List ℕ) (r : Flow) : Type 0 where
  -- "The watched flow crosses all of them."
  pub is : r ≡ watched_of xs

-- `flow_at`
pub record FlowAt (xs : List ℕ) (f : ℕ) (r : Flow) : Type 0 where
  -- flow f of the row, of which flow 0 is the watched one
  pub is : r ≡ flow (tandem_of xs) f

-- `list_servers`
pub record ListServers (xs : List ℕ) (before after : List Server) : Type 0 where
  -- the servers, and behind them what stood there
  pub holds : after ≡ (tandem_of xs).servers ++ drop (server_count xs) before

-- `list_flows`
pub record ListFlows (xs : List ℕ) (before after : List Flow) : Type 0 where
  -- the flows, and behind them what stood there
  pub holds : after ≡ (tandem_of xs).flows ++ drop (length (tandem_of xs).flows) before

-- of a list of numbers into which flows were spread (`spread_flows`)
pub record FlowIn (flows : List ℕ) (f : ℕ) (r : Flow) : Type 0 where
  -- flow f of the list
  pub is : r ≡ lent_flow flows f

-- `loads_of`
pub record LoadsOf (xs r : List ℕ) : Type 0 where
  -- the rates at each server, the watched flow's included, added up
  pub loads : Loaded (tandem_of xs) (length (tandem_of xs).flows) r

-- `lowest_crowded`
pub record LowestCrowded (xs : List ℕ) (r : Option ℕ) : Type 0 where
  -- 7: the lowest server whose rates, the watched flow's included, "sum above R", if there is one
  pub is : r ≡ crowded_server (tandem_of xs)
