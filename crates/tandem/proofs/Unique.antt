-- Each public function leaves one possible result: two results, and two contents, that both meet its contract are equal.
-- Assumes nothing.
use Rattle.std.specs.Prelude.{◌≡◌, Option, List, ℕ, ◌+◌, ◌-◌, ◌<◌, length, get_or}
use Rattle.std.proofs.Common.{sym, ap, ◌∙◌, arith, ext_get_or}
use Rattle.ground.proofs.ValueLaws.{one_value}
use Rattle.tandem.specs.declared.Server.{Server}
use Rattle.tandem.specs.declared.Flow.{Flow}
use Rattle.tandem.specs.Contract.{ServerCount, FlowCount, FlowTotal, ServerAt, CrossFlow, WatchedPlace, WatchedFlow, FlowAt}
use Rattle.tandem.specs.Contract.{ListServers, ListFlows, FlowIn, LoadsOf, LowestCrowded}

pub server_count_unique : (xs : List ℕ) (a b : ℕ) → ServerCount xs a → ServerCount xs b → a ≡ b
server_count_unique xs a b h k = one_value h.is k.is

pub flow_count_unique : (xs : List ℕ) (a b : ℕ) → FlowCount xs a → FlowCount xs b → a ≡ b
flow_count_unique xs a b h k = one_value h.is k.is

pub flow_total_unique : (xs : List ℕ) (a b : ℕ) → FlowTotal xs a → FlowTotal xs b → a ≡ b
flow_total_unique xs a b h k = one_value h.is k.is

pub server_at_unique : (xs : List ℕ) (j : ℕ) (a b : Server) → ServerAt xs j a → ServerAt xs j b → a ≡ b
server_at_unique xs j a b h k = one_value h.is k.is

pub cross_flow_unique : (xs : List ℕ) (f : ℕ) (a b : Flow) → CrossFlow xs f a → CrossFlow xs f b → a ≡ b
cross_flow_unique xs f a b h k = one_value h.is k.is

pub watched_place_unique : (xs : List ℕ) (a b : ℕ) → WatchedPlace xs a → WatchedPlace xs b → a ≡ b
watched_place_unique xs a b h k = one_value h.is k.is

pub watched_flow_unique : (xs : List ℕ) (a b : Flow) → WatchedFlow xs a → WatchedFlow xs b → a ≡ b
watched_flow_unique xs a b h k = one_value h.is k.is

pub flow_at_unique : (xs : List ℕ) (f : ℕ) (a b : Flow) → FlowAt xs f a → FlowAt xs f b → a ≡ b
flow_at_unique xs f a b h k = one_value h.is k.is

pub list_servers_unique : (xs : List ℕ) (before a b : List Server) → ListServers xs before a → ListServers xs before b → a ≡ b
list_servers_unique xs before a b h k = one_value h.holds k.holds

pub list_flows_unique : (xs : List ℕ) (before a b : List Flow) → ListFlows xs before a → ListFlows xs before b → a ≡ b
list_flows_unique xs before a b h k = one_value h.holds k.holds

pub flow_in_unique : (flows : List ℕ) (f : ℕ) (a b : Flow) → FlowIn flows f a → FlowIn flows f b → a ≡ b
flow_in_unique flows f a b h k = one_value h.is k.is

pub loads_of_unique : (xs a b : List ℕ) → LoadsOf xs a → LoadsOf xs b → a ≡ b
loads_of_unique xs a b h k = ext_get_or 0 a b (h.loads.long ∙ sym k.loads.long) each
  where
    each : (i : ℕ) → i < length a → get_or a i 0 ≡ get_or b i 0
    each i l =
        let e : i + 1 - 1 ≡ i = omega arith in
        let x = h.loads.load_at (i + 1) (omega arith) (omega (arith, h.loads.long)) in
        let y = k.loads.load_at (i + 1) (omega arith) (omega (arith, h.loads.long)) in
        ap (λ (j : ℕ). get_or a j 0) (sym e) ∙ x ∙ sym y ∙ ap (λ (j : ℕ). get_or b j 0) e

pub lowest_crowded_unique : (xs : List ℕ) (a b : Option ℕ) → LowestCrowded xs a → LowestCrowded xs b → a ≡ b
lowest_crowded_unique xs a b h k = one_value h.is k.is
