-- A row beyond a sheet's ranges, as a part of a cut row may be, is within the limits; and check 7 at a sum of just R, one above it, and at the lowest
-- of two servers.
-- Assumes nothing.
use Rattle.std.specs.Prelude.{ℕ, zero, suc, ◌-◌, ◌≤◌, ◌≡◌, refl, [], ◌∷◌, get_or}
use Rattle.std.proofs.Common.{arith}
use Rattle.tandem.specs.declared.Server.{Server}
use Rattle.tandem.specs.declared.Flow.{Flow}
use Rattle.tandem.specs.Sums.{total}
use Rattle.tandem.specs.Tandem.{Tandem, crosses, rates, no_server}
use Rattle.tandem.specs.Crowded.{crowded, lowest_crowded}
use Rattle.tandem.specs.Sound.{Limits}
use Rattle.tandem.specs.Lent.{Wide}

-- one server with a latency of 10,216, and one flow with a burst of 16,777,215
abbrev far : Server
far = record { rate = 1000000; latency = 10216 }

abbrev grown : Flow
grown = record { first = 1; last = 1; burst = 16777215; rate = 65535 }

far_at : (k : ℕ) → ((get_or (far ∷ []) k no_server).rate ≤ 1000000)
    × ((get_or (far ∷ []) k no_server).latency ≤ 10216)
far_at zero = (omega arith, omega arith)
far_at (suc k) = (omega arith, omega arith)

pub far_limited : Limits (record { servers = far ∷ []; flows = grown ∷ [] })
unfolding total
far_limited = record {
  few_servers = omega arith;
  few_flows = omega arith;
  small_rates = λ j. (far_at (j - 1)).0;
  small_latencies = λ j. (far_at (j - 1)).1;
  small_bursts = omega arith;
}

pub grown_wide : Wide 1 grown
grown_wide = record { begins = omega arith; path = omega arith; ends = omega arith; small_burst = omega arith; moves = omega arith; small_rate = omega arith }

-- servers of rates R and S; flows (1, 2) of rate 6 and (2, 2) of rate 4
abbrev pair : ℕ → ℕ → Tandem
pair R S = record {
  servers = record { rate = R; latency = 0 } ∷ record { rate = S; latency = 0 } ∷ [];
  flows = record { first = 1; last = 2; burst = 1; rate = 6 } ∷ record { first = 2; last = 2; burst = 1; rate = 4 } ∷ [];
}

pub crowded_figures :
    (lowest_crowded (pair 6 10) 1 2 ≡ 0) × (lowest_crowded (pair 6 9) 1 2 ≡ 2) × (lowest_crowded (pair 5 9) 1 2 ≡ 1) × (lowest_crowded (pair 5 10) 1 2 ≡ 1)
unfolding lowest_crowded crowded rates crosses total
crowded_figures = (refl, refl, refl, refl)
