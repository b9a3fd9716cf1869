-- The ranges of a flow.
-- Assumes nothing.
use Rattle.std.specs.Prelude.{ℕ, ◌≤◌}
use Rattle.tandem.specs.declared.Flow.{Flow}

-- the ranges of a flow in a row of n servers, with a burst of at most so much
pub record Ranged (n most : ℕ) (f : Flow) : Type 0 where
  pub begins : 1 ≤ f.first
  pub path : f.first ≤ f.last
  pub ends : f.last ≤ n
  pub small_burst : f.burst ≤ most
  pub moves : 1 ≤ f.rate
  pub small_rate : f.rate ≤ 65535
