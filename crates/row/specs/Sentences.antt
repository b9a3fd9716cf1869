-- Refusal 6 as a sentence of a row (document 01, "Refusals by number"). CheckLaws.antt proves that the test of Checks.antt says the same.
-- Assumes nothing.
use Rattle.std.specs.Prelude.{ℕ, ◌≤◌, ◌<◌, length}
use Rattle.tandem.specs.Tandem.{Tandem, flow}

-- two flows of the row whose paths (i, j), (h, k) have i < h ≤ j < k
pub record Crossed (row : Tandem) : Type 0 where
  pub f : ℕ
  pub h : ℕ
  pub f_flows : f < length row.flows
  pub h_flows : h < length row.flows
  pub begins_behind : (flow row f).first < (flow row h).first
  pub begins_inside : (flow row h).first ≤ (flow row f).last
  pub ends_behind : (flow row f).last < (flow row h).last
