-- The first f flows are listed.
-- Assumes nothing.
use Rattle.std.proofs.Common.{◌≡◌, ℕ, ◌<◌, get_or}
use Rattle.tandem.specs.Tandem.{flow, no_flow}
use Rattle.tandem.specs.OfSheet.{tandem_of}
use Rattle.tandem.proofs.Sheet.list_flows.Given as goal

abbrev pub invariant-loop-f : goal.invariant-loop-f
invariant-loop-f l = (k : ℕ) → k < l.f → get_or l.flow-items k no_flow ≡ flow (tandem_of l.self.numbers.now) k
