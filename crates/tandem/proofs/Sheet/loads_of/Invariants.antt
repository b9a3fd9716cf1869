-- At each server stands the sum over the first f flows.
-- Assumes nothing.
use Rattle.tandem.specs.OfSheet.{tandem_of}
use Rattle.tandem.specs.Loads.{Loaded}
use Rattle.tandem.proofs.Sheet.loads_of.Given as goal

abbrev pub invariant-loop-f : goal.invariant-loop-f
invariant-loop-f l = Loaded (tandem_of l.self.numbers.now) l.f l.loads
