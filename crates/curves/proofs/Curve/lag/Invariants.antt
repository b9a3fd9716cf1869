-- After each turn `most` and what the stages from i on still ask make the whole.
-- Assumes nothing.
use Rattle.curves.specs.Curve.{catch_up}
use Rattle.curves.proofs.Parts.{Rising}
use Rattle.curves.proofs.Curve.lag.Given as goal

abbrev pub invariant-loop-i : goal.invariant-loop-i
invariant-loop-i l = Rising (catch_up l.sigma) l.sigma l.self.stages l.self.count l.from l.to l.most l.i
