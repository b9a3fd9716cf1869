-- The entries of the part before the one at hand are changed.
-- Assumes nothing.
use Rattle.std.proofs.Common.{◌≡◌}
use Rattle.curves.specs.Part.{Acts, changed}
use Rattle.curves.proofs.change.Given as goal

abbrev pub invariant-loop-x : goal.invariant-loop-x
invariant-loop-x g l = (h : _) → Acts (λ x r. goal.F-post g l.f x r) h → l.x-items ≡ changed h 0 l.x-index l.initial.x-items
