-- What the group leaves of the stages under its path is the part that `left` takes it out of.
-- Assumes nothing.
use mathlib.Core.Path.{refl}
use Rattle.keys.specs.Left.{left_by}
use Rattle.climb.proofs.Branch.next.Goals as goal

pub returns : goal.returns
unfolding left_by
returns c = (c.left-curve.ensures.holds, refl, refl)
