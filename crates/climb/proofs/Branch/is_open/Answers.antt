-- The servers under the path are the part of the branch's curve that is asked, with the slots that are left behind the branch's own.
-- Assumes nothing.
use mathlib.Core.Path.{◌∙◌}
use native.Mathlib.Omega.{arith}
use Rattle.keys.specs.State.{gives_under}
use Rattle.climb.proofs.Giving.{part_gives}
use Rattle.climb.proofs.Branch.is_open.Goals as goal

pub returns : goal.returns
unfolding gives_under
returns c =
    let s = c.args.self.now in
    c.gives.ensures ∙ part_gives _ _ c.rest_of-rest.ensures c.args.wants.now s.curve.count s.curve.stages c.requires.0.full _ _ (omega arith) (omega arith)
