-- The servers beside the path are two parts of the curve's stages, those before it and those behind it.
-- Assumes nothing.
use mathlib.Core.Path.{sym, ◌∙◌}
use native.Mathlib.Omega.{arith}
use Rattle.keys.specs.State.{gives_beside}
use Rattle.climb.proofs.Giving.{first_gives, last_gives, past_before, past_behind}
use Rattle.climb.proofs.Branch.is_past.Goals as goal

pub returns-then-not-gives : goal.returns-then-not-gives
unfolding gives_beside
returns-then-not-gives c =
    past_before _ _ _ _ (sym c.is_late.ensures ∙ c.if-is_late.false)
    (c.gives.ensures ∙ first_gives _ _ c.rest_of-rest.ensures c.args.wants.now c.args.self.now.curve.count c.args.self.now.curve.stages c.requires.full _ (omega arith) (omega arith))
    c.if-not-gives.true

pub returns-else-not-gives : goal.returns-else-not-gives
unfolding gives_beside
returns-else-not-gives c =
    past_behind _ _ _ _ (sym c.is_late.ensures ∙ c.if-is_late.false)
    (c.gives.ensures ∙ first_gives _ _ c.rest_of-rest.ensures c.args.wants.now c.args.self.now.curve.count c.args.self.now.curve.stages c.requires.full _ (omega arith) (omega arith))
    _ (c.gives-else-not-gives.ensures ∙ last_gives _ _ c.rest_of-rest.ensures c.args.wants.now c.args.self.now.curve.count c.args.self.now.curve.stages c.requires.full _ (omega arith))
    c.if-not-gives.false
