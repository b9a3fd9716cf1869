-- The chain goes over the curve's stages, and gives the greatest of what `excess` gives of them.
-- Assumes nothing.
use Rattle.std.proofs.Common.{rules, tests, ◌-◌, ℕ, take, ap, ◌∙◌, sym}
use Rattle.std.proofs.lemmas.Iterator.{YieldsList-from_slice, YieldsList-from_map}
use Rattle.std.proofs.lemmas.Iterator.Adapters.{option_map_id}
use Rattle.std.proofs.lemmas.Iterator.Consumers.{max_from_yields_List}
use Rattle.std.specs.Option.{unwrap_or}
use Rattle.std.specs.declared.option.Option.{Option}
use Rattle.curves.specs.declared.Stage.{Stage}
use Rattle.curves.specs.Curve.{line}
use Rattle.curves.proofs.StageLaws.{max_greatest}
use Rattle.curves.proofs.Curve.first_excess.Goals as goal

pub returns : goal.returns
returns c =
    let stages = take c.args.self.now.count c.args.self.now.stages in
    let f : Stage → ℕ = λ s. c.args.sent - line 1 s in
    let q =
    max_from_yields_List _ _ c.max.ensures.ran (YieldsList-from_map _ f (YieldsList-from_slice stages cc) c.map.ensures.closure (λ x r q k. search (rules, tests))) in
    c.unwrap_or.ensures ∙ ap (λ (o : Option ℕ). unwrap_or o 0) (sym (option_map_id c.max.result) ∙ q) ∙ max_greatest f stages
