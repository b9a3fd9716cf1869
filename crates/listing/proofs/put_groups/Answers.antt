use Rattle.std.specs.Prelude.{refl, ◌≡◌, drop}
use Rattle.std.proofs.Common.{arith, length-drop, ◌∙◌}
use Rattle.std.proofs.lemmas.Grind.{common_steps}
use Rattle.std.proofs.lemmas.List.{take_all}
use Rattle.std.specs.Iterator.Adapters.{take_source}
use Rattle.std.specs.Slice.Iter.{iter_rest}
use Rattle.std.proofs.lemmas.Slice.Zip.{either_empty_from_Zip}
use Rattle.listing.proofs.Putting.{begin_filling, turn_room, turn, filled}
use Rattle.listing.proofs.put_groups.Goals as goal

pub loop-group-init : goal.loop-group-init
loop-group-init c =
    let rest : iter_rest c.iter.result ≡ drop 1 c.args.found.now.groups = c.iter.ensures.rest ∙ take_all 31 _ (omega (arith, length-drop 1 c.args.found.now.groups)) in
    begin_filling c.args.page.now (grind (arith, common_steps)) (cc) (grind (arith, common_steps)) (grind (arith, common_steps))

pub put_group-requires : goal.put_group-requires
put_group-requires c = let steps = c.in-Some.ensures.steps in turn_room _ _ _ c.loop-group.invariant steps.0.0 steps.0.1 steps.1 c.requires

pub loop-group-preserved : goal.loop-group-preserved
loop-group-preserved c = let steps = c.in-Some.ensures.steps in turn _ _ _ c.loop-group.invariant steps.0.0 steps.0.1 steps.1 c.put_group.ensures

pub returns : goal.returns
returns c =
    filled c.loop-group.invariant (λ h. either_empty_from_Zip (take_source c.loop-group.group-iterator) (take_source c.next.new.self) _ refl (c.in-None.ensures.steps h))
