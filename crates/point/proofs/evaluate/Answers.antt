use mathlib.Core.Path.{refl}
use native.Mathlib.Omega.{arith}
use Rattle.point.proofs.Nodes.{none_behind, behind_root, walkable, in_range, light, wait_fits, leaving, behind_next, root_is}
use Rattle.point.proofs.evaluate.Goals as goal

pub loop-k-init : goal.loop-k-init
loop-k-init c =
    none_behind _ _ c.requires (omega arith) _ refl

pub join_path-requires : goal.join_path-requires
join_path-requires c =
    (c.none-c.ensures.holds, walkable _ _ c.requires (omega arith) _ _ _ _ c.loop-k.invariant)

pub least_wait-least-requires : goal.least_wait-least-requires
least_wait-least-requires c =
    let u = c.loop-k.invariant in
    let h = c.join_path.ensures in
    (in_range _ _ c.requires (omega arith) _ _ _ _ u _ h, omega (arith, light _ _ c.requires (omega arith) _ _ _ _ u _ h))

pub overflow_add-wait : goal.overflow_add-wait
overflow_add-wait c =
    omega (arith, wait_fits _ _ c.requires (omega arith) _ _ _ _ c.loop-k.invariant _ c.join_path.ensures (omega arith) _ c.least_wait-least.ensures.is)

pub remainder-requires : goal.remainder-requires
remainder-requires c =
    leaving _ _ c.requires (omega arith) _ _ _ _ c.loop-k.invariant _ c.join_path.ensures (omega arith) _ c.least_wait-least.ensures.is

pub loop-k-preserved : goal.loop-k-preserved
loop-k-preserved c =
    behind_next _ _ c.requires (omega arith) _ _ _ _ c.loop-k.invariant _ c.join_path.ensures (omega arith) _ c.least_wait-least.ensures.is _ c.remainder.ensures.holds

pub join_path-requires-2 : goal.join_path-requires-2
join_path-requires-2 c =
    (c.none-c-2.ensures.holds, walkable _ _ c.requires (omega arith) _ _ _ _ (behind_root _ _ _ _ _ c.loop-k.invariant (omega arith)))

pub delay-requires : goal.delay-requires
delay-requires c =
    let u = behind_root _ _ _ _ _ c.loop-k.invariant (omega arith) in
    let h = c.join_path-2.ensures in
    (in_range _ _ c.requires (omega arith) _ _ _ _ u _ h, light _ _ c.requires (omega arith) _ _ _ _ u _ h)

pub returns : goal.returns
returns c =
    let u = behind_root _ _ _ _ _ c.loop-k.invariant (omega arith) in
    record { is = root_is _ _ c.requires (omega arith) _ _ _ _ u _ c.join_path-2.ensures refl _ c.delay.ensures.is }
