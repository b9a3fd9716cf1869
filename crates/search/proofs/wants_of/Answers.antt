use native.Mathlib.Omega.{arith}
use Rattle.search.proofs.Wanting.{begin_wanting, its_path, its_room, turn_wanting, end_wanting}
use Rattle.search.proofs.wants_of.Goals as goal

pub loop-g-init : goal.loop-g-init
loop-g-init c = begin_wanting _ c.requires.0 c.requires.1

pub overflow_sub-g : goal.overflow_sub-g
overflow_sub-g c = (its_path _ c.requires.0 c.requires.1 c.loop-g.g-index c.loop-g-test.true).enters

pub raise-requires : goal.raise-requires
raise-requires c =
    let l = c.loop-g in
    let p = its_path _ c.requires.0 c.requires.1 l.g-index c.loop-g-test.true in
    (omega (arith, p.onward), omega (arith, p.leaves, c.requires.0.short, l.invariant.full), its_room _ c.requires.0 c.requires.1 l.g-index c.loop-g-test.true l.wants l.invariant)

pub loop-g-preserved : goal.loop-g-preserved
loop-g-preserved c = rw c.raise.ensures (turn_wanting _ c.requires.0 c.requires.1 c.loop-g.g-index c.loop-g-test.true c.loop-g.wants c.loop-g.invariant)

pub returns : goal.returns
returns c = end_wanting _ c.requires.0 c.requires.1 c.loop-g.wants c.loop-g.g-index c.loop-g-test.false c.loop-g.invariant
