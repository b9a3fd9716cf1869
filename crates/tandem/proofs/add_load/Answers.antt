use Rattle.std.proofs.Common.{arith}
use Rattle.tandem.proofs.Loading.{part_fits, part_added}
use Rattle.tandem.proofs.add_load.Goals as goal

pub overflow_add-load : goal.overflow_add-load
overflow_add-load c =
    let k = c.loop-load.load-index in
    let r = c.requires in
    omega (arith, c.loop-load.invariant.1 k (omega arith), part_fits _ _ _ _ r.0 r.1 r.2 r.3 k c.loop-load-test.true)

pub returns : goal.returns
returns c = let r = c.requires in part_added _ _ _ _ r.0 r.1 r.2 r.3 _ (omega arith) (λ k h. c.loop-load.invariant.0 k (omega arith))
