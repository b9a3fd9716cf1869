-- If the stage has `sigma` bytes after `most` slots, its catch-up is at most `most`; if not, it is more, and is the quotient rounded up.
-- Assumes nothing.
use Prim.Native.Nat.{◌-◌}
use native.Mathlib.Omega.{arith}
use Rattle.curves.specs.Curve.{catch_up}
use Rattle.curves.proofs.StageLaws.{ceil_by_rest, catch_up_more, catch_up_least}
use Rattle.curves.proofs.Stage.catch_up.Goals as goal

pub returns-then-self-most : goal.returns-then-self-most
unfolding catch_up
returns-then-self-most c = record {
  is =
      let s = c.args.self in
      omega (arith, ceil_by_rest (c.args.sigma - s.burst) s.rate c.requires.0.moves, catch_up_more c.args.sigma c.args.most s c.requires.0.moves (omega arith));
}

pub returns-else-self-most : goal.returns-else-self-most
returns-else-self-most c = record { is = omega (arith, catch_up_least c.args.sigma c.args.most c.args.self c.requires.0.moves (omega arith)) }
