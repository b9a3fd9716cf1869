use mathlib.Core.Path.{◌≡◌}
use native.Mathlib.Omega.{arith}
use lib.ListN.{length}
use Rattle.curves.proofs.StageLaws.{catch_up_le}
use Rattle.curves.proofs.Parts.{turn_rising, end_rising}
use Rattle.curves.proofs.Curve.lag.Goals as goal

pub loop-i-preserved : goal.loop-i-preserved
loop-i-preserved c =
    let l : length c.args.self.now.stages ≡ 16 = omega arith in
    let m = c.loop-i in
    turn_rising m.invariant (omega arith) (omega arith) (omega arith) (λ x k. catch_up_le c.args.sigma x k.moves) _ c.catch_up-most.ensures.is

pub returns : goal.returns
returns c = record { is = end_rising c.loop-i.invariant (omega arith) }
