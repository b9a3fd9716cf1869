-- The part with all stages is the whole, so the offset and its lag make the least wait; a lag is at most the burst, so that nothing wraps.
-- Assumes nothing.
use mathlib.Core.Path.{◌∙◌, ap}
use Prim.Native.Nat.{ℕ, ◌+◌}
use native.Mathlib.Omega.{arith}
use lib.Seq.{slice}
use Rattle.curves.specs.Held.{shape_of, Live}
use Rattle.curves.proofs.HeldLaws.{live_rates}
use Rattle.curves.proofs.PartLaws.{all_whole, lag_whole, lag_le}
use Rattle.curves.proofs.Curve.least_wait.Goals as goal

pub overflow_add-result : goal.overflow_add-result
overflow_add-result c =
    let a = c.args.self.now in
    let l = lag_le (shape_of a) 0 a.count c.args.sigma (live_rates (slice 0 a.count (shape_of a).stages) (all_whole Live a c.requires.0.live)) in
    omega (arith, l, c.lag.ensures.is, c.requires.0.near, c.requires.1)

pub returns : goal.returns
returns c = record {
  is =
      ap (λ (n : ℕ). c.args.self.now.offset + n) c.lag.ensures.is ∙ lag_whole c.args.self.now c.args.sigma;
}
