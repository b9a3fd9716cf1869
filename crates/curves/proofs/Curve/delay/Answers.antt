-- The delay lies one slot before the least wait for `sigma + rho`, but not before the offset: `delay_by_wait`.
-- Assumes nothing.
use mathlib.Core.Path.{◌≡◌}
use Prim.Native.Nat.{ℕ, ◌+◌, ◌-◌, ◌≤◌}
use native.Mathlib.Omega.{arith}
use Rattle.ground.specs.Each.{Each}
use Rattle.curves.specs.Curve.{Shape, least_wait, delay}
use Rattle.curves.specs.Held.{Live, shape_of}
use Rattle.curves.proofs.CurveLaws.{wait_after_offset}
use Rattle.curves.proofs.HeldLaws.{live_rates}
use Rattle.curves.proofs.DelayLaws.{delay_by_wait}
use Rattle.curves.proofs.Curve.delay.Goals as goal

-- what a least wait says of the delay
by_wait : (c : Shape) (σ ρ wait : ℕ) → Each Live c.stages → wait ≡ least_wait c (σ + ρ) → (delay c σ ρ ≡ c.offset + (wait - c.offset - 1)) × (c.offset ≤ wait)
by_wait c σ ρ wait h e = (rw e (delay_by_wait c σ ρ (live_rates c.stages h)), rw e (wait_after_offset c (σ + ρ)))

pub returns-then-self-wait : goal.returns-then-self-wait
returns-then-self-wait c =
    let d = by_wait (shape_of c.args.self.now) _ _ _ c.requires.0.live c.least_wait-wait.ensures.is in record { is = omega (arith, d.0) }

pub returns-else-self-wait : goal.returns-else-self-wait
returns-else-self-wait c =
    let d = by_wait (shape_of c.args.self.now) _ _ _ c.requires.0.live c.least_wait-wait.ensures.is in record { is = omega (arith, d.0, d.1) }
