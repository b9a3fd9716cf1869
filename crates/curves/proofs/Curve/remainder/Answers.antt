-- The part with all stages is the whole, and the gap behind the offset ends at the wait.
-- Assumes nothing.
use mathlib.Core.Path.{◌≡◌, subst}
use Rattle.curves.specs.Curve.{Shape}
use Rattle.curves.specs.Held.{spare, held, Holds}
use Rattle.curves.proofs.PartLaws.{left_whole}
use Rattle.curves.proofs.Curve.remainder.Goals as goal

pub returns : goal.returns
returns c =
    let a = c.args in
    let made =
    subst (λ (d : Shape). (c.left.result ≡ held d (spare a.self.now)) × Holds c.left.result d) (left_whole a.self.now a.sigma a.rho a.wait c.requires.late) (c.left.ensures.is, c.left.ensures.holds) in
    record { is = made.0; holds = made.1 }
