use Rattle.std.proofs.Common.{rules, arith, ◌≡◌, length}
use Rattle.curves.specs.Curve.{after}
use Rattle.curves.specs.Held.{shape_of, spare}
use Rattle.curves.specs.Part.{left_in}
use Rattle.curves.proofs.HeldLaws.{held_both}
use Rattle.curves.proofs.PartLaws.{held_left}
use Rattle.curves.proofs.Curve.left.Goals as goal

pub change-requires-clause-acts : goal.change-requires-clause-acts
change-requires-clause-acts c = (after c.args.sigma c.args.rho c.args.gap, λ x r q. search rules)

pub returns : goal.returns
returns c =
    let a = c.args in
    let f = after a.sigma a.rho a.gap in
    let full : length a.self.now.stages ≡ 16 = omega arith in
    let e = c.change.ensures.is f (λ x r q. search rules) in
    let h = held_both (left_in (shape_of a.self.now) a.from a.to a.sigma a.rho a.gap) (spare a.self.now)
    (rw e (held_left a.self.now a.from a.to a.sigma a.rho a.gap (omega arith) (omega arith))) in
    record { is = h.0; holds = h.1 }
