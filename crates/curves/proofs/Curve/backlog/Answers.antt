-- Where the offset is not 0, the bucket at the offset is the most, `backlog_behind`; else the first slot alone counts, `backlog_first`. Both are at
-- most the bucket one slot behind the offset, so that nothing wraps.
-- Assumes nothing.
use mathlib.Core.Path.{sym, ◌∙◌}
use native.Mathlib.Omega.{arith}
use Rattle.curves.specs.Held.{shape_of}
use Rattle.curves.proofs.BacklogLaws.{backlog_behind, backlog_first}
use Rattle.curves.proofs.Curve.backlog.Goals as goal

pub returns-then-self-gt0 : goal.returns-then-self-gt0
returns-then-self-gt0 c =
    record { is = sym (backlog_behind (shape_of c.args.self.now) c.args.sigma c.args.rho c.if-self-gt0.true c.requires.1) }

pub returns-else-self-gt0 : goal.returns-else-self-gt0
returns-else-self-gt0 c =
    record { is = c.first_excess.ensures ∙ sym (backlog_first (shape_of c.args.self.now) c.args.sigma c.args.rho (omega (arith, c.if-self-gt0.false))) }
