-- What the functions that the recursion calls ask of a branch and a group.
-- Assumes nothing.
use Rattle.std.specs.Prelude.{◌≡◌, ℕ, ◌+◌, ◌-◌, ◌*◌, ◌≤◌, ◌<◌, ◌^◌, length}
use Rattle.std.proofs.Math.Seq.{slice}
use Rattle.ground.specs.Each.{Each}
use Rattle.curves.specs.declared.Curve.{Curve}
use Rattle.curves.specs.Curve.{line}
use Rattle.curves.specs.Held.{Leaves, shape_of}
use Rattle.tandem.specs.declared.Flow.{Flow}
use Rattle.tree.specs.Ordered.{Placed}
use Rattle.keys.specs.State.{rest_of}
use Rattle.climb.specs.declared.Branch.{Branch}

-- group g can be taken out of the branch, `gap` slots after the slots so far, with a digit of a grid
pub record Takes (s : Branch) (g : Flow) (gap digit grid : ℕ) : Type 0 where
  pub few : s.curve.count ≤ 16
  pub placed : Placed s.curve.count g
  pub leaves : Each (Leaves g.burst g.rate gap) (slice (g.first - 1) g.last (shape_of s.curve).stages)
  pub slots : s.curve.offset + gap < 2 ^ 63
  pub number : s.number + digit * s.weight < 2 ^ 63
  pub weight : s.weight * grid < 2 ^ 63

-- the servers beside the path of g and under it can be asked what they give in the slots that are left behind these
pub record Asks (c : Curve) (g : Flow) (slots number best : ℕ) : Type 0 where
  pub few : c.count ≤ 16
  pub full : length (shape_of c).stages ≡ c.count
  pub placed : Placed c.count g
  pub near : slots < 2 ^ 42
  pub small : number < 65536
  pub fits : Each (λ s. line (rest_of 65536 best slots number) s < 2 ^ 63) (shape_of c).stages
