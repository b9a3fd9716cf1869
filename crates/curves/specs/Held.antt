-- How the record `Curve` of the code holds a curve, and the ranges in which its numbers fit.
-- Assumes nothing.
use Rattle.std.specs.Prelude.{◌≡◌, List, ◌++◌, ℕ, ◌-◌, ◌≤◌, ◌<◌, ◌^◌, length, take, drop}
use Rattle.ground.specs.Each.{Each}
use Rattle.curves.specs.declared.Stage.{Stage}
use Rattle.curves.specs.declared.Curve.{Curve}
use Rattle.curves.specs.Curve.{Shape, line}

-- the curve that a record holds: its offset and the first `count` of its stages
abbrev pub shape_of : Curve → Shape
shape_of c = record { offset = c.offset; stages = take c.count c.stages }

-- the entries behind those stages, which say nothing of the curve
abbrev pub spare : Curve → List Stage
spare c = drop c.count c.stages

-- the record that holds a curve, with given entries behind its stages
unfoldable pub held : Shape → List Stage → Curve
held c l = record { offset = c.offset; count = length c.stages; stages = c.stages ++ l }

-- the record r holds the curve c, whatever stands behind its stages
pub record Holds (r : Curve) (c : Shape) : Type 0 where
  pub shape : shape_of r ≡ c
  pub count : r.count ≡ length c.stages
  pub offset : r.offset ≡ c.offset

-- an entry that holds nothing
abbrev pub blank : Stage
blank = record { burst = 0; rate = 0 }

-- a stage in range: it serves, and its numbers are small
pub record Live (s : Stage) : Type 0 where
  pub moves : 1 ≤ s.rate
  pub slow : s.rate ≤ 2 ^ 20
  pub low : s.burst < 2 ^ 62

-- a stage from which a group (σ, ρ) can be taken x slots after the offset: it has covered the group's burst, it has room for
-- the group's rate, and its numbers fit
pub record Leaves (σ ρ x : ℕ) (s : Stage) : Type 0 where
  pub covers : σ ≤ line x s
  pub room : ρ ≤ s.rate
  pub fits : line x s < 2 ^ 63

-- a record whose numbers are in range
pub record InRange (c : Curve) : Type 0 where
  pub few : c.count ≤ 16
  pub near : c.offset < 2 ^ 62
  pub live : Each Live (shape_of c).stages

-- a record from which a group (σ, ρ) can be taken with wait θ
pub record Leaving (c : Curve) (σ ρ θ : ℕ) : Type 0 where
  pub few : c.count ≤ 16
  pub late : c.offset ≤ θ
  pub leaves : Each (Leaves σ ρ (θ - c.offset)) (shape_of c).stages
