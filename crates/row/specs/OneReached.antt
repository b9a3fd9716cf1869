-- A list has the furthest last servers in one way at most, so that a struct can carry it as a fact.
-- Assumes nothing.
use Rattle.std.specs.Prelude.{ℕ, List}
use Rattle.std.proofs.Props.{props}
use Rattle.tandem.specs.Tandem.{Tandem}
use Rattle.row.specs.Parts.{Reached}

pub one_reached : (row : Tandem) (n : ℕ) (reaches : List ℕ) → IsProp (Reached row n reaches)
one_reached row n reaches = Prim.hlevel props
