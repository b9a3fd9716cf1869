-- What it says of a row that it is not refused by 9: at the points that are worked out no number passes 2^63 − 1.
-- Assumes nothing.
use Prim.Native.Nat.{ℕ, ◌+◌, ◌-◌, ◌^◌, ◌≤◌, ◌<◌}
use Rattle.std.specs.Prelude.{◌≡◌, refl, Bool, true, false, cond, ◌||◌, List, [], ◌∷◌, eqb, get_or, replicate}
use Rattle.std.proofs.Common.{sym, true≢false, arith, eq-eqb}
use Rattle.std.proofs.Math.ListN.{length}
use Rattle.tandem.specs.Tandem.{Tandem}
use Rattle.row.specs.Groups.{groups, reads}
use Rattle.tree.specs.Grid.{steps_of, points_of}
use Rattle.tree.specs.Plan.{plan}
use Rattle.tree.specs.Bound.{answer_at}
use Rattle.ground.specs.Each.{Each}
use Rattle.tree.specs.Large.{some, large, large_node, large_at, too_large}
use Rattle.tree.specs.Small.{SmallNode, SmallAt}
use Rattle.tree.proofs.LargeLaws.{not_either, not_large, not_some, small_node}

small_at : (row : Tandem) (es : List ℕ) → large_at row es ≡ false → SmallAt row es
unfolding large_at
small_at row es h =
    let k = not_either (some large_node (plan row.servers (reads row) (0 ∷ es))) (large (answer_at row es).delay) h in
    record {
      nodes = not_some SmallNode large_node (plan row.servers (reads row) (0 ∷ es)) small_node k.0;
      delay =
          not_large (answer_at row es).delay k.1;
    }

-- the points that are worked out: the one with every e = 0, and in mode 0 all points of the grid
pub not_too_large : (row : Tandem) (mode g : ℕ) → too_large row mode g ≡ false
    → SmallAt row (replicate (length (groups row)) 0)
    × (mode ≡ 0 → Each (SmallAt row) (points_of (steps_of (answer_at row (replicate (length (groups row)) 0)).delay g) (length (groups row))))
unfolding too_large
not_too_large row mode g h =
    (small_at row (replicate n 0) k.0, λ z. not_some (SmallAt row) (large_at row) points (small_at row) (turn (eqb mode 0) (eq-eqb mode 0 z) k.1))
  where
    n : ℕ
    n = length (groups row)

    points : List (List ℕ)
    points = points_of (steps_of (answer_at row (replicate n 0)).delay g) n

    k : (large_at row (replicate n 0) ≡ false) × (cond (eqb mode 0) (some (large_at row) points) false ≡ false)
    k = not_either (large_at row (replicate n 0)) (cond (eqb mode 0) (some (large_at row) points) false) h

    turn : (b : Bool) → b ≡ true → cond b (some (large_at row) points) false ≡ false → some (large_at row) points ≡ false
    turn true e q = q
    turn false e q = absurd (true≢false (sym e))
