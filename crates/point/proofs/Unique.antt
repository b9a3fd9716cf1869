-- The public function leaves one possible result: two results that both meet its contract are equal.
-- Assumes nothing.
use Rattle.std.specs.Prelude.{◌≡◌, List, ℕ}
use Rattle.ground.proofs.ValueLaws.{one_value}
use Rattle.row.specs.declared.Row.{Row}
use Rattle.point.specs.declared.Point.{Point}
use Rattle.point.specs.Contract.{Evaluate}

pub evaluate_unique : (row : Row) (extra : List ℕ) (r r' : Point) → Evaluate row extra r → Evaluate row extra r' → r ≡ r'
evaluate_unique row extra r r' p q = one_value p.is q.is
