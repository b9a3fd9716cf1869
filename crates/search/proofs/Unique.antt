-- The public function leaves one possible result: two results that both meet its contract are equal.
-- Assumes nothing.
use Rattle.std.specs.Prelude.{◌≡◌}
use Rattle.ground.proofs.ValueLaws.{one_value}
use Rattle.row.specs.declared.Row.{Row}
use Rattle.search.specs.declared.Found.{Found}
use Rattle.search.specs.Contract.{Search}

pub search_unique : (row : Row) (r r' : Found) → Search row r → Search row r' → r ≡ r'
search_unique row r r' p q = one_value p.is q.is
