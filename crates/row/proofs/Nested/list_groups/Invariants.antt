-- `row::Nested::list_groups` meets its contract. The invariant: the row with the groups still to come is the row with all groups from that first server.
-- Assumes nothing.
use mathlib.Core.Path.{◌≡◌}
use Prim.Native.Nat.{◌≤◌}
use Rattle.tandem.specs.Tandem.{size}
use Rattle.row.specs.Held.{held}
use Rattle.row.specs.Parts.{with_groups}
use Rattle.row.proofs.Grouping.{from_groups}
use Rattle.row.proofs.Nested.list_groups.Given as goal

abbrev pub invariant-loop-last : goal.invariant-loop-last
invariant-loop-last l =
    let row = held l.self in
    (l.last ≤ 16) × (with_groups l.row (from_groups row l.first l.last) ≡ with_groups l.fn.row (from_groups row l.first (size row)))
