-- `sheet::check_list` meets its contract. The invariant (`Passing`): the bytes of the numbers passed are counted, and what the list is taken as is
-- those numbers put before what is left. The measure is how many numbers a sheet may have yet.
-- Assumes nothing.
use Rattle.std.specs.Prelude.{◌-◌, length}
use Rattle.fields.specs.Rule.{most}
use Rattle.sheet.specs.Sheet.{entry_at}
use Rattle.sheet.specs.Inside.{rest}
use Rattle.sheet.proofs.Passing.{Passing}
use Rattle.sheet.proofs.check_list.Given as goal

abbrev pub invariant-loop-x : goal.invariant-loop-x
invariant-loop-x l =
    let w = l.walk in
    Passing l.xs l.sum w.passed (rest w.user (entry_at w.source.now) (length w.source.now) w.passed w.at w.cursor)

abbrev pub decreases-loop-x : goal.decreases-loop-x
decreases-loop-x l = most - l.walk.passed
