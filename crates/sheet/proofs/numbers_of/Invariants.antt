-- `sheet::numbers_of` meets its contract. The invariant (`Reading`): what the sheet is read as is the numbers passed, which stand at
-- the front of the list, put before what is left. The measure is how many numbers a sheet may have yet.
-- Assumes nothing.
use Rattle.std.specs.Prelude.{◌-◌, length}
use Rattle.numbers.specs.Seven.{number_at}
use Rattle.fields.specs.Rule.{most}
use Rattle.sheet.specs.Inside.{rest}
use Rattle.sheet.proofs.Reading.{Reading}
use Rattle.sheet.proofs.numbers_of.Given as goal

abbrev pub invariant-loop-x : goal.invariant-loop-x
invariant-loop-x l =
    let w = l.walk in
    Reading l.bytes l.values w.passed (rest w.user (number_at w.source.now) (length w.source.now) w.passed w.at w.cursor)

abbrev pub decreases-loop-x : goal.decreases-loop-x
decreases-loop-x l = most - l.walk.passed
