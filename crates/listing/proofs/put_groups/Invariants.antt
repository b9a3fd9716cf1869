-- `listing::put_groups` meets its contract. The invariant (`Filling`): the lines that are written and those of the groups that are left are the lines of
-- all groups.
-- Assumes nothing.
use Rattle.std.specs.Iterator.Adapters.{take_source, take_count, zip_first, zip_second}
use Rattle.std.specs.Slice.Iter.{iter_rest}
use Rattle.listing.specs.Held.{groups_held}
use Rattle.listing.proofs.Putting.{Filling}
use Rattle.listing.proofs.put_groups.Given as goal

abbrev pub invariant-loop-group : goal.invariant-loop-group
invariant-loop-group l =
    let pairs = take_source l.group-iterator in
    Filling (groups_held l.found) (take_count l.group-iterator) (iter_rest (zip_first pairs)) (iter_rest (zip_second pairs)) l.initial.page l.page
