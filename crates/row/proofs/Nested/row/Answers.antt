-- `row::Nested::row` meets its contract: a nested row whose rates fit has at most 31 groups, so that the array has room.
-- Assumes nothing.
use mathlib.Core.Path.{◌≡◌, sym, ap, ◌∙◌}
use mathlib.Core.List.{List, ◌++◌}
use Prim.Native.Nat.{◌+◌, ◌-◌}
use native.Mathlib.Omega.{arith}
use lib.ListN.{length, drop, replicate}
use Rattle.std.proofs.lemmas.List.{drop-replicate}
use Rattle.tandem.specs.declared.Server.{Server}
use Rattle.tandem.specs.Tandem.{size, no_server}
use Rattle.row.specs.Held.{held}
use Rattle.row.specs.RowFor.{row_for}
use Rattle.row.specs.Parts.{with_groups}
use Rattle.row.proofs.Answers.{few_listed}
use Rattle.row.proofs.Grouping.{from_on_groups, first_with, next_with, last_with, room_with}
use Rattle.row.proofs.Nested.row.Goals as goal
use Rattle.row.proofs.Nested.row.Goals.{After-list_groups}

pub loop-first-init : goal.loop-first-init
loop-first-init c =
    let servers : List Server = c.args.self.now.servers.now in
    rw c.push.ensures (first_with _ _ _ (few_listed _ 0 0 c.requires c.args.self.now.nested) _
    (ap (λ (l : List Server). l ++ drop (length servers) (replicate 16 no_server)) c.copy_from_slice.ensures.after
    ∙ ap (λ (l : List Server). servers ++ l) (drop-replicate (length servers) 16 no_server)))

pub list_groups-requires : goal.list_groups-requires
list_groups-requires c = record {
  handed = c.requires;
  summed = c.sums_of-sums.ensures;
  begins = c.loop-first.auto.first;
  inside = c.loop-first-test.true;
  room = room_with _ _ _ (few_listed _ 0 0 c.requires c.args.self.now.nested) c.loop-first.row c.loop-first.first c.loop-first-test.true c.loop-first.invariant;
}

-- once the groups from this first server are listed
listed : (c : After-list_groups)
    → let row = held c.args.self.now in
    with_groups c.list_groups.new.row (from_on_groups row (c.loop-first.first + 1) (size row + 1 - (c.loop-first.first + 1))) ≡ row_for row c.args.mode c.args.grid
listed c = rw c.list_groups.ensures (next_with _ c.loop-first.row c.loop-first.first c.loop-first-test.true ∙ c.loop-first.invariant)

pub loop-first-preserved : goal.loop-first-preserved
loop-first-preserved c = listed (goal.at.loop-first-preserved c).After-list_groups

pub returns-2 : goal.returns-2
returns-2 c = sym (last_with _ c.list_groups.new.row (c.loop-first.first + 1) (omega arith)) ∙ listed (goal.at.returns-2 c).After-list_groups
