-- `row::sums_of` meets its contract: a flow is added at the place of its path, and no sum of at most 49 flows is large.
-- Assumes nothing.
use Prim.Native.Nat.{◌+◌, ◌-◌, ◌<◌}
use native.Mathlib.Omega.{arith}
use lib.ListN.{length, get_or, take, drop}
use Rattle.tandem.specs.Tandem.{no_flow}
use Rattle.row.proofs.Summing.{Adding, tail_below, tail_at, tail_wide, begin_sums, place_small, small_burst, small_rate, small_flow, turn_sums}
use Rattle.row.proofs.sums_of.Goals as goal
use Rattle.row.proofs.sums_of.Goals.{After-place_of}

-- the flow that the loop has read, and its place
adding : (c : After-place_of)
    → Adding c.args.flows.now (c.loop-flow.flow-index + 1) c.loop-flow.sums (get_or (take (length c.args.flows.now - 1) (drop 1 c.args.flows.now)) c.loop-flow.flow-index no_flow) c.place_of.result
adding c =
    let here : c.loop-flow.flow-index < length c.args.flows.now - 1 = tail_below c.args.flows.now c.loop-flow.flow-index c.loop-flow-test.true in
    record {
      listed = c.requires;
      summed = c.loop-flow.invariant;
      some = omega arith;
      here = omega arith;
      is = tail_at c.args.flows.now c.loop-flow.flow-index no_flow here;
      at = c.place_of.ensures;
    }

pub loop-flow-init : goal.loop-flow-init
loop-flow-init c = begin_sums _

pub place_of-requires : goal.place_of-requires
place_of-requires c = let w = tail_wide c.args.flows.now c.requires c.loop-flow.flow-index c.loop-flow-test.true in (w.begins, omega (arith, w.path, w.ends), omega (arith, w.begins, w.path), w.ends)

pub bounds-sums-place_of : goal.bounds-sums-place_of
bounds-sums-place_of c = place_small (adding (goal.at.bounds-sums-place_of c).After-place_of)

pub offset_bounds-sums-place_of : goal.offset_bounds-sums-place_of
offset_bounds-sums-place_of c = omega (arith, place_small (adding (goal.at.offset_bounds-sums-place_of c).After-place_of))

pub overflow_add-sum : goal.overflow_add-sum
overflow_add-sum c = let d = adding (goal.at.overflow_add-sum c).After-place_of in omega (arith, small_burst d, small_flow d)

pub overflow_add-sum-in-loop-flow : goal.overflow_add-sum-in-loop-flow
overflow_add-sum-in-loop-flow c = let d = adding (goal.at.overflow_add-sum-in-loop-flow c).After-place_of in omega (arith, small_rate d, small_flow d)

pub loop-flow-preserved : goal.loop-flow-preserved
loop-flow-preserved c = turn_sums (adding (goal.at.loop-flow-preserved c).After-place_of)
