use mathlib.Core.Path.{sym, ◌∙◌, subst}
use Prim.Native.Nat.{ℕ, ◌+◌}
use native.Mathlib.Omega.{arith}
use Rattle.climb.proofs.Climbing.{number_small, range_end, light_end, delay_end, leaf_is, Turning, call, turn_of, goes_on, placed, light, live, wanted_enough, end_turning, gap_small, num_next, weight_small, asks_step, takes, turn_past, asks_next, next_early, turn_short, turn_on, ready_on}
use Rattle.climb.proofs.+choose.Goals as goal
use Rattle.climb.proofs.+choose.Goals.{then-is_open, else-is_open}

pub key-requires : goal.key-requires
key-requires t c =
    (range_end c.requires c.if-k-eq0.true, light_end c.requires c.if-k-eq0.true, delay_end c.requires c.if-k-eq0.true, number_small c.requires)

pub returns-then-k-eq0 : goal.returns-then-k-eq0
returns-then-k-eq0 t c =
    record { is = c.min.ensures ∙ leaf_is c.requires c.if-k-eq0.true c.key.result c.key.ensures }

pub lag-least-requires : goal.lag-least-requires
lag-least-requires t c =
    let n = call c.requires c.if-k-eq0.false in
    ((placed n).leaves, n.ready.size, live n, light n)

pub overflow_sub-g-2 : goal.overflow_sub-g-2
overflow_sub-g-2 t c =
    let n = call c.requires c.if-k-eq0.false in
    (placed n).enters

pub lowered-fewer-requires : goal.lowered-fewer-requires
lowered-fewer-requires t c =
    let n = call c.requires c.if-k-eq0.false in
    (omega (arith, (placed n).enters, (placed n).onward), omega (arith, (placed n).leaves, n.ready.size), wanted_enough n)

pub overflow_add-gap : goal.overflow_add-gap
overflow_add-gap t c =
    let u = turn_of (call c.requires c.if-k-eq0.false) c.lag-least.ensures.is c.loop-step.invariant c.loop-step-test.true in
    omega (arith, gap_small u)

pub overflow_add-s : goal.overflow_add-s
overflow_add-s t c =
    let u = turn_of (call c.requires c.if-k-eq0.false) c.lag-least.ensures.is c.loop-step.invariant c.loop-step-test.true in
    omega (arith, gap_small u, c.requires.soon)

pub overflow_mul-number : goal.overflow_mul-number
overflow_mul-number t c =
    let u = turn_of (call c.requires c.if-k-eq0.false) c.lag-least.ensures.is c.loop-step.invariant c.loop-step-test.true in
    omega (arith, num_next u, weight_small u)

pub overflow_add-number : goal.overflow_add-number
overflow_add-number t c =
    let u = turn_of (call c.requires c.if-k-eq0.false) c.lag-least.ensures.is c.loop-step.invariant c.loop-step-test.true in
    omega (arith, num_next u, weight_small u)

pub is_past-requires : goal.is_past-requires
is_past-requires t c =
    let u = turn_of (call c.requires c.if-k-eq0.false) c.lag-least.ensures.is c.loop-step.invariant c.loop-step-test.true in
    asks_step u

pub returns-then-is_past : goal.returns-then-is_past
returns-then-is_past t c =
    let u = turn_of (call c.requires c.if-k-eq0.false) c.lag-least.ensures.is c.loop-step.invariant c.loop-step-test.true in
    record { is = turn_past u c.is_past.result c.is_past.ensures c.if-is_past.true }

pub next-next-requires : goal.next-next-requires
next-next-requires t c =
    let u = turn_of (call c.requires c.if-k-eq0.false) c.lag-least.ensures.is c.loop-step.invariant c.loop-step-test.true in
    takes u

pub is_open-requires : goal.is_open-requires
is_open-requires t c =
    let u = turn_of (call c.requires c.if-k-eq0.false) c.lag-least.ensures.is c.loop-step.invariant c.loop-step-test.true in
    let o = goes_on u c.is_past.ensures c.if-is_past.false c.next-next.ensures c.lowered-fewer.ensures (omega arith) in
    (asks_next o, next_early o)

pub choose-b-requires : goal.choose-b-requires
choose-b-requires t c =
    let u = turn_of (call c.requires c.if-k-eq0.false) c.lag-least.ensures.is c.loop-step.invariant c.loop-step-test.true in
    let o = goes_on u c.is_past.ensures c.if-is_past.false c.next-next.ensures c.lowered-fewer.ensures (omega arith) in
    (omega (arith, o.turn.call.some, c.decreases), ready_on o)

pub loop-step-preserved : goal.loop-step-preserved
loop-step-preserved t c =
    let u = turn_of (call c.requires c.if-k-eq0.false) c.lag-least.ensures.is c.loop-step.invariant c.loop-step-test.true in
    let o = goes_on u c.is_past.ensures c.if-is_past.false c.next-next.ensures c.lowered-fewer.ensures (omega arith) in
    let P : ℕ → Type 0 = λ b. Turning u.call.flows u.call.steps u.call.k u.call.s u.call.best b (u.i + 1) in
    elim c.if-is_open.branch [
      | then-is_open w ↦ subst P (sym w.b-is) (turn_on o w.choose-b.result w.choose-b.ensures.is)
      | else-is_open w ↦ subst P (sym w.b-is) (turn_short o c.is_open.result c.is_open.ensures w.if-is_open.false)
    ]

pub returns : goal.returns
returns t c =
    let n = call c.requires c.if-k-eq0.false in
    record { is = end_turning n c.loop-step.b c.loop-step.step-index c.loop-step.invariant c.loop-step-test.false }
