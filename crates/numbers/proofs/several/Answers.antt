use native.Mathlib.Omega.{arith}
use borrow.Author.Rules.{rules}
use Prim.Native.Nat.{◌+◌, ◌<◌}
use mathlib.Core.Path.{◌≡◌, sym, ◌∙◌}
use Rattle.numbers.proofs.Scan.{start, cap, product, at_end, done, turn, last}
use Rattle.numbers.proofs.several.Goals as goal

pub loop-i-init : goal.loop-i-init
loop-i-init c = start _ _ _ c.requires

pub returns-in_err-b : goal.returns-in_err-b
returns-in_err-b c = search (rules, at_end c.loop-i.invariant c.in_err-b.ensures.0)

pub settle-requires : goal.settle-requires
settle-requires c =
    let p : c.args.at + c.loop-i.i < c.args.at + 4 = omega (arith, c.loop-i-test.true) in
    omega (arith, product c.loop-i.invariant p c.if-b-lt128.true, cap c.loop-i.invariant p, c.loop-i.invariant.small)

pub returns-then-b-lt128 : goal.returns-then-b-lt128
returns-then-b-lt128 c = let e = c.in_ok-b.ensures in c.settle.ensures ∙ sym (done _ c.loop-i.invariant e.0 e.1 c.if-b-lt128.true)

pub loop-i-preserved : goal.loop-i-preserved
loop-i-preserved c =
    let e = c.in_ok-b.ensures in
    let next : c.args.at + (c.loop-i.i + 1) ≡ c.args.at + c.loop-i.i + 1 = omega arith in
    rw next (turn _ c.loop-i.invariant (omega (arith, c.loop-i-test.true)) e.0 e.1 c.if-b-lt128.false e.2)

pub returns : goal.returns
returns c = c.fifth.ensures ∙ sym (last c.loop-i.invariant (omega (arith, c.loop-i-test.false)))
