-- `row::Nested::list_groups` meets its contract: each path from the first server is listed with its sums, or passed over, and none is left in the end.
-- Assumes nothing.
use mathlib.Core.Path.{sym, ap, ◌∙◌}
use mathlib.Core.Logic.{inl, inr}
use Prim.Native.Nat.{ℕ, ◌-◌}
use native.Mathlib.Omega.{arith}
use lib.ListN.{get_or, length-map}
use Rattle.tandem.specs.Tandem.{size}
use Rattle.row.specs.declared.Row.{Row}
use Rattle.row.specs.Groups.{from, grouped}
use Rattle.row.specs.Held.{held}
use Rattle.row.specs.Parts.{no_sum, with_groups}
use Rattle.row.proofs.Filling.{count_with}
use Rattle.row.proofs.Grouping.{from_groups, AtPath, all_groups, no_groups, sum_at_path, turned, room}
use Rattle.row.proofs.Nested.list_groups.Goals as goal
use Rattle.row.proofs.Nested.list_groups.Goals.{After-place_of, then-sum-gt0, else-sum-gt0}

pub loop-last-init : goal.loop-last-init
loop-last-init c =
    let all = all_groups _ c.requires.handed c.args.self.now.reaches c.args.self.now.reached c.args.first (omega (arith, c.requires.inside, c.requires.handed.listed.short)) in
    (omega (arith, all.0, c.requires.handed.listed.short), ap (with_groups c.args.row.now) all.1)

pub place_of-requires : goal.place_of-requires
place_of-requires c =
    (c.requires.begins, omega (arith, c.requires.inside, c.requires.handed.listed.short), omega (arith, c.loop-last-test.true, c.requires.begins), c.loop-last.invariant.0)

-- what is read at the place of the path from the first server to the last
at_path : (c : After-place_of)
    → AtPath (held c.args.self.now) c.args.first c.loop-last.last (get_or c.args.sums.now c.place_of.result no_sum)
at_path c = record {
  handed = c.requires.handed;
  begins = omega (arith, c.loop-last-test.true, c.requires.begins);
  is = ap (λ (p : ℕ). get_or c.args.sums.now p no_sum) c.place_of.ensures
      ∙ sum_at_path _ c.args.sums.now c.args.first c.loop-last.last c.requires.summed c.requires.begins
      (omega (arith, c.requires.inside, c.requires.handed.listed.short)) (omega (arith, c.loop-last-test.true, c.requires.begins)) c.loop-last.invariant.0;
}

pub push-requires : goal.push-requires
push-requires c =
    let row = held c.args.self.now in
    let all = from_groups row c.args.first (size row) in
    omega (
      arith,
      room (at_path (goal.at.push-requires c).After-place_of) c.loop-last.row c.if-sum-gt0.true,
      ap (λ (r : Row). r.count) c.loop-last.invariant.1,
      count_with c.args.row.now all,
      length-map (from row c.args.first (size row)) (grouped row),
      c.requires.room,
    )

pub loop-last-preserved : goal.loop-last-preserved
loop-last-preserved c =
    let d = at_path (goal.at.loop-last-preserved c).After-place_of in (
      omega (arith, c.loop-last.invariant.0),
      turned d c.loop-last.row c.if-sum-gt0.row (elim c.if-sum-gt0.branch [
        | then-sum-gt0 w ↦ inl (w.if-sum-gt0.true, w.row-is ∙ w.push.ensures)
        | else-sum-gt0 w ↦ inr (w.if-sum-gt0.false, w.row-is)
      ]) ∙ c.loop-last.invariant.1,
    )

pub returns : goal.returns
returns c = sym (no_groups _ c.requires.handed c.loop-last.row c.args.first c.loop-last.last (omega (arith, c.loop-last-test.false))) ∙ c.loop-last.invariant.1

pub returns-after-sum-gt0 : goal.returns-after-sum-gt0
returns-after-sum-gt0 c =
    let d = at_path (goal.at.returns-after-sum-gt0 c).After-place_of in
    sym (no_groups _ c.requires.handed c.if-sum-gt0.row c.args.first (c.loop-last.last - 1) (omega (arith, c.requires.begins)))
    ∙ turned d c.loop-last.row c.if-sum-gt0.row (elim c.if-sum-gt0.branch [
      | then-sum-gt0 w ↦ inl (w.if-sum-gt0.true, w.row-is ∙ w.push.ensures)
      | else-sum-gt0 w ↦ inr (w.if-sum-gt0.false, w.row-is)
    ]) ∙ c.loop-last.invariant.1
