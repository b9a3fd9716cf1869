-- The start is the delay with no extras. In mode 1, and where the first point is the best, what stands there is found; else what stands at the
-- point whose number is the best (proofs/Searching.antt).
-- Assumes nothing.
use mathlib.Core.Path.{sym, ap, ◌∙◌, subst}
use mathlib.Core.Logic.{inl, inr}
use mathlib.Core.List.{List, ◌∷◌}
use Prim.Native.Nat.{ℕ, ◌-◌}
use native.Mathlib.Omega.{arith}
use Rattle.keys.specs.Numbers.{point_at}
use Rattle.grid.specs.Steps.{step_at, steps_in}
use Rattle.tree.specs.Plan.{plan}
use Rattle.tree.specs.Fine.{AllFine}
use Rattle.point.specs.Point.{servers_of, flows_of, answer_at, extras_of, point_of}
use Rattle.search.specs.Searchable.{start_of}
use Rattle.search.proofs.Searching.{first_fine, first_delay, extras_made, point_fine_at, found_none, found_number}
use Rattle.search.proofs.search.Goals as goal

pub evaluate-first-requires : goal.evaluate-first-requires
evaluate-first-requires c = (c.requires.shaped, first_fine _ c.requires)

pub returns-then-row-ne0 : goal.returns-then-row-ne0
returns-then-row-ne0 c = record { is = found_none _ c.requires _ _ c.evaluate-first.ensures.is (inl c.if-row-ne0.true) c.found_at.ensures }

pub steps_of-requires : goal.steps_of-requires
steps_of-requires c = (c.requires.coarse, c.requires.dense, omega (arith, c.requires.near, first_delay _ c.requires _ c.evaluate-first.ensures.is))

pub best_number-number-requires : goal.best_number-number-requires
best_number-number-requires c =
    (c.requires, omega (arith, c.if-row-ne0.false), c.steps_of.ensures.is ∙ ap (λ (x : ℕ). steps_in x c.args.row.now.grid) (first_delay _ c.requires _ c.evaluate-first.ensures.is))

pub returns-then-number-eq0 : goal.returns-then-number-eq0
returns-then-number-eq0 c =
    let d = c.args.row.now in
    let e = c.best_number-number.ensures ∙ ap (λ (k : ℕ). answer_at d (point_at (step_at (start_of d) d.grid) d.grid (d.count - 1) k)) c.if-number-eq0.true in
    record { is = found_none d c.requires _ _ c.evaluate-first.ensures.is (inr e) c.found_at-then-number-eq0.ensures }

pub extras_at-extra-requires : goal.extras_at-extra-requires
extras_at-extra-requires c =
    (c.requires.coarse, c.requires.dense, omega (arith, c.requires.near, first_delay _ c.requires _ c.evaluate-first.ensures.is), omega (arith, c.requires.shaped.few))

pub evaluate-requires : goal.evaluate-requires
evaluate-requires c =
    let d = c.args.row.now in
    let e = extras_made d c.requires _ c.evaluate-first.ensures.is _ _ c.extras_at-extra.ensures.is in (
      c.requires.shaped,
      subst (λ (es : List ℕ). AllFine (plan (servers_of d) (flows_of d) (0 ∷ extras_of d es)) (flows_of d)) (sym e) (point_fine_at d c.requires c.best_number-number.result),
    )

pub returns : goal.returns
returns c =
    let d = c.args.row.now in
    let e = extras_made d c.requires _ c.evaluate-first.ensures.is _ _ c.extras_at-extra.ensures.is in
    let p = c.evaluate.ensures.is ∙ ap (λ (es : List ℕ). point_of (answer_at d (extras_of d es))) e in
    let h = c.found_at-2.ensures in
    record { is = found_number d c.requires _ _ _ p c.best_number-number.ensures (h.0 ∙ first_delay d c.requires _ c.evaluate-first.ensures.is, h.1, h.2) }
