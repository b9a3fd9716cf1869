-- On an accepted row, in every run that keeps the premises, no more of the watched bytes are inside the row at the end of a slot than the backlog, at
-- every point of the grid; and which of its bytes are inside.
-- Assumes nothing.
use Rattle.std.specs.Prelude.{◌≡◌, ℕ, suc, ◌+◌, ◌-◌, ◌≤◌, ◌<◌, length}
use Rattle.std.proofs.Common.{ap, subst, arith, length-append}
use mathlib.Core.List.{List}
use Rattle.curves.specs.Slots.{bucket}
use Rattle.curves.specs.Curve.{Shape, value_at, Rates, backlog}
use Rattle.curves.proofs.CurveLaws.{under_of_value}
use Rattle.curves.proofs.StageLaws.{rates_weaken}
use Rattle.curves.proofs.BacklogLaws.{backlog_most}
use Rattle.tandem.specs.Tandem.{Tandem, size, flow, watched, rates}
use Rattle.tandem.specs.Sound.{Sound}
use Rattle.row.specs.Accepted.{Accepted}
use Rattle.tree.specs.Stretch.{Stretch, span, curve}
use Rattle.tree.specs.Fits.{Fits}
use Rattle.tree.specs.Tree.{tree}
use Rattle.tree.specs.Bound.{backlog_bound}
use Rattle.tree.proofs.PlanLaws.{stage_count}
use Rattle.tree.proofs.NestedLaws.{tree_fits}
use Rattle.runs.specs.Lines.{keep, by, Prefix}
use Rattle.runs.specs.Run.{Run, Keeps, joined_by, left_by, of_flow}
use Rattle.runs.specs.Served.{Serves, come, gone}
use Rattle.runs.specs.Inside.{inside_at, Inside}
use Rattle.runs.proofs.OnTimeLaws.{watched_rate_lem, claim, room_for, past_all}
use Rattle.runs.proofs.WithinLaws.{never_early}

-- all but the backlog of a bucket has left by a slot: since the slot from which the curve counts, the bucket has sent no more than the curve and that
pub still_there : (H : ℕ) (c : Shape) (σ ρ : ℕ) (A D : ℕ → ℕ) → ((a b : ℕ) → a ≤ b → b ≤ H → A b ≤ A a + bucket σ ρ (b - a))
    → 0 < length c.stages → Rates ρ c.stages → Serves H c A D → (t : ℕ) → t ≤ H → A t - D t ≤ backlog c σ ρ
still_there H c σ ρ A D kept some q serves t ht =
    let g = serves t ht in
    let v = value_at c (t - g.0) in
    omega (arith, g.2 v (under_of_value c (t - g.0) v (omega arith)), backlog_most c σ ρ some q (t - g.0), kept g.0 t g.1 ht)

-- the watched bytes that have left the last server are, in order, the first of those that have joined server 1, and the others are as many as are
-- counted inside
pub inside_are : (row : Tandem) (sound : Sound row) {B : Type 0} (run : Run B) (H : ℕ) (keeps : Keeps row run H) (t : ℕ) → t ≤ H
    → (p : Prefix (keep (of_flow run 0) (left_by run (size row) t)) (keep (of_flow run 0) (joined_by run 1 t))) × (length p.rest ≡ inside_at row run t)
inside_are row sound run H keeps t h =
    let e : suc (size row - 1) ≡ size row = omega (arith, sound.long) in
    let p = rw e at (never_early row run H keeps sound (size row - 1) (omega (arith, sound.long)) t h) in
    (p, omega (arith, length-append (keep (of_flow run 0) (left_by run (size row) t)) p.rest, ap length p.whole))

-- a stretch that fits the row and spans it
pub stretch_inside : (row : Tandem) (sound : Sound row) {B : Type 0} (run : Run B) (H : ℕ) (keeps : Keeps row run H) (extra : ℕ → ℕ) (p : Stretch)
    → Fits row watched 1 p → span p ≡ size row → Inside row run H (backlog_bound row extra p)
unfolding backlog_bound come gone watched
stretch_inside row sound {B} run H keeps extra p fits full t h =
    let c = curve row extra p in
    subst (λ (g : ℕ → List B). length (keep (of_flow run 0) (by (run.join 1) t)) - length (keep (of_flow run 0) (by g t)) ≤ backlog_bound row extra p)
    (past_all row sound run H keeps extra p fits full)
    (still_there H c (flow row 0).burst (flow row 0).rate (λ a. length (come run watched 1 a)) (λ a. length (gone run watched 1 (span p) a))
    (rw sound.enters at (keeps.buckets 0 sound.some)) (omega (arith, stage_count row extra p, full, sound.long))
    (rates_weaken (flow row 0).rate (rates row watched) c.stages (watched_rate_lem row sound.some) (room_for row sound run H keeps extra p fits full))
    (claim row sound run H keeps extra p fits full).serves t h)

-- at every point of the grid, and for any extras at all
pub inside_row : (row : Tandem) → Accepted row → (extra : ℕ → ℕ) → {B : Type 0} (run : Run B) (H : ℕ) → Keeps row run H
    → Inside row run H (backlog_bound row extra (tree row))
inside_row row ok extra run H keeps = stretch_inside row ok.sound run H keeps extra (tree row) (tree_fits row ok).0 (tree_fits row ok).1
