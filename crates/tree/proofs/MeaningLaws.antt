-- The root's curve in closed form is, at every slot, the function of slots that the tree means; so the bound is the least delay over that, and the
-- backlog the greatest excess.
-- Assumes nothing.
use Rattle.std.specs.Prelude.{◌≡◌, Bool, true, false, ◌||◌, eqb, length}
use Rattle.std.proofs.Math.Path.{ap, fun_ext}
use Rattle.std.proofs.Common.{◌∙◌}
use Prim.Native.Nat.{ℕ, ◌+◌, ◌≤◌, ◌<◌}
use native.Mathlib.Omega.{arith}
use Rattle.curves.specs.Slots.{serve, conv, left, Covers, Least, excess, Greatest}
use Rattle.curves.specs.Curve.{Shape, value_at, joined, least_wait, remainder, Rates}
use Rattle.curves.specs.Curve.{server as serverShape}
use Rattle.curves.proofs.StageLaws.{rates_weaken}
use Rattle.curves.proofs.CurveLaws.{server_is_serve}
use Rattle.curves.proofs.JoinLaws.{neutral_joined, join_is_conv}
use Rattle.curves.proofs.RemainderLaws.{remainder_is_left, remainder_length}
use Rattle.curves.proofs.DelayLaws.{delay_is_least}
use Rattle.curves.proofs.BacklogLaws as closed
use Rattle.tandem.specs.Sums.{weigh}
use Rattle.tandem.specs.Tandem.{Tandem, Path, size, server, flow, crosses, on, watched, bursts, rates}
use Rattle.row.specs.Accepted.{Accepted}
use Rattle.tree.specs.Stretch.{Stretch, none, then_server, then_group, span, group_wait, after_group, curve}
use Rattle.tree.specs.Tree.{tree}
use Rattle.tree.specs.Bound.{bound, backlog_bound}
use Rattle.tree.specs.Fits.{Fits}
use Rattle.tree.specs.Meaning.{behind, meaning}
use Rattle.tandem.proofs.SumLaws.{total_at}
use Rattle.tandem.proofs.TandemLaws.{rates_or}
use Rattle.tree.proofs.PlanLaws.{stage_count}
use Rattle.tree.proofs.NestedLaws.{tree_fits}
use Rattle.tree.proofs.StretchLaws.{curve_rates}

module _ (row : Tandem) (extra : ℕ → ℕ) (room : (j : ℕ) → 0 < j → j ≤ size row → rates row (λ f. crosses row f j) ≤ (server row j).rate) where
  late : (g : Path) (c : Shape) (e : ℕ) → least_wait c (bursts row (on row g)) ≤ group_wait row g c e
  unfolding group_wait
  late g c e = omega arith

  -- one piece more, whose closed form d is the function g, behind a stretch that has a piece
  series_is : (p : Stretch) → 0 < span p → (0 < span p → value_at (curve row extra p) ≡ meaning row extra p)
      → (d : Shape) (g : ℕ → ℕ) → 0 < length d.stages → value_at d ≡ g → value_at (joined (curve row extra p) d) ≡ conv (meaning row extra p) g
  series_is p s r d g l e =
      let c = curve row extra p in
      fun_ext (join_is_conv c d (omega (arith, stage_count row extra p)) l)
      ∙ ap (λ (f : ℕ → ℕ). conv f (value_at d)) (r s) ∙ ap (λ (f : ℕ → ℕ). conv (meaning row extra p) f) e

  -- or behind nothing
  behind_is : (P : ℕ → Bool) (i : ℕ) (p : Stretch) → Fits row P i p → (0 < span p → value_at (curve row extra p) ≡ meaning row extra p)
      → (d : Shape) (g : ℕ → ℕ) → 0 < length d.stages → value_at d ≡ g → value_at (joined (curve row extra p) d) ≡ behind p (meaning row extra p) g
  unfolding Fits span curve
  behind_is P i none h r d g l e = ap value_at (neutral_joined d) ∙ e
  behind_is P i (then_server p j) h r d g l e = series_is (then_server p j) (omega arith) r d g l e
  behind_is P i (then_group p k h' q) h r d g l e = series_is (then_group p k h' q) (omega (arith, h.1)) r d g l e

  -- a stretch that fits, crossed whole by a flow: its closed form is what it means
  pub curve_is_meaning : (P : ℕ → Bool) (i : ℕ) (p : Stretch) → 0 < i → 1 ≤ rates row P → Fits row P i p → 0 < span p
      → value_at (curve row extra p) ≡ meaning row extra p
  unfolding Fits span curve meaning serverShape after_group
  curve_is_meaning P i none hi hr h s = absurd (omega arith)
  curve_is_meaning P i (then_server p j) hi hr h s =
      behind_is P i p h.0 (curve_is_meaning P i p hi hr h.0) (serverShape (server row j).rate (server row j).latency)
      (serve (server row j).rate (server row j).latency) (omega arith)
      (fun_ext (server_is_serve (server row j).rate (server row j).latency))
  curve_is_meaning P i (then_group p k g q) hi hr h s =
      behind_is P i p h.0 (curve_is_meaning P i p hi hr h.0) (after_group row g (curve row extra q) (extra k)) (left (meaning row extra q) σ ρ θ)
      (omega (arith, remainder_length (curve row extra q) σ ρ θ, stage_count row extra q, h.1))
      (taken h.1 h.2 h.3 (curve_is_meaning (λ f. P f || on row g f) (i + span p) q (omega arith)))
    where
      σ : ℕ
      σ = bursts row (on row g)

      ρ : ℕ
      ρ = rates row (on row g)

      θ : ℕ
      θ = group_wait row g (curve row extra q) (extra k)

      taken : 0 < span q → Fits row (λ f. P f || on row g f) (i + span p) q → ((f : ℕ) → P f ≡ true → on row g f ≡ false)
          → (1 ≤ rates row (λ f. P f || on row g f) → Fits row (λ f. P f || on row g f) (i + span p) q → 0 < span q
          → value_at (curve row extra q) ≡ meaning row extra q)
          → value_at (remainder (curve row extra q) σ ρ θ) ≡ left (meaning row extra q) σ ρ θ
      taken long fits apart r =
          let c = curve row extra q in
          let e = rates_or row P (on row g) apart in
          let z = curve_rates row extra room (λ f. P f || on row g f) (i + span p) q (omega arith) fits in
          fun_ext (remainder_is_left c σ ρ θ (late g c (extra k)) (rates_weaken 1 (rates row (λ f. P f || on row g f)) c.stages (omega arith) z)
          (rates_weaken ρ (rates row (λ f. P f || on row g f)) c.stages (omega arith) z))
          ∙ ap (λ (f : ℕ → ℕ). left f σ ρ θ) (r (omega arith) fits long)

module _ (row : Tandem) (ok : Accepted row) (extra : ℕ → ℕ) where
  watched_rate_lem : (flow row 0).rate ≤ rates row watched
  unfolding rates watched
  watched_rate_lem =
      let k : weigh (eqb 0 0) (flow row 0).rate ≤ rates row watched =
      total_at (length row.flows) 0 (λ f. weigh (eqb 0 f) (flow row f).rate) ok.sound.some in
      k

  moves : 0 < (flow row 0).rate
  moves = ok.sound.moves 0 ok.sound.some

  -- the root's curve has a stage, and every stage has room for the watched flow
  some_stage : 0 < length (curve row extra (tree row)).stages
  some_stage = omega (arith, stage_count row extra (tree row), (tree_fits row ok).1, ok.sound.long)

  room_for : Rates (flow row 0).rate (curve row extra (tree row)).stages
  room_for =
      rates_weaken (flow row 0).rate (rates row watched) (curve row extra (tree row)).stages watched_rate_lem
      (curve_rates row extra ok.sound.room watched 1 (tree row) (omega arith) (tree_fits row ok).0)

  -- the main law: the root's curve is at every slot what the tree means
  pub root_is_meaning : (t : ℕ) → value_at (curve row extra (tree row)) t ≡ meaning row extra (tree row) t
  root_is_meaning t =
      let fit = tree_fits row ok in
      ap (λ (f : ℕ → ℕ). f t)
      (curve_is_meaning row extra ok.sound.room watched 1 (tree row) (omega arith) (omega (arith, watched_rate_lem, moves)) fit.0
      (omega (arith, fit.1, ok.sound.long)))

  -- "the least d such that for every s ≥ 0 the bucket at s is at most the curve at s + d"
  pub bound_is_least : Least (Covers (meaning row extra (tree row)) (flow row 0).burst (flow row 0).rate) (bound row extra (tree row))
  unfolding bound
  bound_is_least =
      let fit = tree_fits row ok in
      let c = curve row extra (tree row) in
      let z = curve_rates row extra ok.sound.room watched 1 (tree row) (omega arith) fit.0 in
      rw (← (fun_ext root_is_meaning))
      (delay_is_least c (flow row 0).burst (flow row 0).rate (omega (arith, stage_count row extra (tree row), fit.1, ok.sound.long)) (omega (arith, moves))
      (rates_weaken 1 (rates row watched) c.stages (omega (arith, watched_rate_lem, moves)) z)
      (rates_weaken (flow row 0).rate (rates row watched) c.stages watched_rate_lem z))

  -- "the greatest, over u ≥ 0, of the bucket at u less the root curve at u, never below 0"
  pub backlog_is_greatest : Greatest (excess (meaning row extra (tree row)) (flow row 0).burst (flow row 0).rate) (backlog_bound row extra (tree row))
  unfolding backlog_bound
  backlog_is_greatest =
      rw (← (fun_ext root_is_meaning))
      (closed.backlog_is_greatest (curve row extra (tree row)) (flow row 0).burst (flow row 0).rate some_stage room_for)
