-- The curve of a stretch is guaranteed to the flows that cross the whole of it: in a run that keeps the premises, on a row whose rates fit.
-- Assumes nothing.
use Rattle.std.specs.Prelude.{◌≡◌, ◌||◌}
use Rattle.std.proofs.Math.Path.{sym, subst}
use Rattle.std.proofs.Common.{◌∙◌, arith, add-one}
use Rattle.std.proofs.Math.Bool.{Bool, true}
use Prim.Native.Nat.{ℕ, ◌+◌, ◌≤◌, ◌<◌}
use Rattle.std.proofs.Math.Nat.{add-zero}
use Rattle.curves.specs.Curve.{Shape, joined}
use Rattle.tandem.specs.Tandem.{Tandem, size, server, crosses, on, rates}
use Rattle.tree.specs.Stretch.{Stretch, none, then_server, then_group, span, group_wait, after_group, curve}
use Rattle.tree.specs.Fits.{Fits}
use Rattle.tandem.proofs.TestLaws.{or_left}
use Rattle.tree.proofs.StretchLaws.{spans, ends_in_row, curve_rates}
use Rattle.runs.specs.Run.{Run, Keeps}
use Rattle.runs.specs.Served.{Good}
use Rattle.runs.proofs.ServedLaws.{reach, on_enters, rates_or, server_curve, meet, good_none, good_series, good_server}
use Rattle.runs.proofs.GroupLaws.{good_group}

module _ (row : Tandem) {B : Type 0} (run : Run B) (H : ℕ) (keeps : Keeps row run H)
    (extra : ℕ → ℕ) (room : (j : ℕ) → 0 < j → j ≤ size row → rates row (λ f. crosses row f j) ≤ (server row j).rate) where
  -- THE CLAIM, by induction on the stretch: a server keeps its guarantee, a group is taken out, and pieces stand in series
  pub good : (P : ℕ → Bool) (i : ℕ) (p : Stretch) → 0 < i → 1 ≤ rates row P → Fits row P i p → Good run H P i (span p) (curve row extra p)
  unfolding span curve Fits after_group group_wait
  good P i none hi hr h = good_none row run H keeps P i
  good P i (then_server p j) hi hr h =
      let same = meet row run H keeps P i (span p) hi (omega (arith, h.1, h.2)) (reach row P i p h.0 (λ f e. rw (sym h.1) (h.3 f ∙ e))) in
      let last = subst (λ (k : ℕ). Good run H P k 1 (server_curve row j)) h.1 (good_server row run H keeps P j (omega (arith, h.1)) h.2 h.3) in
      subst (λ (n : ℕ). Good run H P i n (joined (curve row extra p) (server_curve row j))) (add-one (span p))
      (good_series row run H keeps P i (span p) 1 (curve row extra p) (server_curve row j) (omega arith) same (good P i p hi hr h.0) last)
  good P i (then_group p k g q) hi hr h =
      let Q : ℕ → Bool = λ f. P f || on row g f in
      let d : Shape = curve row extra q in
      let θ : ℕ = group_wait row g d (extra k) in
      let end = ends_in_row row Q (i + span p) q h.2 h.1 in
      let begin : (f : ℕ) → P f ≡ true → crosses row f (i + span p) ≡ true =
      λ f e. rw add-zero at (spans row Q (i + span p) q h.2 f (or_left (P f) (on row g f) e) 0 h.1) in
      let same = meet row run H keeps P i (span p) hi (omega (arith, h.1, end)) (reach row P i p h.0 begin) in
      let both = good Q (i + span p) q (omega arith) (omega (arith, rates_or row P (on row g) h.3)) h.2 in
      let fit = curve_rates row extra room Q (i + span p) q (omega arith) h.2 in
      good_series row run H keeps P i (span p) (span q) (curve row extra p) _ h.1 same (good P i p hi hr h.0)
      (good_group row run H keeps P (on row g) (i + span p) (span q) d θ h.3 (on_enters row g (i + span p) h.4) hr (omega arith) fit both)
