-- A group is taken out of what it and other flows are guaranteed together: in a run that keeps the premises.
-- Assumes nothing.
use Rattle.std.specs.Prelude.{◌≡◌, refl, ◌||◌}
use Rattle.std.proofs.Math.Path.{sym, ap}
use Rattle.std.proofs.Common.{arith}
use Rattle.std.proofs.Math.Bool.{Bool, true}
use Prim.Native.Nat.{ℕ, ◌+◌, ◌≤◌}
use Rattle.std.proofs.Math.ListN.{length}
use Rattle.curves.specs.Curve.{Shape, Rates, least_wait, remainder}
use Rattle.curves.proofs.StageLaws.{rates_weaken}
use Rattle.tandem.specs.Tandem.{Tandem, bursts, rates}
use Rattle.tandem.proofs.TestLaws.{or_left, or_right}
use Rattle.runs.specs.Lines.{keep, by, Prefix}
use Rattle.runs.specs.Run.{Run, Keeps}
use Rattle.runs.specs.Served.{Serves, past, among, come, gone, Good}
use Rattle.runs.proofs.LinesLaws.{keep_keep, keep_or, keep_length_mono, by_prefix}
use Rattle.runs.proofs.LinesLaws.{prefix_keep, prefix_length, prefix_both}
use Rattle.runs.proofs.RunLaws.{bucketed_after}
use Rattle.runs.proofs.RestLaws.{leftover}
use Rattle.runs.proofs.ServedLaws.{Enters, Apart, rates_or, set_bucket}

module _ (row : Tandem) {B : Type 0} (run : Run B) (H : ℕ) (keeps : Keeps row run H) where
  -- a group G that enters at server i is taken out of what it and P are guaranteed together
  pub good_group : (P G : ℕ → Bool) (i n : ℕ) (c : Shape) (θ : ℕ) → Apart P G → Enters row G i
      → 1 ≤ rates row P → least_wait c (bursts row G) ≤ θ → Rates (rates row (λ f. P f || G f)) c.stages
      → Good run H (λ f. P f || G f) i n c → Good run H P i n (remainder c (bursts row G) (rates row G) θ)
  unfolding come gone by keep remainder
  good_group P G i n c θ apart enter some waits fits y = record { lines = lines; serves = serves }
    where
      Q : ℕ → Bool
      Q f = P f || G f

      -- the bytes of P, and of G, by slot
      A : ℕ → ℕ
      A t = length (come run P i t)

      AG : ℕ → ℕ
      AG t = length (come run G i t)

      D : ℕ → ℕ
      D t = length (gone run P i n t)

      DG : ℕ → ℕ
      DG t = length (gone run G i n t)

      p_in : (b : B) → among run P b ≡ true → among run Q b ≡ true
      p_in b e = or_left (P (run.of b)) (G (run.of b)) e

      g_in : (b : B) → among run G b ≡ true → among run Q b ≡ true
      g_in b e = or_right (P (run.of b)) (G (run.of b)) e

      part_come : (S : ℕ → Bool) → ((b : B) → among run S b ≡ true → among run Q b ≡ true)
          → (t : ℕ) → keep (among run S) (come run Q i t) ≡ come run S i t
      part_come S h t = keep_keep (among run S) (among run Q) h (by (run.join i) t)

      part_gone : (S : ℕ → Bool) → ((b : B) → among run S b ≡ true → among run Q b ≡ true)
          → (t : ℕ) → keep (among run S) (gone run Q i n t) ≡ gone run S i n t
      part_gone S h t = keep_keep (among run S) (among run Q) h (by (past run i n) t)

      sum : rates row Q ≡ rates row P + rates row G
      sum = rates_or row P G apart

      both_come : (t : ℕ) → length (come run Q i t) ≡ A t + AG t
      both_come t = keep_or (among run P) (among run G) (λ b. apart (run.of b)) (by (run.join i) t)

      both_gone : (t : ℕ) → length (gone run Q i n t) ≡ D t + DG t
      both_gone t = keep_or (among run P) (among run G) (λ b. apart (run.of b)) (by (past run i n) t)

      both_serve : Serves H c (λ t. A t + AG t) (λ t. D t + DG t)
      both_serve t h = let s = y.serves t h in (s.0, s.1, λ v k. omega (arith, both_come s.0, both_gone t, s.2 v k))

      both_rise : (a b : ℕ) → a ≤ b → A a + AG a ≤ A b + AG b
      both_rise a b h = omega (arith, keep_length_mono (among run P) (run.join i) a b h, keep_length_mono (among run G) (run.join i) a b h)

      earlier : (a t : ℕ) → a ≤ t → Prefix (come run Q i a) (come run Q i t)
      earlier a t h = prefix_keep (among run Q) (by_prefix (run.join i) a t h)

      rest_fifo : (a t : ℕ) → a ≤ t → t ≤ H → A a + AG a ≤ D t + DG t → A a ≤ D t
      rest_fifo a t h k l =
          let z = prefix_keep (among run P) (prefix_both (earlier a t h) (y.lines t k) (omega (arith, both_come a, both_gone t))) in
          omega (arith, prefix_length z, ap length (part_come P p_in a), ap length (part_gone P p_in t))

      group_fifo : (a t : ℕ) → a ≤ t → t ≤ H → D t + DG t ≤ A a + AG a → DG t ≤ AG a
      group_fifo a t h k l =
          let z = prefix_keep (among run G) (prefix_both (y.lines t k) (earlier a t h) (omega (arith, both_come a, both_gone t))) in
          omega (arith, prefix_length z, ap length (part_come G g_in a), ap length (part_gone G g_in t))

      lines : (t : ℕ) → t ≤ H → Prefix (gone run P i n t) (come run P i t)
      lines t h = rw (sym (part_gone P p_in t), sym (part_come P p_in t)) (prefix_keep (among run P) (y.lines t h))

      serves : Serves H (remainder c (bursts row G) (rates row G) θ) A D
      serves =
          leftover H c (bursts row G) (rates row G) θ A AG D DG both_rise refl rest_fifo group_fifo
          (bucketed_after H (among run G) (run.join i) (bursts row G) (rates row G) (set_bucket row run H keeps G i enter)) waits
          (rates_weaken 1 (rates row Q) c.stages (omega (arith, sum)) fits)
          (rates_weaken (rates row G) (rates row Q) c.stages (omega (arith, sum)) fits) both_serve
