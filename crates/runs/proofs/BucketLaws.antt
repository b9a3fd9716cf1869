-- A set of flows that keep their buckets on a line keeps the sum of them: "bursts and rates add up".
-- Assumes nothing.
use Rattle.std.specs.Prelude.{◌≡◌, refl, Bool, true, false, List, ℕ, zero, suc, ◌+◌, ◌*◌, ◌-◌, ◌≤◌, ◌<◌, eqb, length}
use Rattle.std.proofs.Common.{sym, ap, ◌∙◌, arith, length-append}
use Rattle.curves.specs.Slots.{bucket}
use Rattle.curves.proofs.SlotsLaws.{bucket_after}
use Rattle.tandem.specs.Sums.{weigh, total}
use Rattle.tandem.proofs.SumLaws.{total_mono, total_scale}
use Rattle.runs.specs.Lines.{keep, by, Prefix}
use Rattle.runs.specs.Run.{Bucketed}
use Rattle.runs.proofs.LinesLaws.{keep_append, by_prefix, number_le}
use Rattle.runs.proofs.RunLaws.{bucketed_after}

-- if each flow of a set keeps its bucket on a line, the set keeps the sum of them
pub sum_bucket : {B : Type 0} (of : B → ℕ) (H n : ℕ) (G : ℕ → Bool) (s r : ℕ → ℕ) (line : ℕ → List B)
    → ((f : ℕ) → G f ≡ true → f < n)
    → ((f : ℕ) → G f ≡ true → Bucketed H (λ b. eqb f (of b)) line (s f) (r f))
    → Bucketed H (λ b. G (of b)) line (total n (λ f. weigh (G f) (s f))) (total n (λ f. weigh (G f) (r f)))
sum_bucket {B} of H n G s r line small kept a b h k = go (b - a) refl
  where
    σ : ℕ
    σ = total n (λ f. weigh (G f) (s f))

    ρ : ℕ
    ρ = total n (λ f. weigh (G f) (r f))

    pre : Prefix (by line a) (by line b)
    pre = by_prefix line a b h

    more : (p : B → Bool) → length (keep p (by line b)) ≡ length (keep p (by line a)) + length (keep p pre.rest)
    more p =
        ap (λ (x : List B). length (keep p x)) (sym pre.whole) ∙ ap length (keep_append p (by line a) pre.rest)
        ∙ length-append (keep p (by line a)) (keep p pre.rest)

    each : a < b → (f : ℕ) (g : Bool) → G f ≡ g → weigh (G f) (length (keep (λ b. eqb f (of b)) pre.rest)) ≤ weigh (G f) (s f + r f * (b - a))
    each l f false e = rw e (omega arith)
    each l f true e = rw e (omega (arith, more (λ b. eqb f (of b)), bucketed_after H (λ b. eqb f (of b)) line (s f) (r f) (kept f e) a b l k))

    go : (d : ℕ) → b - a ≡ d → length (keep (λ b. G (of b)) (by line b)) ≤ length (keep (λ b. G (of b)) (by line a)) + bucket σ ρ (b - a)
    go zero e = let q : a ≡ b = omega arith in rw q (omega arith)
    go (suc d) e =
        let m = number_le of n G small pre.rest in
        let l : a < b = omega arith in
        let t = total_mono n (λ f. weigh (G f) (length (keep (λ b. eqb f (of b)) pre.rest)))
        (λ f. weigh (G f) (s f + r f * (b - a))) (λ f x. each l f (G f) refl) in
        omega (arith, more (λ b. G (of b)), m, t, total_scale n (b - a) G s r, bucket_after σ ρ (b - a) (omega arith))
