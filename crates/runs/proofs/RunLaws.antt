-- A token bucket over one slot or more, on a line that keeps to it.
-- Assumes nothing.
use Rattle.std.specs.Prelude.{Bool, List, ℕ, ◌+◌, ◌*◌, ◌-◌, ◌≤◌, ◌<◌, length}
use Rattle.std.proofs.Common.{arith}
use Rattle.curves.proofs.SlotsLaws.{bucket_after}
use Rattle.runs.specs.Lines.{keep, by}
use Rattle.runs.specs.Run.{Bucketed}

-- over one slot or more
pub bucketed_after : {B : Type 0} (H : ℕ) (p : B → Bool) (line : ℕ → List B) (σ ρ : ℕ) → Bucketed H p line σ ρ
    → (a b : ℕ) → a < b → b ≤ H → length (keep p (by line b)) ≤ length (keep p (by line a)) + (σ + ρ * (b - a))
bucketed_after H p line σ ρ kept a b l k = omega (arith, kept a b (omega arith) k, bucket_after σ ρ (b - a) (omega arith))
