-- What a stretch of servers guarantees to a set of flows in a run: the claim that is proved by induction over the nesting tree.
-- Assumes nothing.
use Rattle.std.specs.Prelude.{ℕ, zero, suc, ◌+◌, ◌-◌, ◌≤◌, Bool, List, length}
use Rattle.curves.specs.Curve.{Shape, Under}
use Rattle.runs.specs.Lines.{keep, by, Prefix}
use Rattle.runs.specs.Run.{Run}

-- of two counts by slot: up to slot H, what has left by t is at least what had come by some s ≤ t and the curve over t − s
abbrev pub Serves : ℕ → Shape → (ℕ → ℕ) → (ℕ → ℕ) → Type 0
Serves H c A D = (t : ℕ) → t ≤ H → (s : ℕ) × (s ≤ t) × ((v : ℕ) → Under c (t - s) v → A s + v ≤ D t)

-- the bytes that have passed n servers from server i on, slot by slot: those that join server i itself if n is 0
unfoldable pub past : {B : Type 0} → Run B → ℕ → ℕ → ℕ → List B
past run i zero = run.join i
past run i (suc n) = run.leave (i + n)

-- the byte is of a flow of P
abbrev pub among : {B : Type 0} → Run B → (ℕ → Bool) → B → Bool
among run P b = P (run.of b)

-- the bytes of the flows of P that have joined server i by slot t, and those that have passed n servers from there
unfoldable pub come : {B : Type 0} → Run B → (ℕ → Bool) → ℕ → ℕ → List B
come run P i t = keep (among run P) (by (run.join i) t)

unfoldable pub gone : {B : Type 0} → Run B → (ℕ → Bool) → ℕ → ℕ → ℕ → List B
gone run P i n t = keep (among run P) (by (past run i n) t)

-- the flows of P keep their order over n servers from server i on, and are served by the curve
pub record Good {B : Type 0} (run : Run B) (H : ℕ) (P : ℕ → Bool) (i n : ℕ) (c : Shape) : Type 0 where
  pub lines : (t : ℕ) → t ≤ H → Prefix (gone run P i n t) (come run P i t)
  pub serves : Serves H c (λ t. length (come run P i t)) (λ t. length (gone run P i n t))
