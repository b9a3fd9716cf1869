-- On every row the record in which nothing is ever sent keeps the premises: none of them asks that a flow sends, or that a server has bytes to serve.
-- Assumes nothing.
use Rattle.std.specs.Prelude.{ℕ, zero, suc, ◌-◌, ◌≤◌, ◌≡◌, refl, List, [], ◌++◌}
use Rattle.std.proofs.Common.{ap, mul-zero, arith}
use Rattle.curves.specs.Slots.{serve}
use Rattle.tandem.specs.Tandem.{Tandem, server}
use Rattle.runs.specs.Lines.{keep, by}
use Rattle.runs.specs.Run.{Run, Keeps}

-- nothing joins and nothing leaves
abbrev pub silent : Run ℕ
silent = record { of = λ b. b; join = λ j t. []; leave = λ j t. [] }

nothing_by : (t : ℕ) → by {B = ℕ} (λ t. []) t ≡ []
unfolding by
nothing_by zero = refl
nothing_by (suc t) = ap (λ (l : List ℕ). l ++ []) (nothing_by t)

no_slots : (R T t : ℕ) → serve R T (t - t) ≡ 0
unfolding serve
no_slots R T t = let z : t - t - T ≡ 0 = omega arith in rw (z, mul-zero R)

pub silent_keeps : (row : Tandem) (H : ℕ) → Keeps row silent H
unfolding keep
silent_keeps row H = record {
  paths = λ j t a b c d. tt;
  order = λ j t a b c. rw (nothing_by t) (record { rest = []; whole = refl });
  relay = λ j t a b c d. refl;
  buckets = λ f l a b c d. rw (nothing_by b, nothing_by a) (omega arith);
  serves = λ j t a b c. (t, (let l : t ≤ t = omega arith in l), rw (nothing_by t, no_slots (server row j).rate (server row j).latency t) (omega arith));
}
