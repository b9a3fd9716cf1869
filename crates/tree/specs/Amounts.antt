-- What a stretch holds, added up: its servers' latencies, weights of its groups' flows, its groups' extras, and how many groups it has.
-- Assumes nothing.
use Rattle.std.specs.Prelude.{ℕ, ◌+◌, List, [], ◌∷◌, length}
use Rattle.tandem.specs.Sums.{weigh, total}
use Rattle.tandem.specs.Tandem.{Tandem, server, on}
use Rattle.tree.specs.Stretch.{Stretch, none, then_server, then_group}

unfoldable pub latencies : Tandem → Stretch → ℕ
latencies row none = 0
latencies row (then_server p j) = latencies row p + (server row j).latency
latencies row (then_group p k g q) = latencies row p + latencies row q

-- the weights w of the groups' flows
unfoldable pub weights : Tandem → (ℕ → ℕ) → Stretch → ℕ
weights row w none = 0
weights row w (then_server p j) = weights row w p
weights row w (then_group p k g q) = weights row w p + (total (length row.flows) (λ f. weigh (on row g f) (w f)) + weights row w q)

unfoldable pub extras : (ℕ → ℕ) → Stretch → ℕ
extras extra none = 0
extras extra (then_server p j) = extras extra p
extras extra (then_group p k g q) = extras extra p + (extra k + extras extra q)

unfoldable pub count : Stretch → ℕ
count none = 0
count (then_server p j) = count p
count (then_group p k g q) = count p + (1 + count q)

-- numbers of a list, added up
unfoldable pub sum_of : List ℕ → ℕ
sum_of [] = 0
sum_of (e ∷ es) = e + sum_of es
