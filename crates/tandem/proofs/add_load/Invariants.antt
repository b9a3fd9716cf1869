-- The servers from the first on that are passed have the rate added, the others are as they were.
-- Assumes nothing.
use Rattle.std.proofs.Common.{◌≡◌, ℕ, ◌+◌, ◌<◌, ◌≤◌, get_or}
use Rattle.tandem.proofs.add_load.Given as goal

abbrev pub invariant-loop-load : goal.invariant-loop-load
invariant-loop-load l =
    ((k : ℕ) → k < l.load-index → get_or l.load-items k 0 ≡ get_or l.initial.load-items k 0 + l.flow.rate)
    × ((k : ℕ) → l.load-index ≤ k → get_or l.load-items k 0 ≡ get_or l.initial.load-items k 0)
