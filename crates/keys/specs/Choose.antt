-- The walk of the search over the points: the groups are chosen from the last to the first, and a state is whatever those chosen so far leave.
-- The program seeks the least of the keys below a state, and passes over branches with none below the best so far.
-- Assumes nothing.
use Rattle.std.specs.Prelude.{List, [], ◌∷◌, ℕ, zero, suc}
use Rattle.tree.specs.Grid.{flat}

-- where a search goes, with k groups to choose below: the state after the next group has digit d, and the key of a whole point
pub record Climb (S : Type 0) : Type 0 where
  pub next : ℕ → S → ℕ → S
  pub key : S → ℕ

-- the keys of all points below a state, k groups from it
abbrev pub keys_under : {S : Type 0} → Climb S → List ℕ → ℕ → S → List ℕ
keys_under c ds zero s = c.key s ∷ []
keys_under c ds (suc k) s = flat (λ (d : ℕ). keys_under c ds k (c.next k s d)) ds
