-- What the answer of a search is among the points: "The bound is the least delay; on a tie the first point stands."
-- Assumes nothing.
use Rattle.std.specs.Prelude.{ℕ, ◌≤◌, ◌<◌, ◌≡◌, List, ◌∷◌, ◌++◌, length, get_or}
use Rattle.ground.specs.Each.{Each}
use Rattle.tree.specs.Grid.{Answer}

-- best is what stands at the first of the points with the least delay: every earlier point has a greater delay, no later one a smaller
pub record First (at : List ℕ → Answer) (points : List (List ℕ)) (best : Answer) : Type 0 where
  pub before : List (List ℕ)
  pub point : List ℕ
  pub behind : List (List ℕ)
  pub split : points ≡ before ++ (point ∷ behind)
  pub there : best ≡ at point
  pub greater : Each (λ p. best.delay < (at p).delay) before
  pub least : Each (λ p. best.delay ≤ (at p).delay) behind

-- a point of n extras, each at most start
pub record Low (start n : ℕ) (p : List ℕ) : Type 0 where
  pub full : length p ≡ n
  pub low : (k : ℕ) → get_or p k 0 ≤ start
