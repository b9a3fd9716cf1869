-- The groups of a row stand in order: by the first server, and of one first server by the last, the longest first.
-- Assumes nothing.
use Rattle.std.specs.Prelude.{◌≡◌, Bool, true, false, ◌||◌, ◌⊎◌, List, [], ◌∷◌, ℕ, ◌≤◌, ◌<◌}
use Rattle.tandem.specs.Tandem.{Tandem, Path, flow, on}

-- flow f is in one of the groups
unfoldable pub later : Tandem → List Path → ℕ → Bool
later row [] f = false
later row (g ∷ gs) f = on row g f || later row gs f

-- groups gs stand in order: each has a flow, and comes before those after it
unfoldable pub Order : Tandem → List Path → Type 0
Order row [] = Unit {0}
Order row (g ∷ gs) = ((w : ℕ) × (on row g w ≡ true) × (g.first ≤ g.last))
    × ((h : ℕ) → later row gs h ≡ true → (g.first < (flow row h).first) ⊎ ((g.first ≡ (flow row h).first) × ((flow row h).last < g.last)))
    × Order row gs
