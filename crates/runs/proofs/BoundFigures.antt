-- The bound that demand 3 speaks of is the one of the sheet's own mode and grid: figures of document 01.
-- Assumes nothing.
use Rattle.std.specs.Prelude.{ℕ, ◌≡◌, refl, List, [], ◌∷◌}
use Rattle.curves.specs.Curve.{neutral, joined, ceil, greatest, catch_up, least_wait, remainder, lateness, delay}
use Rattle.curves.specs.Curve.{server as serverShape}
use Rattle.tandem.specs.Sums.{total, any}
use Rattle.tandem.specs.Tandem.{on, bursts, rates}
use Rattle.row.specs.Groups.{used, from, from_on, groups}
use Rattle.tandem.specs.OfSheet.{listed, tandem_of}
use Rattle.row.specs.OfSheet.{grid_of}
use Rattle.tree.specs.Stretch.{group_wait, after_group, curve}
use Rattle.tree.specs.Tree.{stretch_from, top, tree}
use Rattle.tree.specs.Grid.{steps_of, points_of, better, found_of}
use Rattle.tree.specs.Bound.{bound, waits, answer_at, searched}
use Rattle.runs.specs.Demand.{bound_of}

-- P5 and P6, "R 10, T 0; cross 10, 6; watched 12, 4", by mode and g
abbrev pub sheet : ℕ → ℕ → List ℕ
sheet m g = 1 ∷ 1 ∷ 10 ∷ 0 ∷ 1 ∷ 1 ∷ 1 ∷ 10 ∷ 6 ∷ 12 ∷ 4 ∷ m ∷ g ∷ []

-- P5, with g 2, has bound 4, and P6, with g 3, has bound 3, which is less than its start. "0 means 3".
pub by_grid : (bound_of (sheet 0 2) ≡ 4) × (bound_of (sheet 0 3) ≡ 3) × (bound_of (sheet 0 0) ≡ 3)
unfolding bound_of searched found_of answer_at waits bound steps_of points_of better tandem_of listed grid_of groups from_on from used any on
    tree stretch_from top curve joined neutral serverShape after_group group_wait least_wait catch_up remainder bursts rates total delay lateness greatest ceil
by_grid = (refl, refl, refl)

-- "Mode 1, quick, answers start": 4
pub by_mode : bound_of (sheet 1 3) ≡ 4
unfolding bound_of searched found_of answer_at waits bound steps_of points_of better tandem_of listed grid_of groups from_on from used any on
    tree stretch_from top curve joined neutral serverShape after_group group_wait least_wait catch_up remainder bursts rates total delay lateness greatest ceil
by_mode = refl
