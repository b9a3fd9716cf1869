-- The search by keys on rows of document 01: P4 to P8, each as its key, the delay times 65536 and the number of the answer's point. And what its
-- parts give on a few numbers: points and keys by number, lags, the first test, and the visits of two groups of two digits.
-- Assumes nothing.
use Rattle.std.specs.Prelude.{◌≡◌, refl, List, [], ◌∷◌, map, ℕ, ◌+◌, ◌-◌, ◌*◌, ◌/◌, ◌%◌, length, get_or, replicate}
use Rattle.curves.specs.Curve.{server, neutral, joined, ceil, greatest, catch_up, least_wait, remainder, lateness, delay}
use Rattle.tandem.specs.declared.Server.{Server}
use Rattle.tandem.specs.declared.Flow.{Flow}
use Rattle.tree.specs.Amounts.{sum_of}
use Rattle.tree.specs.Plan.{top_of, along, node_curve, node_of, plan}
use Rattle.tree.proofs.Instances.{srv, flowed}
use Rattle.tree.specs.Grid.{points_of}
use Rattle.tree.specs.Planned.{answer_of}
use Rattle.keys.specs.Numbers.{point_at, first_digits}
use Rattle.keys.specs.Keys.{least_of, keys_from}
use Rattle.keys.specs.Choose.{keys_under}
use Rattle.keys.specs.Left.{row_curve, lag_of, left_by, left_of}
use Rattle.keys.specs.State.{climb, whole}
use Rattle.keys.specs.Afresh.{visit, visits, branches}

-- the least key of a row: servers, watched flow, groups and g
abbrev found : List Server → Flow → List Flow → ℕ → ℕ
found ss w gs g =
    let start = (answer_of ss (w ∷ gs) (replicate (length gs) 0)).delay in
    let step : ℕ → ℕ = λ d. d * start / (g - 1) in
    least_of (start * 65536) (keys_under (climb 65536 w gs step g) (first_digits step g) (length gs) (whole ss))

pub figures : (found (srv 10 1 ∷ []) (flowed 1 1 8 3) (flowed 1 1 10 2 ∷ []) 4 ≡ 3 * 65536)
    × (found (srv 10 0 ∷ []) (flowed 1 1 12 4) (flowed 1 1 10 6 ∷ []) 2 ≡ 4 * 65536)
    × (found (srv 10 0 ∷ []) (flowed 1 1 12 4) (flowed 1 1 10 6 ∷ []) 3 ≡ 3 * 65536 + 1)
    × (found (srv 10 0 ∷ []) (flowed 1 1 12 4) (flowed 1 1 10 6 ∷ []) 4 ≡ 3 * 65536 + 1)
    × (found (srv 10 1 ∷ srv 10 1 ∷ srv 10 1 ∷ []) (flowed 1 3 6 2) (flowed 1 1 4 2 ∷ flowed 2 3 4 2 ∷ flowed 3 3 4 2 ∷ []) 2 ≡ 6 * 65536)
unfolding answer_of plan node_of node_curve along top_of server neutral joined ceil greatest catch_up least_wait remainder lateness delay sum_of row_curve
    lag_of left_by left_of
figures = (refl, refl, refl, refl, refl)

-- number 5 of two groups with three digits has the digits 1 and 2: document 01's sixth point
pub point_figure : (point_at (λ d. 10 * d) 3 2 5 ≡ 10 ∷ 20 ∷ []) × (get_or (points_of (0 ∷ 10 ∷ 20 ∷ []) 2) 5 [] ≡ 10 ∷ 20 ∷ [])
unfolding points_of
point_figure = (refl, refl)

-- of points with the delays 5, 3 and 3 the second has the least key
pub key_figure : least_of 500 (keys_from 100 (λ p. record { delay = get_or p 0 0; waits = [] }) 0 ((5 ∷ []) ∷ (3 ∷ []) ∷ (3 ∷ []) ∷ [])) ≡ 301
key_figure = refl

-- a group waits for the servers under its path alone
pub lag_figure : lag_of (row_curve (srv 10 0 ∷ srv 2 0 ∷ [])) (flowed 1 1 10 2) ≡ 1
unfolding lag_of row_curve greatest catch_up ceil
lag_figure = refl

-- two groups with two digits: chosen from the last to the first, the points have the numbers 0, 2, 1 and 3
pub numbers_figure : map (λ (x : ℕ). x % 65536)
    (keys_under (climb 65536 (flowed 1 2 8 3) (flowed 1 1 10 2 ∷ flowed 2 2 10 2 ∷ []) (λ d. d) 2) (0 ∷ 1 ∷ []) 2 (whole (srv 10 0 ∷ srv 10 0 ∷ [])))
    ≡ 0 ∷ 2 ∷ 1 ∷ 3 ∷ []
unfolding row_curve lag_of left_by greatest catch_up ceil lateness least_wait delay sum_of
numbers_figure = refl

-- the first group moves fastest: its steps work out its own node and the root, those of the second both nodes and the root
pub visits_figure : visits (0 ∷ 1 ∷ []) 2 ≡ visit (0 ∷ 0 ∷ []) 2 ∷ visit (1 ∷ 0 ∷ []) 1 ∷ visit (0 ∷ 1 ∷ []) 2 ∷ visit (1 ∷ 1 ∷ []) 1 ∷ []
visits_figure = refl

-- with every node for each of the four points there would be eight
pub branches_figure : branches (0 ∷ 1 ∷ []) 2 ≡ 6
branches_figure = refl
