-- The delay and the waits at a point of the grid, and what the search of a row gives (document 01, "Groups, tree and grid"); and the backlog there
-- (document 02, Wish 1).
-- Assumes nothing.
use Rattle.std.specs.Prelude.{ℕ, suc, List, [], ◌∷◌, length, get_or}
use Rattle.curves.specs.Curve.{delay, backlog}
use Rattle.tandem.specs.Tandem.{Tandem, Path, flow}
use Rattle.row.specs.Groups.{groups}
use Rattle.tree.specs.Grid.{Answer, Found, found_of}
use Rattle.tree.specs.Stretch.{Stretch, group_wait, curve}
use Rattle.tree.specs.Tree.{inside, top, tree}

-- the delay of the watched flow's bucket over the curve of a stretch
unfoldable pub bound : Tandem → (ℕ → ℕ) → Stretch → ℕ
bound row extra p = delay (curve row extra p) (flow row 0).burst (flow row 0).rate

-- and its backlog there: "the greatest, over u ≥ 0, of the bucket at u less the root curve at u, never below 0" (MeaningLaws.antt proves it)
unfoldable pub backlog_bound : Tandem → (ℕ → ℕ) → Stretch → ℕ
backlog_bound row extra p = backlog (curve row extra p) (flow row 0).burst (flow row 0).rate

-- the waits of the groups gs, numbered from k on: "Each group's wait is its h, worked out after all groups inside it, plus an extra e."
unfoldable pub waits : Tandem → (ℕ → ℕ) → ℕ → List Path → List ℕ
waits row extra k [] = []
waits row extra k (g ∷ gs) = group_wait row g (curve row extra (inside row (top row (suc k) gs) g)) (extra k) ∷ waits row extra (suc k) gs

-- the extra of group k at a point
abbrev pub extra_of : List ℕ → ℕ → ℕ
extra_of es k = get_or es k 0

-- the delay at a point, and each group's wait
unfoldable pub answer_at : Tandem → List ℕ → Answer
answer_at row es = record { delay = bound row (extra_of es) (tree row); waits = waits row (extra_of es) 0 (groups row) }

-- "Mode 0 searches. Mode 1, quick, answers start and every e = 0."
unfoldable pub searched : Tandem → ℕ → ℕ → Found
searched row mode g = found_of (answer_at row) (length (groups row)) mode g
