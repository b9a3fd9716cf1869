-- What is asked of a row before it is searched: that every point of its grid can be worked out, and that the search's numbers fit.
-- Assumes nothing.
use Rattle.std.specs.Prelude.{◌≡◌, List, ℕ, ◌-◌, ◌≤◌, ◌<◌, ◌^◌, length, get_or, replicate}
use Rattle.tandem.specs.Tandem.{no_flow}
use Rattle.row.specs.declared.Row.{Row}
use Rattle.row.specs.RowFor.{padded}
use Rattle.ground.specs.Each.{Each}
use Rattle.tree.specs.Amounts.{sum_of}
use Rattle.tree.proofs.PruneLaws.{latencies_of}
use Rattle.tree.specs.Grid.{Answer}
use Rattle.tree.specs.Ordered.{Workable}
use Rattle.point.specs.Point.{servers_of, flows_of, answer_at, Shaped}
use Rattle.search.specs.declared.Found.{Found}

-- what a search gives, as the code holds it: behind the groups' waits stand zeros
unfoldable pub found_in : ℕ → Answer → Found
found_in start best = record { start = start; bound = best.delay; waits = padded 32 0 best.waits }

-- "With every e = 0 the delay is called start."
abbrev pub start_of : Row → ℕ
start_of row = (answer_at row (replicate (row.count - 1) 0)).delay

-- a row that can be searched
pub record Searchable (row : Row) : Type 0 where
  pub shaped : Shaped row
  pub coarse : 2 ≤ row.grid
  pub dense : row.grid ≤ 9
  -- the watched flow crosses all servers
  pub enters : (get_or (flows_of row) 0 no_flow).first ≡ 1
  pub leaves : (get_or (flows_of row) 0 no_flow).last ≡ row.size
  -- in mode 0 the grid's points have numbers below 65,536
  pub points : row.mode ≡ 0 → row.grid ^ (row.count - 1) ≤ 65536
  pub slow : Each (λ s. s.rate ≤ 2 ^ 20) (servers_of row)
  pub prompt : sum_of (latencies_of (servers_of row)) < 2 ^ 33
  pub near : start_of row < 2 ^ 32
  -- every point with extras up to `start` can be worked out
  pub works : (es : List ℕ) → length es ≡ row.count - 1 → Each (λ e. e ≤ start_of row) es → Workable (servers_of row) (flows_of row) es
