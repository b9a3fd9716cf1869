-- What the recursion of the search asks of its arguments, and what it gives: the least of the best so far and of the keys of all points below a
-- branch, whatever was chosen to get there.
-- Assumes nothing.
use Rattle.std.specs.Prelude.{◌≡◌, List, ℕ, ◌+◌, ◌*◌, ◌≤◌, ◌<◌, ◌^◌, length}
use Rattle.curves.specs.Held.{shape_of}
use Rattle.ground.specs.Each.{Each}
use Rattle.tandem.specs.declared.Flow.{Flow}
use Rattle.tree.specs.Ordered.{Placed}
use Rattle.keys.specs.Keys.{least_of}
use Rattle.keys.specs.Choose.{keys_under}
use Rattle.keys.specs.State.{climb, want_of, Moving, Small}
use Rattle.grid.specs.declared.Steps.{Steps}
use Rattle.grid.specs.Steps.{step_at, steps_in, digits_of}
use Rattle.climb.specs.declared.Branch.{Branch}
use Rattle.climb.specs.Branch.{state_of, watched_in, groups_in, want_in}

-- the steps of a grid of 2 to 9 points a group, with a start that fits
pub record Stepped (steps : Steps) : Type 0 where
  pub coarse : 2 ≤ steps.grid
  pub dense : steps.grid ≤ 9
  pub near : steps.start < 2 ^ 32
  pub are : steps ≡ steps_in steps.start steps.grid

-- the least of `best` and of the keys of all points whose groups behind the first k are as the branch holds them
unfoldable pub least_key : List Flow → Steps → ℕ → Branch → ℕ → ℕ
least_key flows steps k s best =
    least_of best (keys_under (climb 65536 (watched_in flows) (groups_in flows) (step_at steps.start steps.grid) steps.grid) (digits_of steps) k (state_of s))

pub record Ready (flows : List Flow) (steps : Steps) (k : ℕ) (s : Branch) (wants : List ℕ) (best : ℕ) : Type 0 where
  pub stepped : Stepped steps
  -- flow k is there
  pub reached : k < length flows
  -- a stage for each server, and every path among them
  pub size : s.curve.count ≤ 16
  pub full : length (shape_of s.curve).stages ≡ s.curve.count
  pub placed : Each (Placed s.curve.count) (groups_in flows)
  pub light : Each (λ f. f.burst < 2 ^ 40) (groups_in flows)
  pub watched : (watched_in flows).burst + (watched_in flows).rate < 2 ^ 40
  -- every server still moves at the end, and the numbers fit
  pub moving : Moving (groups_in flows) k (state_of s)
  pub small : Small (2 ^ 20) (shape_of s.curve)
  pub soon : s.curve.offset < 2 ^ 33
  -- what the groups to come and the watched flow want of each server
  pub wanted : (j : ℕ) → j < s.curve.count → want_in wants j ≡ want_of (groups_in flows) ((watched_in flows).burst + (watched_in flows).rate) k j
  pub bounded : best ≤ steps.start * 65536
  -- the digits still to come have room below 65536
  pub numbered : s.number < s.weight
  pub weighed : s.weight * steps.grid ^ k ≤ 65536
