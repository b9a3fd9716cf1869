-- The row as one curve with a stage for each server, out of which the groups are taken from the last to the first: a group's lag is the
-- slots until the stages under its path have its burst, and lag and extra are added to the offset, which so is all slots so far. Groups nest,
-- so at the end this is the root's curve (LeftLaws.antt).
-- Assumes nothing.
use Rattle.std.specs.Prelude.{Bool, ◌&&◌, List, [], ◌∷◌, map, ℕ, ◌+◌, ◌-◌, ltb, leb, get_or}
use Rattle.curves.specs.declared.Stage.{Stage}
use Rattle.curves.specs.Curve.{Shape}
use Rattle.curves.specs.Part.{lag_in, left_in}
use Rattle.tandem.specs.Sums.{weigh}
use Rattle.tandem.specs.declared.Server.{Server}
use Rattle.tandem.specs.declared.Flow.{Flow}
use Rattle.tree.specs.Plan.{head_of, tail_of}
use Rattle.tree.specs.Amounts.{sum_of}
use Rattle.tree.proofs.PruneLaws.{latencies_of}

-- all servers, before any group is taken out
unfoldable pub row_curve : List Server → Shape
row_curve ss = record { offset = sum_of (latencies_of ss); stages = map (λ (s : Server). record { burst = 0; rate = s.rate }) ss }

-- the slots until every stage under a group's path has its burst
unfoldable pub lag_of : Shape → Flow → ℕ
lag_of c g = lag_in c (g.first - 1) g.last g.burst

-- a group is taken out, x slots after the offset
unfoldable pub left_by : Shape → Flow → ℕ → Shape
left_by c g x = left_in c (g.first - 1) g.last g.burst g.rate x

-- groups are taken out with their extras, the last first
unfoldable pub left_of : Shape → List Flow → List ℕ → Shape
left_of c [] es = c
left_of c (g ∷ gs) es = left_by (left_of c gs (tail_of es)) g (lag_of (left_of c gs (tail_of es)) g + head_of es)

-- the stage of server j, counted from 0
abbrev pub stage_at : Shape → ℕ → Stage
stage_at c j = get_or c.stages j (record { burst = 0; rate = 0 })

-- server j is under the path of g
unfoldable pub passes : Flow → ℕ → Bool
passes g j = leb (g.first - 1) j && ltb j g.last

-- the bursts of the groups gs whose paths pass server j, added up
unfoldable pub bursts_on : List Flow → ℕ → ℕ
bursts_on [] j = 0
bursts_on (g ∷ gs) j = weigh (passes g j) g.burst + bursts_on gs j
