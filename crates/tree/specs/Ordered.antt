-- Flows as a search works them out: paths in the row, in document 01's order, none of which cross; and what is asked of a row and a point
-- before that point is worked out.
-- Assumes nothing.
use Rattle.std.specs.Prelude.{List, [], ◌∷◌, ◌⊎◌, ℕ, ◌≤◌, ◌<◌, length}
use Rattle.tandem.specs.declared.Server.{Server}
use Rattle.tandem.specs.declared.Flow.{Flow}
use Rattle.tree.specs.Plan.{plan}
use Rattle.tree.specs.Fine.{AllFine}
use Rattle.ground.specs.Each.{Each}

-- a path in a row of n servers
pub record Placed (n : ℕ) (g : Flow) : Type 0 where
  pub enters : 1 ≤ g.first
  pub onward : g.first ≤ g.last
  pub leaves : g.last ≤ n

-- h stands behind g in the order: it begins no earlier, and it begins behind g's path or ends inside it
pub record After (g h : Flow) : Type 0 where
  pub onward : g.first ≤ h.first
  pub nested : (g.last < h.first) ⊎ (h.last ≤ g.last)

-- flows in the order of document 01, none of which cross
abbrev pub Ordered : List Flow → Type 0
Ordered [] = Unit {0}
Ordered (g ∷ gs) = Each (After g) gs × Ordered gs

-- what is asked before a point is worked out
pub record Workable (ss : List Server) (gs : List Flow) (es : List ℕ) : Type 0 where
  pub some : 0 < length gs
  pub placed : Each (Placed (length ss)) gs
  pub ordered : Ordered gs
  pub fine : AllFine (plan ss gs (0 ∷ es)) gs
