-- The groups of a row (document 01, "Groups, tree and grid"): "Cross flows with one path form one group; bursts and rates add up. Groups
-- stand in order of first server, then longer path first. A path equal to the watched flow's is a group directly under the root."
-- Assumes nothing.
use Rattle.std.specs.Prelude.{ℕ, zero, suc, Bool, true, false, List, [], ◌∷◌, ◌++◌, map, length}
use Rattle.tandem.specs.declared.Flow.{Flow}
use Rattle.tandem.specs.Sums.{any}
use Rattle.tandem.specs.Tandem.{Tandem, Path, size, flow, on, bursts, rates}

-- some cross flow has the path g
unfoldable pub used : Tandem → Path → Bool
used row g = any (length row.flows) (on row g)

abbrev pub path : ℕ → ℕ → Path
path i l = record { first = i; last = l }

-- x before the list where the test passes
abbrev pub put : {B : Type 0} → Bool → B → List B → List B
put true x l = x ∷ l
put false x l = l

-- the paths of groups with first server i and last server at most m, longer first
unfoldable pub from : Tandem → ℕ → ℕ → List Path
from row i zero = []
from row i (suc m) = put (used row (path i (suc m))) (path i (suc m)) (from row i m)

-- those with first server i, i + 1, .. : n of these
unfoldable pub from_on : Tandem → ℕ → ℕ → List Path
from_on row i zero = []
from_on row i (suc n) = from row i (size row) ++ from_on row (suc i) n

-- the groups, by their paths
unfoldable pub groups : Tandem → List Path
groups row = from_on row 1 (size row)

-- a group as one flow: "bursts and rates add up"
unfoldable pub grouped : Tandem → Path → Flow
grouped row g = record { first = g.first; last = g.last; burst = bursts row (on row g); rate = rates row (on row g) }

-- all that the analysis reads of the flows: the watched flow, and behind it each group as one flow
unfoldable pub reads : Tandem → List Flow
reads row = flow row 0 ∷ map (grouped row) (groups row)
