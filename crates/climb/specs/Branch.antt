-- How the record `Branch` of the code holds a state of the search, and the flows that the search reads.
-- Assumes nothing.
use Rattle.std.specs.Prelude.{List, ℕ, drop, get_or}
use Rattle.curves.specs.Held.{shape_of}
use Rattle.tandem.specs.declared.Flow.{Flow}
use Rattle.tandem.specs.Tandem.{no_flow}
use Rattle.keys.specs.State.{State, state}
use Rattle.climb.specs.declared.Branch.{Branch}

-- the state that a branch holds
abbrev pub state_of : Branch → State
state_of s = state (shape_of s.curve) s.number s.weight

-- of a row's flows the watched one, and the groups behind it
abbrev pub watched_in : List Flow → Flow
watched_in flows = get_or flows 0 no_flow

abbrev pub groups_in : List Flow → List Flow
groups_in flows = drop 1 flows

-- what a list of numbers wants of server j
abbrev pub want_in : List ℕ → ℕ → ℕ
want_in wants j = get_or wants j 0
