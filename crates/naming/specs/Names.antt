-- The names of a sheet's fields, in the order of document 01's table, and the ranges of their rules, as text. Words are in ASCII codes.
-- Assumes nothing.
use Rattle.std.specs.Prelude.{ℕ, ◌+◌, ◌-◌, ◌/◌, cond, List, [], ◌∷◌, ◌++◌, ltb, get_or}
use Rattle.fields.specs.declared.Rule.{Rule}
use Rattle.fields.specs.declared.Rule.TheVariants.{Range, Path, ZeroOr, Past}
use Rattle.fields.specs.Rule.{Seen, per_server, server_at, flow_at, field_at}
use Rattle.text.specs.Lines.{field}
use Rattle.naming.specs.declared.Extent.{Extent}

-- "edition"
abbrev pub edition_word : List ℕ
edition_word = 101 ∷ 100 ∷ 105 ∷ 116 ∷ 105 ∷ 111 ∷ 110 ∷ []

-- "number of servers"
abbrev pub servers_word : List ℕ
servers_word = 110 ∷ 117 ∷ 109 ∷ 98 ∷ 101 ∷ 114 ∷ 32 ∷ 111 ∷ 102 ∷ 32 ∷ 115 ∷ 101 ∷ 114 ∷ 118 ∷ 101 ∷ 114 ∷ 115 ∷ []

-- "rate of server "
abbrev pub server_rate_word : List ℕ
server_rate_word = 114 ∷ 97 ∷ 116 ∷ 101 ∷ 32 ∷ 111 ∷ 102 ∷ 32 ∷ 115 ∷ 101 ∷ 114 ∷ 118 ∷ 101 ∷ 114 ∷ 32 ∷ []

-- "latency of server "
abbrev pub latency_word : List ℕ
latency_word = 108 ∷ 97 ∷ 116 ∷ 101 ∷ 110 ∷ 99 ∷ 121 ∷ 32 ∷ 111 ∷ 102 ∷ 32 ∷ 115 ∷ 101 ∷ 114 ∷ 118 ∷ 101 ∷ 114 ∷ 32 ∷ []

-- "number of cross flows"
abbrev pub count_word : List ℕ
count_word = 110 ∷ 117 ∷ 109 ∷ 98 ∷ 101 ∷ 114 ∷ 32 ∷ 111 ∷ 102 ∷ 32 ∷ 99 ∷ 114 ∷ 111 ∷ 115 ∷ 115 ∷ 32 ∷ 102 ∷ 108 ∷ 111 ∷ 119 ∷ 115 ∷ []

-- "first server of flow "
abbrev pub first_word : List ℕ
first_word = 102 ∷ 105 ∷ 114 ∷ 115 ∷ 116 ∷ 32 ∷ 115 ∷ 101 ∷ 114 ∷ 118 ∷ 101 ∷ 114 ∷ 32 ∷ 111 ∷ 102 ∷ 32 ∷ 102 ∷ 108 ∷ 111 ∷ 119 ∷ 32 ∷ []

-- "last server of flow "
abbrev pub last_word : List ℕ
last_word = 108 ∷ 97 ∷ 115 ∷ 116 ∷ 32 ∷ 115 ∷ 101 ∷ 114 ∷ 118 ∷ 101 ∷ 114 ∷ 32 ∷ 111 ∷ 102 ∷ 32 ∷ 102 ∷ 108 ∷ 111 ∷ 119 ∷ 32 ∷ []

-- "burst of flow "
abbrev pub burst_word : List ℕ
burst_word = 98 ∷ 117 ∷ 114 ∷ 115 ∷ 116 ∷ 32 ∷ 111 ∷ 102 ∷ 32 ∷ 102 ∷ 108 ∷ 111 ∷ 119 ∷ 32 ∷ []

-- "rate of flow "
abbrev pub rate_word : List ℕ
rate_word = 114 ∷ 97 ∷ 116 ∷ 101 ∷ 32 ∷ 111 ∷ 102 ∷ 32 ∷ 102 ∷ 108 ∷ 111 ∷ 119 ∷ 32 ∷ []

-- "burst of the watched flow"
abbrev pub watched_burst_word : List ℕ
watched_burst_word =
    98 ∷ 117 ∷ 114 ∷ 115 ∷ 116 ∷ 32 ∷ 111 ∷ 102 ∷ 32 ∷ 116 ∷ 104 ∷ 101
    ∷ 32 ∷ 119 ∷ 97 ∷ 116 ∷ 99 ∷ 104 ∷ 101 ∷ 100 ∷ 32 ∷ 102 ∷ 108 ∷ 111 ∷ 119 ∷ []

-- "rate of the watched flow"
abbrev pub watched_rate_word : List ℕ
watched_rate_word =
    114 ∷ 97 ∷ 116 ∷ 101 ∷ 32 ∷ 111 ∷ 102 ∷ 32 ∷ 116 ∷ 104 ∷ 101 ∷ 32
    ∷ 119 ∷ 97 ∷ 116 ∷ 99 ∷ 104 ∷ 101 ∷ 100 ∷ 32 ∷ 102 ∷ 108 ∷ 111 ∷ 119 ∷ []

-- "mode"
abbrev pub mode_word : List ℕ
mode_word = 109 ∷ 111 ∷ 100 ∷ 101 ∷ []

-- "g"
abbrev pub grid_word : List ℕ
grid_word = 103 ∷ []

-- ", outside "
abbrev pub outside_word : List ℕ
outside_word = 44 ∷ 32 ∷ 111 ∷ 117 ∷ 116 ∷ 115 ∷ 105 ∷ 100 ∷ 101 ∷ 32 ∷ []

-- ", neither 0 nor in "
abbrev pub neither_word : List ℕ
neither_word = 44 ∷ 32 ∷ 110 ∷ 101 ∷ 105 ∷ 116 ∷ 104 ∷ 101 ∷ 114 ∷ 32 ∷ 48 ∷ 32 ∷ 110 ∷ 111 ∷ 114 ∷ 32 ∷ 105 ∷ 110 ∷ 32 ∷ []

-- ".."
abbrev pub up_to_word : List ℕ
up_to_word = 46 ∷ 46 ∷ []

-- The names in the order of the table; those of a server's or a flow's fields end with its number k, counted from 1.
abbrev pub names : ℕ → List (List ℕ)
names k =
    edition_word ∷ servers_word ∷ field server_rate_word k ∷ field latency_word k ∷ count_word ∷ field first_word k ∷ field last_word k ∷ field burst_word k
    ∷ field rate_word k ∷ watched_burst_word ∷ watched_rate_word ∷ mode_word ∷ grid_word ∷ []

-- The name of a field by its number in the table.
unfoldable pub name_of : ℕ → ℕ → List ℕ
name_of f k = get_or (names k) f []

-- What a list of numbers says, as far as it goes, of the places of its fields: its edition, N and its number of flows.
abbrev pub extent_in : List ℕ → Extent
extent_in xs = record { edition = get_or xs 0 0; servers = get_or xs 1 0; flows = get_or xs (server_at (get_or xs 0 0) (get_or xs 1 0) 0) 0 }

-- as what was read before a field
abbrev pub seen : Extent → Seen
seen e = record { edition = e.edition; servers = e.servers; flows = e.flows; prev = 0 }

-- Which server or cross flow the field at place i is of, counted from 1. The names of the other fields do not ask.
unfoldable pub owner_at : ℕ → Seen → ℕ
owner_at i e =
    cond (ltb i (server_at e.edition e.servers 0)) ((i - 2) / per_server e.edition + 1) ((i - flow_at e.edition e.servers 0) / 4 + 1)

-- The name of the field at place i.
unfoldable pub name_at : ℕ → Extent → List ℕ
name_at i e = name_of (field_at i (seen e)) (owner_at i (seen e))

-- A word and behind it the two ends of a range: `, outside 1..16`.
unfoldable pub ends_of : List ℕ → ℕ → ℕ → List ℕ
ends_of word low high = field word low ++ field up_to_word high

-- The range that a number is outside of: `, outside 1..16`, or `, neither 0 nor in 2..9`.
unfoldable pub range_of : Rule → List ℕ
range_of (Range low high) = ends_of outside_word low high
range_of (Path low high) = ends_of outside_word low high
range_of (ZeroOr low high) = ends_of neither_word low high
range_of Past = []
