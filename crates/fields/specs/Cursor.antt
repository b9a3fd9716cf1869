-- The cursor of a walk over the fields: what it holds at each place, and how it moves on without working the place out anew.
-- Assumes nothing.
use Rattle.std.specs.Prelude.{ℕ, ◌-◌, ◌/◌, cond, List, [], ◌∷◌, get_or, ltb}
use Rattle.fields.specs.declared.User.{User}
use Rattle.fields.specs.declared.Cursor.{Cursor}
use Rattle.fields.specs.Rule.{Seen, per_server, flow_at, field_rule, field_at, rule_at}

-- how many servers, or behind them how many flows, are left at place i, the one that stands there included
unfoldable pub left_at : ℕ → Seen → ℕ
left_at i e =
    cond (ltb i 2) 0
    (cond (ltb i (flow_at e.edition e.servers 0)) (e.servers - (i - 2) / per_server e.edition)
    (e.flows - (i - flow_at e.edition e.servers 0) / 4))

-- The cursor at place i, from what was read before.
abbrev pub cursor_at : User → ℕ → Seen → Cursor
cursor_at user i e = record { field = field_at i e; left = left_at i e; servers = e.servers; rule = rule_at user i e }

-- The cursor at a field, with so many servers or flows left, N, and the number before it.
abbrev pub standing : User → ℕ → ℕ → ℕ → ℕ → Cursor
standing user field left servers prev = record { field = field; left = left; servers = servers; rule = field_rule user servers prev field }

-- Where a cursor goes from each field before g when x is passed: to the next field; behind the last number of a server or a flow to the
-- first number of the next one, or on where none is left.
abbrev pub moves : User → Cursor → ℕ → List Cursor
moves user c x =
    standing user 1 c.left c.servers x
    ∷ standing user 2 x x x
    ∷ standing user 3 c.left c.servers x
    ∷ cond (ltb 1 c.left) (standing user 2 (c.left - 1) c.servers x) (standing user 4 0 c.servers x)
    ∷ cond (ltb 0 x) (standing user 5 x c.servers x) (standing user 9 0 c.servers x)
    ∷ standing user 6 c.left c.servers x
    ∷ standing user 7 c.left c.servers x
    ∷ standing user 8 c.left c.servers x
    ∷ cond (ltb 1 c.left) (standing user 5 (c.left - 1) c.servers x) (standing user 9 0 c.servers x)
    ∷ standing user 10 c.left c.servers x
    ∷ standing user 11 c.left c.servers x
    ∷ standing user 12 c.left c.servers x
    ∷ []

-- The cursor behind the last field.
abbrev pub ended : User → Cursor → ℕ → Cursor
ended user c x = standing user 13 c.left c.servers x

-- The cursor once x has been passed.
unfoldable pub cursor_after : User → Cursor → ℕ → Cursor
cursor_after user c x = get_or (moves user c x) c.field (ended user c x)
