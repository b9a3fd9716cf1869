-- The field rule: what the number at each place of a sheet may be, as document 01's table "The sheet" has it. Reader and writer go by one table.
-- Assumes nothing.
use Rattle.std.specs.Prelude.{ℕ, ◌+◌, ◌-◌, ◌*◌, ◌%◌, Bool, true, false, cond, ◌&&◌, ◌||◌, List, [], ◌∷◌, get_or, ltb, leb, eqb}
use Rattle.fields.specs.declared.User.{User}
use Rattle.fields.specs.declared.User.TheVariants.{Reader, Writer}
use Rattle.fields.specs.declared.Rule.{Rule}
use Rattle.fields.specs.declared.Rule.TheVariants.{Range, Path, ZeroOr, Past}
use Rattle.fields.specs.declared.Why.{Why}
use Rattle.fields.specs.declared.Why.TheVariants.{Left, Outside, OffPath}

-- "writes the numbers in sheet order (at most 231)"
abbrev pub most : ℕ
most = 231

-- "mode | 0 or 1": for the reader, and for the writer
abbrev pub mode_rule : User → Rule
mode_rule Reader = Range 0 1
mode_rule Writer = Range 0 1

-- The table, field by field, from N and the number before the field.
abbrev pub table : User → ℕ → ℕ → List Rule
table user servers prev =
    -- "edition | 1"
    Range 1 1
    -- "N | 1..16"
    ∷ Range 1 16
    -- "per server: R, T | 1..1,000,000; 0..1,000"
    ∷ Range 1 1000000 ∷ Range 0 1000
    -- "number of cross flows | 0..48"
    ∷ Range 0 48
    -- "per flow: first, last | 1..N; first..N"
    ∷ Path 1 servers ∷ Path prev servers
    -- "per flow: σ, ρ | 0..65,535; 1..65,535"
    ∷ Range 0 65535 ∷ Range 1 65535
    -- "watched flow: σ, ρ | the same"
    ∷ Range 0 65535 ∷ Range 1 65535
    -- "mode | 0 or 1", "g | 0 or 2..9"
    ∷ mode_rule user ∷ ZeroOr 2 9
    ∷ []

-- The rule of a field by its number in the table, from 0; behind the table there is no field.
abbrev pub field_rule : User → ℕ → ℕ → ℕ → Rule
field_rule user servers prev field = get_or (table user servers prev) field Past

-- What later fields need of those that were read: the edition, the number of servers, the number of flows, the number before.
pub record Seen : Type 0 where
  pub edition : ℕ
  pub servers : ℕ
  pub flows : ℕ
  pub prev : ℕ

abbrev pub nothing : Seen
nothing = record { edition = 0; servers = 0; flows = 0; prev = 0 }

-- "per server: R, T": how many numbers a server takes, by the edition. There is one edition.
abbrev pub per_server : ℕ → ℕ
per_server edition = 2

-- where number c of server j stands; behind the last of n servers stands the number of cross flows, as number 0 of a server n would
abbrev pub server_at : ℕ → ℕ → ℕ → ℕ
server_at edition j c = 2 + c + per_server edition * j

-- "per flow: first, last", "per flow: σ, ρ": where the numbers of flow k begin, behind n servers and the number of flows; behind the last
-- flow stand the watched flow's
abbrev pub flow_at : ℕ → ℕ → ℕ → ℕ
flow_at edition n k = server_at edition n 1 + 4 * k

-- The field at place i, by its number in the table, from what was read before: edition and N; the servers; the number of cross flows; the flows; the rest.
unfoldable pub field_at : ℕ → Seen → ℕ
field_at i e =
    cond (ltb i 2) i
    (cond (ltb i (server_at e.edition e.servers 0)) (2 + (i - 2) % per_server e.edition)
    (cond (ltb i (flow_at e.edition e.servers 0)) 4
    (cond (ltb i (flow_at e.edition e.servers e.flows)) (5 + (i - flow_at e.edition e.servers 0) % 4)
    (9 + (i - flow_at e.edition e.servers e.flows)))))

-- The rule at place i.
unfoldable pub rule_at : User → ℕ → Seen → Rule
rule_at user i e = field_rule user e.servers e.prev (field_at i e)

-- What is known once x stands at place i: the edition comes first, N second, and the number of flows behind the servers.
unfoldable pub seen_after : Seen → ℕ → ℕ → Seen
seen_after e i x = record {
  edition = cond (eqb i 0) x e.edition;
  servers = cond (eqb i 1) x e.servers;
  flows = cond (eqb i (server_at e.edition e.servers 0)) x e.flows;
  prev = x;
}

-- low ≤ x ≤ high
abbrev pub in_range : ℕ → ℕ → ℕ → Bool
in_range low x high = leb low x && leb x high

-- Whether a rule admits x.
abbrev pub allowed : Rule → ℕ → Bool
allowed (Range low high) x = in_range low x high
allowed (Path low high) x = in_range low x high
allowed (ZeroOr low high) x = eqb x 0 || in_range low x high
allowed Past x = false

-- "a field other than first, last is outside its range": 4; "first or last outside its range": 5; behind the last field: 3
abbrev pub why_outside : Rule → Why
why_outside (Range low high) = Outside
why_outside (Path low high) = OffPath
why_outside (ZeroOr low high) = Outside
why_outside Past = Left

abbrev pub is_past : Rule → Bool
is_past (Range low high) = false
is_past (Path low high) = false
is_past (ZeroOr low high) = false
is_past Past = true
