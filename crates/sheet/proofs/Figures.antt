-- Worked examples, computed from the definitions: sheets good and damaged; the greatest sheet, which reaches both limits; and the ends of every
-- range.
-- Assumes nothing.
use Rattle.std.specs.Prelude.{ℕ, zero, suc, ◌^◌, ◌<◌, ◌≡◌, refl, List, [], ◌∷◌, ◌++◌, Result, map, length, take, drop}
use Rattle.std.proofs.Common.{arith}
use Rattle.numbers.specs.Seven.{encode, number_at}
use Rattle.fields.specs.declared.Refusal.{Refusal}
use Rattle.fields.specs.declared.Why.TheVariants.{Left}
use Rattle.fields.specs.Rule.{most, field_at, rule_at, seen_after}
use Rattle.fields.specs.Refusal.{refusal, number, detail}
use Rattle.fields.specs.Step.{step_on}
use Rattle.sheet.specs.Sheet.{Found, fail, these, sheet_of, list_of, encode_all, read_gives, read_holds, write_gives, write_holds}
use Rattle.sheet.specs.Valid.{Valid}
use Rattle.sheet.proofs.ValidLaws.{listed_valid}
use Rattle.sheet.proofs.TripLaws.{Words}

-- "the sheet bytes 1, 1, 10, 0, 1, 1, 1, 10, 6, 12, 4, 0, 4 (P7)"
abbrev pub P7 : List ℕ
P7 = 1 ∷ 1 ∷ 10 ∷ 0 ∷ 1 ∷ 1 ∷ 1 ∷ 10 ∷ 6 ∷ 12 ∷ 4 ∷ 0 ∷ 4 ∷ []

-- document 01's number of a refusal and its detail; or 0 and behind it the numbers of the sheet
abbrev pub answers : Found → List ℕ
answers (fail w d) = refusal w ∷ d ∷ []
answers (these xs) = 0 ∷ xs

-- a sheet's bytes, and what the reader says of them
pub record Example : Type 0 where
  pub bytes : List ℕ
  pub says : List ℕ

abbrev example : List ℕ → List ℕ → Example
example s a = record { bytes = s; says = a }

abbrev pub table : List Example
table =
    example P7 (0 ∷ P7)
    -- 1: no byte, an end between two fields, an end inside a number
    ∷ example [] (1 ∷ 0 ∷ [])
    ∷ example (1 ∷ 1 ∷ 10 ∷ []) (1 ∷ 3 ∷ [])
    ∷ example (255 ∷ 255 ∷ 255 ∷ 255 ∷ []) (1 ∷ 0 ∷ [])
    -- 2: not shortest; "a fifth group that continues is 2 even where the bytes end there"; 4,294,967,296, where 4,294,967,295 is only out of range
    ∷ example (129 ∷ 0 ∷ []) (2 ∷ 0 ∷ [])
    ∷ example (1 ∷ 129 ∷ 0 ∷ []) (2 ∷ 1 ∷ [])
    ∷ example (255 ∷ 255 ∷ 255 ∷ 255 ∷ 255 ∷ []) (2 ∷ 0 ∷ [])
    ∷ example (1 ∷ 1 ∷ 255 ∷ 255 ∷ 255 ∷ 255 ∷ 255 ∷ []) (2 ∷ 2 ∷ [])
    ∷ example (128 ∷ 128 ∷ 128 ∷ 128 ∷ 16 ∷ []) (2 ∷ 0 ∷ [])
    ∷ example (255 ∷ 255 ∷ 255 ∷ 255 ∷ 15 ∷ []) (4 ∷ 0 ∷ [])
    -- 3
    ∷ example (P7 ++ (9 ∷ [])) (3 ∷ 13 ∷ [])
    -- 4 and 5, each before what stands behind it; the offset is in bytes: R is 300, in two of them
    ∷ example (1 ∷ 17 ∷ 128 ∷ 0 ∷ []) (4 ∷ 1 ∷ [])
    ∷ example (1 ∷ 1 ∷ 172 ∷ 2 ∷ 0 ∷ 1 ∷ 2 ∷ []) (5 ∷ 6 ∷ [])
    ∷ []

pub table_read : map (λ (e : Example). answers (sheet_of e.bytes)) table ≡ map (λ (e : Example). e.says) table
unfolding sheet_of step_on rule_at field_at seen_after number_at
table_read = refl

-- the writer's: "the bytes (writer: the numbers) end before the last field does", "bytes (numbers) left over"; its "offsets count numbers"
pub lists_written :
    (answers (list_of P7) ≡ 0 ∷ P7)
    × (answers (list_of []) ≡ 1 ∷ 0 ∷ [])
    × (answers (list_of (take 12 P7)) ≡ 1 ∷ 12 ∷ [])
    × (answers (list_of (P7 ++ (9 ∷ 9 ∷ []))) ≡ 3 ∷ 13 ∷ [])
    × (answers (list_of (1 ∷ 1 ∷ 300 ∷ 0 ∷ 1 ∷ 2 ∷ [])) ≡ 5 ∷ 5 ∷ [])
unfolding list_of step_on rule_at field_at seen_after
lists_written = (refl, refl, refl, refl, refl)

-- "10 | the buffer is too short | length needed": one entry short, and just long enough; a refusal of the sheet comes before it
abbrev told : Result ℕ Refusal → List ℕ
told o = number o ∷ detail o ∷ []

pub rooms :
    (told (read_gives (these P7) 12) ≡ 10 ∷ 13 ∷ [])
    × (told (read_gives (these P7) 13) ≡ 0 ∷ 13 ∷ [])
    × (told (read_gives (fail Left 13) 0) ≡ 3 ∷ 13 ∷ [])
    × (told (write_gives (these (300 ∷ 7 ∷ [])) 2) ≡ 10 ∷ 3 ∷ [])
    × (told (write_gives (these (300 ∷ 7 ∷ [])) 3) ≡ 0 ∷ 3 ∷ [])
    × (told (write_gives (fail Left 13) 0) ≡ 3 ∷ 13 ∷ [])
unfolding encode
rooms = (refl, refl, refl, refl, refl, refl)

-- "entries past them stay"; "bytes past the length stay"; "On refusal the buffer stays as it was."
pub buffers :
    (read_holds (these (300 ∷ 7 ∷ [])) (1 ∷ 2 ∷ 3 ∷ 4 ∷ []) ≡ 300 ∷ 7 ∷ 3 ∷ 4 ∷ [])
    × (read_holds (these (300 ∷ 7 ∷ [])) (1 ∷ 2 ∷ []) ≡ 300 ∷ 7 ∷ [])
    × (read_holds (these (300 ∷ 7 ∷ [])) (1 ∷ []) ≡ 1 ∷ [])
    × (read_holds (fail Left 13) (1 ∷ 2 ∷ []) ≡ 1 ∷ 2 ∷ [])
    × (write_holds (these (300 ∷ 7 ∷ [])) (1 ∷ 2 ∷ 3 ∷ 4 ∷ []) ≡ 172 ∷ 2 ∷ 7 ∷ 4 ∷ [])
    × (write_holds (these (300 ∷ 7 ∷ [])) (1 ∷ 2 ∷ 3 ∷ []) ≡ 172 ∷ 2 ∷ 7 ∷ [])
    × (write_holds (these (300 ∷ 7 ∷ [])) (1 ∷ 2 ∷ []) ≡ 1 ∷ 2 ∷ [])
    × (write_holds (fail Left 13) (1 ∷ 2 ∷ []) ≡ 1 ∷ 2 ∷ [])
unfolding encode
buffers = (refl, refl, refl, refl, refl, refl, refl, refl)

-- so there are valid lists
pub p7_valid : Valid P7
unfolding list_of step_on rule_at field_at seen_after
p7_valid = listed_valid P7 P7 refl

-- "a list of numbers in sheet order, each below 2^32": what the round trips ask of a list holds of every such number
pub words_met : (x : ℕ) → x < 2 ^ 32 → Words (x ∷ [])
words_met x h zero = omega arith
words_met x h (suc i) = omega arith

-- The greatest sheet: 16 servers and 48 flows, every number at the top of its range.
abbrev times : ℕ → List ℕ → List ℕ
times zero l = []
times (suc n) l = l ++ times n l

abbrev pub greatest : List ℕ
greatest = 1 ∷ 16 ∷ times 16 (1000000 ∷ 1000 ∷ []) ++ (48 ∷ times 48 (16 ∷ 16 ∷ 65535 ∷ 65535 ∷ [])) ++ (65535 ∷ 65535 ∷ 1 ∷ 9 ∷ [])

pub greatest_count : (length greatest ≡ 231) × (most ≡ 231)
greatest_count = (refl, refl)

pub greatest_bytes : length (encode_all greatest) ≡ 475
unfolding encode
greatest_bytes = refl

pub greatest_read : sheet_of (encode_all greatest) ≡ these greatest
unfolding sheet_of step_on rule_at field_at seen_after number_at encode
greatest_read = refl

-- The ranges, by their ends: every number at the bottom of its range is read, as every one at the top is; one below or above is refused.
abbrev pub least : List ℕ
least = 1 ∷ 1 ∷ 1 ∷ 0 ∷ 1 ∷ 1 ∷ 1 ∷ 0 ∷ 1 ∷ 0 ∷ 1 ∷ 0 ∷ 0 ∷ []

pub least_read : sheet_of (encode_all least) ≡ these least
unfolding sheet_of step_on rule_at field_at seen_after number_at encode
least_read = refl

-- one number of a list put in place of another: the list, the place, the number, and its refusal
pub record Outside : Type 0 where
  pub numbers : List ℕ
  pub place : ℕ
  pub number : ℕ
  pub refusal : ℕ

abbrev outside : List ℕ → ℕ → ℕ → ℕ → Outside
outside xs i x n = record { numbers = xs; place = i; number = x; refusal = n }

abbrev changed : Outside → List ℕ
changed o = take o.place o.numbers ++ (o.number ∷ drop (suc o.place) o.numbers)

abbrev pub ends : List Outside
ends =
    -- edition, N
    outside least 0 0 4 ∷ outside least 0 2 4 ∷ outside least 1 0 4 ∷ outside greatest 1 17 4
    -- R, T: of the first server and of the last
    ∷ outside least 2 0 4 ∷ outside greatest 2 1000001 4 ∷ outside greatest 32 1000001 4 ∷ outside greatest 3 1001 4 ∷ outside greatest 33 1001 4
    -- number of cross flows
    ∷ outside greatest 34 49 4
    -- first, last: of the first flow and of the last; a last before its first
    ∷ outside least 5 0 5 ∷ outside greatest 35 17 5 ∷ outside greatest 223 17 5 ∷ outside least 6 0 5 ∷ outside greatest 36 17 5 ∷ outside greatest 36 15 5
    -- σ, ρ
    ∷ outside greatest 37 65536 4 ∷ outside greatest 225 65536 4 ∷ outside least 8 0 4 ∷ outside greatest 38 65536 4 ∷ outside greatest 226 65536 4
    -- the watched flow's
    ∷ outside greatest 227 65536 4 ∷ outside least 10 0 4 ∷ outside greatest 228 65536 4
    -- mode, g
    ∷ outside greatest 229 2 4 ∷ outside least 12 1 4 ∷ outside greatest 230 10 4
    ∷ []

-- of the writer, whose "offsets count numbers"; the reader goes by the same table, in which only `mode_rule` looks at the user
pub ends_refused : map (λ (o : Outside). answers (list_of (changed o))) ends ≡ map (λ (o : Outside). o.refusal ∷ o.place ∷ []) ends
unfolding list_of step_on rule_at field_at seen_after
ends_refused = refl
