-- What a byte string is read as and what a list of numbers is written as: field by field, a number and then its rule.
-- Assumes nothing.
use Rattle.std.specs.Prelude.{ℕ, zero, suc, ◌+◌, List, [], ◌∷◌, ◌++◌, Option, Some, None, Result, Ok, Err, cond, length, get_or, ltb}
use Rattle.ground.specs.Buffer.{holds}
use Rattle.numbers.specs.Seven.{number_at, encode}
use Rattle.numbers.specs.declared.Fault.{Fault}
use Rattle.numbers.specs.declared.Fault.TheVariants.{Ends}
use Rattle.fields.specs.declared.User.{User}
use Rattle.fields.specs.declared.User.TheVariants.{Reader, Writer}
use Rattle.fields.specs.declared.Refusal.{Refusal}
use Rattle.fields.specs.declared.Why.{Why}
use Rattle.fields.specs.declared.Why.TheVariants.{Left, Short}
use Rattle.fields.specs.Refusal.{refused}
use Rattle.fields.specs.Rule.{most, Seen, nothing, rule_at, seen_after}
use Rattle.fields.specs.Step.{step_on}

-- A refusal with its detail, or the numbers of a sheet.
pub data Found : Type 0 where
  fail : Why → ℕ → Found
  these : List ℕ → Found

abbrev pub also : ℕ → Found → Found
also x (fail w d) = fail w d
also x (these xs) = these (x ∷ xs)

abbrev pub on_step : Result (Option (ℕ × ℕ)) Refusal → (ℕ → ℕ → Found) → Found
on_step (Ok (Some (x, next))) go = go x next
on_step (Ok None) go = these []
on_step (Err r) go = fail r.why r.at

-- Field by field by a user's rule, from a place of the source on, where the number of place i of the sheet comes next; k steps are allowed.
abbrev pub walk : User → (ℕ → Result (ℕ × ℕ) Fault) → ℕ → ℕ → ℕ → ℕ → Seen → Found
walk user source size zero at i e = fail Left at
walk user source size (suc k) at i e =
    on_step (step_on (source at) size at (rule_at user i e)) (λ x next. also x (walk user source size k next (i + 1) (seen_after e i x)))

-- The reader: the numbers of a sheet's bytes, or its refusal. A sheet has at most `most` numbers, so one step more is all it takes.
unfoldable pub sheet_of : List ℕ → Found
sheet_of bytes = walk Reader (number_at bytes) (length bytes) (suc most) 0 0 nothing

-- The writer: a list of numbers as a source, whose "offsets count numbers".
abbrev pub entry_at : List ℕ → ℕ → Result (ℕ × ℕ) Fault
entry_at numbers i = cond (ltb i (length numbers)) (Ok (get_or numbers i 0, i + 1)) (Err Ends)

-- The same list where it is a sheet's, or its refusal.
unfoldable pub list_of : List ℕ → Found
list_of numbers = walk Writer (entry_at numbers) (length numbers) (suc most) 0 0 nothing

-- The bytes of a list of numbers.
abbrev pub encode_all : List ℕ → List ℕ
encode_all [] = []
encode_all (x ∷ xs) = encode x ++ encode_all xs

-- What a function gives where that much is to go into the buffer lent to it: "10, the buffer is too short, length needed" comes last. What the buffer
-- then holds is `holds`: "entries past them stay"; "on refusal the buffer stays as it was".
abbrev pub gives : ℕ → ℕ → Result ℕ Refusal
gives needed room = cond (ltb room needed) (Err (refused Short needed)) (Ok needed)

-- The reader: the numbers go into the list, and their count is given.
abbrev pub read_gives : Found → ℕ → Result ℕ Refusal
read_gives (fail w d) room = Err (refused w d)
read_gives (these xs) room = gives (length xs) room

abbrev pub read_holds : Found → List ℕ → List ℕ
read_holds (fail w d) numbers = numbers
read_holds (these xs) numbers = holds xs numbers

-- The writer: the bytes go into the buffer, and their length is given.
abbrev pub write_gives : Found → ℕ → Result ℕ Refusal
write_gives (fail w d) room = Err (refused w d)
write_gives (these xs) room = gives (length (encode_all xs)) room

abbrev pub write_holds : Found → List ℕ → List ℕ
write_holds (fail w d) bytes = bytes
write_holds (these xs) bytes = holds (encode_all xs) bytes
