-- What the functions inside the reader and the writer hand on to each other.
-- Assumes nothing.
use Rattle.std.specs.Prelude.{ℕ, zero, suc, ◌+◌, ◌-◌, ◌≡◌, List, [], Option, Some, None, Result, Ok, Err, length, take}
use Rattle.numbers.specs.declared.Fault.{Fault}
use Rattle.fields.specs.declared.User.{User}
use Rattle.fields.specs.declared.Cursor.{Cursor}
use Rattle.fields.specs.declared.Refusal.{Refusal}
use Rattle.fields.specs.declared.Why.TheVariants.{Left}
use Rattle.fields.specs.Refusal.{refused}
use Rattle.fields.specs.Rule.{most, Seen, nothing}
use Rattle.fields.specs.Cursor.{cursor_at, cursor_after}
use Rattle.fields.specs.Step.{step_on}
use Rattle.fields.proofs.PlaceLaws.{Small}
use Rattle.sheet.specs.Sheet.{Found, fail, these, also, on_step, walk, encode_all}

-- The whole of a source, from its first place on.
unfoldable pub whole : User → (ℕ → Result (ℕ × ℕ) Fault) → ℕ → Found
whole user source size = walk user source size (suc most) 0 0 nothing

-- A cursor behind so many numbers is that of their place, by what was read of them, which no code keeps.
pub record Standing (user : User) (passed : ℕ) (cursor : Cursor) : Type 0 where
  pub seen : Seen
  pub small : Small seen
  pub is : cursor ≡ cursor_at user passed seen

-- Field by field from a cursor on; k steps are allowed.
abbrev pub walk_on : User → (ℕ → Result (ℕ × ℕ) Fault) → ℕ → ℕ → ℕ → Cursor → Found
walk_on user source size zero at cursor = fail Left at
walk_on user source size (suc k) at cursor =
    on_step (step_on (source at) size at cursor.rule) (λ x next. also x (walk_on user source size k next (cursor_after user cursor x)))

-- what follows the numbers passed
unfoldable pub rest : User → (ℕ → Result (ℕ × ℕ) Fault) → ℕ → ℕ → ℕ → Cursor → Found
rest user source size passed at cursor = walk_on user source size (suc most - passed) at cursor

-- what a walk gives next, and what follows that
abbrev pub onward : Result (Option ℕ) Refusal → Found → Found
onward (Ok (Some x)) f = also x f
onward (Ok None) f = these []
onward (Err r) f = fail r.why r.at

-- how many numbers are passed then, where so many were before
abbrev pub count_after : Result (Option ℕ) Refusal → ℕ → ℕ
count_after (Ok (Some x)) n = n + 1
count_after (Ok None) n = n
count_after (Err r) n = n

-- an answer beside a list whose front holds the numbers
abbrev pub found : Result ℕ Refusal → List ℕ → Found
found (Ok n) xs = these (take n xs)
found (Err r) xs = fail r.why r.at

-- the length of a sheet's bytes, or its refusal
abbrev pub checked : Found → Result ℕ Refusal
checked (fail w d) = Err (refused w d)
checked (these xs) = Ok (length (encode_all xs))
