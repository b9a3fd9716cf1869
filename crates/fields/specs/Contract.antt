-- What each public function promises of its result, for every input.
-- Assumes nothing.
use Rattle.std.specs.Prelude.{ℕ, ◌≡◌, Option, Result}
use Rattle.numbers.specs.declared.Fault.{Fault}
use Rattle.fields.specs.declared.User.{User}
use Rattle.fields.specs.declared.Rule.{Rule}
use Rattle.fields.specs.declared.Cursor.{Cursor}
use Rattle.fields.specs.declared.Why.{Why}
use Rattle.fields.specs.declared.Refusal.{Refusal}
use Rattle.fields.specs.Rule.{per_server, server_at, flow_at, field_rule, nothing}
use Rattle.fields.specs.Cursor.{cursor_at, cursor_after}
use Rattle.fields.specs.Step.{step_on}
use Rattle.fields.specs.Refusal.{refusal}

pub record PerServer (edition r : ℕ) : Type 0 where
  -- "per server: R, T"
  pub is : r ≡ per_server edition

pub record ServerPlace (edition j c r : ℕ) : Type 0 where
  -- the place of number c of server j, counted from 0
  pub is : r ≡ server_at edition j c

pub record FlowPlace (edition servers k r : ℕ) : Type 0 where
  -- the place of the first number of flow k, counted from 0
  pub is : r ≡ flow_at edition servers k

pub record FieldRule (user : User) (field servers prev : ℕ) (r : Rule) : Type 0 where
  -- the rule of a field by its number in the table, from N and the number before it
  pub is : r ≡ field_rule user servers prev field

pub record Start (user : User) (r : Cursor) : Type 0 where
  -- the cursor of place 0, where nothing was read
  pub is : r ≡ cursor_at user 0 nothing

pub record After (user : User) (c : Cursor) (x : ℕ) (r : Cursor) : Type 0 where
  -- the cursor moved on by x; from the cursor of a place it is that of the next (`cursor_after_lem`)
  pub is : r ≡ cursor_after user c x

pub record StepOn (got : Result (ℕ × ℕ) Fault) (size at : ℕ) (rule : Rule) (r : Result (Option (ℕ × ℕ)) Refusal) : Type 0 where
  -- "Order: field by field, 1 or 2 before 4 or 5": the step from what was got at a place of a source with that size
  pub is : r ≡ step_on got size at rule

pub record RefusalOf (why : Why) (r : ℕ) : Type 0 where
  -- "Refusals by number"
  pub is : r ≡ refusal why
