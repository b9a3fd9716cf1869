-- Each public function's contract leaves one possible result for every input.
-- Assumes nothing.
use Rattle.std.specs.Prelude.{ℕ, ◌≡◌, Option, Result}
use Rattle.ground.proofs.ValueLaws.{one_value}
use Rattle.numbers.specs.declared.Fault.{Fault}
use Rattle.fields.specs.declared.User.{User}
use Rattle.fields.specs.declared.Rule.{Rule}
use Rattle.fields.specs.declared.Cursor.{Cursor}
use Rattle.fields.specs.declared.Why.{Why}
use Rattle.fields.specs.declared.Refusal.{Refusal}
use Rattle.fields.specs.Contract.{PerServer, ServerPlace, FlowPlace, FieldRule, Start, After, StepOn, RefusalOf}

pub per_server_unique : (edition r r' : ℕ) → PerServer edition r → PerServer edition r' → r ≡ r'
per_server_unique edition r r' p q = one_value p.is q.is

pub server_place_unique : (edition j c r r' : ℕ) → ServerPlace edition j c r → ServerPlace edition j c r' → r ≡ r'
server_place_unique edition j c r r' p q = one_value p.is q.is

pub flow_place_unique : (edition servers k r r' : ℕ) → FlowPlace edition servers k r → FlowPlace edition servers k r' → r ≡ r'
flow_place_unique edition servers k r r' p q = one_value p.is q.is

pub field_rule_unique : (user : User) (field servers prev : ℕ) (r r' : Rule) → FieldRule user field servers prev r
    → FieldRule user field servers prev r' → r ≡ r'
field_rule_unique user field servers prev r r' p q = one_value p.is q.is

pub start_unique : (user : User) (r r' : Cursor) → Start user r → Start user r' → r ≡ r'
start_unique user r r' p q = one_value p.is q.is

pub after_unique : (user : User) (c : Cursor) (x : ℕ) (r r' : Cursor) → After user c x r → After user c x r' → r ≡ r'
after_unique user c x r r' p q = one_value p.is q.is

pub step_on_unique : (got : Result (ℕ × ℕ) Fault) (size at : ℕ) (rule : Rule) (r r' : Result (Option (ℕ × ℕ)) Refusal) → StepOn got size at rule r
    → StepOn got size at rule r' → r ≡ r'
step_on_unique got size at rule r r' p q = one_value p.is q.is

pub refusal_of_unique : (why : Why) (r r' : ℕ) → RefusalOf why r → RefusalOf why r' → r ≡ r'
refusal_of_unique why r r' p q = one_value p.is q.is
