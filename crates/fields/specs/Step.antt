-- One step over a field: a number is got and then judged by its field's rule. Reader and writer make the same steps.
-- Assumes nothing.
use Rattle.std.specs.Prelude.{ℕ, Option, Some, None, Result, Ok, Err, cond, ltb}
use Rattle.numbers.specs.declared.Fault.{Fault}
use Rattle.fields.specs.declared.Rule.{Rule}
use Rattle.fields.specs.declared.Why.TheVariants.{Left}
use Rattle.fields.specs.declared.Refusal.{Refusal}
use Rattle.fields.specs.Rule.{allowed, why_outside, is_past}
use Rattle.fields.specs.Refusal.{refused, why_of}

-- Behind the last field: "bytes (numbers) left over", at the first of them, or the end of the sheet.
abbrev pub end_at : ℕ → ℕ → Result (Option (ℕ × ℕ)) Refusal
end_at at size = cond (ltb at size) (Err (refused Left at)) (Ok None)

-- A number is read and then its rule admits it: "Order: field by field, 1 or 2 before 4 or 5".
abbrev pub admit : Result (ℕ × ℕ) Fault → ℕ → Rule → Result (Option (ℕ × ℕ)) Refusal
admit (Ok (x, next)) at rule = cond (allowed rule x) (Ok (Some (x, next))) (Err (refused (why_outside rule) at))
admit (Err fault) at rule = Err (refused (why_of fault) at)

-- One step at a place of a source with that size, from what was got there.
unfoldable pub step_on : Result (ℕ × ℕ) Fault → ℕ → ℕ → Rule → Result (Option (ℕ × ℕ)) Refusal
step_on g size at rule = cond (is_past rule) (end_at at size) (admit g at rule)
