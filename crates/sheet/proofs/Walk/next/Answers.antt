-- `sheet::Walk::next` meets its contract: it makes one step of what is left.
-- Assumes nothing.
use Rattle.std.specs.Prelude.{ℕ, ◌≡◌, Option, Result, Ok}
use Rattle.std.proofs.Common.{sym, ap, ◌∙◌, arith}
use Rattle.std.proofs.lemmas.Result.{err_from_is_err_and}
use Rattle.numbers.specs.declared.Fault.{Fault}
use Rattle.fields.specs.declared.Rule.{Rule}
use Rattle.fields.specs.declared.Refusal.{Refusal}
use Rattle.fields.specs.Step.{step_on}
use Rattle.sheet.proofs.Walking.{stands_next, few_next, rest_value, rest_end, rest_refused}
use Rattle.sheet.proofs.Walk.next.Goals as goal

-- the step that was made, at the source
made : {got got' : Result (ℕ × ℕ) Fault} {size size' : ℕ} {r r' : Result (Option (ℕ × ℕ)) Refusal} (at : ℕ) (rule : Rule) → r ≡ step_on got size at rule
    → got ≡ got' → size ≡ size' → r ≡ r' → step_on got' size' at rule ≡ r'
made at rule s g e r = rw (← g, ← e) (sym s ∙ r)

pub invariant_of-self-in-Some : goal.invariant_of-self-in-Some
invariant_of-self-in-Some g c =
    let t = made _ _ c.step_on.ensures.is c.number_from-got.ensures c.size.ensures (c.in_ok-x.was ∙ ap Ok c.in-Some.is) in
    let below = few_next _ _ _ _ _ c.args.self.now.stands t in
    record { few = omega (arith, below); stands = rw c.after-self.ensures.is (stands_next _ _ _ _ _ c.args.self.now.stands t) }

pub returns-in-Some-clause-gives : goal.returns-in-Some-clause-gives
returns-in-Some-clause-gives g c =
    let t = made _ _ c.step_on.ensures.is c.number_from-got.ensures c.size.ensures (c.in_ok-x.was ∙ ap Ok c.in-Some.is) in
    rw c.after-self.ensures.is (rest_value _ _ _ _ _ _ c.args.self.now.few _ _ t)

pub returns-in-None-clause-gives : goal.returns-in-None-clause-gives
returns-in-None-clause-gives g c =
    let t = made _ _ c.step_on.ensures.is c.number_from-got.ensures c.size.ensures (c.in_ok-x.was ∙ ap Ok c.in-None.is) in
    rest_end _ _ _ _ _ _ c.args.self.now.few t

pub returns-in_err-x-clause-gives : goal.returns-in_err-x-clause-gives
returns-in_err-x-clause-gives g c =
    let p = err_from_is_err_and c.from_residual.result c.from_residual.ensures.1 in
    let t = made _ _ c.step_on.ensures.is c.number_from-got.ensures c.size.ensures c.in_err-x.was in
    rw (p.1, p.2) (rest_refused _ _ _ _ _ _ c.args.self.now.few _ t)
