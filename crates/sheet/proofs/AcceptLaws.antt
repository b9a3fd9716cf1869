-- Which byte strings are sheets: just the bytes of the lists that document 01's table admits, and each is read as its own list. And which refusals
-- the reader and the writer give.
-- Assumes nothing.
use Rattle.std.specs.Prelude.{ℕ, zero, suc, ◌+◌, ◌≤◌, ◌≡◌, Bool, true, false, cond, List, Option, Some, None, Result, Ok, Err, ltb, length, get_or}
use Rattle.std.proofs.Common.{ap, ◌∙◌, subst, arith}
use Rattle.numbers.specs.Seven.{number_at}
use Rattle.numbers.proofs.SevenLaws.{Bytes}
use Rattle.numbers.specs.declared.Fault.{Fault}
use Rattle.numbers.specs.declared.Fault.TheVariants as fault
use Rattle.fields.specs.declared.User.{User}
use Rattle.fields.specs.declared.User.TheVariants.{Reader, Writer}
use Rattle.fields.specs.declared.Rule.{Rule}
use Rattle.fields.specs.declared.Rule.TheVariants.{Range, Path, ZeroOr, Past}
use Rattle.fields.specs.declared.Why.{Why}
use Rattle.fields.specs.declared.Why.TheVariants.{Ends, Left}
use Rattle.fields.specs.declared.Refusal.{Refusal}
use Rattle.fields.specs.Rule.{most, Seen, nothing, rule_at, seen_after, allowed, why_outside, is_past}
use Rattle.fields.specs.Refusal.{refusal, refused, why_of}
use Rattle.fields.specs.Step.{admit, step_on}
use Rattle.sheet.specs.Sheet.{fail, these, walk, entry_at, sheet_of, list_of}
use Rattle.sheet.specs.Valid.{IsSheet}
use Rattle.sheet.proofs.ValidLaws.{read_valid}
use Rattle.sheet.proofs.WalkLaws.{Stopped, behind, here, stopped}
use Rattle.sheet.proofs.TripLaws.{valid_read, write_back}
use Rattle.sheet.proofs.WordLaws.{valid_words}

pub read_is_sheet : (s xs : List ℕ) → Bytes s → sheet_of s ≡ these xs → IsSheet s xs
read_is_sheet s xs b h = record { valid = read_valid s xs h; bytes = write_back s xs b h }

pub sheet_is_read : (s xs : List ℕ) → IsSheet s xs → sheet_of s ≡ these xs
sheet_is_read s xs h = rw (← h.bytes) (valid_read xs (valid_words xs h.valid) h.valid)

-- which refusals a walk over the fields gives: what holds of each refusal of a step holds of the walk's
module _ (P : Why → Type 0) (u : User) (source : ℕ → Result (ℕ × ℕ) Fault) (size : ℕ) (left : P Left)
    (of-step : (at : ℕ) (r : Rule) (w : Why) (d : ℕ) → step_on (source at) size at r ≡ Err (refused w d) → P w) where
  stopped_why : (k at i : ℕ) (e : Seen) (w : Why) (d : ℕ) → Stopped u source size k at i e w d
      → ((next : ℕ) (e' : Seen) → walk u source size k next (i + 1) e' ≡ fail w d → P w) → P w
  stopped_why k at i e w d (behind x next v h) go = go next (seen_after e i x) h
  stopped_why k at i e w d (here s) go = of-step at (rule_at u i e) w d s

  walk_why : (k at i : ℕ) (e : Seen) (w : Why) (d : ℕ) → walk u source size k at i e ≡ fail w d → P w
  walk_why zero at i e w d s = let q : Left ≡ w = cc in subst P q left
  walk_why (suc k) at i e w d s = stopped_why k at i e w d (stopped u source size k at i e w d s) (λ next e' r. walk_why k next (i + 1) e' w d r)

-- "It gives refusals 1 to 5 and 10 only": those of the bytes are 1 to 5

abbrev Known : Why → Type 0
Known w = (1 ≤ refusal w) × (refusal w ≤ 5)

outside_known : (r : Rule) → Known (why_outside r)
outside_known (Range low high) = (omega arith, omega arith)
outside_known (Path low high) = (omega arith, omega arith)
outside_known (ZeroOr low high) = (omega arith, omega arith)
outside_known Past = (omega arith, omega arith)

fault_known : (f : Fault) → Known (why_of f)
fault_known fault.Ends = (omega arith, omega arith)
fault_known fault.Padded = (omega arith, omega arith)
fault_known fault.Large = (omega arith, omega arith)

-- one refusal has one reason
same_why : {k : Refusal} {w : Why} {d : ℕ} → ◌≡◌ {A = Result (Option (ℕ × ℕ)) Refusal} (Err k) (Err (refused w d)) → k.why ≡ w
same_why {k} {w} {d} e = let q : k ≡ refused w d = cc in ap (λ (f : Refusal). f.why) q

known_by : (p l : Bool) (g : Result (ℕ × ℕ) Fault) (at : ℕ) (r : Rule) (w : Why) (d : ℕ)
    → cond p (cond l (Err (refused Left at)) (Ok None)) (admit g at r) ≡ Err (refused w d) → Known w
known_by true true g at r w d e = subst Known (same_why e) (omega arith, omega arith)
known_by true false g at r w d e = absurd (cc)
known_by false l (Err f) at r w d e = subst Known (same_why e) (fault_known f)
known_by false l (Ok (x, next)) at r w d e = by (allowed r x) e
  where
    by : (a : Bool) → cond {A = Result (Option (ℕ × ℕ)) Refusal} a (Ok (Some (x, next))) (Err (refused (why_outside r) at)) ≡ Err (refused w d) → Known w
    by true e = absurd (cc)
    by false e = subst Known (same_why e) (outside_known r)

step_known : (g : Result (ℕ × ℕ) Fault) (size at : ℕ) (r : Rule) (w : Why) (d : ℕ) → step_on g size at r ≡ Err (refused w d) → Known w
unfolding step_on
step_known g size at r w d e = known_by (is_past r) (ltb at size) g at r w d e

pub read_refused : (s : List ℕ) (w : Why) (d : ℕ) → sheet_of s ≡ fail w d → (1 ≤ refusal w) × (refusal w ≤ 5)
unfolding sheet_of
read_refused s w d h =
    walk_why Known Reader (number_at s) (length s) (omega arith, omega arith) (λ at r w d e. step_known (number_at s at) (length s) at r w d e)
    (suc most) 0 0 nothing w d h

-- "The writer gives 1, 3, 4, 5 and 10 only": no entry of a list is padded or too large

abbrev Plain : Why → Type 0
Plain w = Known w × (refusal w ≡ 2 → ⊥)

outside_plain : (r : Rule) → refusal (why_outside r) ≡ 2 → ⊥
outside_plain (Range low high) h = omega arith
outside_plain (Path low high) h = omega arith
outside_plain (ZeroOr low high) h = omega arith
outside_plain Past h = omega arith

plain_by : (p l t : Bool) (x next at : ℕ) (r : Rule) (w : Why) (d : ℕ)
    → cond p (cond l (Err (refused Left at)) (Ok None)) (admit (cond {A = Result (ℕ × ℕ) Fault} t (Ok (x, next)) (Err fault.Ends)) at r) ≡ Err (refused w d)
    → refusal w ≡ 2 → ⊥
plain_by true true t x next at r w d e h = let n : refusal Left ≡ 2 = ap refusal (same_why e) ∙ h in omega arith
plain_by true false t x next at r w d e h = cc
plain_by false l false x next at r w d e h = let n : refusal Ends ≡ 2 = ap refusal (same_why e) ∙ h in omega arith
plain_by false l true x next at r w d e h = by (allowed r x) e
  where
    by : (a : Bool) → cond {A = Result (Option (ℕ × ℕ)) Refusal} a (Ok (Some (x, next))) (Err (refused (why_outside r) at)) ≡ Err (refused w d) → ⊥
    by true e = cc
    by false e = outside_plain r (ap refusal (same_why e) ∙ h)

entry_plain : (xs : List ℕ) (at : ℕ) (r : Rule) (w : Why) (d : ℕ) → step_on (entry_at xs at) (length xs) at r ≡ Err (refused w d) → Plain w
unfolding step_on
entry_plain xs at r w d s = (
  step_known (entry_at xs at) (length xs) at r w d s,
  plain_by (is_past r) (ltb at (length xs)) (ltb at (length xs)) (get_or xs at 0) (at + 1) at r w d s,
)

pub list_refused : (xs : List ℕ) (w : Why) (d : ℕ) → list_of xs ≡ fail w d → ((1 ≤ refusal w) × (refusal w ≤ 5)) × (refusal w ≡ 2 → ⊥)
unfolding list_of
list_refused xs w d h =
    walk_why Plain Writer (entry_at xs) (length xs) ((omega arith, omega arith), λ e. omega arith) (λ at r w d e. entry_plain xs at r w d e)
    (suc most) 0 0 nothing w d h
