-- Laws of one step over a field: what a step must have been from what it gives.
-- Assumes nothing.
use Rattle.std.specs.Prelude.{ℕ, ◌≤◌, ◌≡◌, refl, ◌⊎◌, Bool, true, false, Option, Some, None, Result, Ok, Err, cond, ◌&&◌, ltb, leb}
use Rattle.std.proofs.Common.{ap, sym, inl, inr, le-ltb, leb-true, ltb-false}
use Rattle.numbers.specs.declared.Fault.{Fault}
use Rattle.numbers.specs.declared.Fault.TheVariants as fault
use Rattle.fields.specs.declared.Rule.{Rule}
use Rattle.fields.specs.declared.Rule.TheVariants.{Range}
use Rattle.fields.specs.declared.Why.{Why}
use Rattle.fields.specs.declared.Why.TheVariants.{Left, Outside, OffPath}
use Rattle.fields.specs.declared.Refusal.{Refusal}
use Rattle.fields.specs.Rule.{allowed, why_outside, is_past}
use Rattle.fields.specs.Refusal.{refused, why_of}
use Rattle.fields.specs.Step.{admit, step_on}

pub and_left : (a b : Bool) → (a && b) ≡ true → a ≡ true
and_left true b e = refl
and_left false b e = absurd (cc)

pub and_right : (a b : Bool) → (a && b) ≡ true → b ≡ true
and_right true b e = e
and_right false b e = absurd (cc)

-- a number that was got and allowed
pub record Gave (g : Result (ℕ × ℕ) Fault) (r : Rule) (x next : ℕ) : Type 0 where
  pub more : is_past r ≡ false
  pub read : g ≡ Ok (x, next)
  pub fine : allowed r x ≡ true

-- what a step gives behind the last field, and before it, of a number that its rule admits or does not
abbrev ends : Bool → ℕ → Result (Option (ℕ × ℕ)) Refusal
ends l at = cond l (Err (refused Left at)) (Ok None)

abbrev judged : Bool → ℕ → ℕ → Refusal → Result (Option (ℕ × ℕ)) Refusal
judged a x next f = cond a (Ok (Some (x, next))) (Err f)

allowed_value : (a : Bool) (y m : ℕ) (f : Refusal) (x next : ℕ) → judged a y m f ≡ Ok (Some (x, next)) → (a ≡ true) × ((y ≡ x) × (m ≡ next))
allowed_value true y m f x next e =
    let q : ◌≡◌ {A = ℕ × ℕ} (y, m) (x, next) = cc in
    (refl, (ap (λ (p : ℕ × ℕ). p.0) q, ap (λ (p : ℕ × ℕ). p.1) q))
allowed_value false y m f x next e = absurd (cc)

gave_by : (p l : Bool) (g : Result (ℕ × ℕ) Fault) (at : ℕ) (r : Rule) (x next : ℕ) → cond p (ends l at) (admit g at r) ≡ Ok (Some (x, next))
    → (p ≡ false) × ((g ≡ Ok (x, next)) × (allowed r x ≡ true))
gave_by true true g at r x next e = absurd (cc)
gave_by true false g at r x next e = absurd (cc)
gave_by false l (Ok (y, m)) at r x next e =
    let a = allowed_value (allowed r y) y m (refused (why_outside r) at) x next e in
    (refl, (rw (a.1.0, a.1.1), rw (← a.1.0) a.0))
gave_by false l (Err f) at r x next e = absurd (cc)

pub step_gave : (g : Result (ℕ × ℕ) Fault) (size at : ℕ) (r : Rule) (x next : ℕ) → step_on g size at r ≡ Ok (Some (x, next)) → Gave g r x next
unfolding step_on
step_gave g size at r x next e =
    let t = gave_by (is_past r) (ltb at size) g at r x next e in
    record { more = t.0; read = t.1.0; fine = t.1.1 }

-- the end comes only behind the last field, where nothing is left
end_by : (p l : Bool) (g : Result (ℕ × ℕ) Fault) (at : ℕ) (r : Rule) → cond p (ends l at) (admit g at r) ≡ Ok None → (p ≡ true) × (l ≡ false)
end_by true true g at r e = absurd (cc)
end_by true false g at r e = (refl, refl)
end_by false l (Ok (x, next)) at r e = absurd (no (allowed r x) e)
  where
    no : (a : Bool) → judged a x next (refused (why_outside r) at) ≡ Ok None → ⊥
    no true e = cc
    no false e = cc
end_by false l (Err f) at r e = absurd (cc)

pub step_ended : (g : Result (ℕ × ℕ) Fault) (size at : ℕ) (r : Rule) → step_on g size at r ≡ Ok None → (is_past r ≡ true) × (size ≤ at)
unfolding step_on
step_ended g size at r e = let t = end_by (is_past r) (ltb at size) g at r e in (t.0, ltb-false at size t.1)

-- a refusal names the place where its field begins
same_place : {f : Refusal} {w : Why} {d : ℕ} → ◌≡◌ {A = Result (Option (ℕ × ℕ)) Refusal} (Err f) (Err (refused w d)) → d ≡ f.at
same_place {f} {w} {d} e = let q : f ≡ refused w d = cc in sym (ap (λ (k : Refusal). k.at) q)

stop_by : (p l : Bool) (g : Result (ℕ × ℕ) Fault) (at : ℕ) (r : Rule) (w : Why) (d : ℕ) → cond p (ends l at) (admit g at r) ≡ Err (refused w d) → d ≡ at
stop_by true true g at r w d e = same_place e
stop_by true false g at r w d e = absurd (cc)
stop_by false l (Ok (x, next)) at r w d e = by (allowed r x) e
  where
    by : (a : Bool) → judged a x next (refused (why_outside r) at) ≡ Err (refused w d) → d ≡ at
    by true e = absurd (cc)
    by false e = same_place e
stop_by false l (Err f) at r w d e = same_place e

pub step_stopped : (g : Result (ℕ × ℕ) Fault) (size at : ℕ) (r : Rule) (w : Why) (d : ℕ) → step_on g size at r ≡ Err (refused w d) → d ≡ at
unfolding step_on
step_stopped g size at r w d e = stop_by (is_past r) (ltb at size) g at r w d e

-- 4 and 5 are of a number that was got and that its rule does not admit
pub record Outlawed (g : Result (ℕ × ℕ) Fault) (r : Rule) : Type 0 where
  pub number : ℕ
  pub next : ℕ
  pub read : g ≡ Ok (number, next)
  pub barred : allowed r number ≡ false

-- no other refusal has the number 4 or 5
same_why : {f : Refusal} {w : Why} {d : ℕ} → ◌≡◌ {A = Result (Option (ℕ × ℕ)) Refusal} (Err f) (Err (refused w d)) → f.why ≡ w
same_why {f} {w} {d} e = let q : f ≡ refused w d = cc in ap (λ (k : Refusal). k.why) q

not_left : (w : Why) → (w ≡ Outside) ⊎ (w ≡ OffPath) → Left ≡ w → ⊥
not_left w (inl o) q = cc
not_left w (inr o) q = cc

not_fault : (f : Fault) (w : Why) → (w ≡ Outside) ⊎ (w ≡ OffPath) → why_of f ≡ w → ⊥
not_fault fault.Ends w (inl o) q = cc
not_fault fault.Ends w (inr o) q = cc
not_fault fault.Padded w (inl o) q = cc
not_fault fault.Padded w (inr o) q = cc
not_fault fault.Large w (inl o) q = cc
not_fault fault.Large w (inr o) q = cc

outside_by_lem : (p l : Bool) (g : Result (ℕ × ℕ) Fault) (at : ℕ) (r : Rule) (w : Why) (d : ℕ) → (w ≡ Outside) ⊎ (w ≡ OffPath)
    → cond p (ends l at) (admit g at r) ≡ Err (refused w d) → Outlawed g r
outside_by_lem true true g at r w d o e = absurd (not_left w o (same_why e))
outside_by_lem true false g at r w d o e = absurd (cc)
outside_by_lem false l (Ok (x, next)) at r w d o e = by (allowed r x) refl e
  where
    by : (a : Bool) → allowed r x ≡ a → judged a x next (refused (why_outside r) at) ≡ Err (refused w d) → Outlawed (Ok (x, next)) r
    by true f e = absurd (cc)
    by false f e = record { number = x; next = next; read = refl; barred = f }
outside_by_lem false l (Err f) at r w d o e = absurd (not_fault f w o (same_why e))

pub step_outside : (g : Result (ℕ × ℕ) Fault) (size at : ℕ) (r : Rule) (w : Why) (d : ℕ) → (w ≡ Outside) ⊎ (w ≡ OffPath)
    → step_on g size at r ≡ Err (refused w d) → Outlawed g r
unfolding step_on
step_outside g size at r w d o e = outside_by_lem (is_past r) (ltb at size) g at r w d o e

-- and the other way
pub value_step : (g : Result (ℕ × ℕ) Fault) (size at : ℕ) (r : Rule) (x next : ℕ) → Gave g r x next → step_on g size at r ≡ Ok (Some (x, next))
unfolding step_on
value_step g size at r x next h = rw (h.more, h.read, h.fine)

pub end_step : (g : Result (ℕ × ℕ) Fault) (size at : ℕ) (r : Rule) → is_past r ≡ true → size ≤ at → step_on g size at r ≡ Ok None
unfolding step_on
end_step g size at r p h = rw (p, le-ltb at size h)

-- a number that a range admits lies in it
pub range_bounds : (low x high : ℕ) → allowed (Range low high) x ≡ true → (low ≤ x) × (x ≤ high)
range_bounds low x high e = (leb-true low x (and_left (leb low x) (leb x high) e), leb-true x high (and_right (leb low x) (leb x high) e))
