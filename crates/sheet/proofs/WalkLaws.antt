-- Laws of a walk over the fields: how a walk that gives numbers gave the first of them, and that a list that is a sheet is taken whole.
-- Assumes nothing.
use Rattle.std.specs.Prelude.{ℕ, zero, suc, ◌+◌, ◌≤◌, ◌≡◌, refl, List, [], ◌∷◌, true, Option, Some, None, Result, Ok, Err, length, drop}
use Rattle.std.proofs.Common.{sym, ◌∙◌, add-one, drop_of_length-le, drop-cons}
use Rattle.numbers.specs.declared.Fault.{Fault}
use Rattle.fields.specs.declared.User.{User}
use Rattle.fields.specs.declared.User.TheVariants.{Writer}
use Rattle.fields.specs.declared.Refusal.{Refusal}
use Rattle.fields.specs.Refusal.{refused}
use Rattle.fields.specs.declared.Why.{Why}
use Rattle.fields.specs.Rule.{most, Seen, nothing, rule_at, seen_after, is_past}
use Rattle.fields.specs.Step.{step_on}
use Rattle.sheet.specs.Sheet.{Found, fail, these, also, on_step, walk, entry_at, list_of}
use Rattle.fields.proofs.StepLaws.{Gave, step_gave, step_ended}
use Rattle.sheet.proofs.EntryLaws.{Entry, entry_was}

-- A walk that gives numbers either gave the first and goes on behind it, or ended here with none.
pub data Walked (u : User) (source : ℕ → Result (ℕ × ℕ) Fault) (size k at i : ℕ) (e : Seen) (ys : List ℕ) : Type 0 where
  gave : (x next : ℕ) (zs : List ℕ) → Gave (source at) (rule_at u i e) x next → ys ≡ x ∷ zs
      → walk u source size k next (i + 1) (seen_after e i x) ≡ these zs → Walked u source size k at i e ys
  ended : ys ≡ [] → is_past (rule_at u i e) ≡ true → size ≤ at → Walked u source size k at i e ys

also_these : (x : ℕ) (f : Found) (ys : List ℕ) → also x f ≡ these ys → (zs : List ℕ) × ((f ≡ these zs) × (ys ≡ x ∷ zs))
also_these x (fail w d) ys e = absurd (cc)
also_these x (these zs) ys e = (zs, (refl, cc))

walked_by : (st : Result (Option (ℕ × ℕ)) Refusal) (u : User) (source : ℕ → Result (ℕ × ℕ) Fault) (size k at i : ℕ) (e : Seen) (ys : List ℕ)
    → step_on (source at) size at (rule_at u i e) ≡ st
    → on_step st (λ x next. also x (walk u source size k next (i + 1) (seen_after e i x))) ≡ these ys → Walked u source size k at i e ys
walked_by (Ok (Some (x, next))) u source size k at i e ys s h =
    let a = also_these x (walk u source size k next (i + 1) (seen_after e i x)) ys h in
    gave x next a.0 (step_gave (source at) size at (rule_at u i e) x next s) a.1.1 a.1.0
walked_by (Err r) u source size k at i e ys s h = absurd (cc)
walked_by (Ok None) u source size k at i e ys s h =
    let n : ys ≡ [] = cc in
    let t = step_ended (source at) size at (rule_at u i e) s in
    ended n t.0 t.1

pub walked : (u : User) (source : ℕ → Result (ℕ × ℕ) Fault) (size k at i : ℕ) (e : Seen) (ys : List ℕ) → walk u source size (suc k) at i e ≡ these ys
    → Walked u source size k at i e ys
walked u source size k at i e ys h = walked_by (step_on (source at) size at (rule_at u i e)) u source size k at i e ys refl h

pub walk_none : (u : User) (source : ℕ → Result (ℕ × ℕ) Fault) (size at i : ℕ) (e : Seen) (ys : List ℕ) → walk u source size 0 at i e ≡ these ys → ⊥
walk_none u source size at i e ys h = cc

also_fail : (x : ℕ) (f : Found) (w : Why) (d : ℕ) → also x f ≡ fail w d → f ≡ fail w d
also_fail x (fail w' d') w d e = e
also_fail x (these zs) w d e = absurd (cc)

-- A walk that refuses either gave a number and refuses behind it, or refuses here.
pub data Stopped (u : User) (source : ℕ → Result (ℕ × ℕ) Fault) (size k at i : ℕ) (e : Seen) (w : Why) (d : ℕ) : Type 0 where
  behind : (x next : ℕ) → Gave (source at) (rule_at u i e) x next → walk u source size k next (i + 1) (seen_after e i x) ≡ fail w d
      → Stopped u source size k at i e w d
  here : step_on (source at) size at (rule_at u i e) ≡ Err (refused w d) → Stopped u source size k at i e w d

stopped_by : (st : Result (Option (ℕ × ℕ)) Refusal) (u : User) (source : ℕ → Result (ℕ × ℕ) Fault) (size k at i : ℕ) (e : Seen) (w : Why) (d : ℕ)
    → step_on (source at) size at (rule_at u i e) ≡ st
    → on_step st (λ x next. also x (walk u source size k next (i + 1) (seen_after e i x))) ≡ fail w d → Stopped u source size k at i e w d
stopped_by (Ok (Some (x, next))) u source size k at i e w d s h =
    behind x next (step_gave (source at) size at (rule_at u i e) x next s) (also_fail x (walk u source size k next (i + 1) (seen_after e i x)) w d h)
stopped_by (Err r) u source size k at i e w d s h =
    let a : r.why ≡ w = cc in
    let b : r.at ≡ d = cc in
    here (s ∙ λ j. Err (refused (a j) (b j)))
stopped_by (Ok None) u source size k at i e w d s h = absurd (cc)

pub stopped : (u : User) (source : ℕ → Result (ℕ × ℕ) Fault) (size k at i : ℕ) (e : Seen) (w : Why) (d : ℕ) → walk u source size (suc k) at i e ≡ fail w d
    → Stopped u source size k at i e w d
stopped u source size k at i e w d h = stopped_by (step_on (source at) size at (rule_at u i e)) u source size k at i e w d refl h

-- A list that is a sheet is taken whole.
rest_by : (u : User) (k : ℕ) (xs : List ℕ) (i : ℕ) (e : Seen) (ys : List ℕ) → Walked u (entry_at xs) (length xs) k i i e ys
    → ((zs : List ℕ) (e' : Seen) → walk u (entry_at xs) (length xs) k (i + 1) (i + 1) e' ≡ these zs → zs ≡ drop (i + 1) xs) → ys ≡ drop i xs
rest_by u k xs i e ys (gave x next zs v y w) go =
    let t : Entry xs i x next = entry_was xs i x next v.read in
    let z : zs ≡ drop (i + 1) xs = go zs (seen_after e i x) (rw t.place at w) in
    y ∙ rw (z, add-one i, t.value, drop-cons xs i 0 t.inside)
rest_by u k xs i e ys (ended y p h) go = y ∙ sym (drop_of_length-le xs h)

rest : (u : User) (k : ℕ) (xs : List ℕ) (i : ℕ) (e : Seen) (ys : List ℕ) → walk u (entry_at xs) (length xs) k i i e ≡ these ys → ys ≡ drop i xs
rest u zero xs i e ys w = absurd (walk_none u (entry_at xs) (length xs) i i e ys w)
rest u (suc k) xs i e ys w =
    rest_by u k xs i e ys (walked u (entry_at xs) (length xs) k i i e ys w) (λ zs e' h. rest u k xs (i + 1) e' zs h)

pub list_whole : (xs ys : List ℕ) → list_of xs ≡ these ys → ys ≡ xs
unfolding list_of
list_whole xs ys e = rest Writer (suc most) xs 0 nothing ys e
