-- The walk of the code: where its cursor stands, what a step makes of what is left, and that the whole of it is the walk over the places.
-- Stated once, over the source that the numbers come from.
-- Assumes nothing.
use Rattle.std.specs.Prelude.{ℕ, zero, suc, ◌+◌, ◌-◌, ◌≤◌, ◌<◌, ◌≡◌, refl, List, [], ◌∷◌, ◌++◌, Bool, true, false, Option, Some, None, Result, Ok, Err, length}
use Rattle.std.proofs.Common.{sym, ap, ◌∙◌, ⊎_elim, append_assoc, arith}
use Rattle.std.proofs.Math.Logic.{∥∥₁_elim}
use Rattle.std.specs.Coded.{le_prop}
use mathlib.Core.Logic.{∥∥₁_map}
use Rattle.ground.proofs.OrderLaws.{lt_or_ge}
use Rattle.numbers.specs.Seven.{number_at}
use Rattle.numbers.specs.declared.Fault.{Fault}
use Rattle.fields.specs.declared.User.{User}
use Rattle.fields.specs.declared.User.TheVariants.{Reader, Writer}
use Rattle.fields.specs.declared.Cursor.{Cursor}
use Rattle.fields.specs.declared.Refusal.{Refusal}
use Rattle.fields.specs.Rule.{most, Seen, nothing, rule_at, seen_after}
use Rattle.fields.specs.Cursor.{cursor_at, cursor_after}
use Rattle.fields.specs.Step.{step_on}
use Rattle.fields.proofs.StepLaws.{Gave, step_gave}
use Rattle.fields.proofs.PlaceLaws.{Small, past_late, small_after}
use Rattle.fields.proofs.CursorLaws.{cursor_after_lem}
use Rattle.sheet.specs.Sheet.{Found, fail, these, also, on_step, walk, entry_at, sheet_of, list_of}
use Rattle.sheet.specs.Inside.{Standing, whole, walk_on, rest, onward, count_after}

small_nothing : Small nothing
small_nothing = record { servers = omega arith; flows = omega arith }

-- Where the cursor stands.

pub stands_first : (u : User) → ∥ Standing u 0 (cursor_at u 0 nothing) ∥₁
stands_first u = ∣ record { seen = nothing; small = small_nothing; is = refl } ∣₁

-- a number is passed only where a sheet has a field, so its place is below `most`
never_past : (u : User) (g : Result (ℕ × ℕ) Fault) (size at i : ℕ) (e : Seen) (x next : ℕ) → Small e
    → step_on g size at (rule_at u i e) ≡ Ok (Some (x, next)) → i < most
never_past u g size at i e x next m t =
    ⊎_elim (λ (h : i < most). h)
    (λ (h : most ≤ i).
    let v : Gave g (rule_at u i e) x next = step_gave g size at (rule_at u i e) x next t in
    let q : ◌≡◌ {A = Bool} true false = rw (past_late u i e h m) at v.more in
    absurd (cc))
    (lt_or_ge i most)

module _ {u : User} {passed : ℕ} {cursor : Cursor} (g : Result (ℕ × ℕ) Fault) (size at x next : ℕ) where
  -- the step by the cursor's rule is that by the rule of the place
  here : step_on g size at cursor.rule ≡ Ok (Some (x, next)) → (s : Standing u passed cursor) → step_on g size at (rule_at u passed s.seen) ≡ Ok (Some (x, next))
  here t s = ap (λ (c : Cursor). step_on g size at c.rule) (sym s.is) ∙ t

  stands_by : step_on g size at cursor.rule ≡ Ok (Some (x, next)) → Standing u passed cursor → Standing u (passed + 1) (cursor_after u cursor x)
  stands_by t s =
      let v : Gave g (rule_at u passed s.seen) x next = step_gave g size at (rule_at u passed s.seen) x next (here t s) in
      record {
        seen = seen_after s.seen passed x;
        small = small_after u s.seen passed x s.small v.fine;
        is = ap (λ (c : Cursor). cursor_after u c x) s.is ∙ cursor_after_lem u s.seen passed x v.fine;
      }

  pub stands_next : ∥ Standing u passed cursor ∥₁ → step_on g size at cursor.rule ≡ Ok (Some (x, next)) → ∥ Standing u (passed + 1) (cursor_after u cursor x) ∥₁
  stands_next s t = ∥∥₁_map s (stands_by t)

  pub few_next : ∥ Standing u passed cursor ∥₁ → step_on g size at cursor.rule ≡ Ok (Some (x, next)) → passed < most
  few_next s t = ∥∥₁_elim s le_prop (λ (k : Standing u passed cursor). never_past u g size at passed k.seen x next k.small (here t k))

-- What is left.

module _ (u : User) (source : ℕ → Result (ℕ × ℕ) Fault) (size passed at : ℕ) (cursor : Cursor) (few : passed ≤ most) where
  one_step : rest u source size passed at cursor
      ≡ on_step (step_on (source at) size at cursor.rule) (λ x next. also x (rest u source size (passed + 1) next (cursor_after u cursor x)))
  unfolding rest
  one_step =
      let a : suc most - passed ≡ suc (most - passed) = omega arith in
      let b : suc most - (passed + 1) ≡ most - passed = omega arith in
      rw (a, b)

  pub rest_value : (x next : ℕ) → step_on (source at) size at cursor.rule ≡ Ok (Some (x, next))
      → rest u source size passed at cursor ≡ also x (rest u source size (passed + 1) next (cursor_after u cursor x))
  rest_value x next t = one_step ∙ rw t

  pub rest_end : step_on (source at) size at cursor.rule ≡ Ok None → rest u source size passed at cursor ≡ these []
  rest_end t = one_step ∙ rw t

  pub rest_refused : (r : Refusal) → step_on (source at) size at cursor.rule ≡ Err r → rest u source size passed at cursor ≡ fail r.why r.at
  rest_refused r t = one_step ∙ rw t

-- The whole of it.

module _ (u : User) (source : ℕ → Result (ℕ × ℕ) Fault) (size : ℕ) where
  same_by : (st : Result (Option (ℕ × ℕ)) Refusal) (k at i : ℕ) (e : Seen) → Small e → step_on (source at) size at (rule_at u i e) ≡ st
      → ((x next : ℕ) (e' : Seen) → Small e' → walk_on u source size k next (cursor_at u (i + 1) e') ≡ walk u source size k next (i + 1) e')
      → on_step st (λ x next. also x (walk_on u source size k next (cursor_after u (cursor_at u i e) x)))
      ≡ on_step st (λ x next. also x (walk u source size k next (i + 1) (seen_after e i x)))
  same_by (Ok (Some (x, next))) k at i e m t go =
      let v : Gave (source at) (rule_at u i e) x next = step_gave (source at) size at (rule_at u i e) x next t in
      ap (also x) (rw (cursor_after_lem u e i x v.fine) (go x next (seen_after e i x) (small_after u e i x m v.fine)))
  same_by (Ok None) k at i e m t go = refl
  same_by (Err r) k at i e m t go = refl

  same_walk : (k at i : ℕ) (e : Seen) → Small e → walk_on u source size k at (cursor_at u i e) ≡ walk u source size k at i e
  same_walk zero at i e m = refl
  same_walk (suc k) at i e m =
      same_by (step_on (source at) size at (rule_at u i e)) k at i e m refl (λ x next e' m'. same_walk k next (i + 1) e' m')

  pub rest_whole : rest u source size 0 0 (cursor_at u 0 nothing) ≡ whole u source size
  unfolding rest whole
  rest_whole = same_walk (suc most) 0 0 nothing small_nothing

pub whole_sheet : (bytes : List ℕ) → whole Reader (number_at bytes) (length bytes) ≡ sheet_of bytes
unfolding whole sheet_of
whole_sheet bytes = refl

pub whole_list : (xs : List ℕ) → whole Writer (entry_at xs) (length xs) ≡ list_of xs
unfolding whole list_of
whole_list xs = refl

-- the numbers passed stand before those that follow
abbrev pub before : List ℕ → Found → Found
before xs (fail w d) = fail w d
before xs (these ys) = these (xs ++ ys)

pub before_none : (f : Found) → f ≡ before [] f
before_none (fail w d) = refl
before_none (these ys) = refl

pub before_also : (xs : List ℕ) (x : ℕ) (f : Found) → before xs (also x f) ≡ before (xs ++ (x ∷ [])) f
before_also xs x (fail w d) = refl
before_also xs x (these ys) = rw append_assoc

-- a number that a walk gives stands before what is left, and is counted
pub gives_some : {left : Found} {o : Option ℕ} {x : ℕ} (left' : Found) → o ≡ Some x → left ≡ onward (Ok o) left' → left ≡ also x left'
gives_some left' e g = g ∙ rw e

pub counts_some : {o : Option ℕ} {x n' : ℕ} (n : ℕ) → o ≡ Some x → n' ≡ count_after (Ok o) n → n' ≡ n + 1
counts_some n e c = c ∙ rw e
