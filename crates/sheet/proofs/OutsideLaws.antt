-- Where the writer refuses a list with 4 or 5, a number stands, and the rule of its field does not admit it.
-- Assumes nothing.
use Rattle.std.specs.Prelude.{ℕ, zero, suc, ◌+◌, ◌<◌, ◌≡◌, ◌⊎◌, false, List, length, get_or}
use Rattle.std.proofs.Common.{inl, inr, arith}
use Rattle.fields.specs.declared.User.{User}
use Rattle.fields.specs.declared.User.TheVariants.{Writer}
use Rattle.fields.specs.declared.Why.{Why}
use Rattle.fields.specs.declared.Why.TheVariants.{Left, Outside, OffPath}
use Rattle.fields.specs.Rule.{most, Seen, nothing, rule_at, seen_after, allowed}
use Rattle.fields.proofs.StepLaws.{Outlawed, step_outside, step_stopped}
use Rattle.sheet.specs.Sheet.{fail, walk, entry_at, list_of}
use Rattle.sheet.proofs.EntryLaws.{Entry, entry_was}
use Rattle.sheet.proofs.WalkLaws.{Stopped, behind, here, stopped}
use Rattle.sheet.proofs.ValidLaws.{Knows, knows_nothing, knows_after, FieldAt, rule_of, rule_known}

-- the number at place d of a list is there, and the rule of its field does not admit it
pub record Barred (u : User) (xs : List ℕ) (d : ℕ) : Type 0 where
  pub inside : d < length xs
  pub barred : (p : FieldAt xs d) → allowed (rule_of u xs d p) (get_or xs d 0) ≡ false

module _ (u : User) (xs : List ℕ) (w : Why) (d : ℕ) (o : (w ≡ Outside) ⊎ (w ≡ OffPath)) where
  none : (w ≡ Outside) ⊎ (w ≡ OffPath) → w ≡ Left → ⊥
  none (inl a) l = let q : ◌≡◌ {A = ℕ} 0 1 = cc in omega arith
  none (inr a) l = let q : ◌≡◌ {A = ℕ} 0 1 = cc in omega arith

  -- where it stops, or behind
  stop_barred : (k i : ℕ) (e : Seen) → Knows xs i e → Stopped u (entry_at xs) (length xs) k i i e w d
      → ((e' : Seen) → Knows xs (i + 1) e' → walk u (entry_at xs) (length xs) k (i + 1) (i + 1) e' ≡ fail w d → Barred u xs d) → Barred u xs d
  stop_barred k i e n (behind x next v h) go =
      let t : Entry xs i x next = entry_was xs i x next v.read in
      go (seen_after e i x) (rw t.value (knows_after xs i e n)) (rw t.place at h)
  stop_barred k i e n (here p) go =
      let b : Outlawed (entry_at xs i) (rule_at u i e) = step_outside (entry_at xs i) (length xs) i (rule_at u i e) w d o p in
      let q : d ≡ i = step_stopped (entry_at xs i) (length xs) i (rule_at u i e) w d p in
      let t : Entry xs i b.number b.next = entry_was xs i b.number b.next b.read in
      rw q (record { inside = t.inside; barred = λ f. rw (← rule_known u xs i e n f, ← t.value) b.barred })

  walk_barred : (k i : ℕ) (e : Seen) → Knows xs i e → walk u (entry_at xs) (length xs) k i i e ≡ fail w d → Barred u xs d
  walk_barred zero i e n h = absurd (none o cc)
  walk_barred (suc k) i e n h =
      stop_barred k i e n (stopped u (entry_at xs) (length xs) k i i e w d h) (λ e' n' h'. walk_barred k (i + 1) e' n' h')

-- the writer's 4 and 5
pub list_barred : (xs : List ℕ) (w : Why) (d : ℕ) → (w ≡ Outside) ⊎ (w ≡ OffPath) → list_of xs ≡ fail w d → Barred Writer xs d
unfolding list_of
list_barred xs w d o h = walk_barred Writer xs w d o (suc most) 0 nothing (knows_nothing xs) h
