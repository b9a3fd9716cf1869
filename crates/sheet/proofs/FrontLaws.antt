-- What lies past the first 1,024 bytes never changes the reader's verdict, refusal and detail included: each number that is passed
-- takes three bytes at most, there are at most 231 of them, and reading one looks at no more than five bytes.
-- Assumes nothing.
use Rattle.std.specs.Prelude.{ℕ, zero, suc, ◌+◌, ◌*◌, ◌^◌, ◌≤◌, ◌<◌, ◌≡◌, refl, List, Bool, true, false, Option, Some, None, Result, Ok, Err, ◌&&◌, ◌||◌, length, take, ltb, leb, eqb}
use Rattle.std.proofs.Common.{sym, ap, ◌∙◌, ⊎_elim, arith, length-take, lt-ltb, le-ltb, eqb-true}
use Rattle.numbers.specs.Seven.{number_at}
use Rattle.ground.proofs.OrderLaws.{lt_or_ge}
use Rattle.ground.proofs.EachLaws.{each_at}
use Rattle.numbers.proofs.SevenLaws.{encode_most, read_front, Bytes, WasRead, written_read}
use Rattle.fields.specs.declared.User.{User}
use Rattle.fields.specs.declared.User.TheVariants.{Reader, Writer}
use Rattle.fields.specs.declared.Rule.{Rule}
use Rattle.fields.specs.declared.Rule.TheVariants.{Range, Path, ZeroOr, Past}
use Rattle.fields.specs.declared.Refusal.{Refusal}
use Rattle.fields.specs.Rule.{most, mode_rule, table, field_rule, Seen, nothing, field_at, rule_at, allowed, seen_after}
use Rattle.fields.specs.Step.{step_on}
use Rattle.sheet.specs.Sheet.{also, on_step, walk, sheet_of, read_gives, read_holds}
use Rattle.fields.proofs.StepLaws.{Gave, step_gave, range_bounds}
use Rattle.fields.proofs.PlaceLaws.{Small, small_after, field_behind}

-- every field's greatest number is below 2^21, so it takes three bytes at most
top : Rule → ℕ
top (Range low high) = high
top (Path low high) = high
top (ZeroOr low high) = high
top Past = 0

allowed_top : (r : Rule) (x : ℕ) → allowed r x ≡ true → x ≤ top r
unfolding top
allowed_top (Range low high) x h = (range_bounds low x high h).1
allowed_top (Path low high) x h = (range_bounds low x high h).1
allowed_top (ZeroOr low high) x h = by (eqb x 0) refl h
  where
    by : (t : Bool) → eqb x 0 ≡ t → (t || (leb low x && leb x high)) ≡ true → x ≤ high
    by true e a = let z : x ≡ 0 = eqb-true x 0 e in omega arith
    by false e a = (range_bounds low x high a).1
allowed_top Past x h = absurd (cc)

mode_top : (u : User) → top (mode_rule u) < 2097152
unfolding top
mode_top Reader = omega arith
mode_top Writer = omega arith

-- of each field of the table
table_top : (u : User) (n before k : ℕ) → n < 2097152 → top (field_rule u n before k) < 2097152
unfolding top
table_top u n before k h =
    ⊎_elim
    (λ (l : k < 13).
    each_at (λ r. top r < 2097152) (table u n before) Past (
      omega arith,
      (
        omega arith,
        (omega arith, (omega arith, (omega arith, (h, (h, (omega arith, (omega arith, (omega arith, (omega arith, (mode_top u, (omega arith, tt))))))))))),
      ),
    )
    k l)
    (λ (g : 13 ≤ k). rw (field_behind u n before k g) (omega arith))
    (lt_or_ge k 13)

rule_top : (u : User) (i : ℕ) (e : Seen) → Small e → top (rule_at u i e) < 2097152
unfolding rule_at
rule_top u i e m = table_top u e.servers e.prev (field_at i e) (omega (arith, m.servers))

module _ (s : List ℕ) (bytes : Bytes s) (m : ℕ) where
  -- a number that was read and admitted ends three bytes further at most
  near : (at i x next : ℕ) (e : Seen) → Small e → Gave (number_at s at) (rule_at Reader i e) x next → next ≤ at + 3
  near at i x next e k v =
      let r : WasRead s at x next = written_read s at x next bytes v.read in
      let t = allowed_top (rule_at Reader i e) x v.fine in
      let l : x < 128 ^ 3 = omega (arith, rule_top Reader i e k) in
      omega (arith, r.place, encode_most 2 x l)

  same_end : (at : ℕ) → at < m → ltb at (length (take m s)) ≡ ltb at (length s)
  same_end at h =
      ⊎_elim
      (λ (a : at < length s). lt-ltb at (length (take m s)) (omega (arith, length-take m s)) ∙ sym (lt-ltb at (length s) a))
      (λ (a : length s ≤ at). le-ltb at (length (take m s)) (omega (arith, length-take m s)) ∙ sym (le-ltb at (length s) a))
      (lt_or_ge at (length s))

  same_step : (at : ℕ) (r : Rule) → at + 5 ≤ m → step_on (number_at (take m s) at) (length (take m s)) at r ≡ step_on (number_at s at) (length s) at r
  unfolding step_on
  same_step at r h = rw (read_front s at m h, same_end at (omega arith))

  same_by : (st : Result (Option (ℕ × ℕ)) Refusal) (k at i : ℕ) (e : Seen) → Small e → step_on (number_at s at) (length s) at (rule_at Reader i e) ≡ st
      → ((x next : ℕ) → next ≤ at + 3 → allowed (rule_at Reader i e) x ≡ true
      → walk Reader (number_at (take m s)) (length (take m s)) k next (i + 1) (seen_after e i x)
      ≡ walk Reader (number_at s) (length s) k next (i + 1) (seen_after e i x))
      → on_step st (λ x next. also x (walk Reader (number_at (take m s)) (length (take m s)) k next (i + 1) (seen_after e i x)))
      ≡ on_step st (λ x next. also x (walk Reader (number_at s) (length s) k next (i + 1) (seen_after e i x)))
  same_by (Ok (Some (x, next))) k at i e l t go =
      let v : Gave (number_at s at) (rule_at Reader i e) x next = step_gave (number_at s at) (length s) at (rule_at Reader i e) x next t in
      ap (also x) (go x next (near at i x next e l v) v.fine)
  same_by (Err r) k at i e l t go = refl
  same_by (Ok None) k at i e l t go = refl

  same_walk : (k at i : ℕ) (e : Seen) → Small e → at + 3 * k + 5 ≤ m
      → walk Reader (number_at (take m s)) (length (take m s)) k at i e ≡ walk Reader (number_at s) (length s) k at i e
  same_walk zero at i e l h = refl
  same_walk (suc k) at i e l h =
      rw (same_step at (rule_at Reader i e) (omega arith))
      (same_by (step_on (number_at s at) (length s) at (rule_at Reader i e)) k at i e l refl
      (λ x next n a. same_walk k next (i + 1) (seen_after e i x) (small_after Reader e i x l a) (omega arith)))

pub front_verdict : (s : List ℕ) → Bytes s → sheet_of (take 1024 s) ≡ sheet_of s
unfolding sheet_of
front_verdict s bytes = same_walk s bytes 1024 (suc most) 0 0 nothing (record { servers = omega arith; flows = omega arith }) (omega arith)

-- `read_sheet` of the first 1,024 bytes gives and leaves what `read_sheet` of all gives and leaves.
pub front_read : (s list : List ℕ) → Bytes s
    → (read_gives (sheet_of (take 1024 s)) (length list) ≡ read_gives (sheet_of s) (length list))
    × (read_holds (sheet_of (take 1024 s)) list ≡ read_holds (sheet_of s) list)
front_read s list bytes = rw (front_verdict s bytes) (refl, refl)
