-- The entry of the analysis answers exactly as Says.antt has it: so a refusal writes nothing, 9 is never given, and 6, 7 and 8 are given exactly where
-- their sentences hold and no earlier refusal does.
-- Assumes nothing.
use Rattle.std.specs.Prelude.{ℕ, ◌≤◌, ◌<◌, ◌≡◌, ◌⊎◌, true, false, None, List, length}
use Rattle.std.proofs.Math.Path.{refl}
use Rattle.std.proofs.Common.{sym, ap, ◌∙◌, subst, inl, inr, true≢false, arith, lt-ltb, le-ltb}
use Rattle.ground.proofs.OrderLaws.{lt_or_ge, le_or_lt}
use Rattle.numbers.proofs.SevenLaws.{Bytes}
use Rattle.fields.specs.declared.Why.TheVariants.{Crossing, Crowded, Points, TooLarge, Short}
use Rattle.fields.specs.Refusal.{refusal}
use Rattle.sheet.specs.Sheet.{Found, fail, these, sheet_of}
use Rattle.sheet.specs.Valid.{mode}
use Rattle.sheet.proofs.ValidLaws.{read_valid}
use Rattle.sheet.proofs.AcceptLaws.{read_refused}
use Rattle.tandem.specs.Tandem.{Tandem, size}
use Rattle.row.specs.Groups.{groups}
use Rattle.tandem.specs.Crowded.{lowest_crowded, Lowest}
use Rattle.row.specs.Checks.{not_nested, too_many}
use Rattle.tandem.specs.OfSheet.{tandem_of}
use Rattle.row.specs.OfSheet.{check_of}
use Rattle.tandem.proofs.OfSheetLaws.{limits, row_size}
use Rattle.row.proofs.OfSheetLaws.{crossing_first, crowded_second, points_third, passed_last, accepted}
use Rattle.tandem.proofs.CrowdedLaws.{crowded_lowest, lowest_crowded_lem, none_crowds, crowded_none}
use Rattle.row.proofs.CheckLaws.{not_nested_crossed, crossed_not_nested, too_many_points, points_too_many}
use Rattle.row.proofs.CountLaws.{few_groups}
use Rattle.row.specs.Sentences.{Crossed}
use Rattle.tandem.proofs.TestLaws.{decide, not_passed}
use Rattle.analysis.specs.Verdict.{grid_used, listing_of, Verdict, refused, bounded, verdict_on, verdict_of}
use Rattle.analysis.proofs.VerdictLaws.{passed_verdict, listing_small}
use Rattle.desk.specs.Packed.{as_one, packed}
use Rattle.sheet.proofs.DetailLaws.{read_place}
use Rattle.desk.proofs.DetailLaws.{record_short}
use Rattle.desk.specs.Answer.{answer_gives, answer_holds}
use Rattle.desk.specs.Contract.{GullbiscuitAnalyse}
use Rattle.desk.proofs.Unique.{gullbiscuit_analyse_unique}
use Rattle.desk.specs.Says.{Uncrowded, TooManyPoints, Passes, answer_of, Says, of_bytes, six, seven, eight, ten, answers}

-- what the verdict is where a sentence holds

module _ (s xs : List ℕ) (read : sheet_of s ≡ these xs) where
  nested : (Crossed (tandem_of xs) → ⊥) → not_nested (tandem_of xs) ≡ false
  nested n = not_passed (not_nested (tandem_of xs)) (λ e. n (not_nested_crossed (tandem_of xs) e))

  six_verdict : Crossed (tandem_of xs) → verdict_of s ≡ refused Crossing 0
  unfolding verdict_of verdict_on
  six_verdict c = rw (read, crossing_first xs (crossed_not_nested (tandem_of xs) c))

  seven_verdict : (Crossed (tandem_of xs) → ⊥) → (j : ℕ) → Lowest (tandem_of xs) 1 (size (tandem_of xs)) j → verdict_of s ≡ refused Crowded j
  unfolding verdict_of verdict_on
  seven_verdict n j l =
      let some : 0 < j = omega (arith, l.behind) in
      rw (read, crowded_second xs (nested n) j (lowest_crowded_lem (tandem_of xs) j l) some)

  eight_verdict : (Crossed (tandem_of xs) → ⊥) → Uncrowded xs → TooManyPoints xs → verdict_of s ≡ refused Points (length (groups (tandem_of xs)))
  unfolding verdict_of verdict_on
  eight_verdict n u m =
      rw (read, points_third xs (nested n) (crowded_none (tandem_of xs) u) (points_too_many (tandem_of xs) (mode xs) (grid_used xs) m.0 m.1))

  pub passes : Passes xs → check_of xs ≡ None
  passes p =
      passed_last xs (nested p.nested) (crowded_none (tandem_of xs) p.uncrowded)
      (not_passed (too_many (tandem_of xs) (mode xs) (grid_used xs)) (λ e. p.few_points (too_many_points (tandem_of xs) (mode xs) (grid_used xs) e)))

  answer_verdict : Passes xs → verdict_of s ≡ bounded (listing_of xs)
  answer_verdict p = passed_verdict s xs read (read_valid s xs read) (passes p)

  -- an answer record is short
  answer_short : Passes xs → length (answer_of xs) ≤ 175
  answer_short p = record_short (listing_of xs) (listing_small xs (read_valid s xs read) (passes p))

-- where a case holds, the entry gives and leaves what it says

by_verdict : (s before : List ℕ) (r : ℕ) (after : List ℕ) (v : Verdict) → verdict_of s ≡ v
    → r ≡ packed (answer_gives v (length before)) → after ≡ answer_holds v before → GullbiscuitAnalyse s before r after
by_verdict s before r after v e g h = record {
  gives = g ∙ sym (ap (λ (v : Verdict). packed (answer_gives v (length before))) e);
  holds = h ∙ sym (ap (λ (v : Verdict). answer_holds v before) e);
}

pub says_given : (s before : List ℕ) (n d : ℕ) (after : List ℕ) → Says s before n d after → GullbiscuitAnalyse s before (as_one n d) after
unfolding verdict_of
says_given s before n d after (of_bytes w e a h) = by_verdict s before _ after (refused w d) (rw e) (rw a) h
says_given s before n d after (six xs e c a b h) = by_verdict s before _ after (refused Crossing 0) (six_verdict s xs e c) (rw (a, b)) h
says_given s before n d after (seven xs e m l a h) = by_verdict s before _ after (refused Crowded d) (seven_verdict s xs e m d l) (rw a) h
says_given s before n d after (eight xs e m u t a b h) =
    by_verdict s before _ after (refused Points (length (groups (tandem_of xs)))) (eight_verdict s xs e m u t) (rw (a, b)) h
says_given s before n d after (ten xs e p l a b h) =
    let t = lt-ltb (length before) (length (answer_of xs)) l in
    by_verdict s before _ after (bounded (listing_of xs)) (answer_verdict s xs e p) (rw (a, b, t)) (rw t h)
says_given s before n d after (answers xs e p l a b h) =
    let t = le-ltb (length before) (length (answer_of xs)) l in
    by_verdict s before _ after (bounded (listing_of xs)) (answer_verdict s xs e p) (rw (a, b, t)) (rw t h)

-- so every call gives and leaves just that
pub says_always : (s before : List ℕ) (r : ℕ) (after : List ℕ) → GullbiscuitAnalyse s before r after → (n d : ℕ) (after' : List ℕ) → Says s before n d after'
    → (r ≡ as_one n d) × (after ≡ after')
says_always s before r after call n d after' says =
    gullbiscuit_analyse_unique s before r (as_one n d) after after' call (says_given s before n d after' says)

-- and the other way: each call falls under one case

-- refusal and detail can be told apart in the one number
pub apart : (n d n' d' : ℕ) → d < 4294967296 → d' < 4294967296 → as_one n d ≡ as_one n' d' → (n ≡ n') × (d ≡ d')
apart n d n' d' h h' e = (omega arith, omega arith)

-- every detail is below 2^32
says_small : (s before : List ℕ) (n d : ℕ) (after : List ℕ) → Bytes s → Says s before n d after → d < 4294967296
says_small s before n d after bytes (of_bytes w e a h) = omega (arith, read_place s w d bytes e)
says_small s before n d after bytes (six xs e c a b h) = omega arith
says_small s before n d after bytes (seven xs e m l a h) = omega (arith, l.before, row_size xs, (read_valid s xs e).servers.most)
says_small s before n d after bytes (eight xs e m u t a b h) =
    let v = read_valid s xs e in
    omega (arith, b, few_groups (tandem_of xs) (accepted xs v (nested s xs e m) (crowded_none (tandem_of xs) u)) (limits xs v))
says_small s before n d after bytes (ten xs e p l a b h) = omega (arith, b, answer_short s xs e p)
says_small s before n d after bytes (answers xs e p l a b h) = omega (arith, b, answer_short s xs e p)

-- a case, with its refusal and detail
record Told (s before : List ℕ) (r : ℕ) (after : List ℕ) : Type 0 where
  number : ℕ
  detail : ℕ
  one : r ≡ as_one number detail
  says : Says s before number detail after

module _ (s before : List ℕ) (r : ℕ) (after : List ℕ) (call : GullbiscuitAnalyse s before r after) where
  given_by : (v : Verdict) → verdict_of s ≡ v → r ≡ packed (answer_gives v (length before))
  given_by v e = call.gives ∙ ap (λ (v : Verdict). packed (answer_gives v (length before))) e

  held_by : (v : Verdict) → verdict_of s ≡ v → after ≡ answer_holds v before
  held_by v e = call.holds ∙ ap (λ (v : Verdict). answer_holds v before) e

  told_answer : (xs : List ℕ) → sheet_of s ≡ these xs → Passes xs
      → (length before < length (answer_of xs)) ⊎ (length (answer_of xs) ≤ length before) → Told s before r after
  told_answer xs e p (inl l) =
      let v = answer_verdict s xs e p in
      let t = lt-ltb (length before) (length (answer_of xs)) l in
      record {
        number = refusal Short;
        detail = length (answer_of xs);
        one = rw t at (given_by (bounded (listing_of xs)) v);
        says = ten xs e p l refl refl (rw t at (held_by (bounded (listing_of xs)) v));
      }
  told_answer xs e p (inr l) =
      let v = answer_verdict s xs e p in
      let t = le-ltb (length before) (length (answer_of xs)) l in
      record {
        number = 0;
        detail = length (answer_of xs);
        one = rw t at (given_by (bounded (listing_of xs)) v);
        says = answers xs e p l refl refl (rw t at (held_by (bounded (listing_of xs)) v));
      }

  module _ (xs : List ℕ) (e : sheet_of s ≡ these xs) where
    abbrev row : Tandem
    row = tandem_of xs

    told_points : (Crossed row → ⊥) → Uncrowded xs
        → (too_many row (mode xs) (grid_used xs) ≡ true) ⊎ (too_many row (mode xs) (grid_used xs) ≡ false) → Told s before r after
    told_points n u (inl t) =
        let m = too_many_points row (mode xs) (grid_used xs) t in
        let v = eight_verdict s xs e n u m in
        record {
          number = refusal Points;
          detail = length (groups row);
          one = given_by _ v;
          says = eight xs e n u m refl refl (held_by _ v);
        }
    told_points n u (inr t) =
        told_answer xs e
        (record { nested = n; uncrowded = u; few_points = λ m. true≢false (sym (points_too_many row (mode xs) (grid_used xs) m.0 m.1) ∙ t) })
        (lt_or_ge (length before) (length (answer_of xs)))

    told_crowded : (Crossed row → ⊥) → (lowest_crowded row 1 (size row) ≤ 0) ⊎ (0 < lowest_crowded row 1 (size row)) → Told s before r after
    told_crowded n (inl z) = told_points n (none_crowds row (omega arith)) (decide (too_many row (mode xs) (grid_used xs)))
    told_crowded n (inr h) =
        let l = crowded_lowest row h in
        let v = seven_verdict s xs e n (lowest_crowded row 1 (size row)) l in
        record {
          number = refusal Crowded;
          detail = lowest_crowded row 1 (size row);
          one = given_by _ v;
          says = seven xs e n l refl (held_by _ v);
        }

    told_row : (not_nested row ≡ true) ⊎ (not_nested row ≡ false) → Told s before r after
    told_row (inl t) =
        let c = not_nested_crossed row t in
        let v = six_verdict s xs e c in
        record { number = refusal Crossing; detail = 0; one = given_by _ v; says = six xs e c refl refl (held_by _ v) }
    told_row (inr t) = told_crowded (λ c. true≢false (sym (crossed_not_nested row c) ∙ t)) (le_or_lt (lowest_crowded row 1 (size row)) 0)

  told : Told s before r after
  unfolding verdict_of
  told = by (sheet_of s) refl
    where
      by : (f : Found) → sheet_of s ≡ f → Told s before r after
      by (fail w d) e =
          let v : verdict_of s ≡ refused w d = rw e in
          record {
            number = refusal w;
            detail = d;
            one = given_by (refused w d) v;
            says = of_bytes w e refl (held_by (refused w d) v);
          }
      by (these xs) e = told_row xs e (decide (not_nested (tandem_of xs)))

  -- success is refusal 0, a number below 2^32: then there is an answer record
  pub success_says : r < 4294967296 → Says s before 0 r after
  success_says h =
      let t = told in
      let n : t.number ≡ 0 = omega (arith, t.one) in
      let d : t.detail ≡ r = omega (arith, t.one) in
      subst (λ (x : ℕ). Says s before x r after) n (subst (λ (x : ℕ). Says s before t.number x after) d t.says)

  -- "On refusal the buffer stays as it was."
  pub refusal_writes_nothing : 4294967296 ≤ r → after ≡ before
  refusal_writes_nothing h = let t = told in by t.number t.detail t.one t.says
    where
      by : (n d : ℕ) → r ≡ as_one n d → Says s before n d after → after ≡ before
      by n d o (of_bytes w e a k) = k
      by n d o (six xs e c a b k) = k
      by n d o (seven xs e m w a k) = k
      by n d o (eight xs e m u t a b k) = k
      by n d o (ten xs e p w a b k) = k
      by n d o (answers xs e p w a b k) = absurd (omega (arith, answer_short s xs e p))

module _ (s before : List ℕ) (r : ℕ) (after : List ℕ) (bytes : Bytes s) (call : GullbiscuitAnalyse s before r after) where
  -- what is given as refusal n with detail d is given for its reason
  pub given_says : (n d : ℕ) → d < 4294967296 → r ≡ as_one n d → Says s before n d after
  given_says n d h e =
      let t = told s before r after call in
      let a = apart t.number t.detail n d (says_small s before t.number t.detail after bytes t.says) h (sym t.one ∙ e) in
      subst (λ (x : ℕ). Says s before x d after) a.0 (subst (λ (x : ℕ). Says s before t.number x after) a.1 t.says)

  -- 9 is never given
  pub never_nine : (d : ℕ) → d < 4294967296 → r ≡ as_one (refusal TooLarge) d → ⊥
  never_nine d h e = by (given_says 9 d h e)
    where
      by : Says s before 9 d after → ⊥
      by (of_bytes w e a k) = omega (arith, a, (read_refused s w d e).1)
      by (six xs e c a b k) = omega arith
      by (seven xs e m w a k) = omega arith
      by (eight xs e m u t a b k) = omega arith
      by (ten xs e p w a b k) = omega arith
      by (answers xs e p w a b k) = omega arith

  -- 6, 7 and 8 only where their sentences hold of the sheet's row and no earlier refusal does (and there always: `says_always`)

  pub six_only : (d : ℕ) → d < 4294967296 → r ≡ as_one (refusal Crossing) d → (xs : List ℕ) × (sheet_of s ≡ these xs) × Crossed (tandem_of xs) × (d ≡ 0)
  six_only d h e = by (given_says 6 d h e)
    where
      by : Says s before 6 d after → (xs : List ℕ) × (sheet_of s ≡ these xs) × Crossed (tandem_of xs) × (d ≡ 0)
      by (of_bytes w e a k) = absurd (omega (arith, a, (read_refused s w d e).1))
      by (six xs e c a b k) = (xs, e, c, b)
      by (seven xs e m w a k) = absurd (omega arith)
      by (eight xs e m u t a b k) = absurd (omega arith)
      by (ten xs e p w a b k) = absurd (omega arith)
      by (answers xs e p w a b k) = absurd (omega arith)

  pub seven_only : (d : ℕ) → d < 4294967296 → r ≡ as_one (refusal Crowded) d
      → (xs : List ℕ) × (sheet_of s ≡ these xs) × (Crossed (tandem_of xs) → ⊥) × Lowest (tandem_of xs) 1 (size (tandem_of xs)) d
  seven_only d h e = by (given_says 7 d h e)
    where
      by : Says s before 7 d after → (xs : List ℕ) × (sheet_of s ≡ these xs) × (Crossed (tandem_of xs) → ⊥) × Lowest (tandem_of xs) 1 (size (tandem_of xs)) d
      by (of_bytes w e a k) = absurd (omega (arith, a, (read_refused s w d e).1))
      by (six xs e c a b k) = absurd (omega arith)
      by (seven xs e m w a k) = (xs, e, m, w)
      by (eight xs e m u t a b k) = absurd (omega arith)
      by (ten xs e p w a b k) = absurd (omega arith)
      by (answers xs e p w a b k) = absurd (omega arith)

  pub eight_only : (d : ℕ) → d < 4294967296 → r ≡ as_one (refusal Points) d
      → (xs : List ℕ) × (sheet_of s ≡ these xs) × (Crossed (tandem_of xs) → ⊥) × Uncrowded xs × TooManyPoints xs × (d ≡ length (groups (tandem_of xs)))
  eight_only d h e = by (given_says 8 d h e)
    where
      by : Says s before 8 d after
          → (xs : List ℕ) × (sheet_of s ≡ these xs) × (Crossed (tandem_of xs) → ⊥) × Uncrowded xs × TooManyPoints xs × (d ≡ length (groups (tandem_of xs)))
      by (of_bytes w e a k) = absurd (omega (arith, a, (read_refused s w d e).1))
      by (six xs e c a b k) = absurd (omega arith)
      by (seven xs e m w a k) = absurd (omega arith)
      by (eight xs e m u t a b k) = (xs, e, m, u, t, b)
      by (ten xs e p w a b k) = absurd (omega arith)
      by (answers xs e p w a b k) = absurd (omega arith)
