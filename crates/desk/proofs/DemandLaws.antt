-- What the entry of the analysis gives, once more in the words of the demands: what lies past the first 1,024 bytes never changes it, and a call that
-- succeeds has answered as demands 2 and 3 say.
-- Assumes nothing.
use Rattle.std.specs.Prelude.{ℕ, ◌<◌, ◌≡◌, List, [], ◌++◌, Ok, length, take, drop}
use Rattle.std.proofs.Common.{sym, ap, ◌∙◌, subst, append_assoc, zero-add, arith}
use Rattle.numbers.specs.Seven.{encode, number_at}
use Rattle.numbers.proofs.SevenLaws.{Bytes, read_written}
use Rattle.sheet.specs.Sheet.{these, sheet_of}
use Rattle.sheet.specs.Valid.{mode}
use Rattle.sheet.proofs.FrontLaws.{front_verdict}
use Rattle.sheet.proofs.ValidLaws.{read_valid}
use Rattle.sheet.proofs.AcceptLaws.{read_refused}
use Rattle.tandem.specs.Tandem.{size}
use Rattle.tandem.specs.OfSheet.{tandem_of}
use Rattle.row.proofs.OfSheetLaws.{grid_range, passed_row}
use Rattle.tree.specs.Bound.{searched}
use Rattle.tree.specs.Chosen.{Chosen}
use Rattle.tree.proofs.ChosenLaws.{searched_chosen, chosen_unique}
use Rattle.runs.specs.Run.{Run, Keeps}
use Rattle.runs.specs.Demand.{OnTime, Within, bound_of}
use Rattle.runs.proofs.DemandLaws.{demand_three, demand_three_in_order}
use Rattle.analysis.specs.Verdict.{grid_used, listing_of, verdict_of}
use Rattle.analysis.proofs.VerdictLaws.{listing_small}
use Rattle.desk.specs.Contract.{GullbiscuitAnalyse}
use Rattle.desk.specs.Says.{Passes, answer_of, Says, of_bytes, six, seven, eight, ten, answers}
use Rattle.desk.proofs.SaysLaws.{passes, success_says}
use Rattle.desk.specs.Answered.{answer_record, Answered}

-- "The program takes at most the first 1,024 bytes of standard input, which never changes the verdict."
pub front_analysis : (s : List ℕ) → Bytes s → verdict_of (take 1024 s) ≡ verdict_of s
unfolding verdict_of
front_analysis s bytes = rw (front_verdict s bytes)

answer_of_lem : (s before : List ℕ) (r : ℕ) (after xs : List ℕ) → sheet_of s ≡ these xs → Passes xs → r ≡ length (answer_of xs)
    → after ≡ answer_of xs ++ drop (length (answer_of xs)) before → Answered s before r after
unfolding listing_of bound_of
answer_of_lem s before r after xs read p d h =
    let valid = read_valid s xs read in
    let passed = passes s xs read p in
    let ok = (passed_row xs valid passed).accepts in
    let found = searched (tandem_of xs) (mode xs) (grid_used xs) in
    record {
      numbers = xs;
      read = read;
      start = found.start;
      best = found.best;
      record_is = rw d h;
      length_is = d;
      first = rw (h, append_assoc)
          (read_written [] found.best.delay _ (omega (arith, (listing_small xs valid passed).bound))
          ∙ ap (λ (n : ℕ). Ok (found.best.delay, n)) (zero-add (length (encode found.best.delay))));
      chosen = searched_chosen (tandem_of xs) ok (mode xs) (grid_used xs) valid.modes.most (omega (arith, (grid_range xs valid).0));
      on_time = demand_three s xs read passed;
      in_order = demand_three_in_order s xs read passed;
    }

-- success is refusal 0, that is a number below 2^32
pub answered : (s before : List ℕ) (r : ℕ) (after : List ℕ) → GullbiscuitAnalyse s before r after → r < 4294967296 → Answered s before r after
answered s before r after call h = by (success_says s before r after call h)
  where
    by : Says s before 0 r after → Answered s before r after
    by (of_bytes w e a k) = absurd (omega (arith, a, (read_refused s w r e).0))
    by (six xs e c a b k) = absurd (omega arith)
    by (seven xs e m w a k) = absurd (omega arith)
    by (eight xs e m u t a b k) = absurd (omega arith)
    by (ten xs e p w a b k) = absurd (omega arith)
    by (answers xs e p w a b k) = answer_of_lem s before r after xs e p b k

-- so the number that stands first in the buffer bounds every run on the sheet's row that keeps the premises: each watched byte is out in time, and byte
-- for byte, in order
pub first_bounds : (s before : List ℕ) (r : ℕ) (after : List ℕ) → Answered s before r after → (xs : List ℕ) → sheet_of s ≡ these xs
    → (d next : ℕ) → number_at after 0 ≡ Ok (d, next) → {B : Type 0} (run : Run B) (H : ℕ) → Keeps (tandem_of xs) run H
    → OnTime (tandem_of xs) run H d × Within run H 1 (size (tandem_of xs)) d
first_bounds s before r after a xs read d next e run H keeps =
    let x : xs ≡ a.numbers = cc (a.read, read) in
    let p : ◌≡◌ {A = ℕ × ℕ} (a.best.delay, length (encode a.best.delay)) (d, next) = cc (a.first, e) in
    let b : a.best.delay ≡ d = ap (λ (p : ℕ × ℕ). p.0) p in
    let k = subst (λ (xs : List ℕ). Keeps (tandem_of xs) run H) x keeps in
    subst (λ (xs : List ℕ). OnTime (tandem_of xs) run H d × Within run H 1 (size (tandem_of xs)) d) (sym x)
    (subst (λ (d : ℕ). OnTime (tandem_of a.numbers) run H d × Within run H 1 (size (tandem_of a.numbers)) d) b (a.on_time run H k, a.in_order run H k))

-- and what they say leaves one number and one content of the buffer
pub answered_unique : (s before : List ℕ) (r r' : ℕ) (after after' : List ℕ) → Answered s before r after → Answered s before r' after'
    → (r ≡ r') × (after ≡ after')
answered_unique s before r r' after after' a b =
    let xs : b.numbers ≡ a.numbers = cc (a.read, b.read) in
    let chosen = subst (λ (xs : List ℕ). Chosen (tandem_of xs) (mode xs) (grid_used xs) b.start b.best) xs b.chosen in
    let one =
    chosen_unique (tandem_of a.numbers) (mode a.numbers) (grid_used a.numbers) a.start b.start a.best b.best
    (read_valid s a.numbers a.read).modes.most a.chosen chosen in
    let bytes : answer_record a.numbers a.start a.best ≡ answer_record b.numbers b.start b.best = rw (xs, one.0, one.1) in
    let r-is : r ≡ r' = a.length_is ∙ ap length bytes ∙ sym b.length_is in (
      r-is,
      a.record_is ∙ ap (λ (l : List ℕ). l ++ drop r before) bytes ∙ ap (λ (n : ℕ). answer_record b.numbers b.start b.best ++ drop n before) r-is
          ∙ sym b.record_is,
    )
