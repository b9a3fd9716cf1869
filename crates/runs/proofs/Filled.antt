-- One run of P1 that keeps every premise, and in which thirty watched bytes are inside the row at the end of slot 2: the backlog is reached, and what is
-- said of the bytes inside is said of every slot of the record.
-- Assumes nothing.
use Rattle.std.specs.Prelude.{◌≡◌, refl, [], ◌∷◌, map, None}
use Rattle.std.proofs.Common.{arith}
use Rattle.numbers.specs.Seven.{number_at}
use Rattle.fields.specs.Rule.{rule_at, seen_after, field_at}
use Rattle.fields.specs.Step.{step_on}
use Rattle.sheet.specs.Sheet.{sheet_of, these}
use Rattle.sheet.proofs.ValidLaws.{read_valid}
use Rattle.curves.specs.Slots.{bucket, serve}
use Rattle.curves.specs.Curve.{neutral, joined, greatest, backlog, server as serverShape}
use Rattle.row.proofs.OfSheetLaws.{passed_row}
use Rattle.tandem.specs.Sums.{total, any}
use Rattle.tandem.specs.Tandem.{crosses, on, rates}
use Rattle.row.specs.Groups.{used, from, from_on, groups}
use Rattle.tandem.specs.Crowded.{crowded, lowest_crowded}
use Rattle.row.specs.Checks.{overlaps, not_nested, too_many}
use Rattle.tandem.specs.OfSheet.{listed, tandem_of}
use Rattle.row.specs.OfSheet.{grid_of, check_of}
use Rattle.tree.specs.Stretch.{curve}
use Rattle.tree.specs.Tree.{stretch_from, top, tree}
use Rattle.tree.specs.Bound.{backlog_bound}
use Rattle.runs.specs.Lines.{keep, by}
use Rattle.runs.specs.Run.{Keeps}
use Rattle.runs.specs.Inside.{inside_at, Inside}
use Rattle.runs.specs.FilledRun.{sheet, run}
use Rattle.runs.specs.RunTests.{each, each_of, begins, same, on_path, in_order, relayed, keeps_buckets, guarantees, keeps_all}
use Rattle.runs.proofs.RunTestLaws.{keeps_all_lem}
use Rattle.runs.proofs.InsideLaws.{inside_row}

pub sheet_read : sheet_of sheet ≡ these sheet
unfolding sheet_of step_on rule_at seen_after field_at number_at
sheet_read = refl

pub sheet_passed : check_of sheet ≡ None
unfolding check_of tandem_of listed grid_of not_nested overlaps lowest_crowded crowded too_many rates total crosses groups from_on from used any on
sheet_passed = refl

-- the run keeps every premise up to the end of slot 5, and up to the end of slot 2
pub run_keeps : Keeps (tandem_of sheet) run 5
unfolding tandem_of listed keeps_all on_path in_order relayed keeps_buckets guarantees each each_of begins same any crosses by keep bucket serve
run_keeps = keeps_all_lem (tandem_of sheet) run 5 refl

pub front_keeps : Keeps (tandem_of sheet) run 2
unfolding tandem_of listed keeps_all on_path in_order relayed keeps_buckets guarantees each each_of begins same any crosses by keep bucket serve
front_keeps = keeps_all_lem (tandem_of sheet) run 2 refl

-- 20 + 5 · 2; the row has no group, and so one point
pub backlog_is : backlog_bound (tandem_of sheet) (λ k. 0) (tree (tandem_of sheet)) ≡ 30
unfolding backlog_bound tandem_of listed groups from_on from used any on tree stretch_from top curve joined neutral serverShape greatest backlog bucket
backlog_is = refl

-- the bytes inside at the end of slots 0 to 5
pub inside_each : map (inside_at (tandem_of sheet) run) (0 ∷ 1 ∷ 2 ∷ 3 ∷ 4 ∷ 5 ∷ []) ≡ 0 ∷ 25 ∷ 30 ∷ 20 ∷ 10 ∷ 0 ∷ []
unfolding tandem_of listed by keep
inside_each = refl

-- so what is said of the bytes inside speaks of this run, with its backlog
pub run_inside : Inside (tandem_of sheet) run 5 30
run_inside =
    rw backlog_is at (inside_row (tandem_of sheet) (passed_row sheet (read_valid sheet sheet sheet_read) sheet_passed).accepts (λ k. 0) run 5 run_keeps)

-- and no smaller number would do, in a record that ends with slot 2 neither
pub backlog_reached : (Inside (tandem_of sheet) run 5 29 → ⊥) × (Inside (tandem_of sheet) run 2 29 → ⊥)
unfolding tandem_of listed by keep
backlog_reached = (λ h. absurd (omega (arith, h 2 (omega arith))), λ h. absurd (omega (arith, h 2 (omega arith))))
