-- One run of P3 that keeps every premise, and in which a watched byte leaves one slot after it entered: the premises of demand 3 are no empty
-- set, and its bound is reached.
-- Assumes nothing.
use Rattle.std.specs.Prelude.{ℕ, ◌≡◌, refl, None}
use mathlib.Core.List.{Memᴰ}
use Rattle.std.proofs.Common.{arith}
use Rattle.numbers.specs.Seven.{number_at}
use Rattle.fields.specs.Rule.{rule_at, seen_after, field_at}
use Rattle.fields.specs.Step.{step_on}
use Rattle.sheet.specs.Sheet.{sheet_of, these}
use Rattle.curves.specs.Slots.{bucket, serve}
use Rattle.curves.specs.Curve.{neutral, joined, ceil, greatest, lateness, delay, server as serverShape}
use Rattle.tandem.specs.Sums.{total, any}
use Rattle.tandem.specs.Tandem.{crosses, on, rates}
use Rattle.row.specs.Groups.{used, from, from_on, groups}
use Rattle.tandem.specs.Crowded.{crowded, lowest_crowded}
use Rattle.row.specs.Checks.{overlaps, not_nested, too_many}
use Rattle.tandem.specs.OfSheet.{listed, tandem_of}
use Rattle.row.specs.OfSheet.{grid_of, check_of}
use Rattle.tree.specs.Stretch.{curve}
use Rattle.tree.specs.Tree.{stretch_from, top, tree}
use Rattle.tree.specs.Grid.{steps_of, points_of, better, found_of}
use Rattle.tree.specs.Bound.{bound, waits, answer_at, searched}
use Rattle.runs.specs.Lines.{keep, by}
use Rattle.runs.specs.Run.{Keeps, joined_by, left_by}
use Rattle.runs.specs.Demand.{OnTime, bound_of}
use Rattle.runs.specs.WitnessRun.{sheet, run}
use Rattle.runs.specs.RunTests.{each, each_of, begins, same, has, on_path, in_order, relayed, keeps_buckets, guarantees, keeps_all}
use Rattle.runs.proofs.RunTestLaws.{keeps_all_lem, has_is, has_not}
use Rattle.runs.proofs.DemandLaws.{demand_three}

pub sheet_read : sheet_of sheet ≡ these sheet
unfolding sheet_of step_on rule_at seen_after field_at number_at
sheet_read = refl

pub sheet_passed : check_of sheet ≡ None
unfolding check_of tandem_of listed grid_of not_nested overlaps lowest_crowded crowded too_many rates total crosses groups from_on from used any on
sheet_passed = refl

-- the run keeps every premise up to the end of slot 2
pub run_keeps : Keeps (tandem_of sheet) run 2
unfolding tandem_of listed keeps_all on_path in_order relayed keeps_buckets guarantees each each_of begins same any crosses by keep bucket serve
run_keeps = keeps_all_lem (tandem_of sheet) run 2 refl

-- "P3 | as P2, watched 6, 5 | bound 1"
pub bound_is : bound_of sheet ≡ 1
unfolding bound_of searched found_of answer_at waits bound steps_of points_of better tandem_of listed grid_of groups from_on from used any on
    tree stretch_from top curve joined neutral serverShape delay lateness greatest ceil
bound_is = refl

-- byte 10 entered in slot 1, is not out by the end of slot 1, and is out by the end of slot 2
pub late_byte : (run.of 10 ≡ 0) × Memᴰ {A = ℕ} 10 (joined_by run 1 1) × (Memᴰ {A = ℕ} 10 (left_by run 1 1) → ⊥)
    × Memᴰ {A = ℕ} 10 (left_by run 1 2)
unfolding has by
late_byte = (refl, has_is 10 (joined_by run 1 1) refl, has_not 10 (left_by run 1 1) refl, has_is 10 (left_by run 1 2) refl)

-- so demand 3 speaks of this run, with its bound
pub run_on_time : OnTime (tandem_of sheet) run 2 1
run_on_time = rw bound_is at (demand_three sheet sheet sheet_read sheet_passed run 2 run_keeps)

-- and no smaller number would do
pub bound_reached : OnTime (tandem_of sheet) run 2 0 → ⊥
bound_reached h = late_byte.2 (h 1 (omega arith) 10 refl late_byte.1)
