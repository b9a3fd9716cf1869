-- One run on two servers with latencies. A cross flow ends after server 1; another enters at server 2, before and between the bytes that come
-- from server 1; and the watched flow's burst has grown there. The run keeps every premise, so none of them asks more than that, and a
-- watched byte leaves in the last slot that its bound allows.
-- Assumes nothing.
use Rattle.std.specs.Prelude.{ℕ, zero, suc, ◌≡◌, refl, cond, ltb, None}
use mathlib.Core.List.{List, [], ◌∷◌, Memᴰ}
use Rattle.std.proofs.Common.{arith}
use Rattle.numbers.specs.Seven.{number_at}
use Rattle.fields.specs.Rule.{rule_at, seen_after, field_at}
use Rattle.fields.specs.Step.{step_on}
use Rattle.sheet.specs.Sheet.{sheet_of, these}
use Rattle.curves.specs.Slots.{bucket, serve}
use Rattle.curves.specs.Curve.{neutral, joined, ceil, greatest, catch_up, least_wait, remainder, lateness, delay, server as serverShape}
use Rattle.tandem.specs.Sums.{total, any}
use Rattle.tandem.specs.Tandem.{crosses, on, bursts, rates}
use Rattle.row.specs.Groups.{used, from, from_on, groups}
use Rattle.tandem.specs.Crowded.{crowded, lowest_crowded}
use Rattle.row.specs.Checks.{overlaps, not_nested, too_many}
use Rattle.tandem.specs.OfSheet.{listed, tandem_of}
use Rattle.row.specs.OfSheet.{grid_of, check_of}
use Rattle.tree.specs.Stretch.{group_wait, after_group, curve}
use Rattle.tree.specs.Tree.{stretch_from, top, tree}
use Rattle.tree.specs.Grid.{steps_of, points_of, better, found_of}
use Rattle.tree.specs.Bound.{bound, waits, answer_at, searched}
use Rattle.runs.specs.Lines.{keep, by, Prefix}
use Rattle.runs.specs.Run.{Run, of_flow, Keeps, joined_by, left_by}
use Rattle.runs.specs.Demand.{OnTime, bound_of}
use Rattle.runs.specs.RunTests.{each, each_of, begins, same, has, on_path, in_order, relayed, keeps_buckets, guarantees, keeps_all}
use Rattle.runs.proofs.RunTestLaws.{keeps_all_lem, has_is, has_not}
use Rattle.runs.proofs.DemandLaws.{demand_three, demand_three_in_order}

-- servers 3, 1 and 3, 1; cross 2, 1 on (1,1) and 1, 1 on (2,2); watched 1, 1; mode 0, g 3
abbrev pub sheet : List ℕ
sheet = 1 ∷ 2 ∷ 3 ∷ 1 ∷ 3 ∷ 1 ∷ 2 ∷ 1 ∷ 1 ∷ 2 ∷ 1 ∷ 2 ∷ 2 ∷ 1 ∷ 1 ∷ 1 ∷ 1 ∷ 0 ∷ 3 ∷ []

-- in slot 1 bytes 0 to 2 of flow 1 join server 1, and behind them the watched bytes 3 and 4; in slot 2 the watched byte 7
abbrev pub enters : ℕ → List ℕ
enters zero = []
enters (suc zero) = 0 ∷ 1 ∷ 2 ∷ 3 ∷ 4 ∷ []
enters (suc (suc zero)) = 7 ∷ []
enters (suc (suc (suc t))) = []

-- nothing leaves it in slot 1, flow 1's bytes leave in slot 2 and the watched ones in slot 3: three in one slot, where their bucket allows two
-- as they enter
abbrev pub passes : ℕ → List ℕ
passes zero = []
passes (suc zero) = []
passes (suc (suc zero)) = 0 ∷ 1 ∷ 2 ∷ []
passes (suc (suc (suc zero))) = 3 ∷ 4 ∷ 7 ∷ []
passes (suc (suc (suc (suc t)))) = []

-- in that slot bytes 5 and 6 of flow 2 enter at server 2, one before the watched bytes and one between them
abbrev pub meets : ℕ → List ℕ
meets zero = []
meets (suc zero) = []
meets (suc (suc zero)) = []
meets (suc (suc (suc zero))) = 5 ∷ 3 ∷ 6 ∷ 4 ∷ 7 ∷ []
meets (suc (suc (suc (suc t)))) = []

-- three of these leave in slot 4, and two in slot 5
abbrev pub leaves : ℕ → List ℕ
leaves zero = []
leaves (suc zero) = []
leaves (suc (suc zero)) = []
leaves (suc (suc (suc zero))) = []
leaves (suc (suc (suc (suc zero)))) = 5 ∷ 3 ∷ 6 ∷ []
leaves (suc (suc (suc (suc (suc zero))))) = 4 ∷ 7 ∷ []
leaves (suc (suc (suc (suc (suc (suc t)))))) = []

-- bytes 0 to 2 are of flow 1, bytes 5 and 6 of flow 2, and 3, 4 and 7 of the watched one
abbrev pub run : Run ℕ
run = record {
  of = λ b. cond (ltb b 3) 1 (cond (ltb b 5) 0 (cond (ltb b 7) 2 0));
  join = λ j. cond (ltb j 2) enters meets;
  leave = λ j. cond (ltb j 2) passes leaves;
}

pub sheet_read : sheet_of sheet ≡ these sheet
unfolding sheet_of step_on rule_at seen_after field_at number_at
sheet_read = refl

pub sheet_passed : check_of sheet ≡ None
unfolding check_of tandem_of listed grid_of not_nested overlaps lowest_crowded crowded too_many rates total crosses groups from_on from used any on
sheet_passed = refl

-- the run keeps every premise up to the end of slot 5
pub run_keeps : Keeps (tandem_of sheet) run 5
unfolding tandem_of listed keeps_all on_path in_order relayed keeps_buckets guarantees each each_of begins same any crosses by keep bucket serve
run_keeps = keeps_all_lem (tandem_of sheet) run 5 refl

pub bound_is : bound_of sheet ≡ 4
unfolding bound_of searched found_of answer_at waits bound steps_of points_of better tandem_of listed grid_of groups from_on from used any on
    tree stretch_from top curve joined neutral serverShape after_group group_wait least_wait catch_up remainder bursts rates total delay lateness greatest ceil
bound_is = refl

-- demand 3 says so of this run, with its bound
pub run_on_time : OnTime (tandem_of sheet) run 5 4
run_on_time = rw bound_is at (demand_three sheet sheet sheet_read sheet_passed run 5 run_keeps)

-- that is: byte 4, which entered in slot 1, is out by the end of slot 5, the record's last
pub out_in_time : Memᴰ {A = ℕ} 4 (left_by run 2 5)
unfolding tandem_of listed has by
out_in_time = run_on_time 1 (omega arith) 4 refl (has_is 4 (joined_by run 1 1) refl)

-- and in order: bytes 3 and 4, the watched ones that entered in slot 1, are the first of the watched ones that are out by then
pub out_in_order : Prefix (keep (of_flow run 0) (joined_by run 1 1)) (keep (of_flow run 0) (left_by run 2 5))
unfolding tandem_of listed
out_in_order = (rw bound_is at (demand_three_in_order sheet sheet sheet_read sheet_passed run 5 run_keeps)) 1 (omega arith)

-- and no smaller number would do
pub bound_reached : OnTime (tandem_of sheet) run 5 3 → ⊥
unfolding tandem_of listed has by
bound_reached h = has_not 4 (left_by run 2 4) refl (h 1 (omega arith) 4 refl (has_is 4 (joined_by run 1 1) refl))
