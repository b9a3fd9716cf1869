-- The report of P7, which document 01 prints in full, the report of P8, whose groups differ, and the refusals of P10 and of a sheet with no byte.
-- Assumes nothing.
use Rattle.std.specs.Prelude.{◌≡◌, refl, List, [], ◌∷◌, ◌++◌, Ok, Err, ℕ}
use Rattle.numbers.specs.Seven.{number_at}
use Rattle.fields.specs.Rule.{rule_at, field_at, seen_after}
use Rattle.fields.specs.Step.{step_on}
use Rattle.sheet.specs.Sheet.{sheet_of}
use Rattle.curves.specs.Curve.{server, neutral, joined, ceil, greatest, catch_up, least_wait, remainder, lateness, delay}
use Rattle.tandem.specs.Sums.{total, any}
use Rattle.tandem.specs.Tandem.{crosses, on, bursts, rates}
use Rattle.row.specs.Groups.{used, from, from_on, groups, grouped, reads}
use Rattle.tandem.specs.Crowded.{crowded, lowest_crowded}
use Rattle.row.specs.Checks.{overlaps, not_nested, too_many}
use Rattle.tandem.specs.OfSheet.{listed, tandem_of}
use Rattle.row.specs.OfSheet.{grid_of, check_of}
use Rattle.tree.specs.Grid.{steps_of, points_of, better, found_of}
use Rattle.tree.specs.Stretch.{group_wait, after_group, curve}
use Rattle.tree.specs.Tree.{stretch_from, top, tree}
use Rattle.tree.specs.Bound.{bound, waits, answer_at, searched}
use Rattle.tree.specs.Plan.{plan, node_of, node_curve, along, top_of}
use Rattle.tree.specs.Large.{too_large, large_at, some, large_node, large_curve}
use Rattle.text.specs.Decimal.{decimal}
use Rattle.text.specs.Lines.{field, line, refusal_line}
use Rattle.analysis.specs.Verdict.{listing_of, verdict_on, verdict_of}
use Rattle.listing.specs.Text.{group_line, group_lines, figure_lines, report_of, printed_of}

-- P7: R 10, T 0; cross 10, 6; watched 12, 4; g 4
abbrev pub sheet7 : List ℕ
sheet7 = 1 ∷ 1 ∷ 10 ∷ 0 ∷ 1 ∷ 1 ∷ 1 ∷ 10 ∷ 6 ∷ 12 ∷ 4 ∷ 0 ∷ 4 ∷ []

-- "bound 3", "start 4", "grid 4", "group 1 1 wait 2"
abbrev pub text7 : List ℕ
text7 =
    (98 ∷ 111 ∷ 117 ∷ 110 ∷ 100 ∷ 32 ∷ 51 ∷ 10 ∷ [])
    ++ (115 ∷ 116 ∷ 97 ∷ 114 ∷ 116 ∷ 32 ∷ 52 ∷ 10 ∷ [])
    ++ (103 ∷ 114 ∷ 105 ∷ 100 ∷ 32 ∷ 52 ∷ 10 ∷ [])
    ++ (103 ∷ 114 ∷ 111 ∷ 117 ∷ 112 ∷ 32 ∷ 49 ∷ 32 ∷ 49 ∷ 32 ∷ 119 ∷ 97 ∷ 105 ∷ 116 ∷ 32 ∷ 50 ∷ 10 ∷ [])

pub report7 : report_of (verdict_of sheet7) ≡ text7
unfolding report_of refusal_line figure_lines group_lines group_line line field decimal verdict_of verdict_on listing_of searched found_of steps_of listed
    points_of better answer_at bound waits tree top stretch_from curve after_group group_wait server neutral joined ceil greatest catch_up least_wait remainder
    lateness delay total any crosses on bursts rates used from from_on groups grouped reads overlaps not_nested crowded lowest_crowded too_many too_large
    large_at some large_node large_curve plan node_of node_curve along top_of tandem_of grid_of check_of sheet_of step_on rule_at field_at seen_after number_at
report7 = refl

-- P8: three servers 10, 1; cross 4, 2 on (1,1), (2,3), (3,3); watched 6, 2; g 2
abbrev pub sheet8 : List ℕ
sheet8 = 1 ∷ 3 ∷ 10 ∷ 1 ∷ 10 ∷ 1 ∷ 10 ∷ 1 ∷ 3 ∷ 1 ∷ 1 ∷ 4 ∷ 2 ∷ 2 ∷ 3 ∷ 4 ∷ 2 ∷ 3 ∷ 3 ∷ 4 ∷ 2 ∷ 6 ∷ 2 ∷ 0 ∷ 2 ∷ []

-- "bound 6", "start 6", "grid 2", "group 1 1 wait 2", "group 2 3 wait 4", "group 3 3 wait 2": the grid is not the start, a group's last server is not its
-- first, and the groups stand in their order, each with its own wait
abbrev pub text8 : List ℕ
text8 =
    (98 ∷ 111 ∷ 117 ∷ 110 ∷ 100 ∷ 32 ∷ 54 ∷ 10 ∷ [])
    ++ (115 ∷ 116 ∷ 97 ∷ 114 ∷ 116 ∷ 32 ∷ 54 ∷ 10 ∷ [])
    ++ (103 ∷ 114 ∷ 105 ∷ 100 ∷ 32 ∷ 50 ∷ 10 ∷ [])
    ++ (103 ∷ 114 ∷ 111 ∷ 117 ∷ 112 ∷ 32 ∷ 49 ∷ 32 ∷ 49 ∷ 32 ∷ 119 ∷ 97 ∷ 105 ∷ 116 ∷ 32 ∷ 50 ∷ 10 ∷ [])
    ++ (103 ∷ 114 ∷ 111 ∷ 117 ∷ 112 ∷ 32 ∷ 50 ∷ 32 ∷ 51 ∷ 32 ∷ 119 ∷ 97 ∷ 105 ∷ 116 ∷ 32 ∷ 52 ∷ 10 ∷ [])
    ++ (103 ∷ 114 ∷ 111 ∷ 117 ∷ 112 ∷ 32 ∷ 51 ∷ 32 ∷ 51 ∷ 32 ∷ 119 ∷ 97 ∷ 105 ∷ 116 ∷ 32 ∷ 50 ∷ 10 ∷ [])

pub report8 : report_of (verdict_of sheet8) ≡ text8
unfolding report_of refusal_line figure_lines group_lines group_line line field decimal verdict_of verdict_on listing_of searched found_of steps_of listed
    points_of better answer_at bound waits tree top stretch_from curve after_group group_wait server neutral joined ceil greatest catch_up least_wait remainder
    lateness delay total any crosses on bursts rates used from from_on groups grouped reads overlaps not_nested crowded lowest_crowded too_many too_large
    large_at some large_node large_curve plan node_of node_curve along top_of tandem_of grid_of check_of sheet_of step_on rule_at field_at seen_after number_at
report8 = refl

-- P10: R 10, rates 6 and 5
abbrev pub sheet10 : List ℕ
sheet10 = 1 ∷ 1 ∷ 10 ∷ 0 ∷ 1 ∷ 1 ∷ 1 ∷ 1 ∷ 6 ∷ 1 ∷ 5 ∷ 0 ∷ 3 ∷ []

-- "refused 7 at 1"
abbrev pub text10 : List ℕ
text10 = 114 ∷ 101 ∷ 102 ∷ 117 ∷ 115 ∷ 101 ∷ 100 ∷ 32 ∷ 55 ∷ 32 ∷ 97 ∷ 116 ∷ 32 ∷ 49 ∷ 10 ∷ []

pub report10 : report_of (verdict_of sheet10) ≡ text10
unfolding report_of refusal_line line field decimal verdict_of verdict_on listed total any crosses on bursts rates used from from_on groups overlaps
    not_nested crowded lowest_crowded too_many tandem_of grid_of check_of sheet_of step_on rule_at field_at seen_after number_at
report10 = refl

-- "refused 1 at 0": the first number is missing
abbrev pub text0 : List ℕ
text0 = 114 ∷ 101 ∷ 102 ∷ 117 ∷ 115 ∷ 101 ∷ 100 ∷ 32 ∷ 49 ∷ 32 ∷ 97 ∷ 116 ∷ 32 ∷ 48 ∷ 10 ∷ []

pub report0 : report_of (verdict_of []) ≡ text0
unfolding report_of refusal_line line field decimal verdict_of verdict_on sheet_of step_on rule_at field_at seen_after number_at
report0 = refl

-- a report is an answer of so many bytes, and a refusal is none
pub printed7 : printed_of (verdict_of sheet7) ≡ Ok 40
unfolding printed_of report_of refusal_line figure_lines group_lines group_line line field decimal verdict_of verdict_on listing_of searched found_of steps_of listed
    points_of better answer_at bound waits tree top stretch_from curve after_group group_wait server neutral joined ceil greatest catch_up least_wait remainder
    lateness delay total any crosses on bursts rates used from from_on groups grouped reads overlaps not_nested crowded lowest_crowded too_many too_large
    large_at some large_node large_curve plan node_of node_curve along top_of tandem_of grid_of check_of sheet_of step_on rule_at field_at seen_after number_at
printed7 = refl

pub printed0 : printed_of (verdict_of []) ≡ Err (record { length = 15 })
unfolding printed_of report_of refusal_line line field decimal verdict_of verdict_on sheet_of step_on rule_at field_at seen_after number_at
printed0 = refl
