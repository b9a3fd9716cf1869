-- Calls of the entries, computed from the definitions: the analysis of P7 with room to spare, of P7 without, of a row with larger numbers, and of P10;
-- the reader and the writer. So the hypotheses of the entries' laws can be met, and what they say of P7 is what document 01 says.
-- Assumes nothing.
use Rattle.std.specs.Prelude.{ℕ, refl, List, [], ◌∷◌}
use Rattle.std.proofs.Common.{arith}
use Rattle.numbers.specs.Seven.{encode, number_at}
use Rattle.fields.specs.Rule.{rule_at, field_at, seen_after}
use Rattle.fields.specs.Step.{step_on}
use Rattle.sheet.specs.Sheet.{sheet_of, list_of}
use Rattle.sheet.proofs.Figures.{P7}
use Rattle.curves.specs.Curve.{server, neutral, joined, ceil, greatest, catch_up, least_wait, remainder, lateness, delay}
use Rattle.tandem.specs.Sums.{total, any}
use Rattle.tandem.specs.Tandem.{crosses, on, bursts, rates}
use Rattle.row.specs.Groups.{used, from, from_on, groups, grouped, reads}
use Rattle.tandem.specs.Crowded.{crowded, lowest_crowded}
use Rattle.row.specs.Checks.{overlaps, not_nested, too_many}
use Rattle.tandem.specs.OfSheet.{listed, tandem_of}
use Rattle.row.specs.OfSheet.{grid_of, check_of}
use Rattle.tree.specs.Grid.{steps_of, points_of, better, found_of}
use Rattle.tree.specs.Stretch.{group_wait, after_group, curve}
use Rattle.tree.specs.Tree.{stretch_from, top, tree}
use Rattle.tree.specs.Bound.{bound, waits, answer_at, searched}
use Rattle.tree.specs.Plan.{plan, node_of, node_curve, along, top_of}
use Rattle.tree.specs.Large.{too_large, large_at, some, large_node, large_curve}
use Rattle.analysis.specs.Verdict.{listing_of, verdict_on, verdict_of}
use Rattle.desk.specs.Contract.{GullbiscuitReadSheet, GullbiscuitWriteSheet, GullbiscuitAnalyse}
use Rattle.desk.specs.Answered.{Answered}
use Rattle.desk.proofs.DemandLaws.{answered}

-- "The answer record is 3, 4, 4, 1, 2": five bytes, and the sixth byte of the buffer stays
pub p7_answer : GullbiscuitAnalyse P7 (9 ∷ 9 ∷ 9 ∷ 9 ∷ 9 ∷ 9 ∷ []) 5 (3 ∷ 4 ∷ 4 ∷ 1 ∷ 2 ∷ 9 ∷ [])
unfolding verdict_of verdict_on listing_of searched found_of steps_of listed points_of better answer_at bound waits tree top stretch_from curve after_group group_wait
    server neutral
    joined ceil greatest catch_up least_wait remainder lateness delay total any crosses on bursts rates used from from_on groups grouped reads overlaps not_nested
    crowded lowest_crowded too_many too_large large_at some large_node large_curve plan node_of node_curve along top_of tandem_of grid_of check_of sheet_of step_on rule_at
    field_at seen_after number_at encode
p7_answer = record { gives = refl; holds = refl }

-- so demands 2 and 3 speak of it
pub p7_answered : Answered P7 (9 ∷ 9 ∷ 9 ∷ 9 ∷ 9 ∷ 9 ∷ []) 5 (3 ∷ 4 ∷ 4 ∷ 1 ∷ 2 ∷ 9 ∷ [])
p7_answered = answered P7 (9 ∷ 9 ∷ 9 ∷ 9 ∷ 9 ∷ 9 ∷ []) 5 (3 ∷ 4 ∷ 4 ∷ 1 ∷ 2 ∷ 9 ∷ []) p7_answer (omega arith)

-- four bytes are too few: 10, with the length needed, and nothing is written
pub p7_short : GullbiscuitAnalyse P7 (9 ∷ 9 ∷ 9 ∷ 9 ∷ []) 42949672965 (9 ∷ 9 ∷ 9 ∷ 9 ∷ [])
unfolding verdict_of verdict_on listing_of searched found_of steps_of listed points_of better answer_at bound waits tree top stretch_from curve after_group group_wait
    server neutral
    joined ceil greatest catch_up least_wait remainder lateness delay total any crosses on bursts rates used from from_on groups grouped reads overlaps not_nested
    crowded lowest_crowded too_many too_large large_at some large_node large_curve plan node_of node_curve along top_of tandem_of grid_of check_of sheet_of step_on rule_at
    field_at seen_after number_at encode
p7_short = record { gives = refl; holds = refl }

-- "as seven-bit numbers": R 10, T 200; cross 10, 2; watched 8, 3; g 4 has bound and start 202 and wait 201, of two bytes each. The length counts
-- bytes, not numbers.
abbrev pub late : List ℕ
late = 1 ∷ 1 ∷ 10 ∷ 200 ∷ 1 ∷ 1 ∷ 1 ∷ 1 ∷ 10 ∷ 2 ∷ 8 ∷ 3 ∷ 0 ∷ 4 ∷ []

pub late_answer : GullbiscuitAnalyse late (9 ∷ 9 ∷ 9 ∷ 9 ∷ 9 ∷ 9 ∷ 9 ∷ 9 ∷ 9 ∷ []) 8 (202 ∷ 1 ∷ 202 ∷ 1 ∷ 4 ∷ 1 ∷ 201 ∷ 1 ∷ 9 ∷ [])
unfolding verdict_of verdict_on listing_of searched found_of steps_of listed points_of better answer_at bound waits tree top stretch_from curve after_group group_wait
    server neutral
    joined ceil greatest catch_up least_wait remainder lateness delay total any crosses on bursts rates used from from_on groups grouped reads overlaps not_nested
    crowded lowest_crowded too_many too_large large_at some large_node large_curve plan node_of node_curve along top_of tandem_of grid_of check_of sheet_of step_on rule_at
    field_at seen_after number_at encode
late_answer = record { gives = refl; holds = refl }

pub late_short : GullbiscuitAnalyse late (9 ∷ 9 ∷ 9 ∷ 9 ∷ 9 ∷ 9 ∷ 9 ∷ []) 42949672968 (9 ∷ 9 ∷ 9 ∷ 9 ∷ 9 ∷ 9 ∷ 9 ∷ [])
unfolding verdict_of verdict_on listing_of searched found_of steps_of listed points_of better answer_at bound waits tree top stretch_from curve after_group group_wait
    server neutral
    joined ceil greatest catch_up least_wait remainder lateness delay total any crosses on bursts rates used from from_on groups grouped reads overlaps not_nested
    crowded lowest_crowded too_many too_large large_at some large_node large_curve plan node_of node_curve along top_of tandem_of grid_of check_of sheet_of step_on rule_at
    field_at seen_after number_at encode
late_short = record { gives = refl; holds = refl }

-- "R 10, rates 6 and 5 | 7, detail 1": 7 · 2^32 + 1
pub p10_refused : GullbiscuitAnalyse (1 ∷ 1 ∷ 10 ∷ 0 ∷ 1 ∷ 1 ∷ 1 ∷ 1 ∷ 6 ∷ 1 ∷ 5 ∷ 0 ∷ 3 ∷ []) (9 ∷ []) 30064771073 (9 ∷ [])
unfolding verdict_of verdict_on total any crosses on rates used from from_on groups overlaps not_nested crowded lowest_crowded too_many listed tandem_of
    grid_of check_of
    sheet_of step_on rule_at field_at seen_after number_at
p10_refused = record { gives = refl; holds = refl }

-- the reader and the writer: P7's thirteen numbers are its thirteen bytes; a list without g ends at 12
pub p7_read : GullbiscuitReadSheet P7 (0 ∷ 0 ∷ 0 ∷ 0 ∷ 0 ∷ 0 ∷ 0 ∷ 0 ∷ 0 ∷ 0 ∷ 0 ∷ 0 ∷ 0 ∷ 9 ∷ []) 13
    (1 ∷ 1 ∷ 10 ∷ 0 ∷ 1 ∷ 1 ∷ 1 ∷ 10 ∷ 6 ∷ 12 ∷ 4 ∷ 0 ∷ 4 ∷ 9 ∷ [])
unfolding sheet_of step_on rule_at field_at seen_after number_at
p7_read = record { gives = refl; holds = refl }

pub short_written : GullbiscuitWriteSheet (1 ∷ 1 ∷ 10 ∷ 0 ∷ 1 ∷ 1 ∷ 1 ∷ 10 ∷ 6 ∷ 12 ∷ 4 ∷ 0 ∷ []) (9 ∷ []) 4294967308 (9 ∷ [])
unfolding list_of step_on rule_at field_at seen_after
short_written = record { gives = refl; holds = refl }
