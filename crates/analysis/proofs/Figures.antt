-- P1 to P10 of document 01, from the bytes of a sheet to its answer: one statement over one table.
-- Assumes nothing.
use Rattle.std.specs.Prelude.{◌≡◌, refl, List, [], ◌∷◌, map, ℕ}
use Rattle.numbers.specs.Seven.{number_at}
use Rattle.fields.specs.Refusal.{refusal}
use Rattle.fields.specs.Rule.{rule_at, field_at, seen_after}
use Rattle.fields.specs.Step.{step_on}
use Rattle.sheet.specs.Sheet.{sheet_of}
use Rattle.curves.specs.Curve.{server, neutral, joined, ceil, greatest, catch_up, least_wait, remainder, lateness, delay}
use Rattle.tandem.specs.Sums.{total, any}
use Rattle.tandem.specs.Tandem.{crosses, on, bursts, rates}
use Rattle.row.specs.Groups.{used, from, from_on, groups, grouped, reads}
use Rattle.tandem.specs.Crowded.{crowded, lowest_crowded}
use Rattle.row.specs.Checks.{overlaps, not_nested, too_many}
use Rattle.tandem.specs.OfSheet.{listed, tandem_of}
use Rattle.row.specs.OfSheet.{grid_of, check_of}
use Rattle.tree.specs.Grid.{steps_of, points_of, better, found_of}
use Rattle.tree.specs.Stretch.{group_wait, after_group, curve}
use Rattle.tree.specs.Tree.{stretch_from, top, tree}
use Rattle.tree.specs.Bound.{bound, waits, answer_at, searched}
use Rattle.tree.specs.Plan.{plan, node_of, node_curve, along, top_of}
use Rattle.tree.specs.Large.{too_large, large_at, some, large_node, large_curve}
use Rattle.analysis.specs.Verdict.{Verdict, refused, bounded, listing_of, verdict_on, verdict_of, record_numbers}

-- refusal and detail; or 0 and behind it the numbers of the answer record: bound, start, g, number of groups, waits
abbrev pub answers : Verdict → List ℕ
answers (refused w d) = refusal w ∷ d ∷ []
answers (bounded l) = 0 ∷ record_numbers l

pub record Figure : Type 0 where
  pub sheet : List ℕ
  pub says : List ℕ

abbrev figure : List ℕ → List ℕ → Figure
figure s a = record { sheet = s; says = a }

-- six servers of rate R, a group on each, g 9
abbrev six_groups : ℕ → ℕ → List ℕ
six_groups R mode =
    1 ∷ 6 ∷ R ∷ 0 ∷ R ∷ 0 ∷ R ∷ 0 ∷ R ∷ 0 ∷ R ∷ 0 ∷ R ∷ 0
    ∷ 6 ∷ 1 ∷ 1 ∷ 1 ∷ 1 ∷ 2 ∷ 2 ∷ 1 ∷ 1 ∷ 3 ∷ 3 ∷ 1 ∷ 1 ∷ 4 ∷ 4 ∷ 1 ∷ 1 ∷ 5 ∷ 5 ∷ 1 ∷ 1 ∷ 6 ∷ 6 ∷ 1 ∷ 1
    ∷ 1 ∷ 1 ∷ mode ∷ 9 ∷ []

abbrev pub table : List Figure
table =
    -- P1 to P10
    figure (1 ∷ 1 ∷ 10 ∷ 2 ∷ 0 ∷ 20 ∷ 5 ∷ 0 ∷ 3 ∷ []) (0 ∷ 4 ∷ 4 ∷ 3 ∷ 0 ∷ [])
    ∷ figure (1 ∷ 1 ∷ 10 ∷ 0 ∷ 0 ∷ 5 ∷ 5 ∷ 0 ∷ 3 ∷ []) (0 ∷ 0 ∷ 0 ∷ 3 ∷ 0 ∷ [])
    ∷ figure (1 ∷ 1 ∷ 10 ∷ 0 ∷ 0 ∷ 6 ∷ 5 ∷ 0 ∷ 3 ∷ []) (0 ∷ 1 ∷ 1 ∷ 3 ∷ 0 ∷ [])
    ∷ figure (1 ∷ 1 ∷ 10 ∷ 1 ∷ 1 ∷ 1 ∷ 1 ∷ 10 ∷ 2 ∷ 8 ∷ 3 ∷ 0 ∷ 4 ∷ []) (0 ∷ 3 ∷ 3 ∷ 4 ∷ 1 ∷ 2 ∷ [])
    ∷ figure (1 ∷ 1 ∷ 10 ∷ 0 ∷ 1 ∷ 1 ∷ 1 ∷ 10 ∷ 6 ∷ 12 ∷ 4 ∷ 0 ∷ 2 ∷ []) (0 ∷ 4 ∷ 4 ∷ 2 ∷ 1 ∷ 1 ∷ [])
    ∷ figure (1 ∷ 1 ∷ 10 ∷ 0 ∷ 1 ∷ 1 ∷ 1 ∷ 10 ∷ 6 ∷ 12 ∷ 4 ∷ 0 ∷ 3 ∷ []) (0 ∷ 3 ∷ 4 ∷ 3 ∷ 1 ∷ 3 ∷ [])
    -- P7: "The answer record is 3, 4, 4, 1, 2."
    ∷ figure (1 ∷ 1 ∷ 10 ∷ 0 ∷ 1 ∷ 1 ∷ 1 ∷ 10 ∷ 6 ∷ 12 ∷ 4 ∷ 0 ∷ 4 ∷ []) (0 ∷ 3 ∷ 4 ∷ 4 ∷ 1 ∷ 2 ∷ [])
    ∷ figure (1 ∷ 3 ∷ 10 ∷ 1 ∷ 10 ∷ 1 ∷ 10 ∷ 1 ∷ 3 ∷ 1 ∷ 1 ∷ 4 ∷ 2 ∷ 2 ∷ 3 ∷ 4 ∷ 2 ∷ 3 ∷ 3 ∷ 4 ∷ 2 ∷ 6 ∷ 2 ∷ 0 ∷ 2 ∷ [])
    (0 ∷ 6 ∷ 6 ∷ 2 ∷ 3 ∷ 2 ∷ 4 ∷ 2 ∷ [])
    ∷ figure (1 ∷ 3 ∷ 10 ∷ 0 ∷ 10 ∷ 0 ∷ 10 ∷ 0 ∷ 2 ∷ 1 ∷ 2 ∷ 1 ∷ 1 ∷ 2 ∷ 3 ∷ 1 ∷ 1 ∷ 1 ∷ 1 ∷ 0 ∷ 3 ∷ []) (6 ∷ 0 ∷ [])
    ∷ figure (1 ∷ 1 ∷ 10 ∷ 0 ∷ 1 ∷ 1 ∷ 1 ∷ 1 ∷ 6 ∷ 1 ∷ 5 ∷ 0 ∷ 3 ∷ []) (7 ∷ 1 ∷ [])
    -- "g 9, six groups | 8, detail 6"; in mode 1 it is not refused
    ∷ figure (six_groups 10 0) (8 ∷ 6 ∷ [])
    ∷ figure (six_groups 10 1) (0 ∷ 6 ∷ 6 ∷ 9 ∷ 6 ∷ 1 ∷ 1 ∷ 1 ∷ 1 ∷ 1 ∷ 1 ∷ [])
    -- "the last group in the order moving fastest": with the first group fastest the waits would be 3, 1
    ∷ figure (1 ∷ 2 ∷ 10 ∷ 0 ∷ 10 ∷ 0 ∷ 2 ∷ 1 ∷ 2 ∷ 7 ∷ 3 ∷ 2 ∷ 2 ∷ 3 ∷ 5 ∷ 9 ∷ 1 ∷ 0 ∷ 4 ∷ []) (0 ∷ 3 ∷ 4 ∷ 4 ∷ 2 ∷ 3 ∷ 2 ∷ [])
    -- "Groups stand in order of first server, then longer path first": the flows are on (2,2), (1,1), (1,2)
    ∷ figure (1 ∷ 2 ∷ 10 ∷ 0 ∷ 10 ∷ 0 ∷ 3 ∷ 2 ∷ 2 ∷ 25 ∷ 1 ∷ 1 ∷ 1 ∷ 15 ∷ 1 ∷ 1 ∷ 2 ∷ 4 ∷ 1 ∷ 6 ∷ 2 ∷ 0 ∷ 2 ∷ []) (0 ∷ 5 ∷ 5 ∷ 2 ∷ 3 ∷ 5 ∷ 2 ∷ 3 ∷ [])
    -- "bursts and rates add up": P7 with its cross flow in two parts
    ∷ figure (1 ∷ 1 ∷ 10 ∷ 0 ∷ 2 ∷ 1 ∷ 1 ∷ 7 ∷ 2 ∷ 1 ∷ 1 ∷ 3 ∷ 4 ∷ 12 ∷ 4 ∷ 0 ∷ 4 ∷ []) (0 ∷ 3 ∷ 4 ∷ 4 ∷ 1 ∷ 2 ∷ [])
    -- "Mode 1, quick, answers start and every e = 0": P7 in mode 1
    ∷ figure (1 ∷ 1 ∷ 10 ∷ 0 ∷ 1 ∷ 1 ∷ 1 ∷ 10 ∷ 6 ∷ 12 ∷ 4 ∷ 1 ∷ 4 ∷ []) (0 ∷ 4 ∷ 4 ∷ 4 ∷ 1 ∷ 1 ∷ [])
    -- "0 means 3": P6 with g 0
    ∷ figure (1 ∷ 1 ∷ 10 ∷ 0 ∷ 1 ∷ 1 ∷ 1 ∷ 10 ∷ 6 ∷ 12 ∷ 4 ∷ 0 ∷ 0 ∷ []) (0 ∷ 3 ∷ 4 ∷ 3 ∷ 1 ∷ 3 ∷ [])
    -- "lowest such server": servers 2 and 3 are crowded
    ∷ figure (1 ∷ 3 ∷ 10 ∷ 0 ∷ 1 ∷ 0 ∷ 1 ∷ 0 ∷ 0 ∷ 1 ∷ 2 ∷ 0 ∷ 3 ∷ []) (7 ∷ 2 ∷ [])
    -- "then 3, 6, 7, 8": P9 with a byte left over; P9 with too high a rate; six groups with too high rates
    ∷ figure (1 ∷ 3 ∷ 10 ∷ 0 ∷ 10 ∷ 0 ∷ 10 ∷ 0 ∷ 2 ∷ 1 ∷ 2 ∷ 1 ∷ 1 ∷ 2 ∷ 3 ∷ 1 ∷ 1 ∷ 1 ∷ 1 ∷ 0 ∷ 3 ∷ 0 ∷ []) (3 ∷ 21 ∷ [])
    ∷ figure (1 ∷ 3 ∷ 10 ∷ 0 ∷ 10 ∷ 0 ∷ 10 ∷ 0 ∷ 2 ∷ 1 ∷ 2 ∷ 1 ∷ 10 ∷ 2 ∷ 3 ∷ 1 ∷ 1 ∷ 1 ∷ 1 ∷ 0 ∷ 3 ∷ []) (6 ∷ 0 ∷ [])
    ∷ figure (six_groups 1 0) (7 ∷ 1 ∷ [])
    ∷ []

pub figures : map (λ (f : Figure). answers (verdict_of f.sheet)) table ≡ map (λ (f : Figure). f.says) table
unfolding verdict_of verdict_on listing_of searched found_of steps_of listed points_of better answer_at bound waits tree top stretch_from curve after_group
    group_wait server
    neutral joined ceil greatest catch_up least_wait remainder lateness delay total any crosses on bursts rates used from from_on groups grouped reads
    overlaps not_nested crowded lowest_crowded too_many too_large large_at some large_node large_curve plan node_of node_curve along top_of tandem_of grid_of
    check_of sheet_of step_on rule_at field_at seen_after number_at
figures = refl
