-- `row::row_of` meets its contract: the lists hold the sheet's row, and each way through the checks gives the answer that `formed_of` gives there.
-- Assumes nothing.
use mathlib.Core.Path.{◌≡◌, sym, ap, ◌∙◌, subst}
use mathlib.Core.List.{List}
use Prim.Native.Nat.{◌+◌}
use native.Mathlib.Omega.{arith}
use lib.ListN.{get_or}
use Rattle.std.specs.Prelude.{Err, true, false}
use Rattle.std.proofs.lemmas.Result.{err_from_is_err_and}
use Rattle.sheet.specs.Valid.{server_count, mode, grid}
use Rattle.tandem.specs.declared.Flow.{Flow}
use Rattle.tandem.specs.Tandem.{Tandem}
use Rattle.tandem.specs.OfSheet.{tandem_of}
use Rattle.tandem.specs.Lent.{Listed, Handed}
use Rattle.tandem.proofs.OfSheetLaws.{row_flows}
use Rattle.tandem.proofs.LentLaws.{listed_most, sheet_listed, sheet_handed}
use Rattle.tandem.proofs.CrowdedLaws.{lowest_of_server, lowest_of_none}
use Rattle.row.specs.Checks.{not_nested}
use Rattle.row.specs.RowFor.{formed_for}
use Rattle.row.specs.OfSheet.{grid_of}
use Rattle.row.specs.Held.{held}
use Rattle.row.proofs.OfSheetLaws.{formed_sheet}
use Rattle.row.proofs.Answers.{fronts_held, formed_crossing, formed_crowded}
use Rattle.row.proofs.Filling.{take_front}
use Rattle.row.proofs.row_of.Goals as goal
use Rattle.row.proofs.row_of.Goals.{In_ok-nested}

pub list_flows-requires : goal.list_flows-requires
list_flows-requires c = omega (arith, row_flows c.args.sheet.numbers.now, c.args.sheet.valid.flows.most)

pub of-requires : goal.of-requires
of-requires c =
    let xs = c.args.sheet.numbers.now in
    subst (λ (l : List Flow). Listed 16 l) (sym (take_front _ _ _ _ c.list_flows.ensures.holds c.flow_total.ensures.is))
    (listed_most _ _ (sheet_listed xs c.args.sheet.valid))

pub returns-in_err-nested : goal.returns-in_err-nested
returns-in_err-nested c =
    let xs = c.args.sheet.numbers.now in
    let p = err_from_is_err_and c.from_residual.result c.from_residual.ensures.1 in
    let crossed : not_nested (tandem_of xs) ≡ true = ap not_nested (sym (fronts_held xs _ _ _ _ _ _ c.list_servers.ensures.holds c.list_flows.ensures.holds c.server_count-size.ensures.is c.flow_total.ensures.is)) ∙ c.in_err-nested.ensures.1 in
    record { is = p.1 ∙ ap Err (p.2 ∙ c.in_err-nested.ensures.0) ∙ formed_crossing (tandem_of xs) (mode xs) (grid_of (server_count xs) (grid xs)) crossed ∙ sym (formed_sheet xs) }

-- the lists hold the sheet's servers and flows
nested_held : (c : In_ok-nested) → held c.in_ok-nested.nested ≡ tandem_of c.args.sheet.numbers.now
nested_held c =
    c.in_ok-nested.ensures
    ∙ fronts_held c.args.sheet.numbers.now _ _ _ _ _ _ c.list_servers.ensures.holds c.list_flows.ensures.holds c.server_count-size.ensures.is c.flow_total.ensures.is

pub returns-in-Some : goal.returns-in-Some
returns-in-Some c =
    let xs = c.args.sheet.numbers.now in
    let row = tandem_of xs in
    let nested : not_nested row ≡ false = ap not_nested (sym (nested_held (goal.at.returns-in-Some c).In_ok-nested)) ∙ c.in_ok-nested.nested.nested in
    let lowest = lowest_of_server row c.in-Some.j (sym c.in-Some.ensures.is) in
    record { is = formed_crowded row (mode xs) (grid_of (server_count xs) (grid xs)) nested c.in-Some.j lowest.1 lowest.0 ∙ sym (formed_sheet xs) }

pub form-requires : goal.form-requires
form-requires c =
    let xs = c.args.sheet.numbers.now in
    subst (λ (row : Tandem). Handed row) (sym (nested_held (goal.at.form-requires c).In_ok-nested))
    (sheet_handed xs c.args.sheet.valid (lowest_of_none (tandem_of xs) (sym c.in_default.ensures.is)))

pub returns : goal.returns
returns c =
    let xs = c.args.sheet.numbers.now in
    record {
      is = c.form.ensures
          ∙ ap (λ (row : Tandem). formed_for row (get_or xs (c.watched_place-at.result + 2) 0) c.grid_of-grid.result) (nested_held (goal.at.returns c).In_ok-nested)
          ∙ rw (c.grid_of-grid.ensures, c.watched_place-at.ensures.is, c.server_count-size.ensures.is) (sym (formed_sheet xs));
    }
