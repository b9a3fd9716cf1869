use Rattle.std.proofs.Common.{◌≡◌, arith}
use Rattle.std.proofs.lemmas.List.{length-take-le}
use Rattle.tandem.specs.OfSheet.{tandem_of}
use Rattle.tandem.proofs.OfSheetLaws.{row_all_flows}
use Rattle.tandem.proofs.Sheet.list_flows.Goals as goal

pub returns : goal.returns
returns c =
    let n = length-take-le c.flow_total-n.result c.args.flows.now (omega arith) in
    let e : c.loop-f.flow-items ≡ (tandem_of c.args.self.numbers.now).flows = row_all_flows _ _ (omega arith) (λ k h. c.loop-f.invariant k (omega arith)) in
    record { holds = rw (e, c.flow_total-n.ensures.is) }
