use Rattle.std.proofs.Common.{◌≡◌, arith}
use Rattle.std.proofs.lemmas.List.{length-take-le}
use Rattle.tandem.specs.OfSheet.{tandem_of}
use Rattle.tandem.proofs.OfSheetLaws.{row_servers}
use Rattle.tandem.proofs.Sheet.list_servers.Goals as goal

pub returns : goal.returns
returns c =
    let n = length-take-le c.server_count-n.result c.args.servers.now (omega arith) in
    let e : c.loop-j.server-items ≡ (tandem_of c.args.self.numbers.now).servers = row_servers _ _ (omega arith) (λ k h. c.loop-j.invariant k (omega arith)) in
    record { holds = rw (e, c.server_count-n.ensures.is) }
