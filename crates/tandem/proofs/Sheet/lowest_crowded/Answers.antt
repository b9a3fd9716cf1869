use Rattle.std.proofs.Common.{◌≡◌, ◌+◌, ◌-◌, sym, ap, ◌∙◌, arith, lt-ltb, le-ltb}
use Rattle.tandem.specs.Tandem.{size}
use Rattle.tandem.specs.Crowded.{lowest_crowded}
use Rattle.tandem.specs.OfSheet.{tandem_of}
use Rattle.tandem.proofs.OfSheetLaws.{row_size}
use Rattle.tandem.proofs.CrowdedLaws.{server_of_lowest, none_of_lowest}
use Rattle.tandem.proofs.Loading.{sums_long, crowded_is, lowest_here, lowest_behind, lowest_none}
use Rattle.tandem.proofs.Sheet.lowest_crowded.Goals as goal

pub loop-j-init : goal.loop-j-init
loop-j-init c =
    let xs = c.args.self.numbers.now in
    let e : c.server_count-n.result - 0 ≡ size (tandem_of xs) = omega (arith, row_size xs) in
    ap (lowest_crowded (tandem_of xs) 1) e

pub returns-then-server_at-load : goal.returns-then-server_at-load
returns-then-server_at-load c =
    let row = tandem_of c.args.self.numbers.now in
    let n = c.server_count-n.result in
    let j = c.loop-j.j in
    let long = sums_long _ n j _ c.args.self.valid c.loads_of-loads.ensures.loads c.server_count-n.ensures.is in
    let tests = crowded_is _ n j _ c.args.self.valid c.loads_of-loads.ensures.loads c.server_count-n.ensures.is _ c.server_at.ensures.is (omega arith) in
    let here = lowest_here row n j (omega arith) (tests ∙ lt-ltb _ _ c.if-server_at-load.true) in
    record { is = sym (server_of_lowest row (j + 1) (omega arith) (sym c.loop-j.invariant ∙ here)) }

pub loop-j-preserved : goal.loop-j-preserved
loop-j-preserved c =
    let row = tandem_of c.args.self.numbers.now in
    let n = c.server_count-n.result in
    let j = c.loop-j.j in
    let long = sums_long _ n j _ c.args.self.valid c.loads_of-loads.ensures.loads c.server_count-n.ensures.is in
    let tests = crowded_is _ n j _ c.args.self.valid c.loads_of-loads.ensures.loads c.server_count-n.ensures.is _ c.server_at.ensures.is (omega arith) in
    lowest_behind row n j (omega arith) (tests ∙ le-ltb _ _ c.if-server_at-load.false) ∙ c.loop-j.invariant

pub returns : goal.returns
returns c =
    let row = tandem_of c.args.self.numbers.now in
    let n = c.server_count-n.result in
    let j = c.loop-j.j in
    let long = sums_long _ n j _ c.args.self.valid c.loads_of-loads.ensures.loads c.server_count-n.ensures.is in
    record { is = sym (none_of_lowest row (sym c.loop-j.invariant ∙ lowest_none row n j (omega arith))) }
