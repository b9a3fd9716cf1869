use Rattle.std.proofs.Common.{arith}
use Rattle.tandem.proofs.Loading.{Carrying, begin_loads, path_of, has_room, turn_loads}
use Rattle.tandem.proofs.Sheet.loads_of.Goals as goal

pub loop-f-init : goal.loop-f-init
loop-f-init c = begin_loads _

pub add_load-requires : goal.add_load-requires
add_load-requires c =
    let d : Carrying c.args.self.numbers.now c.loop-f.f c.loop-f.loads c.flow_at.result =
    record { sheet = c.args.self.valid; loaded = c.loop-f.invariant; here = omega arith; is = c.flow_at.ensures.is } in
    let r = path_of d in
    (r.begins, r.path, omega (arith, r.ends, d.sheet.servers.most), has_room d)

pub loop-f-preserved : goal.loop-f-preserved
loop-f-preserved c =
    let d : Carrying c.args.self.numbers.now c.loop-f.f c.loop-f.loads c.flow_at.result =
    record { sheet = c.args.self.valid; loaded = c.loop-f.invariant; here = omega arith; is = c.flow_at.ensures.is } in
    turn_loads d _ c.add_load.ensures
