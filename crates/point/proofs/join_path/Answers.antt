use native.Mathlib.Omega.{arith}
use Rattle.point.proofs.Walks.{walk_ends}
use Rattle.point.proofs.Turns.{join_room, joins, server_room, serves}
use Rattle.point.proofs.join_path.Goals as goal

pub join-requires : goal.join-requires
join-requires c = join_room _ _ _ _ c.requires.1 c.loop-j.c c.loop-j.j c.loop-j.invariant c.loop-j-test.true c.in-Some.t c.in-Some.is

pub loop-j-preserved-in-Some : goal.loop-j-preserved-in-Some
loop-j-preserved-in-Some c =
    joins _ _ _ _ c.requires.1 c.loop-j.c c.loop-j.j c.loop-j.invariant c.loop-j-test.true c.in-Some.t c.in-Some.is c.join.result c.join.ensures

pub bounds-c-c : goal.bounds-c-c
bounds-c-c c = (server_room _ _ _ _ c.requires.1 c.loop-j.c c.loop-j.j c.loop-j.invariant c.loop-j-test.true c.in-None.is).0

pub overflow_add-c : goal.overflow_add-c
overflow_add-c c = omega (arith, (server_room _ _ _ _ c.requires.1 c.loop-j.c c.loop-j.j c.loop-j.invariant c.loop-j-test.true c.in-None.is).1)

pub loop-j-preserved : goal.loop-j-preserved
loop-j-preserved c = serves _ _ _ _ c.requires.1 c.loop-j.c c.loop-j.j c.loop-j.invariant c.loop-j-test.true c.in-None.is

pub returns : goal.returns
returns c = walk_ends _ _ _ _ _ _ c.loop-j.invariant c.loop-j-test.false
