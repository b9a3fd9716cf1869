-- The first j servers are in the curve, each as a stage, and their latencies in its offset (`Gathering`).
-- Assumes nothing.
use Rattle.point.specs.Point.{servers_of}
use Rattle.search.proofs.Gathering.{Gathering}
use Rattle.search.proofs.curve_of.Given as goal

abbrev pub invariant-loop-j : goal.invariant-loop-j
invariant-loop-j l = Gathering (servers_of l.row) l.stages l.offset l.j
