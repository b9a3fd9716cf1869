-- The extras of the groups from k on are in place, and `rest` has the digits of those before (`Decoding`).
-- Assumes nothing.
use Rattle.grid.specs.Steps.{step_at}
use Rattle.grid.proofs.Decoding.{Decoding}
use Rattle.grid.proofs.extras_at.Given as goal

abbrev pub invariant-loop-k : goal.invariant-loop-k
invariant-loop-k l = Decoding (step_at l.start l.g) l.g l.groups l.number l.extras l.rest l.k
