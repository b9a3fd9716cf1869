-- `desk::record_of` meets its contract: behind the first four numbers stand the waits passed.
-- Assumes nothing.
use Rattle.std.proofs.Common.{◌≡◌, ◌∷◌, take}
use Rattle.desk.proofs.record_of.Given as goal

abbrev pub invariant-loop-wait : goal.invariant-loop-wait
invariant-loop-wait l = l.record.items ≡ l.found.bound ∷ l.found.start ∷ l.found.grid ∷ l.found.count ∷ take l.wait-index l.wait-items
