use native.Mathlib.Omega.{arith}
use Rattle.numbers.proofs.Putting.{begin}
use Rattle.numbers.proofs.put_number.Goals as goal

pub loop-p-init : goal.loop-p-init
loop-p-init c = begin _ _ _ (omega arith)
