-- `composing::line_of` meets its contract: a list of as many numbers as the place has room for those before it alone.
-- Assumes nothing.
use Rattle.std.proofs.Common.{arith}
use Rattle.std.proofs.Math.Seq.{length-take-le}
use Rattle.composing.proofs.Complaining.{no_line, a_line}
use Rattle.composing.proofs.line_of.Goals as goal

pub returns-in-Ok : goal.returns-in-Ok
returns-in-Ok c = no_line _ _ _ (length-take-le _ _ (omega arith)) _ c.numbers_of_text.ensures.gives _ c.in-Ok.is

pub returns-in-Err : goal.returns-in-Err
returns-in-Err c = a_line _ _ _ (length-take-le _ _ (omega arith)) _ c.numbers_of_text.ensures.gives _ c.in-Err.is
