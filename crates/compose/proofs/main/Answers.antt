-- `compose::main` is safe: what there is to print is never longer than a page, and so than the buffer that it is written into.
-- Assumes nothing.
use Rattle.std.proofs.Common.{arith, sym, length-take-le}
use Rattle.composing.proofs.ComposedLaws.{compose_fits}
use Rattle.compose.proofs.main.Goals as goal

pub slice_bounds-page-end : goal.slice_bounds-page-end
slice_bounds-page-end c = omega (arith, c.bytes_of.ensures.is, compose_fits c.compose-printed.ensures, c.compose-printed.auto.out)

pub slice_bounds-output-end : goal.slice_bounds-output-end
slice_bounds-output-end c = sym (length-take-le _ _ (omega (arith, c.bytes_of.ensures.is, compose_fits c.compose-printed.ensures, c.compose-printed.auto.out)))
