-- `show::main` is safe: what there is to print is never longer than a page, and so than the buffer that it is written into.
-- Assumes nothing.
use Rattle.std.proofs.Common.{arith, sym, length-take-le}
use Rattle.showing.proofs.ShownLaws.{show_fits}
use Rattle.show.proofs.main.Goals as goal

pub slice_bounds-page-end : goal.slice_bounds-page-end
slice_bounds-page-end c = omega (arith, c.bytes_of.ensures.is, show_fits c.show-printed.ensures, c.show-printed.auto.text)

pub slice_bounds-output-end : goal.slice_bounds-output-end
slice_bounds-output-end c = sym (length-take-le _ _ (omega (arith, c.bytes_of.ensures.is, show_fits c.show-printed.ensures, c.show-printed.auto.text)))
