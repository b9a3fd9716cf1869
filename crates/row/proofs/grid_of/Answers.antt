-- `row::grid_of` meets its contract: its one test is that of `grid_of`.
-- Assumes nothing.
use borrow.Author.Tests.{eq-eqb, ne_eqb}
use Rattle.row.specs.OfSheet.{grid_of}
use Rattle.row.proofs.grid_of.Goals as goal

pub returns-then-g-eq0 : goal.returns-then-g-eq0
unfolding grid_of
returns-then-g-eq0 c = simp (eq-eqb _ _ c.if-g-eq0.true)

pub returns-else-g-eq0 : goal.returns-else-g-eq0
unfolding grid_of
returns-else-g-eq0 c = simp (ne_eqb _ _ c.if-g-eq0.false)
