-- `sheet::Walk::over` meets its contract: from the first field on the walk by the cursor is that by the places.
-- Assumes nothing.
use Rattle.sheet.proofs.Walking.{rest_whole}
use Rattle.sheet.proofs.Walk.over.Goals as goal

pub returns-clause-whole : goal.returns-clause-whole
returns-clause-whole g c = rw c.start.ensures.is (rest_whole _ _ _)
