-- `analysis::judge` meets its contract: a row that was formed can be searched.
-- Assumes nothing.
use Rattle.std.proofs.Common.{rules}
use Rattle.analysis.proofs.Judging.{row_searchable}
use Rattle.analysis.proofs.judge.Goals as goal

pub list_row-requires : goal.list_row-requires
list_row-requires c = row_searchable c.row_of.ensures c.args.sheet.valid (search rules)
