-- `sheet::write_sheet` meets its contract: the list is checked, and room is seen to, before the first byte is stored.
-- Assumes nothing.
use Rattle.std.proofs.Common.{arith}
use Rattle.sheet.proofs.Writing.{sized, full_writing}
use Rattle.sheet.proofs.write_sheet.Goals as goal

pub put_all-requires : goal.put_all-requires
put_all-requires c = let w = sized _ _ _ c.check_list.ensures c.in_ok-total.was in omega (arith, w.count)

pub returns : goal.returns
returns c = full_writing _ _ (sized _ _ _ c.check_list.ensures c.in_ok-total.was) c.if-bytes-total.false c.put_all.ensures.holds
