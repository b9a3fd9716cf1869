-- `row::Nested::form` meets its contract: check 8 by the number of groups, the flows of the row behind the watched one.
-- Assumes nothing.
use native.Mathlib.Omega.{arith}
use Rattle.row.proofs.Answers.{count_few, formed_points, formed_passed}
use Rattle.row.proofs.Nested.form.Goals as goal

pub overflow_sub-groups : goal.overflow_sub-groups
overflow_sub-groups c = (count_few _ _ _ c.requires c.args.self.now.nested _ c.row-row.ensures).0

pub overflow_cast-groups : goal.overflow_cast-groups
overflow_cast-groups c = omega (arith, count_few _ _ _ c.requires c.args.self.now.nested _ c.row-row.ensures)

pub returns-then-is_too_many : goal.returns-then-is_too_many
returns-then-is_too_many c = formed_points _ _ _ c.requires c.args.self.now.nested _ c.row-row.ensures _ c.is_too_many.ensures c.if-is_too_many.true

pub returns : goal.returns
returns c = formed_passed _ _ _ c.requires c.args.self.now.nested _ c.row-row.ensures _ c.is_too_many.ensures c.if-is_too_many.false
