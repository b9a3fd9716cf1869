-- `numbers::read_number` meets its contract: no group, one group, or several.
-- Assumes nothing.
use borrow.Author.Rules.{rules}
use mathlib.Core.Path.{sym}
use Rattle.numbers.proofs.Scan.{no_group, one_group}
use Rattle.numbers.proofs.read_number.Goals as goal

pub returns-in_err-b : goal.returns-in_err-b
returns-in_err-b c = record { is = search (rules, no_group) }

pub returns-then-b-lt128 : goal.returns-then-b-lt128
returns-then-b-lt128 c = let e = c.in_ok-b.ensures in record { is = sym (one_group _ _ _ e.0 e.1 c.if-b-lt128.true) }
