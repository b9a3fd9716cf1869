-- `row::Nested::of` meets its contract: check 6 reads no server.
-- Assumes nothing.
use mathlib.Core.Path.{refl, sym, ◌∙◌}
use Rattle.row.proofs.Answers.{nested_alone}
use Rattle.row.proofs.Nested.of.Goals as goal

pub returns-then-is_not_nested : goal.returns-then-is_not_nested
returns-then-is_not_nested c = (refl, nested_alone _ _ ∙ sym c.is_not_nested.ensures.is ∙ c.if-is_not_nested.true)

pub invariant_of-result : goal.invariant_of-result
invariant_of-result c = record {
  reached = c.reaches_of-reaches.ensures.reaches;
  nested = nested_alone _ _ ∙ sym c.is_not_nested.ensures.is ∙ c.if-is_not_nested.false;
}
