-- `row::is_not_nested` meets its contract: some flow is overreached exactly if two paths cross (proofs/Reaching.antt).
-- Assumes nothing.
use Rattle.std.proofs.Common.{rules, ◌∙◌, sym, subst}
use borrow.Author.Tests.{tests}
use Rattle.std.proofs.lemmas.List.{get_or_default}
use Rattle.std.proofs.lemmas.Iterator.{YieldsList-from_slice}
use Rattle.std.proofs.lemmas.Iterator.Search.{any_from_yields_List}
use Rattle.std.proofs.lemmas.Iterator.Adapters.{serves_from_places}
use Rattle.tandem.specs.declared.Flow.{Flow}
use Rattle.tandem.specs.Tandem.{no_flow}
use Rattle.tandem.specs.Lent.{Wide}
use Rattle.row.specs.Parts.{overreached_by}
use Rattle.row.proofs.Reaching.{not_nested_is}
use Rattle.row.proofs.is_not_nested.Goals as goal

pub any-requires-clause-callable : goal.any-requires-clause-callable
any-requires-clause-callable c =
    serves_from_places (YieldsList-from_slice c.args.flows.now cc) (λ x q k. search (rules, tests)) (λ x k h e.
    let wide : Wide 16 x.now = subst (λ (a : Flow). Wide 16 a) (sym (e ∙ get_or_default c.args.flows.now k x.now no_flow h)) (c.requires.0.ranges k h) in
    search rules)

pub returns : goal.returns
returns c = record {
  is = any_from_yields_List (overreached_by c.args.reaches.now) _ _ c.any.result c.any.ensures.ran (YieldsList-from_slice c.args.flows.now cc) (λ x b q k. search (rules, tests))
      ∙ not_nested_is c.args.flows.now c.args.reaches.now c.requires.0 c.requires.1;
}
