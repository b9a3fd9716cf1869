use Rattle.std.proofs.Common.{rules, ◌+◌}
use Rattle.search.proofs.raise.Goals as goal

pub change-requires-clause-acts : goal.change-requires-clause-acts
change-requires-clause-acts c = (λ x. x + c.args.by, λ x r q. search rules)
