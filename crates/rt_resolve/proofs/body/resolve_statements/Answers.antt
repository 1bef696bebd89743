use Rattle.std.proofs.Common.{◌∙◌, ap}
use Rattle.rt_resolve.specs.Scope.{Names}
use Rattle.rt_resolve.proofs.Arguments.{arguments_app}
use Rattle.rt_resolve.proofs.body.resolve_statements.Goals as goal

pub resolve_block-requires-clause-counted : goal.resolve_block-requires-clause-counted
resolve_block-requires-clause-counted c = rw (ap (λ (n : Names). n.app) c.in_ok-declare_arguments.ensures.names
    ∙ arguments_app _ 0 c.args.args.now) c.requires.counted
