use Rattle.rt_ast.specs.View as written
use Rattle.rt_resolve.proofs.Kept.{resolved_kept}
use Rattle.rt_resolve.proofs.resolve.Goals as goal

pub returns-clause-limits : goal.returns-clause-limits
returns-clause-limits c = rw c.in_ok-app.ensures.tree (resolved_kept (written.app_of c.args.tree.now) c.requires)
