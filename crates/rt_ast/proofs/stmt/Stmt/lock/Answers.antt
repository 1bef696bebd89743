use Rattle.rt_ast.proofs.Statements.{locked_is}
use Rattle.rt_ast.proofs.stmt.Stmt.lock.Goals as goal

pub returns : goal.returns
returns c = locked_is c.args.resource c.args.inner
