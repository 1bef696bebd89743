use Rattle.rt_app.proofs.Statements.{locked_is}
use Rattle.rt_app.proofs.stmt.Stmt.lock.Goals as goal

pub returns : goal.returns
returns c = locked_is c.args.resource c.args.inner c.args.at
