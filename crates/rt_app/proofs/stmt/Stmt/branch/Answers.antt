use Rattle.rt_app.proofs.Statements.{branch_is}
use Rattle.rt_app.proofs.stmt.Stmt.branch.Goals as goal

pub returns : goal.returns
returns c = branch_is c.args.condition c.args.first c.args.second
