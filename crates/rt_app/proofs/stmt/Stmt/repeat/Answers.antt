use Rattle.rt_app.proofs.Statements.{repeat_is}
use Rattle.rt_app.proofs.stmt.Stmt.repeat.Goals as goal

pub returns : goal.returns
returns c = repeat_is c.args.variable c.args.first c.args.last c.args.turn
