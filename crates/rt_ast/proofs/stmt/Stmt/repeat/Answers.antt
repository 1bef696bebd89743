use Rattle.rt_ast.proofs.Statements.{repeat_is}
use Rattle.rt_ast.proofs.stmt.Stmt.repeat.Goals as goal

pub returns : goal.returns
returns c = repeat_is c.args.variable c.args.first c.args.last c.args.turn
