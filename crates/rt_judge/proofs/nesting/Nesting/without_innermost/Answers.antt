use Rattle.rt_judge.proofs.Nestings.{left_some, left_none}
use Rattle.rt_judge.proofs.nesting.Nesting.without_innermost.Goals as goal

pub returns-then-self : goal.returns-then-self
returns-then-self c opened stands = left_some opened c.args.self c.if-self.true stands

pub returns-else-self : goal.returns-else-self
returns-else-self c opened stands = left_none opened c.args.self c.if-self.false stands
