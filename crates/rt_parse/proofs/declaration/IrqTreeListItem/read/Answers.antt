use Rattle.rt_parse.proofs.Shorter.{given_shorter}
use Rattle.rt_parse.proofs.ShorterDeclaration.{shorter_interrupt}
use Rattle.rt_parse.proofs.declaration.IrqTreeListItem.read.Goals as goal

pub returns-clause-shorter : goal.returns-clause-shorter
returns-clause-shorter c = given_shorter (shorter_interrupt c.args.before) c.args.tokens c.interrupt.result
    c.interrupt.ensures
