use Rattle.rt_parse.proofs.Shorter.{given_shorter}
use Rattle.rt_parse.proofs.ShorterDeclaration.{shorter_resource}
use Rattle.rt_parse.proofs.declaration.SharedTreeListItem.read.Goals as goal

pub returns-clause-shorter : goal.returns-clause-shorter
returns-clause-shorter c = given_shorter (shorter_resource c.args.before) c.args.tokens c.resource.result
    c.resource.ensures
