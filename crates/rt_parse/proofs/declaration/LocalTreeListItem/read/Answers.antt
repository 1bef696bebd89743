use Rattle.rt_parse.proofs.Shorter.{given_shorter}
use Rattle.rt_parse.proofs.ShorterDeclaration.{shorter_local}
use Rattle.rt_parse.proofs.declaration.LocalTreeListItem.read.Goals as goal

pub returns-clause-shorter : goal.returns-clause-shorter
returns-clause-shorter c = given_shorter (shorter_local c.args.before) c.args.tokens c.local.result c.local.ensures
