use Rattle.rt_parse.proofs.Shorter.{given_shorter}
use Rattle.rt_parse.proofs.ShorterDeclaration.{shorter_name}
use Rattle.rt_parse.proofs.declaration.IdentListItem.read.Goals as goal

pub returns-clause-shorter : goal.returns-clause-shorter
returns-clause-shorter c = given_shorter shorter_name c.args.tokens c.name.result c.name.ensures
