use Rattle.rt_parse.proofs.Shorter.{given_shorter}
use Rattle.rt_parse.proofs.ShorterDeclaration.{shorter_listed}
use Rattle.rt_parse.proofs.declaration.ListedTreeListItem.read.Goals as goal

pub returns-clause-shorter : goal.returns-clause-shorter
returns-clause-shorter c = given_shorter shorter_listed c.args.tokens c.listed_resource.result c.listed_resource.ensures
