use Rattle.std.proofs.Common.{rules}
use Rattle.rt_judge.proofs.SameSections.{tests_same}
use Rattle.rt_judge.proofs.nesting.is_same_section.Goals as goal

pub returns : goal.returns
returns c = tests_same c.eq.result c.args.one c.args.other (search rules)
