use Rattle.rt_ast.specs.View as written
use Rattle.rt_build.proofs.Judging.{kept_by, limits_by, broken_by}
use Rattle.rt_build.proofs.Placed.{placed_by}
use Rattle.rt_build.proofs.tree.judge.Goals as goal

pub resolve-requires : goal.resolve-requires
resolve-requires c = c.texts_keep_limits.ensures.law c.args.src.now (written.app_of c.args.tree.now) c.requires.text

pub returns-in-Ok-clause-ok : goal.returns-in-Ok-clause-ok
returns-in-Ok-clause-ok c =
    kept_by c.args.src.now (written.app_of c.args.tree.now) c.in-Ok.resolved.app c.in-Ok.resolved.faults.items
    c.in-Ok.ensures.app c.in-Ok.ensures.faults c.rules.result c.rules.ensures.ok

pub returns-in-Ok-clause-limits : goal.returns-in-Ok-clause-limits
returns-in-Ok-clause-limits c =
    limits_by c.args.src.now (written.app_of c.args.tree.now) c.in-Ok.resolved.app c.in-Ok.resolved.faults.items
    c.in-Ok.ensures.app c.in-Ok.ensures.faults c.rules.result c.in-Ok.ensures.limits c.rules.ensures.ok

pub returns-in-Ok-clause-accepted : goal.returns-in-Ok-clause-accepted
returns-in-Ok-clause-accepted c =
    placed_by (written.app_of c.args.tree.now) (c.texts_keep_limits.ensures.law c.args.src.now
    (written.app_of c.args.tree.now) c.requires.text) c.in-Ok.resolved.app c.in-Ok.resolved.faults.items
    c.in-Ok.ensures.app c.in-Ok.ensures.faults c.in-Ok.ensures.limits c.rules.result c.rules.ensures.ok

pub returns-in-Ok-clause-refused : goal.returns-in-Ok-clause-refused
returns-in-Ok-clause-refused c =
    broken_by c.args.src.now (written.app_of c.args.tree.now) c.in-Ok.resolved.app c.in-Ok.resolved.faults.items
    c.in-Ok.ensures.app c.in-Ok.ensures.faults c.rules.result c.rules.ensures.refused
