use Rattle.rt_load.proofs.Judged.{limits_of_points, verdict_of}
use Rattle.rt_load.proofs.verifying.verify.Goals as goal

pub judge-requires : goal.judge-requires
judge-requires c = limits_of_points c.args.image.now c.requires

pub returns : goal.returns
returns c = verdict_of c.args.image.now c.judge.result c.judge.ensures.yes c.judge.ensures.no
