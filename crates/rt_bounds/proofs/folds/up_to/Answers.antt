use Rattle.std.proofs.Common.{◌≡◌, arith}
use Rattle.rt_judge.specs.Inside.Walks.{reached_by}
use Rattle.rt_bounds.proofs.Measuring.{here_already}
use Rattle.rt_bounds.proofs.folds.up_to.Goals as goal

pub returns-then-start-jump-clause-longest : goal.returns-then-start-jump-clause-longest
returns-then-start-jump-clause-longest c =
    here_already c.args.image.now c.args.survey.now.depth c.args.owner (reached_by c.args.walk.now) c.args.start
    c.args.jump (let e : c.args.start ≡ c.args.jump = omega arith in e)
