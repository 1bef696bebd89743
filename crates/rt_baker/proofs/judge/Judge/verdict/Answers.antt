use Rattle.std.proofs.Common.{◌+◌, arith}
use Rattle.rt_app.specs.View.{app_of}
use Rattle.rt_baker.proofs.Verdicts.{finds_wrong, finds_right, finds_wrong_total}
use Rattle.rt_baker.proofs.judge.Judge.verdict.Goals as goal

pub returns-in-Some : goal.returns-in-Some
returns-in-Some c =
    finds_wrong (app_of c.args.machine.now.code.now.app.now) c.args.total c.args.self.now c.in-Some.index
    (c.from.result + 1) c.in-Some.is (omega (arith, c.from.ensures))

pub returns-then-judge_total : goal.returns-then-judge_total
returns-then-judge_total c =
    finds_right (app_of c.args.machine.now.code.now.app.now) c.args.total c.args.self.now c.requires.code.accepted
    c.in-None.is c.if-judge_total.ensures

pub returns-else-judge_total : goal.returns-else-judge_total
returns-else-judge_total c =
    finds_wrong_total (app_of c.args.machine.now.code.now.app.now) c.args.total c.args.self.now
    (c.from-in-None.result + 1) c.in-None.is c.if-judge_total.ensures (omega (arith, c.from-in-None.ensures))
