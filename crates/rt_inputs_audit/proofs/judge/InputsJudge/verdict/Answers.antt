use Rattle.std.proofs.Common.{◌+◌, arith}
use Rattle.rt_app.specs.View.{app_of}
use Rattle.rt_inputs.proofs.Unused.{inputs_are_unused}
use Rattle.rt_inputs_audit.proofs.Judged.{finds_wrong, finds_right, finds_wrong_end}
use Rattle.rt_inputs_audit.proofs.judge.InputsJudge.verdict.Goals as goal

pub returns-in-Some : goal.returns-in-Some
returns-in-Some c b are xs h =
    finds_wrong (app_of c.args.machine.now.code.now.app.now) b inputs_are_unused c.requires.code.accepted
    c.args.total c.args.self.now c.in-Some.index (c.from.result + 1) c.in-Some.is (omega
    (arith, c.from.ensures)) are xs h

pub returns-then-ends : goal.returns-then-ends
returns-then-ends c b are xs h =
    finds_right (app_of c.args.machine.now.code.now.app.now) b inputs_are_unused c.requires.code.accepted
    c.args.total c.args.self.now c.in-None.is c.if-ends.ensures are xs h

pub returns-else-ends : goal.returns-else-ends
returns-else-ends c b are xs h =
    finds_wrong_end (app_of c.args.machine.now.code.now.app.now) b inputs_are_unused c.requires.code.accepted
    c.args.total c.args.self.now (c.from-in-None.result + 1) c.in-None.is c.if-ends.ensures
    (omega (arith, c.from-in-None.ensures)) are xs h
