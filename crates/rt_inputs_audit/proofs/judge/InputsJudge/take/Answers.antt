use Rattle.std.proofs.Common.{◌≡◌, ◌+◌, None, sym, ◌∙◌, refl}
use Rattle.rt_app.specs.View.{app_of}
use Rattle.rt_ids.proofs.Lists.{none_from_is_some}
use Rattle.rt_inputs.proofs.Unused.{inputs_are_unused}
use Rattle.rt_inputs_audit.specs.Reading.{shown_of}
use Rattle.rt_inputs_audit.proofs.Judged.{judge_early, judged_wrong, judged_right}
use Rattle.rt_inputs_audit.proofs.judge.InputsJudge.take.Goals as goal

pub line-requires-clause-early : goal.line-requires-clause-early
line-requires-clause-early c =
    judge_early (app_of c.args.machine.now.code.now.app.now) c.args.board.now inputs_are_unused
    c.requires.machine.code.accepted c.args.self.now
    (none_from_is_some c.args.self.now.wrong (sym c.is_some.ensures ∙ c.if-is_some.false)) c.requires.judged

pub returns-then-came : goal.returns-then-came
returns-then-came c =
    let j = c.args.self.now in
    let right : j.wrong ≡ None = none_from_is_some j.wrong (sym c.is_some.ensures ∙ c.if-is_some.false) in
    judged_right (app_of c.args.machine.now.code.now.app.now) c.args.board.now (shown_of c.args.line.now) j
    (j.lines + 1) c.line.new.self c.in_ok-came.came refl right c.if-came.true c.in_ok-came.ensures

pub returns : goal.returns
returns c =
    let j = c.args.self.now in
    let right : j.wrong ≡ None = none_from_is_some j.wrong (sym c.is_some.ensures ∙ c.if-is_some.false) in
    judged_wrong (app_of c.args.machine.now.code.now.app.now) c.args.board.now (shown_of c.args.line.now) j
    (j.lines + 1) c.line.new.self c.in_ok-came.came refl right c.if-came.false c.in_ok-came.ensures
