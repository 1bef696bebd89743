use Rattle.std.proofs.Common.{sym, subst, ◌∙◌}
use Rattle.rt_app.specs.View.{app_of}
use Rattle.rt_inputs.specs.Shown.{Input}
use Rattle.rt_inputs_audit.specs.Judging.{LineJudged}
use Rattle.rt_inputs_audit.specs.declared.followed.Followed.{Followed}
use Rattle.rt_inputs_audit.proofs.Opening.{input_refused, with_held}
use Rattle.rt_inputs_audit.proofs.followed.Followed.input.Goals as goal

pub returns-in-None : goal.returns-in-None
returns-in-None c b =
    input_refused (app_of c.args.machine.now.code.now.app.now) b c.args.self.now _ c.args.step c.args.local c.args.word
    (sym c.take.ensures.value ∙ c.in-None.is)

pub returns-in_ok-came-in-Some : goal.returns-in_ok-came-in-Some
returns-in_ok-came-in-Some c b =
    subst (λ (f : Followed). LineJudged (app_of c.args.machine.now.code.now.app.now) b c.in_ok-came-in-Some.came f
    c.give.new.self (Input c.args.step c.args.local c.args.word))
    (with_held c.args.self.now c.in-Some.held (sym c.take.ensures.value ∙ c.in-Some.is))
    (c.in_ok-came-in-Some.ensures b)
