use Rattle.std.proofs.Common.{◌≡◌, ◌+◌, None, sym, ◌∙◌, refl}
use Rattle.rt_app.specs.View.{app_of}
use Rattle.rt_ids.proofs.Lists.{none_from_is_some}
use Rattle.rt_baker.proofs.Verdicts.{judge_early, judged_wrong, judged_right}
use Rattle.rt_baker.proofs.judge.Judge.take.Goals as goal

pub judge_item-requires-clause-early : goal.judge_item-requires-clause-early
judge_item-requires-clause-early c =
    judge_early (app_of c.args.machine.now.code.now.app.now) c.args.self.now c.requires.machine.code.accepted
    (none_from_is_some c.args.self.now.wrong (sym c.is_some.ensures ∙ c.if-is_some.false)) c.requires.judged

pub returns-in-None : goal.returns-in-None
returns-in-None c =
    let j = c.args.self.now in
    let right : j.wrong ≡ None = none_from_is_some j.wrong (sym c.is_some.ensures ∙ c.if-is_some.false) in
    judged_wrong (app_of c.args.machine.now.code.now.app.now) c.args.item.now j (j.items + 1) c.judge_item.new.state
    c.in_ok-judge_item.field-0 refl right c.in-None.is c.in_ok-judge_item.ensures

pub returns-in-Some : goal.returns-in-Some
returns-in-Some c =
    let j = c.args.self.now in
    let right : j.wrong ≡ None = none_from_is_some j.wrong (sym c.is_some.ensures ∙ c.if-is_some.false) in
    judged_right (app_of c.args.machine.now.code.now.app.now) c.args.item.now j (j.items + 1) c.judge_item.new.state
    c.in_ok-judge_item.field-0 c.in-Some.done refl right c.in-Some.is c.in_ok-judge_item.ensures
