use Rattle.std.proofs.Common.{sym, ap, ◌∙◌, ◌&&◌}
use Rattle.std.specs.List.{list_all}
use Rattle.rt_ids.specs.declared.ids.BodyId.TheVariants as body
use Rattle.rt_app.specs.View.{task_of, app_of}
use Rattle.rt_app.specs.Forms.{holds_no_pend, body_holds_no_pend}
use Rattle.rt_frames.proofs.NoPend.{of_members, both_say, first_says}
use Rattle.rt_frames.proofs.form.bodies_hold_no_pend.Goals as goal

pub returns-then-threads_hold_no_pend : goal.returns-then-threads_hold_no_pend
returns-then-threads_hold_no_pend c =
    let app = app_of c.args.app.now in
    let ts = c.args.app.now.tasks.items in
    both_say c.threads_hold_no_pend.result c.tasks_hold_no_pend.result
    (body_holds_no_pend app.init && body_holds_no_pend app.idle)
    (list_all (λ t. holds_no_pend (task_of t).body.block) ts) c.threads_hold_no_pend.ensures
    c.if-threads_hold_no_pend.true
    (c.tasks_hold_no_pend.ensures ∙ ap (list_all (λ t. holds_no_pend (task_of t).body.block)) c.deref.ensures.value)
    ∙ sym (of_members body.Init body.Idle app.init app.idle ts)

pub returns-else-threads_hold_no_pend : goal.returns-else-threads_hold_no_pend
returns-else-threads_hold_no_pend c =
    let app = app_of c.args.app.now in
    let ts = c.args.app.now.tasks.items in
    first_says c.threads_hold_no_pend.result (body_holds_no_pend app.init && body_holds_no_pend app.idle)
    (list_all (λ t. holds_no_pend (task_of t).body.block) ts) c.threads_hold_no_pend.ensures
    c.if-threads_hold_no_pend.false
    ∙ sym (of_members body.Init body.Idle app.init app.idle ts)
