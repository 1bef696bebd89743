use Rattle.std.proofs.Common.{◌≡◌, ◌<◌, true, sym, subst, ap, ◌∙◌, List, ℕ, length, None, Result, Bor}
use Rattle.rt_ids.specs.Names.{task_index, with_task}
use Rattle.rt_ids.specs.declared.limits.TheConstants.{TASKS}
use Rattle.rt_lines.specs.Parts.{words_of}
use Rattle.rt_lines.specs.Answers.{and_make}
use Rattle.rt_code.specs.declared.image.BodyRow.{BodyRow}
use Rattle.rt_load.specs.Inside.Taking.{may_add_body}
use Rattle.rt_load.specs.declared.front.Front.{Front}
use Rattle.rt_load.specs.declared.operand.Wrong.{Wrong}
use Rattle.rt_load.proofs.Declared.{task_new}
use Rattle.rt_load.proofs.Nexts.{body_of_other_line}
use Rattle.rt_load.proofs.front.Front.take_body.Goals as goal

pub add_task-requires-clause-named : goal.add_task-requires-clause-named
add_task-requires-clause-named c =
    let may : may_add_body c.args.self.now c.in-Ok.body.0.now ≡ true = sym c.may_add_body.ensures
    ∙ c.if-not-may_add_body.false in
    let new = task_new c.args.self.now c.in-Ok.body.0.now may in new.named

pub add_task-requires-clause-unknown : goal.add_task-requires-clause-unknown
add_task-requires-clause-unknown c =
    let may : may_add_body c.args.self.now c.in-Ok.body.0.now ≡ true = sym c.may_add_body.ensures
    ∙ c.if-not-may_add_body.false in
    let new = task_new c.args.self.now c.in-Ok.body.0.now may in
    subst (λ (front : Front). task_index front.image.names c.in-Ok.body.0.now ≡ None) (sym c.self.view_is) new.unknown

pub add_task-requires-clause-room : goal.add_task-requires-clause-room
add_task-requires-clause-room c =
    let may : may_add_body c.args.self.now c.in-Ok.body.0.now ≡ true = sym c.may_add_body.ensures
    ∙ c.if-not-may_add_body.false in
    let new = task_new c.args.self.now c.in-Ok.body.0.now may in
    subst (λ (front : Front). length front.image.names.tasks < TASKS) (sym c.self.view_is) new.below

pub returns-else-branch-clause-refused : goal.returns-else-branch-clause-refused
returns-else-branch-clause-refused c =
    λ _. body_of_other_line c.args.self.now c.args.line.now (words_of c.args.words) (c.in-Ok.body.0.now, c.in-Ok.body.1)
    c.task_count.result _
    (c.task_count.ensures.count ∙ ap (λ (front : Front). length front.image.names.tasks) c.self.view_is)
    (sym c.read_body_row.ensures ∙ ap (λ (r : Result (Bor (List ℕ) × BodyRow) Wrong). and_make r
    (λ body. (body.0.now, body.1))) c.in-Ok.is)
    (sym c.may_add_body.ensures ∙ c.if-not-may_add_body.false)
    (c.in_ok-add_task.ensures.added ∙ ap (λ (front : Front). with_task front.image.names c.in-Ok.body.0.now)
    c.self.view_is)
    (sym c.in_ok-is_body_line.ensures ∙ c.if-branch.false)
