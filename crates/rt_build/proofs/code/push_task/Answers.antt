use Rattle.std.proofs.Common.{◌≡◌, ℕ, List, map, Some, slice_get, get_or, sym, ap, subst, ◌∙◌, arith, refl}
use Rattle.std.specs.Prelude.{slice_set}
use Rattle.std.proofs.lemmas.List.{get_or-set_same}
use Rattle.std.proofs.lemmas.Option.{slice_get-map, get_or_from_slice_get}
use Rattle.rt_app.specs.declared.app.Task as row
use Rattle.rt_app.specs.Tree.{Task}
use Rattle.rt_app.specs.View.{app_of, task_of}
use Rattle.rt_app.proofs.Members.{made_of}
use Rattle.rt_build.specs.Inside.Code.{is_of_kind, TellsTask}
use Rattle.rt_build.proofs.Abutting.{task_added, task_left}
use Rattle.rt_build.proofs.Grown.{tells_own, tells_none}
use Rattle.rt_build.proofs.code.push_task.Goals as goal

-- the task at an index
task_is : (tasks : List row.Task) (index n : ℕ) (own : row.Task) (t : Task) → index ≡ n → own ≡ get_or tasks index own
    → slice_get (map task_of tasks) n ≡ Some t → t ≡ task_of own
task_is tasks index n own t at is there =
    let one = made_of task_of (slice_get tasks n) t (sym (slice_get-map task_of tasks n) ∙ there) in
    sym (ap task_of (is ∙ (ap (λ p. get_or tasks p own) at ∙ get_or_from_slice_get tasks n one.0 own one.1)) ∙ one.2)

pub returns-in_ok-entries-clause-part : goal.returns-in_ok-entries-clause-part
returns-in_ok-entries-clause-part c t there =
    let app = app_of c.args.plan.now.app.now in
    let is = task_is c.args.plan.now.app.now.tasks.items c.from-index.result c.args.number c.index.result.now t
    c.from-index.ensures c.index.ensures there in
    let entry = c.in_ok-entries.field-0 in
    let told : get_or (slice_set c.args.entries.now c.from-index.result entry) c.args.number 0 ≡ entry =
    ap (λ (p : ℕ). get_or (slice_set c.args.entries.now p entry) c.args.number 0) c.from-index.ensures
    ∙ get_or-set_same c.args.entries.now c.args.number entry 0 (omega (arith, c.requires.of_app, c.requires.entries)) in
    task_added app c.args.kind c.args.number t there
    (slice_set c.args.entries.now c.from-index.result entry) c.args.lines.now.items c.gen_body.new.code.items entry
    (ap (is_of_kind c.args.kind) is ∙ sym c.if-is_of_kind.ensures) c.in_ok-entries.ensures.entry told
    c.in_ok-entries.ensures.size c.in_ok-entries.ensures.form c.in_ok-entries.ensures.lines

pub returns-in_ok-entries-clause-tells : goal.returns-in_ok-entries-clause-tells
returns-in_ok-entries-clause-tells c t there =
    let app = app_of c.args.plan.now.app.now in
    let is = task_is c.args.plan.now.app.now.tasks.items c.from-index.result c.args.number c.index.result.now t
    c.from-index.ensures c.index.ensures there in
    let entry = c.in_ok-entries.field-0 in
    subst (λ (p : ℕ). TellsTask app c.args.kind c.args.number t c.args.entries.now
    (slice_set c.args.entries.now p entry) c.gen_body.new.code.items) (sym c.from-index.ensures)
    (tells_own app c.args.kind c.args.number t c.args.entries.now c.gen_body.new.code.items entry
    (omega (arith, c.requires.of_app, c.requires.entries))
    (ap (is_of_kind c.args.kind) is ∙ sym c.if-is_of_kind.ensures) c.in_ok-entries.ensures.stands)

pub returns-else-is_of_kind-clause-part : goal.returns-else-is_of_kind-clause-part
returns-else-is_of_kind-clause-part c t there =
    let is = task_is c.args.plan.now.app.now.tasks.items c.from-index.result c.args.number c.index.result.now t
    c.from-index.ensures c.index.ensures there in
    task_left (app_of c.args.plan.now.app.now) c.args.kind c.args.number t there c.args.entries.now
    c.args.lines.now.items c.args.lines.now.items (ap (is_of_kind c.args.kind) is ∙ sym c.if-is_of_kind.ensures) refl

pub returns-else-is_of_kind-clause-tells : goal.returns-else-is_of_kind-clause-tells
returns-else-is_of_kind-clause-tells c t there =
    let is = task_is c.args.plan.now.app.now.tasks.items c.from-index.result c.args.number c.index.result.now t
    c.from-index.ensures c.index.ensures there in
    tells_none (app_of c.args.plan.now.app.now) c.args.kind c.args.number t c.args.entries.now c.args.lines.now.items
    (ap (is_of_kind c.args.kind) is ∙ sym c.if-is_of_kind.ensures)
