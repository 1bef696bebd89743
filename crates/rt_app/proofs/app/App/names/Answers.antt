use Rattle.std.proofs.Common.{◌∙◌, map, ap, sym, subst}
use Rattle.std.specs.List.{AllByRecursion}
use Rattle.rt_ids.specs.Lists.{AreDifferent}
use Rattle.rt_ids.specs.Word.{IsName}
use Rattle.rt_ids.specs.Names.{Names}
use Rattle.rt_app.specs.declared.app.IrqDecl.{IrqDecl}
use Rattle.rt_app.specs.declared.app.Shared.{Shared}
use Rattle.rt_app.specs.declared.app.Task.{Task}
use Rattle.rt_app.proofs.Named.{named_by, tasks_named, tasks_differ, shared_differ}
use Rattle.rt_app.proofs.app.App.names.Goals as goal

pub add_tasks-requires-clause-named : goal.add_tasks-requires-clause-named
add_tasks-requires-clause-named c =
    subst (AllByRecursion (λ (t : Task). IsName t.name)) (sym c.deref-2.ensures.value)
    (tasks_named c.args.self.now c.requires.names)

pub add_tasks-requires-clause-differ : goal.add_tasks-requires-clause-differ
add_tasks-requires-clause-differ c =
    subst (λ tasks. AreDifferent (map (λ (t : Task). t.name) tasks)) (sym c.deref-2.ensures.value)
    (tasks_differ c.args.self.now c.requires.names)

pub add_resources-requires-clause-differ : goal.add_resources-requires-clause-differ
add_resources-requires-clause-differ c =
    subst (λ shared. AreDifferent (map (λ (r : Shared). r.name) shared)) (sym c.deref-3.ensures.value)
    (shared_differ c.args.self.now c.requires.names)

pub returns : goal.returns
returns c =
    let irqs_are = ap (λ (names : Names). names.irqs) c.in_ok-add_tasks.ensures
    ∙ ap (λ (names : Names). names.irqs) c.in_ok-add_irqs.ensures
    ∙ ap (map (λ (d : IrqDecl). (d.name, d.number))) c.deref.ensures.value in
    let tasks_are = ap (λ (names : Names). names.tasks) c.in_ok-add_tasks.ensures
    ∙ ap (map (λ (t : Task). t.name)) c.deref-2.ensures.value in
    c.in_ok-add_resources.ensures
    ∙ named_by c.args.self.now c.add_tasks.new.names.irqs c.add_tasks.new.names.tasks
    (map (λ (r : Shared). r.name) c.deref-3.result.now) irqs_are tasks_are
    (ap (map (λ (r : Shared). r.name)) c.deref-3.ensures.value)
