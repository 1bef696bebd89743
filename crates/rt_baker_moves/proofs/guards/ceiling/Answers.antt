use Rattle.std.proofs.Common.{ℕ, ◌<◌, List, slice_index, sym, ap, ◌∙◌, arith}
use Rattle.rt_ids.specs.Lists.{or_zero}
use Rattle.rt_app.specs.declared.ceilings.ReadyCeiling.{ReadyCeiling}
use Rattle.rt_app.specs.Ceiling.{Ceilings, ceiling, ceilings}
use Rattle.rt_app.specs.View.{app_of}
use Rattle.rt_baker_moves.specs.Inside.Guards.{free_or, ready_or}
use Rattle.rt_baker_moves.proofs.Ceilings.{shared_is, free_is, ready_is, timer_is}
use Rattle.rt_baker_moves.proofs.guards.ceiling.Goals as goal

pub returns-in-Res : goal.returns-in-Res
returns-in-Res c =
    let app = app_of c.args.machine.now.code.now.app.now in
    c.shared_ceiling.ensures ∙ ap (λ (t : Ceilings). slice_index t.shared c.in-Res.resource) c.requires.guards
    ∙ shared_is app c.requires.code.accepted c.in-Res.resource ∙ ap (ceiling app) (sym c.in-Res.is)

pub returns-in-Free : goal.returns-in-Free
returns-in-Free c =
    let app = app_of c.args.machine.now.code.now.app.now in
    c.free.ensures ∙ ap (λ (t : Ceilings). free_or t c.in-Free.task c.priority.result) c.requires.guards
    ∙ free_is app c.requires.code.accepted c.in-Free.task c.priority.result c.priority.ensures
    ∙ ap (ceiling app) (sym c.in-Free.is)

pub returns-in-Ready : goal.returns-in-Ready
returns-in-Ready c =
    let app = app_of c.args.machine.now.code.now.app.now in
    let few : c.in-Ready.level < 256 = omega arith in
    c.ready.ensures
    ∙ ap (λ (rows : List ReadyCeiling). ready_or rows c.level.inside.0) (c.deref.ensures.value
    ∙ ap (λ (t : Ceilings). t.ready) (c.ceilings.view_is ∙ c.requires.guards))
    ∙ ap (λ (n : ℕ). ready_or (ceilings app).ready n) c.level.view_is
    ∙ ready_is app c.in-Ready.level few ∙ ap (ceiling app) (sym c.in-Ready.is)

pub returns-in-Timer : goal.returns-in-Timer
returns-in-Timer c =
    let app = app_of c.args.machine.now.code.now.app.now in
    c.timer.ensures ∙ ap (λ (t : Ceilings). or_zero t.timer) c.requires.guards
    ∙ timer_is app c.requires.code.accepted ∙ ap (ceiling app) (sym c.in-Timer.is)
