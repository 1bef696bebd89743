use Rattle.rt_ids.specs.declared.irq.Irq.{Irq}
use Rattle.std.proofs.Common.{Vec, Global, ap, sym, ◌∙◌, map}
use Rattle.rt_app.specs.View.{app_of}
use Rattle.rt_app.specs.Stack.{has_handler}
use Rattle.rt_ids.specs.Lists.{or_zero}
use Rattle.rt_reach.specs.Priorities.{deepest_irq}
use Rattle.rt_reach.proofs.Rising.{pushed, kept}
use Rattle.rt_reach.proofs.priorities.deepest_irqs.Goals as goal
use Rattle.rt_reach.proofs.priorities.deepest_irqs.Goals.{in-Some+in_ok-push, in_default}
use Rattle.rt_frames.proofs.Below.{below_none}

pub loop-priority-init : goal.loop-priority-init
loop-priority-init c = c.new-irqs.ensures.items
    ∙ ap (map (λ p. or_zero (deepest_irq (app_of c.args.app.now) p)))
    (sym (below_none (has_handler (app_of c.args.app.now))))

pub loop-priority-preserved : goal.loop-priority-preserved
loop-priority-preserved c =
    let app = app_of c.args.app.now in
    let priority = c.loop-priority.priority in
    elim c.match-deepest_irq.branch [
      | in-Some+in_ok-push w ↦
          pushed app c.requires.accepted c.requires.form priority w.in-Some.irq c.loop-priority.irqs.items
          c.match-deepest_irq.irqs.items c.loop-priority.invariant (sym c.deepest_irq.ensures ∙ w.in-Some.is)
          (ap (λ (v : Vec Irq Global). v.items) w.irqs-is ∙ w.in_ok-push.ensures.items)
      | in_default w ↦
          kept app c.requires.accepted c.requires.form priority c.loop-priority.irqs.items
          c.match-deepest_irq.irqs.items
          c.loop-priority.invariant (sym c.deepest_irq.ensures ∙ w.in_default.is)
          (ap (λ (v : Vec Irq Global). v.items) w.irqs-is)
    ]
