-- What is resolved keeps the limits that the written application keeps.
use Rattle.std.proofs.Common.{ℕ, ◌<◌, ◌≤◌, ◌^◌, List, [], ◌∷◌, map, length, Option, Some, None, option_map, arith}
use Rattle.std.specs.List.{AllByRecursion}
use Rattle.std.proofs.lemmas.List.{length-map}
use Rattle.rt_ids.specs.declared.limits.TheConstants.{CAPACITY, IRQ_NUMBERS}
use Rattle.rt_ast.specs.declared.ident.Ident.{Ident}
use Rattle.rt_ast.specs.declared.app.IrqTree.{IrqTree}
use Rattle.rt_ast.specs.declared.app.SharedTree.{SharedTree}
use Rattle.rt_ast.specs.declared.app.LocalTree.{LocalTree}
use Rattle.rt_ast.specs.Tree.{Body, Task, App}
use Rattle.rt_ast.specs.Printable.{IfThere, IsPrintableBody, IsPrintableInit, IsPrintableCapacity, IsPrintableTask}
use Rattle.rt_ast.specs.Printable.{IsPrintableIrq, IsPrintableResource, IsPrintableLocal, IsPrintable}
use Rattle.rt_app.specs.Limits.{KeepsBodyLimits, KeepsThreadLimits, KeepsTaskLimits, KeepsLimits}
use Rattle.rt_resolve.specs.Scope.{inside}
use Rattle.rt_resolve.specs.Resolved.{irq, resolved_shared, local, with_arguments, body_names, body, capacity_or_one}
use Rattle.rt_resolve.specs.Resolved.{task, resolved_app}
use Rattle.rt_resolve.proofs.KeptBody.{statements_are, blocks_are, block_shallow}
use Rattle.rt_resolve.proofs.KeptNumbers.{block_fits}

pub body_kept : (app : App) (args : List Ident) (b : Body) → IsPrintableBody b → KeepsBodyLimits (body app args b)
body_kept app args b p =
    let names = inside (with_arguments (body_names app b) 0 args) in
    record {
      statements = rw (statements_are names (length args) b.block) p.block.few;
      nesting = rw (blocks_are names (length args) b.block) p.block.nesting;
      depth = block_shallow names (length args) b.block p.block.statements;
      numbers = block_fits names (length args) b.block p.block.statements;
    }

init_kept : (app : App) (b : Option Body) → IfThere IsPrintableInit b → KeepsThreadLimits (option_map (body app []) b)
init_kept app None p = tt
init_kept app (Some b) p = body_kept app [] b p.0

idle_kept : (app : App) (b : Option Body) → IfThere IsPrintableBody b → KeepsThreadLimits (option_map (body app []) b)
idle_kept app None p = tt
idle_kept app (Some b) p = body_kept app [] b p

least : (c : Option ℕ) → IfThere IsPrintableCapacity c → 1 ≤ capacity_or_one c
least None p = omega arith
least (Some n) p = p.0

most : (c : Option ℕ) → IfThere IsPrintableCapacity c → capacity_or_one c ≤ CAPACITY
most None p = omega arith
most (Some n) p = p.1

task_kept : (app : App) (t : Task) → IsPrintableTask t → KeepsTaskLimits (task app t)
task_kept app t p = record {
  args = p.few_args;
  least_capacity = least t.capacity p.capacity;
  most_capacity =
      most t.capacity p.capacity;
  body = body_kept app t.args t.body p.body;
}

tasks_kept : (app : App) (ts : List Task) → AllByRecursion IsPrintableTask ts
    → AllByRecursion KeepsTaskLimits (map (task app) ts)
tasks_kept app [] p = tt
tasks_kept app (t ∷ ts) p = (task_kept app t p.0, tasks_kept app ts p.1)

irqs_kept : (irqs : List IrqTree) → AllByRecursion IsPrintableIrq irqs
    → AllByRecursion (λ d. d.number < IRQ_NUMBERS) (map irq irqs)
irqs_kept [] p = tt
irqs_kept (d ∷ irqs) p = (p.0.1, irqs_kept irqs p.1)

shared_kept : (rs : List SharedTree) → AllByRecursion IsPrintableResource rs
    → AllByRecursion (λ r. r.first < 2 ^ 32) (map resolved_shared rs)
shared_kept [] p = tt
shared_kept (r ∷ rs) p = (p.0.1, shared_kept rs p.1)

locals_kept : (rs : List LocalTree) → AllByRecursion IsPrintableLocal rs
    → AllByRecursion (λ r. r.first < 2 ^ 32) (map local rs)
locals_kept [] p = tt
locals_kept (r ∷ rs) p = (p.0.1, locals_kept rs p.1)

pub resolved_kept : (app : App) → IsPrintable app → KeepsLimits (resolved_app app)
resolved_kept app p = record {
  least_bits = p.bits.0;
  most_bits = p.bits.1;
  irqs = rw (length-map app.irqs irq) p.few_irqs;
  irq_numbers = irqs_kept app.irqs p.irqs;
  shared = rw (length-map app.shared resolved_shared) p.few_shared;
  locals = rw (length-map app.locals local) p.few_locals;
  shared_values = shared_kept app.shared p.shared;
  local_values = locals_kept app.locals p.locals;
  few_tasks = rw (length-map app.tasks (task app)) p.few_tasks;
  init = init_kept app app.init p.init;
  idle = idle_kept app app.idle p.idle;
  tasks = tasks_kept app app.tasks p.tasks;
}
