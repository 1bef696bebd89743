-- Which interrupts go deepest: one of each priority, of the task with the greatest frame there. Jobs of one priority
-- never stand on each other (Baker, Stack-Based Scheduling of Realtime Processes, 1991, on sharing a stack), so no
-- other nesting takes more. The code keeps the greatest frame of a pass over the tasks.
use Rattle.std.specs.Prelude.{ℕ, ◌==◌, ◌&&◌, List, map, find, Option}
use Rattle.rt_ids.specs.Lists.{or_zero, then_from}
use Rattle.rt_app.specs.Tree.{Task, App}
use Rattle.rt_app.specs.Frame.{frame_words}
use Rattle.rt_app.specs.Handlers.{bound_number}
use Rattle.rt_app.specs.Stack.{is_bound_at, need, handler_priorities}

-- the hardware task of a priority that has the greatest frame there, the first declared of equal ones
abbrev pub deepest_task : App → ℕ → Option Task
deepest_task app p = find (λ t. is_bound_at p t && (frame_words t.args t.body == need app p)) app.tasks

-- the number of the interrupt of the deepest task of a priority
abbrev pub deepest_irq : App → ℕ → Option ℕ
deepest_irq app p = then_from (deepest_task app p) (bound_number app)

-- the interrupts of the deepest tasks, one for each priority that has a handler, rising
abbrev pub deepest_irqs : App → List ℕ
deepest_irqs app = map (λ p. or_zero (deepest_irq app p)) (handler_priorities app)
