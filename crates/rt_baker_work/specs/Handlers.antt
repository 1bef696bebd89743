-- What handlers have to do as they begin (the RTIC 1 book, hardware tasks, software tasks and the monotonic). In the
-- definitions (`rt_app`) the return of a handler is a part of what it does; here it comes after all that there is to
-- do.
use Rattle.std.specs.Prelude.{[]}
use Rattle.rt_actions.specs.Location.{Guarded}
use Rattle.rt_actions.specs.Content.{messages}
use Rattle.rt_actions.specs.Action.{Enters, Clocks}
use Rattle.rt_actions.specs.Doing.{does}
use Rattle.rt_ids.specs.declared.ids.Section.TheVariants as section
use Rattle.rt_app.specs.Tree.{App}
use Rattle.rt_app.specs.Handlers.{Handler, Runs, Dispatches, Times}
use Rattle.rt_app.specs.BodyCost.{dispatcher_section_cost, timer_section_cost}
use Rattle.rt_app.specs.Sending.{act}
use Rattle.rt_app.specs.Meaning.{Later}
use Rattle.rt_baker_work.specs.declared.todo.Reading.TheVariants as reading
use Rattle.rt_baker_work.specs.Todo.{enter_body, task_body, start_message, use_clock}

module _ (app : App) where
  -- a handler, up to its return
  abbrev pub run_handler : Handler → Later → Later
  run_handler (Runs n) later vars vs = enter_body app (task_body app n) [] later vars vs
  run_handler (Dispatches p) later vars vs =
      act (Enters (section.Ready p) (dispatcher_section_cost app p))
      (λ us. start_message app p (messages (us (Guarded (section.Ready p)))) later vars us) vs
  run_handler Times later vars vs =
      act (Enters section.Timer (timer_section_cost app))
      (λ us. does Clocks us (λ time. use_clock app reading.Fire time later vars)) vs
