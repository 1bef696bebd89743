-- The form of applications that answers are given for so far: no monotonic, and no body that pends the interrupt of a
-- dispatcher. Bodies may pend the interrupts of hardware tasks and spawn messages. What hardware tasks alone make up is
-- of the form. The timer is left for later.
use Rattle.std.specs.Prelude.{Bool, not, ◌&&◌}
use Rattle.std.specs.List.{list_any}
use Rattle.rt_ids.specs.Lists.{is_some_and}
use Rattle.rt_app.specs.Tree.{Task, App}
use Rattle.rt_app.specs.Handlers.{has_no_monotonic, dispatcher_of}
use Rattle.rt_app.specs.Level.{is_software}
use Rattle.rt_respond.specs.Pends.{is_pended}

-- some body pends the interrupt of the dispatcher of a task's level
abbrev pub dispatcher_is_pended : App → Task → Bool
dispatcher_is_pended app t = is_software t && is_some_and (is_pended app) (dispatcher_of app t.priority)

-- no monotonic, and no `pend` of a dispatcher's interrupt
abbrev pub is_of_form : App → Bool
is_of_form app = has_no_monotonic app && not (list_any (dispatcher_is_pended app) app.tasks)
