use Rattle.std.proofs.Common.{map, ap, ◌∙◌}
use Rattle.rt_app.specs.Tree.{Task}
use Rattle.rt_app.specs.View.{task_of, app_of}
use Rattle.rt_frames.specs.Inside.Flags.{flags_with}
use Rattle.rt_frames.proofs.Handlers.{handlers_are}
use Rattle.rt_frames.proofs.stack.handler_flags.Goals as goal

pub returns : goal.returns
returns c =
    handlers_are (app_of c.args.app.now) c.none-handlers.result c.flag_priorities.new.flags c.flag_timer.new.flags
    c.none-handlers.ensures
    (c.flag_priorities.ensures ∙ ap (λ ts. flags_with (map (λ (t : Task). t.priority) (map task_of ts))
    c.none-handlers.result) c.deref.ensures.value) c.flag_timer.ensures c.flag_timer.array_long
