use Rattle.std.proofs.Common.{map, flat_map, ap, ◌∙◌}
use Rattle.rt_app.specs.View.{task_of, app_of}
use Rattle.rt_frames.specs.Inside.Flags.{flags_with, delayed_targets, task_spawns}
use Rattle.rt_frames.proofs.Spawners.{armed_are}
use Rattle.rt_frames.proofs.armed.armed_flags.Goals as goal

pub returns : goal.returns
returns c =
    armed_are (app_of c.args.app.now) c.none-armed.result c.flag_thread.new.armed c.flag_thread-2.new.armed
    c.flag_tasks.new.armed c.none-armed.ensures c.flag_thread.ensures c.flag_thread-2.ensures
    (c.flag_tasks.ensures ∙ ap (λ ts. flags_with (delayed_targets (flat_map task_spawns (map task_of ts)))
    c.flag_thread-2.new.armed) c.deref.ensures.value) c.flag_tasks.array_long
