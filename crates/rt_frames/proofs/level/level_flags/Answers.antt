use Rattle.std.proofs.Common.{◌≡◌, map, ap, ◌∙◌, arith}
use Rattle.rt_app.specs.View.{task_of, app_of}
use Rattle.rt_frames.specs.Inside.Flags.{flags_with, level_numbers}
use Rattle.rt_frames.proofs.Flagging.{flagged_within}
use Rattle.rt_frames.proofs.Spawners.{levels_are}
use Rattle.rt_frames.proofs.level.level_flags.Goals as goal

pub returns : goal.returns
returns c =
    let ts = (app_of c.args.app.now).tasks in
    let is : c.flag_levels.new.flags ≡ flags_with (level_numbers ts) c.none-levels.result =
    c.flag_levels.ensures ∙ ap (λ us. flags_with (level_numbers (map task_of us)) c.none-levels.result)
    c.deref.ensures.value in
    record {
      flags = levels_are ts c.none-levels.result c.flag_levels.new.flags c.none-levels.ensures is
          c.flag_levels.array_long;
      all = flagged_within (level_numbers ts) c.none-levels.result 256 c.none-levels.ensures.long
          (rw (← is) (omega (arith, c.flag_levels.array_long)));
    }
