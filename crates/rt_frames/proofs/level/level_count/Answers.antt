use Rattle.std.proofs.Common.{◌∙◌}
use Rattle.std.specs.List.{list_any}
use Rattle.rt_app.specs.Level.{is_of_level}
use Rattle.rt_app.specs.View.{app_of}
use Rattle.rt_frames.proofs.Below.{flags_count}
use Rattle.rt_frames.proofs.level.level_count.Goals as goal

pub returns : goal.returns
returns c = c.count.ensures ∙ flags_count (λ p. list_any (is_of_level p) (app_of c.args.app.now).tasks)
    c.level_flags.result c.level_flags.ensures.flags
