use Rattle.std.proofs.Common.{◌≡◌, length, map, ap, ◌∙◌, arith}
use Rattle.std.specs.Prelude.{count_by}
use Rattle.std.specs.List.{list_any}
use Rattle.rt_app.specs.Level.{is_software, is_of_level, levels}
use Rattle.rt_app.specs.View.{task_of, app_of}
use Rattle.rt_frames.proofs.Below.{flags_count, dispatchers_are, saturated_sum}
use Rattle.rt_frames.proofs.cost.dispatchers_size.Goals as goal

pub returns : goal.returns
returns c =
    let app = app_of c.args.app.now in
    let count : c.count.result ≡ length (levels app) = c.count.ensures
    ∙ flags_count (λ p. list_any (is_of_level p) app.tasks) c.level_flags.result c.level_flags.ensures.flags in
    let sum = saturated_sum c.count.result c.software_count.result c.saturated_count-levels.result
    c.saturating_mul-heads.result c.saturated_count.result c.saturating_mul-tasks.result
    c.saturated_count-levels.ensures c.saturating_mul-heads.ensures
    c.saturated_count.ensures c.saturating_mul-tasks.ensures in
    omega (
      arith,
      count,
      sum,
      ap (λ ts. count_by is_software (map task_of ts)) c.deref.ensures.value,
      dispatchers_are app c.level_flags.ensures.all,
      c.software_count.ensures,
    )
