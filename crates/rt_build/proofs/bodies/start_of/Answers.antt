use Rattle.std.proofs.Common.{ℕ, ◌+◌, ◌<◌, List, length, get_or, arith, ap, ◌∙◌}
use Rattle.std.proofs.lemmas.List.{length-map, get_or_read}
use Rattle.rt_app.specs.View.{app_of}
use Rattle.rt_app.specs.Frame.{frame_words}
use Rattle.rt_build.proofs.Served.{frame_at}
use Rattle.rt_build.proofs.bodies.start_of.Goals as goal

pub index-requires : goal.index-requires
index-requires c = omega (arith, c.requires.within, c.requires.entries.of_tasks, c.args.code.now.tasks.ok.0)

pub overflow_add-number : goal.overflow_add-number
overflow_add-number c = omega (arith, c.requires.within, c.requires.plan.accepted.limits.few_tasks)

pub index-requires-2 : goal.index-requires-2
index-requires-2 c =
    omega (
      arith,
      c.requires.within,
      c.args.plan.now.frames.ok.0,
      ap (λ (fs : List ℕ). length fs) c.requires.plan.planned.frames,
      length-map (app_of c.args.plan.now.app.now).tasks (λ t. frame_words t.args t.body),
    )

pub returns : goal.returns
returns c =
    let long : c.args.number < length c.args.code.now.tasks.items =
    omega (arith, c.requires.within, c.requires.entries.of_tasks) in
    record {
      entry = get_or_read c.args.code.now.tasks.items c.args.number c.index.result.now long c.index.ensures 0;
      frame = λ t there.
          frame_at (app_of c.args.plan.now.app.now) c.args.number t c.index-2.result.now there
          (c.index-2.ensures ∙ ap (λ (fs : List ℕ). get_or fs (c.args.number + 2) c.index-2.result.now)
          c.requires.plan.planned.frames);
    }
