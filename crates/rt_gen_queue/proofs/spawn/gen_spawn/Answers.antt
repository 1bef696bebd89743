use Rattle.rt_gen_queue.proofs.Vocabulary.{Line, List, OnOk, ap, app_of, arith, length, length-append, names_of}
use Rattle.rt_gen_queue.proofs.Vocabulary.{spawn_code, ◌++◌, ◌≡◌}
use Rattle.rt_lemmas.proofs.Results.{on_ok_weaker}
use Rattle.rt_gen_queue.proofs.{Facts.arguments, Facts.few_arguments, Nameable.named_behind, Named.spawn_claimed}
use Rattle.rt_gen_queue.proofs.{Named.spawned, Placing.spawn_long}
use Rattle.rt_gen_queue.proofs.spawn.gen_spawn.Goals as goal
use Rattle.rt_gen_queue.specs.{SpawnLines.spawn_lines, declared.target.Target.Target}

pub returns : goal.returns
returns c =
    let app = app_of c.args.plan.now.app.now in
    let task = spawned app c.args.task c.requires.accepted c.requires.software in
    let old : List Line = c.args.code.now.items in
    let new : List Line = c.append_lines.new.code.items in
    let code : List Line = spawn_code app c.args.task c.args.threshold c.args.slot c.args.entry in
    let made : c.as_slice.result.now ≡ code =
    rw (c.as_slice.ensures, c.in_ok-append_spawn.ensures, c.new-lines.ensures)
    (ap (λ (t : Target). spawn_lines t c.args.threshold c.args.slot c.args.entry) c.find_target-target.ensures.is)
    in
    let is : OnOk c.append_lines.result (new ≡ old ++ code) = rw made at c.append_lines.ensures.code in
    let long = spawn_long app c.args.task c.args.threshold c.args.slot c.args.entry in
    let count = arguments app c.args.task task.0 task.1 in
    let few = few_arguments app c.args.task task.0 task.1 in
    record {
      code = is;
      size =
          on_ok_weaker c.append_lines.result _ _
          (λ all. omega (arith, ap (λ (ls : List Line). length ls) all, length-append old code)) is;
      lines =
          on_ok_weaker c.append_lines.result _ _
          (λ all. named_behind (names_of app) old new code all
          (spawn_claimed app c.args.task task.0 task.1 c.args.threshold c.args.slot c.args.entry)) is;
      left = c.append_lines.ensures.left;
    }
