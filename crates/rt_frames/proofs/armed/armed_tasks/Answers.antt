use Rattle.std.proofs.Common.{get_or, false, arith}
use Rattle.rt_app.specs.View.{app_of}
use Rattle.rt_frames.proofs.Sums.{from_bool_most}
use Rattle.rt_frames.proofs.Spawners.{count_left, count_more}
use Rattle.rt_frames.proofs.armed.armed_tasks.Goals as goal

pub loop-number-preserved : goal.loop-number-preserved
loop-number-preserved c =
    let more = count_more (app_of c.args.app.now) c.args.armed.now c.requires c.args.app.now.tasks.items
    c.loop-number.number (omega arith) in
    record {
      whole = omega (arith, more);
      few =
          omega (arith, from_bool_most (get_or c.args.armed.now c.loop-number.number false));
    }

pub returns-clause-value : goal.returns-clause-value
returns-clause-value c =
    omega (
      arith,
      count_left (app_of c.args.app.now) c.args.armed.now c.requires c.args.app.now.tasks.items
          c.loop-number.number (omega arith),
    )
