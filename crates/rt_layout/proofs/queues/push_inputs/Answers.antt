use Rattle.rt_app.specs.View.{task_of}
use Rattle.rt_layout.specs.Inside.Rows.{input_rows}
use Rattle.rt_layout.proofs.Rows.{grown, flat_map_more}
use Rattle.rt_layout.proofs.queues.push_inputs.Goals as goal

pub loop-place-preserved : goal.loop-place-preserved
loop-place-preserved c =
    grown c.args.cells.now.items _ _ c.loop-place.cells.items _ _ c.loop-place.invariant c.in_ok-push_input.ensures
    (flat_map_more (input_rows (task_of c.args.task.now)) c.loop-place.place)
