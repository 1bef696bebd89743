use Rattle.std.proofs.Common.{◌≡◌, ◌-◌, ◌≤◌, replicate}
use Rattle.rt_ids.specs.Event.{Step}
use Rattle.rt_app.specs.View.{app_of}
use Rattle.rt_inputs.specs.Inputs.{Comes}
use Rattle.rt_inputs.specs.Inside.Ran.{Ran, moment}
use Rattle.rt_inputs.proofs.running.run_steps.Given as goal

abbrev pub invariant-loop-left : goal.invariant-loop-left
invariant-loop-left g l = record {
  run :
      Ran (app_of l.app) l.board (replicate (l.fn.count - l.left) (Comes Step)) (moment l.fn.core l.registers)
      (moment l.core l.registers) (g.K.Sink.taken l.fn.out) (g.K.Sink.taken l.out) l.fn.held.items l.held.items;
  within : l.left ≤ l.fn.count;
  quiet : g.K.Sink.faults l.out ≡ g.K.Sink.faults l.fn.out;
}

abbrev pub decreases-loop-left : goal.decreases-loop-left
decreases-loop-left g l = l.left
