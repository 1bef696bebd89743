use Rattle.std.proofs.Common.{◌≡◌}
use Rattle.rt_app.specs.View.{app_of}
use Rattle.rt_inputs.specs.Inside.Ran.{moment}
use Rattle.rt_live_inputs.proofs.Looked.{BoxesSoFar}
use Rattle.rt_live_inputs.proofs.looking.look_at_boxes.Given as goal

abbrev pub invariant-loop-kind : goal.invariant-loop-kind
invariant-loop-kind g l = record {
  k : l.k ≡ l.kind-index;
  far :
      BoxesSoFar l.kind-index (app_of l.app) l.board l.kinds l.fn.going.went l.going.went l.fn.takers l.takers
      (moment l.fn.core l.fn.going.registers) (moment l.core l.going.registers) (g.K.Sink.taken l.fn.out)
      (g.K.Sink.taken l.out) (g.K.Sink.faults l.fn.out) (g.K.Sink.faults l.out);
}
