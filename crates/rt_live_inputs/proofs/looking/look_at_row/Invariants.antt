use Rattle.rt_app.specs.View.{app_of}
use Rattle.rt_inputs.specs.Inside.Ran.{moment}
use Rattle.rt_live_inputs.proofs.Looked.{RowSoFar}
use Rattle.rt_live_inputs.proofs.looking.look_at_row.Given as goal

abbrev pub invariant-loop-k : goal.invariant-loop-k
invariant-loop-k g l =
    RowSoFar l.k (app_of l.app) l.board l.fn.going.went l.going.went l.fn.line l.line
    (moment l.fn.core l.fn.going.registers) (moment l.core l.going.registers) (g.K.Sink.taken l.fn.out)
    (g.K.Sink.taken l.out) (g.K.Sink.faults l.fn.out) (g.K.Sink.faults l.out)
