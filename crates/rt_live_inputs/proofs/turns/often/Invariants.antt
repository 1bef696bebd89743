use Rattle.rt_app.specs.View.{app_of}
use Rattle.rt_inputs.specs.Inside.Ran.{moment}
use Rattle.rt_inputs.specs.Script.{line_happenings}
use Rattle.rt_live_inputs.specs.Inside.Going.{CameOf}
use Rattle.rt_live_inputs.proofs.Lines.{repeated}
use Rattle.rt_live_inputs.proofs.turns.often.Given as goal

abbrev pub invariant-loop-done : goal.invariant-loop-done
invariant-loop-done g l =
    CameOf (app_of l.app) l.board (repeated l._done (line_happenings l.line)) l.fn.going.went l.going.went
    (moment l.fn.core l.fn.going.registers) (moment l.core l.going.registers) (g.K.Sink.taken l.fn.out)
    (g.K.Sink.taken l.out) (g.K.Sink.faults l.fn.out) (g.K.Sink.faults l.out)
