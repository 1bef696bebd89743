use Rattle.rt_app.specs.View.{app_of}
use Rattle.rt_inputs.specs.Inside.Ran.{moment}
use Rattle.rt_live_inputs.specs.Looking.{step_turns}
use Rattle.rt_live_inputs.specs.Inside.Turning.{Turns}
use Rattle.rt_live_inputs.proofs.Lines.{repeated}
use Rattle.rt_live_inputs.proofs.turns.steps.Given as goal

abbrev pub invariant-loop-done : goal.invariant-loop-done
invariant-loop-done g l =
    Turns (app_of l.app) l.board l.kinds (repeated l._done step_turns) l.fn.going.went l.going.went l.fn.line l.line
    l.fn.takers l.takers (moment l.fn.core l.fn.going.registers) (moment l.core l.going.registers)
    (g.K.Sink.taken l.fn.out) (g.K.Sink.taken l.out) (g.K.Sink.faults l.fn.out) (g.K.Sink.faults l.out)
