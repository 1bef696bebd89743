use Rattle.rt_app.specs.View.{app_of}
use Rattle.rt_ids.specs.Arrivals.{arrivals_below}
use Rattle.rt_inputs.specs.Inside.Ran.{moment}
use Rattle.rt_live_inputs.specs.Inside.Going.{CameOf}
use Rattle.rt_live_inputs.proofs.Looked.{come}
use Rattle.rt_live_inputs.proofs.looking.arrive_word.Given as goal

abbrev pub invariant-loop-bit : goal.invariant-loop-bit
invariant-loop-bit g l =
    CameOf (app_of l.app) l.board (come (arrivals_below l.word l.found l.bit)) l.fn.going.went l.going.went
    (moment l.fn.core l.fn.going.registers) (moment l.core l.going.registers) (g.K.Sink.taken l.fn.out)
    (g.K.Sink.taken l.out) (g.K.Sink.faults l.fn.out) (g.K.Sink.faults l.out)
