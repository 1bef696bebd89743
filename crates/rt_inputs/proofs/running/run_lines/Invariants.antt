use Rattle.std.proofs.Common.{◌≡◌, take}
use Rattle.rt_app.specs.View.{app_of}
use Rattle.rt_inputs.specs.Script.{happenings}
use Rattle.rt_inputs.specs.Inside.Ran.{Ran, moment}
use Rattle.rt_inputs.proofs.running.run_lines.Given as goal

abbrev pub invariant-loop-line : goal.invariant-loop-line
invariant-loop-line g l = record {
  run :
      Ran (app_of l.app) l.board (happenings (take l.line-index l.lines)) (moment l.fn.core l.fn.registers)
      (moment l.core l.registers) (g.K.Sink.taken l.fn.out) (g.K.Sink.taken l.out) l.fn.held.items l.held.items;
  quiet : g.K.Sink.faults l.out ≡ g.K.Sink.faults l.fn.out;
}
