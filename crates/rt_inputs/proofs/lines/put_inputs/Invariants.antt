use Rattle.std.proofs.Common.{◌≡◌, flat_map, take}
use Rattle.rt_app.specs.View.{app_of}
use Rattle.rt_run.specs.Inside.Writing.{Wrote}
use Rattle.rt_board.specs.Board.{no_board}
use Rattle.rt_inputs.specs.Inside.Placed.{text_for}
use Rattle.rt_inputs.specs.Inside.Ran.{held_in}
use Rattle.rt_inputs.proofs.lines.put_inputs.Given as goal

-- the lines of the inputs so far
abbrev pub invariant-loop-input : goal.invariant-loop-input
invariant-loop-input g l = record {
  run :
      Wrote (g.K.Sink.taken l.fn.out) (g.K.Sink.taken l.out) l.fn.held.items l.held.items
      (flat_map (text_for (app_of l.app) no_board (held_in l.registers) l.step l.irq) (take l.input-index l.inputs));
  quiet : g.K.Sink.faults l.out ≡ g.K.Sink.faults l.fn.out;
}
