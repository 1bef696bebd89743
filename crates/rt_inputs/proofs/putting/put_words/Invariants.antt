use Rattle.std.proofs.Common.{◌≡◌, flat_map, take, length}
use Rattle.rt_app.specs.View.{app_of}
use Rattle.rt_sim.specs.Beside.{core_beside}
use Rattle.rt_board.specs.Board.{no_board}
use Rattle.rt_inputs.specs.Inputs.{put_for}
use Rattle.rt_inputs.specs.Inside.Ran.{held_in}
use Rattle.rt_inputs.proofs.putting.put_words.Given as goal

-- the words of the inputs so far
abbrev pub invariant-loop-input : goal.invariant-loop-input
invariant-loop-input l = record {
  run : l.core ≡ record l.fn.core {
    core = core_beside (app_of l.app) l.fn.core.image l.fn.core.core
        (flat_map (put_for (app_of l.app) no_board (held_in l.registers) l.irq) (take l.input-index l.inputs));
  };
  cells : length l.core.core.processor.cells ≡ length l.fn.core.core.processor.cells;
}
