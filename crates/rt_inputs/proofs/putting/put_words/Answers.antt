use Rattle.std.proofs.Common.{length, List, ap, sym, ◌∙◌}
use Rattle.rt_ids.specs.Event.{Event}
use Rattle.rt_app.specs.View.{app_of}
use Rattle.rt_core.specs.Core.{Core}
use Rattle.rt_core.specs.Machine.{Machine}
use Rattle.rt_laws.specs.DeviceWords.{WithWords}
use Rattle.rt_sim.specs.Beside.{core_beside}
use Rattle.rt_board.specs.Board.{no_board}
use Rattle.rt_board.specs.declared.board.Input.{Input}
use Rattle.rt_inputs.specs.Inputs.{put_for}
use Rattle.rt_inputs.specs.Inside.Ran.{held_in}
use Rattle.rt_inputs.proofs.Words.{put_more, same_cells, one_none}
use Rattle.rt_inputs.proofs.putting.put_words.Goals as goal

pub loop-input-preserved : goal.loop-input-preserved
loop-input-preserved c =
    let app = app_of c.args.app.now in
    let core : Machine = c.args.core.now in
    let input : Input = c.input-item.result in
    let registers = held_in c.args.registers.now in
    let put : Input → List (WithWords Event) = put_for app no_board registers c.args.irq in
    record {
      run =
          c.put_word.ensures
          ∙ ap (λ (m : Machine). let n : Machine = record m { core = core_beside app m.image m.core (put input) } in n)
          c.loop-input.invariant.run
          ∙ ap (λ (d : Core). let n : Machine = record core { core = d } in n)
          (sym (put_more app core.image put c.inputs-inputs.result.now c.loop-input.input-index input core.core
          c.loop-input-test.true c.input-item.is));
      cells =
          ap (λ (m : Machine). length m.core.processor.cells) c.put_word.ensures
          ∙ same_cells app c.loop-input.core.image (put input) c.loop-input.core.core
          (one_none app registers c.args.irq input)
          ∙ c.loop-input.invariant.cells;
    }
