-- The inputs so far that are of the task.
use Rattle.std.proofs.Common.{◌≡◌, ◌==◌, filter, take}
use Rattle.rt_ids.specs.Lists.{is_some_and}
use Rattle.rt_app.specs.View.{app_of}
use Rattle.rt_inputs.specs.Inputs.{input_irq}
use Rattle.rt_inputs_audit.proofs.held.inputs_at.Given as goal

abbrev pub invariant-loop-input : goal.invariant-loop-input
invariant-loop-input l =
    l.inputs.items
    ≡ filter (λ input. is_some_and (λ n. n == l.irq) (input_irq (app_of l.app) input))
    (take l.input-index l.board.inputs)
