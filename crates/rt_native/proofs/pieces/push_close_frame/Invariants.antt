-- The steps so far.
use Rattle.std.proofs.Common.{◌≡◌, ◌++◌, replicate}
use Rattle.rt_thumb.specs.declared.instruction.Instruction.TheVariants as instruction
use Rattle.rt_native.specs.Pieces.{STEP}
use Rattle.rt_native.proofs.pieces.push_close_frame.Given as goal

abbrev pub invariant-loop-step : goal.invariant-loop-step
invariant-loop-step l = l.out.items ≡ l.fn.out.items ++ replicate l.step (instruction.AddStackWide STEP)
