-- The interrupts so far are enabled as the image says.
use Rattle.std.proofs.Common.{◌≡◌, [], replicate, false}
use Rattle.rt_ids.specs.declared.limits.TheConstants.{IRQ_NUMBERS}
use Rattle.rt_core.specs.Inside.Enabling.{HasPrioritiesBelow}
use Rattle.rt_core.proofs.machine.controller.Given as goal

abbrev pub invariant-loop-number : goal.invariant-loop-number
invariant-loop-number l = record {
  enabled : HasPrioritiesBelow l.number l.program l.nvic;
  pending : l.nvic.pending ≡ replicate IRQ_NUMBERS false;
  active : l.nvic.active ≡ [];
}
