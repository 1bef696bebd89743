use Rattle.std.proofs.Common.{ℕ, None, length, ap, ◌∙◌, Option, arith}
use Rattle.std.proofs.lemmas.List.{length-replicate}
use Rattle.rt_ids.specs.declared.limits.TheConstants.{IRQ_NUMBERS}
use Rattle.rt_nvic.specs.Nvic.{Nvic, priority_of}
use Rattle.rt_core.proofs.Enabled.{none_enabled}
use Rattle.rt_core.proofs.machine.controller.Goals as goal

pub loop-number-init : goal.loop-number-init
loop-number-init c = record {
  enabled = record {
    long = ap (λ (n : Nvic). length n.priorities) c.new-nvic.ensures ∙ length-replicate {A = Option ℕ} IRQ_NUMBERS None;
    below = λ irq l. absurd (omega (arith, l));
    rest = λ irq l. ap (λ (n : Nvic). priority_of n irq) c.new-nvic.ensures ∙ none_enabled IRQ_NUMBERS irq;
  };
  pending = ap (λ (n : Nvic). n.pending) c.new-nvic.ensures;
  active = ap (λ (n : Nvic). n.active) c.new-nvic.ensures;
}
