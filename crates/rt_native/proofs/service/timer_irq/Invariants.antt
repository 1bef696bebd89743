-- No line so far is an alarm.
use Rattle.std.proofs.Common.{◌≡◌, drop}
use Rattle.rt_native.specs.Service.{timer_irq}
use Rattle.rt_native.proofs.service.timer_irq.Given as goal

abbrev pub invariant-loop-line : goal.invariant-loop-line
invariant-loop-line l = timer_irq (drop l.line-index l.code) ≡ timer_irq l.code
