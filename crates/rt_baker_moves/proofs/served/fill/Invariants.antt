-- The interrupts so far.
use Rattle.std.proofs.Common.{Option, None}
use Rattle.rt_ids.specs.declared.limits.TheConstants.{IRQ_NUMBERS}
use Rattle.rt_app.specs.View.{app_of}
use Rattle.rt_laws.specs.Services.{service_at}
use Rattle.rt_baker_moves.specs.declared.machine.Served.{Served}
use Rattle.rt_baker_moves.specs.Machine.{IsServiceOf}
use Rattle.rt_baker_moves.proofs.Filling.{IsSetBelow}
use Rattle.rt_baker_moves.proofs.served.fill.Given as goal

abbrev pub invariant-loop-irq : goal.invariant-loop-irq
invariant-loop-irq l =
    IsSetBelow (Option Served) (λ irq served. IsServiceOf (app_of l.app) served (service_at (app_of l.app) irq)) None
    IRQ_NUMBERS l.irq l.served
