-- It goes before none of those so far.
use Rattle.rt_app.specs.View.{app_of}
use Rattle.rt_laws.specs.Preemption.{goes_before}
use Rattle.rt_baker_moves.proofs.Waiting.{IsPast}
use Rattle.rt_baker_moves.proofs.candidate.waiting_index.Given as goal

abbrev pub invariant-loop-index : goal.invariant-loop-index
invariant-loop-index l = IsPast (goes_before (app_of l.machine.code.now.app.now)) l.irq l.waiting l.index
