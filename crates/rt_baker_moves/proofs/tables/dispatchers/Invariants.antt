-- The levels so far.
use Rattle.std.proofs.Common.{◌≡◌, ℕ}
use Rattle.rt_app.specs.Sending.{dispatcher_number}
use Rattle.rt_app.specs.View.{app_of}
use Rattle.rt_baker_moves.proofs.Filling.{IsFilled}
use Rattle.rt_baker_moves.proofs.tables.dispatchers.Given as goal

abbrev pub invariant-loop-level : goal.invariant-loop-level
invariant-loop-level l =
    IsFilled ℕ (λ p number. number ≡ dispatcher_number (app_of l.app) p) 0 l.level l.numbers.items
