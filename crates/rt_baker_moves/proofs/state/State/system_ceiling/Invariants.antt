-- The greatest of the jobs so far.
use Rattle.std.proofs.Common.{◌≡◌, take}
use Rattle.rt_app.specs.View.{app_of}
use Rattle.rt_baker_moves.specs.Inside.SystemCeiling.{kept_ceiling}
use Rattle.rt_baker_moves.proofs.state.State.system_ceiling.Given as goal

abbrev pub invariant-loop-job : goal.invariant-loop-job
invariant-loop-job l = l.greatest ≡ kept_ceiling (app_of l.machine.code.now.app.now) (take l.job-index l.self.jobs)
