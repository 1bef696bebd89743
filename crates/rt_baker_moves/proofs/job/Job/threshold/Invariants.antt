-- The greatest of the sections so far.
use Rattle.std.proofs.Common.{◌≡◌, max, map, take}
use Rattle.rt_app.specs.Ceiling.{ceiling}
use Rattle.rt_app.specs.View.{app_of}
use Rattle.rt_ids.specs.Lists.{greatest}
use Rattle.rt_baker_moves.proofs.job.Job.threshold.Given as goal

abbrev pub invariant-loop-section : goal.invariant-loop-section
invariant-loop-section l =
    l.threshold ≡ max l.self.priority (greatest (map (ceiling (app_of l.machine.code.now.app.now)) (take l.section-index
    l.self.sections)))
