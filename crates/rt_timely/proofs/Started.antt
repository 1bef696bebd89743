-- A job that was taken has a higher priority than all that it interrupted.
use Rattle.std.proofs.Common.{◌<◌, List, [], ◌∷◌, arith}
use Rattle.std.specs.List.{AllByRecursion}
use Rattle.rt_lemmas.proofs.Membership.{all_weaker}
use Rattle.rt_code.specs.Image.{Image}
use Rattle.rt_core.specs.Core.{Context, Core, reset}
use Rattle.rt_core.specs.Trace.{core_after}
use Rattle.rt_points.specs.ExecutionPriority.{owner_value}
use Rattle.rt_points.specs.Point.{Point}
use Rattle.rt_safe.specs.Inside.RunsAtPoints.{base_under, IsStacked}
use Rattle.rt_safe.proofs.Execution.{handler_value}
use Rattle.rt_safe.proofs.PointPriorities.{priority_within}
use Rattle.rt_timely.specs.Waiting.{RunsTheHighest, NoneWaitsOnceStarted}
use Rattle.rt_timely.specs.Watching.{SeenJob, watched}
use Rattle.rt_timely.proofs.Frames.{frames_of}
use Rattle.rt_timely.proofs.Reaching.{reached}
use Rattle.rt_timely.proofs.Tied.{AreJobsAt, jobs_of}

module _ (img : Image) where
  -- the jobs under a point have greater values than its owner
  above_all : (p : Point) (qs : List Point) (below : List Context) → IsStacked img p qs below → (jobs : List SeenJob)
      → AreJobsAt img jobs qs → AllByRecursion (λ job. owner_value img p.owner < job.value) jobs
  above_all p qs below stacked [] at = tt
  above_all p [] below stacked (job ∷ jobs) at = absurd at
  above_all p (q ∷ qs) [] stacked (job ∷ jobs) at = absurd stacked
  above_all p (q ∷ qs) (x ∷ below) stacked (job ∷ jobs) at =
      let on = stacked.0 in
      let mine = handler_value img p q (base_under qs) x on in
      let within = priority_within img q.owner q.inside in
      let above = on.above in
      let theirs = at.0.value in (
        omega (arith, mine, above, within, theirs),
        all_weaker (λ (other : SeenJob). owner_value img q.owner < other.value)
            (λ (other : SeenJob). owner_value img p.owner < other.value)
            (λ other less. omega (arith, mine, above, within, less)) jobs
            (above_all q qs below stacked.1 jobs at.1),
      )

  pub runs_highest : (p : Point) (qs : List Point) (below : List Context) → IsStacked img p qs below → (jobs : List SeenJob)
      → AreJobsAt img jobs (p ∷ qs) → RunsTheHighest jobs
  runs_highest p qs below stacked [] at = tt
  runs_highest p qs below stacked (job ∷ jobs) at =
      let mine = at.0.value in
      all_weaker (λ (other : SeenJob). owner_value img p.owner < other.value)
      (λ (other : SeenJob). job.value < other.value) (λ other less. omega (arith, mine, less)) jobs
      (above_all p qs below stacked jobs at.1)

pub none_waits_once_started : NoneWaitsOnceStarted
none_waits_once_started img events checked =
    let at = reached img checked events in
    let c : Core = core_after img (reset img) events in
    runs_highest img at.point at.below c.below at.fits.stack (watched img events).jobs
    (jobs_of img (watched img events) (at.point ∷ at.below) (frames_of c) at.tied)
