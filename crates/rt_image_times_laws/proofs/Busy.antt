-- While something is owed to a priority value, it is busy: an instruction runs only where the execution priority holds
-- the value off, and no handler of a greater value is taken.
use Rattle.std.proofs.Common.{◌≡◌, ℕ, zero, suc, ◌<◌, ◌≤◌, List, [], ◌∷◌, slice_get, Some, None, sym, ap}
use Rattle.std.proofs.Common.{subst, ⊎_elim, arith}
use Rattle.std.proofs.lemmas.Option.{same_Some}
use Rattle.rt_lemmas.proofs.Membership.{all_at}
use Rattle.rt_code.specs.Image.{Image}
use Rattle.rt_code.specs.declared.image.IrqRow.{IrqRow}
use Rattle.rt_core.specs.Core.{Core}
use Rattle.rt_core.specs.Priority.{value_or_none, execution, pick}
use Rattle.rt_core.proofs.Picking.{picked_row}
use Rattle.rt_points.specs.Checked.{IsChecked}
use Rattle.rt_points.specs.ExecutionPriority.{owner_value}
use Rattle.rt_points.specs.Point.{Point}
use Rattle.rt_safe.specs.Inside.RunsAtPoints.{RunsAtPoints}
use Rattle.rt_safe.proofs.Execution.{execution_is}
use Rattle.rt_safe.proofs.PointPriorities.{priority_within}
use Rattle.rt_safe.proofs.Taking.{preempts}
use Rattle.rt_rta.specs.declared.limits.Limit.{Limit}
use Rattle.rt_rta.proofs.Stepping.{zero_or_some}
use Rattle.rt_bounds.specs.declared.bound.HandlerBound.{HandlerBound}
use Rattle.rt_timely.specs.Waiting.{IsPending, RunsTheHighest}
use Rattle.rt_timely.specs.Watching.{SeenJob, Watch}
use Rattle.rt_timely.proofs.Choosing.{none_taken, one_taken}
use Rattle.rt_timely.proofs.Frames.{frames_of}
use Rattle.rt_timely.proofs.Started.{runs_highest}
use Rattle.rt_timely.proofs.Tied.{AreJobsAt, IsTied, jobs_of}
use Rattle.rt_image_times_laws.proofs.Asks.{asks}
use Rattle.rt_image_times_laws.proofs.Finding.{row_of_ask}
use Rattle.rt_image_times_laws.proofs.Owing.{owed, owed_jobs, high_among, IsHigh, asked_among, IsAsked}

-- a priority value is busy
pub record IsBusy (img : Image) (value : ℕ) (c : Core) : Type 0 where
  pub off : pick img c ≡ None → execution c ≤ value
  pub high : (other : IrqRow) → pick img c ≡ Some other → value_or_none other.handler ≤ value

module _ (img : Image) (checked : IsChecked img) (limits : List Limit) (value : ℕ) (bounds : List HandlerBound)
    (c : Core) (w : Watch) (p : Point) (qs : List Point) (fits : RunsAtPoints img c p qs)
    (tied : IsTied img w (p ∷ qs) (frames_of c)) where
  at : AreJobsAt img w.jobs (p ∷ qs)
  at = jobs_of img w (p ∷ qs) (frames_of c) tied

  -- the first job has no greater value than any
  first_least : (jobs : List SeenJob) → RunsTheHighest jobs → AreJobsAt img jobs (p ∷ qs) → (i : ℕ) (job : SeenJob)
      → slice_get jobs i ≡ Some job → owner_value img p.owner ≤ job.value
  first_least [] highest there i job is = absurd there
  first_least (first ∷ jobs) highest there zero job is =
      let same = there.0.value in
      let own : first.value ≡ job.value = ap (λ (j : SeenJob). j.value) (same_Some first job is) in
      omega (arith, same, own)
  first_least (first ∷ jobs) highest there (suc i) job is =
      let same = there.0.value in
      let less = all_at (λ (other : SeenJob). first.value < other.value) jobs i job highest is in
      omega (arith, same, less)

  by_job : IsHigh value (asks img limits value bounds) w.jobs → IsBusy img value c
  by_job one = record {
    off = λ none. reached;
    high = λ other picked.
        let less = preempts c other (picked_row img c other picked).1 in omega (arith, less, reached);
  }
    where
      reached : execution c ≤ value
      reached =
          let same = execution_is img checked c p qs fits in
          let within = priority_within img p.owner p.inside in
          let highest = runs_highest img p qs c.below fits.stack w.jobs at in
          let first = first_least w.jobs highest at one.index one.job one.at in
          let high = one.high in
          omega (arith, same, within, first, high)

  by_asked : IsAsked c.pending (asks img limits value bounds) → IsBusy img value c
  by_asked one =
      let row = row_of_ask img limits value bounds one.index one.ask one.at in
      let pending = subst (λ n. IsPending c n) (sym row.number) one.set in
      let high = row.high in
      record {
        off = λ none.
            let most = none_taken img c row.index row.row row.handler row.at row.enabled pending none in
            omega (arith, most, high);
        high = λ other picked.
            let most = one_taken img c row.index row.row row.handler row.at row.enabled pending other picked in
            omega (arith, most, high);
      }

  pub busy : 0 < owed value (asks img limits value bounds) c.pending w.jobs → IsBusy img value c
  busy some =
      ⊎_elim
      (λ none. by_asked (asked_among c.pending (asks img limits value bounds) (omega (arith, some, none))))
      (λ more. by_job (high_among value (asks img limits value bounds) w.jobs more))
      (zero_or_some (owed_jobs value (asks img limits value bounds) w.jobs))
