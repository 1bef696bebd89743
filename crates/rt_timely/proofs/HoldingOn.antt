-- While an interrupt waits, the first lower job that is free takes no step, and stays the first; and one that is held
-- takes steps of its stay alone, until it is free.
use Rattle.std.proofs.Common.{◌≡◌, ℕ, zero, suc, ◌<◌, ◌≤◌, ◌⊎◌, inl, inr, if◌then◌else◌}
use Rattle.std.proofs.Common.{List, [], ◌∷◌, drop, map, take, slice_get, Option, Some, None, refl, ap, subst, ⊎_elim}
use Rattle.std.proofs.Common.{arith}
use Rattle.std.proofs.lemmas.Bool.{le-ltb, lt-ltb}
use Rattle.std.proofs.lemmas.Option.{none-some, same_Some}
use Rattle.rt_lemmas.proofs.Lists.{mapped_at}
use Rattle.rt_ids.specs.declared.ids.BodyId.TheVariants as body
use Rattle.rt_trace.specs.declared.item.What.{What}
use Rattle.rt_trace.specs.declared.item.What.TheVariants as what
use Rattle.rt_code.specs.Image.{Image}
use Rattle.rt_points.specs.ExecutionPriority.{owner_value, execution_priority}
use Rattle.rt_points.specs.Point.{Point}
use Rattle.rt_points.specs.declared.point.Opened.{Opened}
use Rattle.rt_points.specs.declared.point.Owner.{Owner}
use Rattle.rt_bounds.specs.CountedWays.{Left}
use Rattle.rt_safe.specs.Inside.Moved.{IsSilent}
use Rattle.rt_timely.specs.Waiting.{stepper_by, lower, StayHoldsOff, IsHeldIn}
use Rattle.rt_timely.specs.Watching.{Stay, SeenJob, longer, stepped, inside_too, outside_again, on_running}
use Rattle.rt_timely.proofs.Holding.{IsStaying, IsFree, IsHeld}
use Rattle.rt_timely.proofs.Tied.{AreStays, IsJobAt, AreJobsAt}

-- who takes a step that tells of no job and no section
pub silent_stepper : (shown : Option What) → IsSilent shown → (jobs : List SeenJob)
    → stepper_by shown jobs ≡ take 1 jobs
silent_stepper None is jobs = refl
silent_stepper (Some (what.Emit value)) is jobs = refl
silent_stepper (Some (what.Post irq)) is jobs = refl
silent_stepper (Some (what.Clock time)) is jobs = refl
silent_stepper (Some (what.End body.Idle)) is jobs = refl
silent_stepper shown is jobs = absurd is

module _ (value : ℕ) where
  -- a job of no lower priority is none of the lower ones
  none_lower : (job : SeenJob) → job.value ≤ value → lower value (job ∷ []) ≡ []
  none_lower job high = ap (λ b. if b then job ∷ [] else []) (le-ltb value job.value high)

  one_lower : (job : SeenJob) → value < job.value → lower value (job ∷ []) ≡ job ∷ []
  one_lower job low = ap (λ b. if b then job ∷ [] else []) (lt-ltb value job.value low)

  -- the job that stays is one step further
  pub stays_on : (since steps : ℕ) (job : SeenJob) → IsStaying value since steps job
      → IsStaying value since (suc steps) (stepped job)
  stays_on since steps job is = record {
    stay = longer is.stay;
    among = (is.among.0, mapped_at longer job.inside is.among.0 is.stay is.among.1);
    began = is.began;
    long = ap suc is.long;
    holds = is.holds;
  }

  -- also inside one section more
  pub stays_inside : (since steps : ℕ) (job : SeenJob) (stay : Stay) → IsStaying value since steps job
      → IsStaying value since (suc steps) (inside_too stay (stepped job))
  stays_inside since steps job stay is =
      let on = stays_on since steps job is in
      record {
        stay = on.stay;
        among = (suc on.among.0, on.among.1);
        began = on.began;
        long = on.long;
        holds = on.holds;
      }

  held_in : (since steps : ℕ) (job : SeenJob) → IsStaying value since steps job → IsHeldIn value since job
  held_in since steps job is = record { stay = is.stay; among = is.among; began = is.began; holds = is.holds }

module _ (img : Image) (value : ℕ) where
  -- what a step makes of a first lower job that is held
  abbrev pub IsHeldBy : ℕ → ℕ → List SeenJob → List SeenJob → List Point → Type 0
  IsHeldBy since steps by jobs ps =
      ((lower value by ≡ []) × IsHeld img value since steps jobs ps)
      ⊎ ((job : SeenJob) × (lower value by ≡ job ∷ []) × IsHeldIn value since job
      × (IsHeld img value since (suc steps) jobs ps ⊎ IsFree img value ps))

  pub held_nowhere : (since steps : ℕ) (jobs : List SeenJob) → IsHeld img value since steps jobs [] → ⊥
  held_nowhere since steps [] held = held
  held_nowhere since steps (job ∷ jobs) held = held

  -- the first job is at the first point, and not lower
  pub first_high : (p : Point) (qs : List Point) (jobs : List SeenJob) → AreJobsAt img jobs (p ∷ qs)
      → owner_value img p.owner ≤ value → lower value (take 1 jobs) ≡ []
  first_high p qs [] at high = absurd at
  first_high p qs (job ∷ jobs) at high =
      let same = at.0.value in none_lower value job (omega (arith, same, high))

  -- a job that runs on, or ends, by its step
  module _ (p q : Point) (qs : List Point) (since steps : ℕ) (f : SeenJob → SeenJob) (owner : q.owner ≡ p.owner)
      (on : (job : SeenJob) → IsJobAt img job p → IsStaying value since steps job
      → IsStaying value since (suc steps) (f job) ⊎ (value < execution_priority img q.owner q.inside)) where
    pub runs_held : (jobs : List SeenJob) → AreJobsAt img jobs (p ∷ qs) → IsHeld img value since steps jobs (p ∷ qs)
        → IsHeldBy since steps (take 1 jobs) (on_running f jobs) (q ∷ qs)
    runs_held [] at held = absurd at
    runs_held (job ∷ jobs) at held =
        let values : owner_value img q.owner ≡ owner_value img p.owner = ap (owner_value img) owner in
        let mine : job.value ≡ owner_value img p.owner = at.0.value in
        ⊎_elim
        (λ high. let most = high.0 in inl (
          none_lower value job (omega (arith, most, mine)),
          inl (omega (arith, most, values), high.1),
        ))
        (λ low. let less = low.0 in inr (
          job,
          one_lower value job (omega (arith, less, mine)),
          held_in value since steps job low.1,
          ⊎_elim (λ stays. inl (inr (omega (arith, less, values), stays))) (λ free. inr (inr free))
              (on job at.0 low.1),
        ))
        held

  -- where the innermost section is left, a stay in it is over, and the job is free; else it goes on
  module _ (p q : Point) (o : Opened) (inside : p.inside ≡ o ∷ q.inside) (owner : q.owner ≡ p.owner) where
    closing : (now : Left) (stays : List Stay) → AreStays img now p stays (o ∷ q.inside) → (i : ℕ) (stay : Stay)
        → slice_get stays i ≡ Some stay → StayHoldsOff value stay
        → ((k : ℕ) × (slice_get (drop 1 (map longer stays)) k ≡ Some (longer stay)))
        ⊎ (value < execution_priority img q.owner q.inside)
    closing now [] are i stay at holds = absurd are
    closing now (s ∷ stays) are zero stay at holds =
        let same : s.outside ≡ stay.outside = ap (λ (t : Stay). t.outside) (same_Some s stay at) in
        let before = are.0.outside in
        let who : execution_priority img q.owner q.inside ≡ execution_priority img p.owner q.inside =
        ap (λ (w : Owner). execution_priority img w q.inside) owner in
        let above = holds.0 in
        inr (omega (arith, above, same, before, who))
    closing now (s ∷ stays) are (suc i) stay at holds = inl (i, mapped_at longer stays i stay at)

    pub closed_stays : (since steps : ℕ) (job : SeenJob) → IsJobAt img job p → IsStaying value since steps job
        → IsStaying value since (suc steps) (outside_again (stepped job))
        ⊎ (value < execution_priority img q.owner q.inside)
    closed_stays since steps job at is =
        ⊎_elim
        (λ goes. inl (record {
          stay = longer is.stay;
          among = goes;
          began = is.began;
          long = ap suc is.long;
          holds = is.holds;
        }))
        (λ free. inr free)
        (closing at.now job.inside (subst (AreStays img at.now p job.inside) inside at.stays) is.among.0 is.stay
        is.among.1 is.holds)

  -- nothing is open where a job returns
  none_open : (now : Left) (p : Point) (stays : List Stay) (i : ℕ) (stay : Stay) → AreStays img now p stays []
      → slice_get stays i ≡ Some stay → ⊥
  none_open now p [] i stay are at = none-some stay at
  none_open now p (s ∷ stays) i stay are at = are

  pub back_held : (p : Point) (qs : List Point) (since steps : ℕ) → p.inside ≡ [] → (jobs : List SeenJob)
      → AreJobsAt img jobs (p ∷ qs) → IsHeld img value since steps jobs (p ∷ qs)
      → (lower value (take 1 jobs) ≡ []) × IsHeld img value since steps (drop 1 jobs) qs
  back_held p qs since steps empty [] at held = absurd at
  back_held p qs since steps empty (job ∷ jobs) at held =
      ⊎_elim
      (λ high. let most = high.0 in let same = at.0.value in
      (none_lower value job (omega (arith, most, same)), high.1))
      (λ low. absurd (none_open at.0.now p job.inside low.1.among.0 low.1.stay
      (subst (AreStays img at.0.now p job.inside) empty at.0.stays) low.1.among.1))
      held
