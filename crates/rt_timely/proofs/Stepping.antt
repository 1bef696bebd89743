-- A core step while a priority value is busy, by what happens: what it makes of the first lower job. Where the value is
-- busy, an instruction runs only where the execution priority holds the value off, and what is taken has no greater one.
use Rattle.std.proofs.Common.{◌≡◌, ℕ, ◌≤◌, inl, inr, List, [], ◌∷◌, drop, take, Option, Some}
use Rattle.std.proofs.Common.{None, refl, sym, ap, subst, ⊎_elim, ◌∙◌, arith}
use Rattle.std.proofs.lemmas.Bool.{cases_lt}
use Rattle.rt_ids.specs.Lists.{then_from}
use Rattle.rt_ids.specs.declared.limits.TheConstants.{THREAD_VALUE}
use Rattle.rt_trace.specs.declared.item.What.{What}
use Rattle.rt_trace.specs.declared.item.What.TheVariants as what
use Rattle.rt_code.specs.Image.{Image}
use Rattle.rt_code.specs.declared.image.IrqRow.{IrqRow}
use Rattle.rt_core.specs.Core.{Core}
use Rattle.rt_core.specs.Priority.{value_or_none, execution, pick}
use Rattle.rt_points.specs.Checked.{IsChecked}
use Rattle.rt_points.specs.ExecutionPriority.{owner_value, execution_priority}
use Rattle.rt_points.specs.Leading.{handler_at}
use Rattle.rt_points.specs.Point.{Point}
use Rattle.rt_safe.specs.Inside.RunsAtPoints.{RunsAtPoints}
use Rattle.rt_safe.specs.Inside.Moved.{IsSilent, IsTaken, GoesOn, IsOpened, IsClosed, IsServing, IsBack, Moved, Taken}
use Rattle.rt_safe.specs.Inside.Moved.{Gone, Opened_one, Closed_one, Served, Back}
use Rattle.rt_safe.proofs.Apart.{alone_in_init}
use Rattle.rt_safe.proofs.Depth.{value_is}
use Rattle.rt_safe.proofs.Execution.{execution_is}
use Rattle.rt_timely.specs.Waiting.{stepper_by, lower}
use Rattle.rt_timely.specs.Watching.{SeenJob, Watch, Handler as HandlerOf, begun, stepped, inside_too, outside_again}
use Rattle.rt_timely.specs.Watching.{on_running, entered, after_step}
use Rattle.rt_timely.proofs.Holding.{IsFree, IsHeld}
use Rattle.rt_timely.proofs.HoldingOn.{silent_stepper, stays_on, stays_inside, IsHeldBy, held_nowhere, first_high}
use Rattle.rt_timely.proofs.HoldingOn.{runs_held, closed_stays, back_held}
use Rattle.rt_timely.proofs.Keeping.{silent_seen}
use Rattle.rt_timely.proofs.Tied.{AreJobsAt}

module _ (img : Image) (checked : IsChecked img) (value : ℕ) (c : Core) (p : Point) (qs : List Point)
    (fits : RunsAtPoints img c p qs) (off : pick img c ≡ None → execution c ≤ value)
    (high : (other : IrqRow) → pick img c ≡ Some other → value_or_none other.handler ≤ value) where
  -- where an instruction runs, the value is held off
  held_off : pick img c ≡ None → execution_priority img p.owner p.inside ≤ value
  held_off picked =
      let most = off picked in
      let same = execution_is img checked c p qs fits in
      omega (arith, most, same)

  -- and who runs is not a free lower job
  high_of : IsFree img value (p ∷ qs) → pick img c ≡ None
      → (owner_value img p.owner ≤ value) × IsFree img value qs
  high_of free picked =
      ⊎_elim (λ high. high) (λ above. let off = held_off picked in absurd (omega (arith, above, off))) free

  module _ (shown : Option What) (q : Point) (rest : List Point) where
    -- a handler that is taken has no greater value
    taken_high : IsTaken img c p qs shown q rest → owner_value img q.owner ≤ value
    taken_high one =
        let most = high one.row one.picked in
        let handler : value_or_none one.row.handler ≡ one.handler.value = ap value_or_none one.enabled in
        let there : handler_at img one.index ≡ Some one.handler =
        ap (λ o. then_from o (λ r. r.handler)) one.at ∙ one.enabled in
        let own : owner_value img q.owner ≡ one.handler.value =
        ap (λ (r : Point). owner_value img r.owner) one.point ∙ value_is img one.index one.handler there in
        omega (arith, most, handler, own)

    -- behind the end of `init` the thread is free, or has no greater value itself
    thread_free : IsServing img c p qs shown q rest → IsFree img value qs → IsFree img value (q ∷ qs)
    thread_free one free =
        let own : owner_value img q.owner ≡ THREAD_VALUE = ap (owner_value img) one.behind in
        let priority : execution_priority img q.owner q.inside ≡ owner_value img q.owner =
        ap (execution_priority img q.owner) one.empty in
        ⊎_elim (λ above. inr (omega (arith, above, own, priority)))
        (λ high. inl (omega (arith, high, own), free))
        (cases_lt value THREAD_VALUE)

    goes_free : GoesOn img c p qs shown q rest → IsFree img value (p ∷ qs) → IsFree img value (q ∷ rest)
    goes_free one free =
        let high = high_of free one.none in
        let same : owner_value img q.owner ≡ owner_value img p.owner = ap (owner_value img) one.owner in
        let most = high.0 in
        let here : IsFree img value (q ∷ qs) = inl (omega (arith, most, same), high.1) in
        subst (λ (ps : List Point). IsFree img value (q ∷ ps)) (sym one.below) here

    -- the first lower job that is free is so behind a step
    pub free_on : Moved img c p qs shown q rest → IsFree img value (p ∷ qs) → IsFree img value (q ∷ rest)
    free_on (Taken one) free =
        let here : IsFree img value (q ∷ p ∷ qs) = inl (taken_high one, free) in
        subst (λ (ps : List Point). IsFree img value (q ∷ ps)) (sym one.below) here
    free_on (Gone one inside silent) free = goes_free one free
    free_on (Opened_one one) free = goes_free one.goes free
    free_on (Closed_one one) free = goes_free one.goes free
    free_on (Served one) free =
        subst (λ (ps : List Point). IsFree img value (q ∷ ps)) (sym one.below)
        (thread_free one (high_of free one.none).1)
    free_on (Back one) free = subst (IsFree img value) one.back (high_of free one.none).1

    module _ (w : Watch) (jobs : AreJobsAt img w.jobs (p ∷ qs)) where
      high_steps : pick img c ≡ None → IsFree img value (p ∷ qs) → lower value (take 1 w.jobs) ≡ []
      high_steps picked free = first_high img value p qs w.jobs jobs (high_of free picked).0

      abbrev NoneSteps : Option What → Type 0
      NoneSteps s = lower value (stepper_by s w.jobs) ≡ []

      -- and takes no step
      pub free_waits : Moved img c p qs shown q rest → IsFree img value (p ∷ qs) → NoneSteps shown
      free_waits (Taken one) free = subst NoneSteps (sym one.shows) refl
      free_waits (Gone one inside silent) free =
          ap (lower value) (silent_stepper shown silent w.jobs) ∙ high_steps one.none free
      free_waits (Opened_one one) free = subst NoneSteps (sym one.shows) (high_steps one.goes.none free)
      free_waits (Closed_one one) free = subst NoneSteps (sym one.shows) (high_steps one.goes.none free)
      free_waits (Served one) free = subst NoneSteps (sym one.shows) (high_steps one.none free)
      free_waits (Back one) free = subst NoneSteps (sym one.shows) (high_steps one.none free)

      module _ (after : Core) (since steps : ℕ) (held : IsHeld img value since steps w.jobs (p ∷ qs)) where
        abbrev HeldBy : Option What → List Point → Type 0
        HeldBy s ps = IsHeldBy img value since steps (stepper_by s w.jobs) (after_step c w (after, s)).jobs ps

        abbrev Held : Option What → Type 0
        Held s = HeldBy s (q ∷ rest)

        on_rest : (s : Option What) → rest ≡ qs → HeldBy s (q ∷ qs) → Held s
        on_rest s below is = subst (λ (ps : List Point). HeldBy s (q ∷ ps)) (sym below) is

        taken_held : IsTaken img c p qs shown q rest → Held shown
        taken_held one =
            let here : IsHeld img value since steps (begun (HandlerOf one.row.number) after ∷ w.jobs) (q ∷ p ∷ qs) =
            inl (taken_high one, held) in
            subst Held (sym one.shows)
            (subst (λ (ps : List Point). HeldBy (Some (what.Take one.row.number one.depth)) (q ∷ ps)) (sym one.below)
            (inl (refl, here)))

        gone_held : GoesOn img c p qs shown q rest → IsSilent shown → Held shown
        gone_held one silent =
            let by : stepper_by shown w.jobs ≡ take 1 w.jobs = silent_stepper shown silent w.jobs in
            let new : (after_step c w (after, shown)).jobs ≡ on_running stepped w.jobs =
            ap (λ (v : Watch). v.jobs) (silent_seen c after w shown silent) in
            let here : IsHeldBy img value since steps (take 1 w.jobs) (on_running stepped w.jobs) (q ∷ qs) =
            runs_held img value p q qs since steps stepped one.owner
            (λ job at stays. inl (stays_on value since steps job stays)) w.jobs jobs held in
            on_rest shown one.below
            (subst
            (λ (js : List SeenJob). IsHeldBy img value since steps js (after_step c w (after, shown)).jobs (q ∷ qs))
            (sym by)
            (subst (λ (js : List SeenJob). IsHeldBy img value since steps (take 1 w.jobs) js (q ∷ qs)) (sym new)
            here))

        opened_held : IsOpened img c p qs shown q rest → Held shown
        opened_held one =
            subst Held (sym one.shows) (on_rest (Some (what.Enter one.section)) one.goes.below
            (runs_held img value p q qs since steps
            (λ job. inside_too (entered c after one.section w.steps) (stepped job)) one.goes.owner
            (λ job at stays. inl (stays_inside value since steps job (entered c after one.section w.steps) stays))
            w.jobs jobs held))

        closed_held : IsClosed img c p qs shown q rest → Held shown
        closed_held one =
            subst Held (sym one.shows) (on_rest (Some (what.Leave one.opened.section one.value)) one.goes.below
            (runs_held img value p q qs since steps (λ job. outside_again (stepped job)) one.goes.owner
            (closed_stays img value p q one.opened one.inside one.goes.owner since steps) w.jobs jobs held))

        -- `init` is not lower, and has interrupted nobody
        served_held : IsServing img c p qs shown q rest → ⊥
        served_held one = by w.jobs held
          where
            alone : qs ≡ []
            alone = alone_in_init img p qs c.below one.before fits.stack

            by : (js : List SeenJob) → IsHeld img value since steps js (p ∷ qs) → ⊥
            by [] is = is
            by (job ∷ js) is =
                ⊎_elim
                (λ high. held_nowhere img value since steps js
                (subst (IsHeld img value since steps js) alone high.1))
                (λ low. let less = low.0 in
                let zero : owner_value img p.owner ≡ 0 = ap (owner_value img) one.before in
                absurd (omega (arith, less, zero)))
                is

        returned_held : IsBack img c p qs shown q rest → Held shown
        returned_held one =
            let on = back_held img value p qs since steps one.empty w.jobs jobs held in
            subst Held (sym one.shows)
            (inl (on.0, subst (IsHeld img value since steps (drop 1 w.jobs)) one.back on.1))

        pub held_on : Moved img c p qs shown q rest → Held shown
        held_on (Taken one) = taken_held one
        held_on (Gone one inside silent) = gone_held one silent
        held_on (Opened_one one) = opened_held one
        held_on (Closed_one one) = closed_held one
        held_on (Served one) = absurd (served_held one)
        held_on (Back one) = returned_held one
