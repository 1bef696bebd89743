-- From a moment on at which an interrupt is pending, lower jobs take steps of one section alone until its take, and no
-- more than are left of the longest.
use Rattle.std.proofs.Common.{◌≡◌, ℕ, suc, ◌+◌, ◌<◌, ◌≤◌, inl, inr, ◌==◌, nat_lt, Bool, true, false, if◌then◌else◌}
use Rattle.std.proofs.Common.{List, []}
use Rattle.std.proofs.Common.{◌∷◌, ◌++◌, length, slice_get, Option, Some, None, refl, sym, ap, subst, ⊎_elim, ◌∙◌}
use Rattle.std.proofs.Common.{arith}
use Rattle.std.proofs.Common.{eq-eqb}
use Rattle.std.specs.List.{AllByRecursion}
use Rattle.std.proofs.lemmas.Bool.{false≢true}
use Rattle.rt_lemmas.proofs.Membership.{all_has}
use Rattle.rt_ids.specs.Event.{Event, Arrive, Tick, Step}
use Rattle.rt_ids.specs.Priority.{hardware}
use Rattle.rt_trace.specs.declared.item.What.{What}
use Rattle.rt_code.specs.Image.{Image}
use Rattle.rt_code.specs.declared.image.Handler.{Handler}
use Rattle.rt_code.specs.declared.image.IrqRow.{IrqRow}
use Rattle.rt_core.specs.Core.{Core, reset}
use Rattle.rt_core.specs.Priority.{execution, pick, value_or_none}
use Rattle.rt_core.specs.Stepping.{step}
use Rattle.rt_core.specs.Trace.{core_after}
use Rattle.rt_core.specs.Transfer.{core_after_pend}
use Rattle.rt_laws.proofs.Pending.{still_set}
use Rattle.rt_points.specs.Checked.{IsChecked}
use Rattle.rt_points.specs.Point.{Point}
use Rattle.rt_bounds.specs.Bounds.{IsWait}
use Rattle.rt_bounds.specs.declared.bound.WaitBound.{WaitBound}
use Rattle.rt_bounds.specs.declared.longest.Longest.{Longest}
use Rattle.rt_bounds.specs.declared.longest.Longest.TheVariants.{Steps, Loop}
use Rattle.rt_safe.specs.Inside.RunsAtPoints.{RunsAtPoints}
use Rattle.rt_timely.specs.Waiting.{stepper_by, shows_take, steppers, lower, IsHeldIn, AreFewer, LieInOneSection}
use Rattle.rt_timely.specs.Waiting.{IsPending, WaitsAreShort}
use Rattle.rt_timely.specs.Watching.{SeenJob, Watch, after_step, watched}
use Rattle.rt_timely.proofs.Choosing.{none_taken, one_taken}
use Rattle.rt_timely.proofs.Frames.{frames_of}
use Rattle.rt_timely.proofs.Holding.{AreWithin, IsFree, IsHeld, held_within, either}
use Rattle.rt_timely.proofs.HoldingOn.{IsHeldBy}
use Rattle.rt_timely.proofs.Keeping.{step_kept}
use Rattle.rt_safe.specs.Inside.Moved.{Moved, Taken, Gone, Opened_one, Closed_one, Served, Back}
use Rattle.rt_safe.specs.Inside.Steps.{Steps as Moves}
use Rattle.rt_safe.proofs.Stepping.{steps as moves}
use Rattle.rt_timely.proofs.Pending.{pending_by_line, pending_by_take}
use Rattle.rt_timely.proofs.Quiet.{arrived, later, ticked, stepped_to, arrival_fits, tick_fits}
use Rattle.rt_timely.proofs.Reaching.{reached}
use Rattle.rt_timely.proofs.Stepping.{free_on, free_waits, held_on}
use Rattle.rt_timely.proofs.Tied.{AreJobsAt, IsTied, jobs_of}

-- fewer steps are within a bound too
fewer_within : (longest : Option Longest) (m n : ℕ) → n ≤ m → AreWithin longest m → AreWithin longest n
fewer_within None m n less within = within
fewer_within (Some (Steps most)) m n less within = omega (arith, less, within)
fewer_within (Some (Loop address)) m n less within = tt

-- the lower jobs of two lists
lower_both : (value : ℕ) (xs ys : List SeenJob) → lower value (xs ++ ys) ≡ lower value xs ++ lower value ys
lower_both value [] ys = refl
lower_both value (x ∷ xs) ys = by (nat_lt value x.value) (lower_both value xs ys)
  where
    by : (b : Bool) → lower value (xs ++ ys) ≡ lower value xs ++ lower value ys
        → (if b then x ∷ lower value (xs ++ ys) else lower value (xs ++ ys))
        ≡ (if b then x ∷ lower value xs else lower value xs) ++ lower value ys
    by true before = ap (λ (js : List SeenJob). x ∷ js) before
    by false before = before

module _ (img : Image) (irq : ℕ) where
  -- who takes the steps from a core step on
  abbrev pub from_step : Core → Watch → List Event → Core × Option What → List SeenJob
  from_step c w events done =
      if shows_take irq done.1 then []
      else stepper_by done.1 w.jobs ++ steppers img irq done.0 (after_step c w done) events

  pub steppers_none : (c : Core) (w : Watch) → steppers img irq c w [] ≡ []
  unfolding steppers
  steppers_none c w = refl

  pub steppers_arrival : (c : Core) (w : Watch) (n : ℕ) (events : List Event)
      → steppers img irq c w (Arrive n ∷ events) ≡ steppers img irq (core_after_pend c n) w events
  unfolding steppers
  steppers_arrival c w n events = ap (λ (d : Core). steppers img irq d w events) (arrived img c n)

  pub steppers_tick : (c : Core) (w : Watch) (events : List Event) → c.alarm ≡ None
      → steppers img irq c w (Tick ∷ events) ≡ steppers img irq (later img c) w events
  unfolding steppers
  steppers_tick c w events none = ap (λ (d : Core). steppers img irq d w events) (ticked img c none)

  pub steppers_step : (c : Core) (w : Watch) (events : List Event)
      → steppers img irq c w (Step ∷ events) ≡ from_step c w events (step img c)
  unfolding steppers
  steppers_step c w events =
      ap (λ (d : Core). if shows_take irq (step img c).1 then []
      else stepper_by (step img c).1 w.jobs ++ steppers img irq d (after_step c w (step img c)) events)
      (stepped_to img c)

-- these steps lie in the stay of a step, of which so many were taken before
record Lie (img : Image) (value since steps : ℕ) (jobs : List SeenJob) : Type 0 where
  inside : AllByRecursion (IsHeldIn value since) jobs
  few : (longest : Option Longest) → IsWait img value longest → AreWithin longest (steps + length jobs)

module _ (img : Image) (checked : IsChecked img) (index : ℕ) (row : IrqRow) (h : Handler)
    (at : slice_get img.irqs index ≡ Some row) (enabled : row.handler ≡ Some h) where
  abbrev irq : ℕ
  irq = row.number

  abbrev value : ℕ
  value = h.value

  module _ (c : Core) (p : Point) (qs : List Point) (fits : RunsAtPoints img c p qs) (pending : IsPending c irq)
    where
      -- what a step that is not the take leaves pending
      still_by : (shown : Option What) (q : Point) (rest : List Point) → Moved img c p qs shown q rest
          → shows_take irq shown ≡ false → IsPending (step img c).0 irq
      still_by shown q rest (Taken one) other =
          let differs : (one.row.number == irq) ≡ false = sym (ap (shows_take irq) one.shows) ∙ other in
          pending_by_take img c fits.stopped irq one.row one.picked
          (λ same. false≢true (sym differs ∙ eq-eqb one.row.number irq same)) pending
      still_by shown q rest (Gone one inside silent) other = pending_by_line img c fits.stopped irq one.none pending
      still_by shown q rest (Opened_one one) other = pending_by_line img c fits.stopped irq one.goes.none pending
      still_by shown q rest (Closed_one one) other = pending_by_line img c fits.stopped irq one.goes.none pending
      still_by shown q rest (Served one) other = pending_by_line img c fits.stopped irq one.none pending
      still_by shown q rest (Back one) other = pending_by_line img c fits.stopped irq one.none pending

      still : (one : Moves img c p qs) → shows_take irq one.shown ≡ false → IsPending one.core irq
      still one other =
          subst (λ (r : Core × Option What). IsPending r.0 irq) one.is
          (still_by one.shown one.point one.below one.how other)

  -- a core that fits, with what one knows, where the interrupt is pending
  pub record Waits (c : Core) (w : Watch) (p : Point) (qs : List Point) : Type 0 where
    pub fits : RunsAtPoints img c p qs
    pub tied : IsTied img w (p ∷ qs) (frames_of c)
    pub pending : IsPending c irq

  -- the jobs are at the points
  jobs_at : (c : Core) (w : Watch) (p : Point) (qs : List Point) → Waits c w p qs → AreJobsAt img w.jobs (p ∷ qs)
  jobs_at c w p qs on = jobs_of img w (p ∷ qs) (frames_of c) on.tied

  -- while it waits, its value is busy
  off : (c : Core) (w : Watch) (p : Point) (qs : List Point) → Waits c w p qs → pick img c ≡ None
      → execution c ≤ value
  off c w p qs on = none_taken img c index row h at enabled on.pending

  high : (c : Core) (w : Watch) (p : Point) (qs : List Point) → Waits c w p qs → (other : IrqRow)
      → pick img c ≡ Some other → value_or_none other.handler ≤ value
  high c w p qs on = one_taken img c index row h at enabled on.pending

  module _ (c : Core) (w : Watch) (p : Point) (qs : List Point) (on : Waits c w p qs) where
    after_arrival : (n : ℕ) → Waits (core_after_pend c n) w p qs
    after_arrival n = record {
      fits = arrival_fits img c p qs on.fits n;
      tied = on.tied;
      pending = still_set c.pending n irq on.pending;
    }

    after_tick : Waits (later img c) w p qs
    after_tick = record { fits = tick_fits img c p qs on.fits; tied = on.tied; pending = on.pending }

    abbrev one : Moves img c p qs
    one = moves img checked c p qs on.fits

    after_one : shows_take irq one.shown ≡ false
        → Waits one.core (after_step c w (one.core, one.shown)) one.point one.below
    after_one other = record {
      fits = one.fits;
      tied = step_kept img checked c p qs on.fits w on.tied one.core one.point one.below one.fits one.shown
          one.is one.how;
      pending = still c p qs on.fits on.pending one other;
    }

    -- who takes the steps from the step on
    from_one : (events : List Event) → steppers img irq c w (Step ∷ events)
        ≡ from_step img irq c w events (one.core, one.shown)
    from_one events = steppers_step img irq c w events ∙ ap (from_step img irq c w events) one.is

    one_free : IsFree img value (p ∷ qs) → IsFree img value (one.point ∷ one.below)
    one_free free =
        free_on img checked value c p qs on.fits (off c w p qs on) (high c w p qs on) one.shown one.point one.below one.how free

    one_waits : IsFree img value (p ∷ qs) → lower value (stepper_by one.shown w.jobs) ≡ []
    one_waits free =
        free_waits img checked value c p qs on.fits (off c w p qs on) (high c w p qs on) one.shown one.point one.below w
        (jobs_at c w p qs on) one.how free

    one_held : (since steps : ℕ) → IsHeld img value since steps w.jobs (p ∷ qs)
        → IsHeldBy img value since steps (stepper_by one.shown w.jobs)
        (after_step c w (one.core, one.shown)).jobs (one.point ∷ one.below)
    one_held since steps held =
        held_on img checked value c p qs on.fits (off c w p qs on) (high c w p qs on) one.shown one.point one.below w
        (jobs_at c w p qs on) one.core since steps held one.how

  -- while the first lower job is free, none takes a step
  frees : (events : List Event) (c : Core) (w : Watch) (p : Point) (qs : List Point) → Waits c w p qs
      → IsFree img value (p ∷ qs) → lower value (steppers img irq c w events) ≡ []
  frees [] c w p qs on free = ap (lower value) (steppers_none img irq c w)
  frees (Arrive n ∷ events) c w p qs on free =
      ap (lower value) (steppers_arrival img irq c w n events)
      ∙ frees events (core_after_pend c n) w p qs (after_arrival c w p qs on n) free
  frees (Tick ∷ events) c w p qs on free =
      ap (lower value) (steppers_tick img irq c w events on.fits.alarm)
      ∙ frees events (later img c) w p qs (after_tick c w p qs on) free
  frees (Step ∷ events) c w p qs on free =
      ap (lower value) (from_one c w p qs on events)
      ∙ by (shows_take irq next.shown) refl
      (λ other.
      frees events next.core (after_step c w (next.core, next.shown)) next.point next.below
      (after_one c w p qs on other)
      (one_free c w p qs on free))
    where
      next : Moves img c p qs
      next = one c w p qs on

      rest : List SeenJob
      rest = steppers img irq next.core (after_step c w (next.core, next.shown)) events

      by : (b : Bool) → shows_take irq next.shown ≡ b
          → (shows_take irq next.shown ≡ false → lower value rest ≡ [])
          → lower value (if b then [] else stepper_by next.shown w.jobs ++ rest) ≡ []
      by true is behind = refl
      by false is behind =
          lower_both value (stepper_by next.shown w.jobs) rest
          ∙ ap (λ (js : List SeenJob). js ++ lower value rest) (one_waits c w p qs on free)
          ∙ behind is

  -- while it is held, it takes steps of its stay alone
  module _ (c : Core) (w : Watch) (p : Point) (qs : List Point) (on : Waits c w p qs) (since steps : ℕ)
      (held : IsHeld img value since steps w.jobs (p ∷ qs)) where
    -- what was taken so far is less than the longest stay
    so_far : (longest : Option Longest) → IsWait img value longest → AreWithin longest (suc steps)
    so_far longest wait =
        (held_within img value longest wait since steps w.jobs (p ∷ qs) (jobs_at c w p qs on) held).0

    no_steps : Lie img value since steps []
    no_steps = record {
      inside = tt;
      few = λ longest wait.
          fewer_within longest (suc steps) (steps + length {A = SeenJob} []) (omega arith) (so_far longest wait);
    }

  -- who steps from the first step on, and from there on
  with_first : (since steps : ℕ) (jobs rest : List SeenJob) (first : SeenJob) → lower value jobs ≡ first ∷ []
      → IsHeldIn value since first → Lie img value since (suc steps) (lower value rest)
      → Lie img value since steps (lower value (jobs ++ rest))
  with_first since steps jobs rest first one is lie =
      let whole : lower value (jobs ++ rest) ≡ first ∷ lower value rest =
      lower_both value jobs rest ∙ ap (λ (js : List SeenJob). js ++ lower value rest) one in
      subst (Lie img value since steps) (sym whole) (record {
        inside = (is, lie.inside);
        few = λ longest wait.
            fewer_within longest (suc steps + length (lower value rest)) (steps + length (first ∷ lower value rest))
            (omega arith) (lie.few longest wait);
      })

  helds : (events : List Event) (c : Core) (w : Watch) (p : Point) (qs : List Point) → Waits c w p qs
      → (since steps : ℕ) → IsHeld img value since steps w.jobs (p ∷ qs)
      → Lie img value since steps (lower value (steppers img irq c w events))
  helds [] c w p qs on since steps held =
      subst (λ (js : List SeenJob). Lie img value since steps (lower value js)) (sym (steppers_none img irq c w))
      (no_steps c w p qs on since steps held)
  helds (Arrive n ∷ events) c w p qs on since steps held =
      subst (λ (js : List SeenJob). Lie img value since steps (lower value js))
      (sym (steppers_arrival img irq c w n events))
      (helds events (core_after_pend c n) w p qs (after_arrival c w p qs on n) since steps held)
  helds (Tick ∷ events) c w p qs on since steps held =
      subst (λ (js : List SeenJob). Lie img value since steps (lower value js))
      (sym (steppers_tick img irq c w events on.fits.alarm))
      (helds events (later img c) w p qs (after_tick c w p qs on) since steps held)
  helds (Step ∷ events) c w p qs on since steps held =
      subst (λ (js : List SeenJob). Lie img value since steps (lower value js)) (sym (from_one c w p qs on events))
      (by (shows_take irq next.shown) refl
      (λ other k m on_it.
      helds events next.core seen next.point next.below (after_one c w p qs on other) k m on_it))
    where
      next : Moves img c p qs
      next = one c w p qs on

      seen : Watch
      seen = after_step c w (next.core, next.shown)

      rest : List SeenJob
      rest = steppers img irq next.core seen events

      -- where nobody lower steps
      nobody : Lie img value since steps (lower value rest) → lower value (stepper_by next.shown w.jobs) ≡ []
          → Lie img value since steps (lower value (stepper_by next.shown w.jobs ++ rest))
      nobody lie none =
          subst (Lie img value since steps)
          (sym (lower_both value (stepper_by next.shown w.jobs) rest
          ∙ ap (λ (js : List SeenJob). js ++ lower value rest) none))
          lie

      -- the section may have been left by the step
      freed : shows_take irq next.shown ≡ false → IsFree img value (next.point ∷ next.below)
          → Lie img value since (suc steps) (lower value rest)
      freed other free =
          subst (Lie img value since (suc steps))
          (sym (frees events next.core seen next.point next.below (after_one c w p qs on other) free))
          (record {
            inside = tt;
            few = λ longest wait.
                fewer_within longest (suc steps) (suc steps + length {A = SeenJob} []) (omega arith)
                (so_far c w p qs on since steps held longest wait);
          })

      by : (b : Bool) → shows_take irq next.shown ≡ b
          → (shows_take irq next.shown ≡ false → (k m : ℕ) → IsHeld img value k m seen.jobs (next.point ∷ next.below)
          → Lie img value k m (lower value rest))
          → Lie img value since steps (lower value (if b then [] else stepper_by next.shown w.jobs ++ rest))
      by true is behind = no_steps c w p qs on since steps held
      by false is behind =
          ⊎_elim (λ none. nobody (behind is since steps none.1) none.0)
          (λ somebody.
          with_first since steps (stepper_by next.shown w.jobs) rest somebody.0 somebody.1 somebody.2
          (⊎_elim (λ still_held. behind is since (suc steps) still_held) (λ free. freed is free) somebody.3))
          (one_held c w p qs on since steps held)

  -- no steps are few
  none_few : (longest : Option Longest) → AreFewer longest []
  none_few None = refl
  none_few (Some (Steps n)) = inl refl
  none_few (Some (Loop address)) = tt

  some_few : (longest : Option Longest) (steps : ℕ) (jobs : List SeenJob) → 0 < steps
      → AreWithin longest (steps + length jobs) → AreFewer longest jobs
  some_few None steps jobs some within = absurd within
  some_few (Some (Steps n)) steps jobs some within = inr (omega (arith, some, within))
  some_few (Some (Loop address)) steps jobs some within = tt

  pub lie_in_one : (longest : Option Longest) → IsWait img value longest → (events : List Event) (c : Core) (w : Watch)
      (p : Point) (qs : List Point) → Waits c w p qs
      → LieInOneSection value longest (lower value (steppers img irq c w events))
  lie_in_one longest wait events c w p qs on = ⊎_elim free held (either img value w.jobs (p ∷ qs) (jobs_at c w p qs on))
    where
      free : IsFree img value (p ∷ qs) → LieInOneSection value longest (lower value (steppers img irq c w events))
      free is =
          subst (LieInOneSection value longest) (sym (frees events c w p qs on is))
          (record { since = 0; inside = tt; few = none_few longest })

      held : (since : ℕ) × (steps : ℕ) × IsHeld img value since steps w.jobs (p ∷ qs)
          → LieInOneSection value longest (lower value (steppers img irq c w events))
      held is =
          let lie = helds events c w p qs on is.0 is.1 is.2 in
          let some = (held_within img value longest wait is.0 is.1 w.jobs (p ∷ qs) (jobs_at c w p qs on) is.2).1 in
          record {
            since = is.0;
            inside = lie.inside;
            few = some_few longest is.1 (lower value (steppers img irq c w events)) some (lie.few longest wait);
          }

pub waits_are_short : WaitsAreShort
waits_are_short img b number priority longest before behind checked are is =
    let at = reached img checked before in
    let c = core_after img (reset img) before in
    let each : IsWait img (hardware img.bits is.wait.priority) is.wait.longest =
    all_has (λ (wait : WaitBound). IsWait img (hardware img.bits wait.priority) wait.longest) b.waits.items is.wait
    are.waits.each is.told in
    let values : hardware img.bits is.wait.priority ≡ is.handler.value = is.priority ∙ sym is.valued in
    let wait : IsWait img is.handler.value longest =
    subst (λ l. IsWait img is.handler.value l) is.long
    (subst (λ v. IsWait img v is.wait.longest) values each) in
    let lie = lie_in_one img checked is.index is.row is.handler is.at is.enabled longest wait behind c
    (watched img before) at.point at.below
    (record {
      fits = at.fits;
      tied = at.tied;
      pending = subst (λ n. IsPending c n) (sym is.number) is.pending;
    }) in
    subst (λ n. LieInOneSection priority longest (lower priority (steppers img n c (watched img before) behind)))
    is.number
    (subst (λ v. LieInOneSection v longest (lower v (steppers img is.row.number c (watched img before) behind)))
    is.valued lie)
