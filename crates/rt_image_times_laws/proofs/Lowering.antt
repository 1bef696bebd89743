-- What a step makes of what is owed: no more of it, and less where no lower job takes the step.
use Rattle.std.proofs.Common.{◌≡◌, ◌≢◌, ℕ, suc, ◌+◌, ◌<◌, ◌≤◌, nat_le, nat_lt, Bool, true, false}
use Rattle.std.proofs.Common.{if◌then◌else◌, List, [], ◌∷◌, drop, take, slice_get, slice_set, slice_index_or, Option}
use Rattle.std.proofs.Common.{Some, None, IsSome, refl, sym, ap, subst, ⊎_elim, ◌∙◌, arith, eq-eqb}
use Rattle.std.specs.List.{AllByRecursion, Contains}
use Rattle.std.proofs.lemmas.Bool.{cases_lt, le-leb, lt-ltb}
use Rattle.rt_lemmas.proofs.Bools.{and_parts}
use Rattle.rt_lemmas.proofs.Membership.{all_at}
use Rattle.rt_ids.specs.Lists.{then_from}
use Rattle.rt_trace.specs.declared.item.What.{What}
use Rattle.rt_trace.specs.declared.item.What.TheVariants as what
use Rattle.rt_code.specs.Image.{Image, entry_words}
use Rattle.rt_code.specs.declared.image.Handler.{Handler}
use Rattle.rt_code.specs.declared.image.IrqRow.{IrqRow}
use Rattle.rt_code.specs.declared.processor.Trap.TheVariants as trap
use Rattle.rt_core.specs.Core.{Core, depth}
use Rattle.rt_core.specs.Outcome.{Trapped, Done, settle}
use Rattle.rt_core.specs.Priority.{value_or_none, pick}
use Rattle.rt_core.specs.Stepping.{attempt, step}
use Rattle.rt_core.specs.Transfer.{has_room, core_after_entry, exception_entry}
use Rattle.rt_core.proofs.Happening.{going_steps}
use Rattle.rt_core.proofs.Picking.{picked_row}
use Rattle.rt_points.specs.Checked.{IsChecked}
use Rattle.rt_points.specs.ExecutionPriority.{owner_value}
use Rattle.rt_points.specs.Leading.{handler_at, starts_at}
use Rattle.rt_points.specs.Point.{Point}
use Rattle.rt_points.specs.declared.point.Owner.{Owner}
use Rattle.rt_points.specs.declared.point.Owner.TheVariants as owner
use Rattle.rt_bounds.specs.Bounds.{AreBounds}
use Rattle.rt_bounds.specs.CountedWays.{all_left}
use Rattle.rt_bounds.specs.declared.bound.Bounds.{Bounds}
use Rattle.rt_bounds.specs.declared.bound.HandlerBound.{HandlerBound}
use Rattle.rt_bounds.specs.declared.longest.Longest.{Longest}
use Rattle.rt_bounds.specs.declared.longest.Longest.TheVariants as longest
use Rattle.rt_safe.specs.Inside.Moved.{IsSilent, IsTaken, Moved, Taken, Gone, Opened_one, Closed_one, Served}
use Rattle.rt_safe.specs.Inside.Moved.{Back}
use Rattle.rt_safe.specs.Inside.RunsAtPoints.{RunsAtPoints}
use Rattle.rt_safe.proofs.Depth.{value_is}
use Rattle.rt_rta.specs.Limits.{every_of}
use Rattle.rt_rta.specs.declared.limits.Limit.{Limit}
use Rattle.rt_image_times.specs.Form.{requests_itself}
use Rattle.rt_timely.specs.InTime.{IsBelow, KeepsLines, IsOf, IsToldOf}
use Rattle.rt_timely.specs.Waiting.{IsPending, stepper_by, lower}
use Rattle.rt_timely.specs.Watching.{Whose, Init, Thread, Handler as HandlerOf, SeenJob, Watch, begun, stepped}
use Rattle.rt_timely.specs.Watching.{inside_too, outside_again, on_running, entered, after_step}
use Rattle.rt_timely.proofs.Came.{came_owner}
use Rattle.rt_timely.proofs.HoldingOn.{silent_stepper}
use Rattle.rt_timely.proofs.InTime.{jobs_below}
use Rattle.rt_timely.proofs.Keeping.{silent_seen}
use Rattle.rt_timely.proofs.Tied.{BeginsAtEntry, BeginsAt, IsJobAt, AreJobsAt}
use Rattle.rt_timely.proofs.Told.{handler_row}
use Rattle.rt_image_times_laws.proofs.Asks.{Ask, IsNumber, steps_in, asks}
use Rattle.rt_image_times_laws.proofs.Busy.{IsBusy}
use Rattle.rt_image_times_laws.proofs.Finding.{IsFound, found}
use Rattle.rt_image_times_laws.proofs.Owing.{is_of, left_of, owed_job, owed_jobs, owed_pending, owed, owed_job_is}
use Rattle.rt_image_times_laws.proofs.Owing.{owed_job_most, take_lowers, take_spends, step_lowers, step_spends}
use Rattle.rt_image_times_laws.proofs.Owing.{job_owes}
use Rattle.rt_image_times_laws.proofs.Unpending.{pending_stays}

-- a job of an interrupt that has a limit
abbrev pub IsLimited : List Limit → Whose → Type 0
IsLimited limits (HandlerOf irq) = IsSome (every_of limits irq)
IsLimited limits whose = Unit {0}

-- what may be requested has a limit, where `init` has ended
pub record IsLive (limits : List Limit) (c : Core) (w : Watch) (p : Point) : Type 0 where
  pub started : p.owner ≢ owner.Starting
  pub pending : (irq : ℕ) → IsPending c irq → IsSome (every_of limits irq)
  pub jobs : AllByRecursion (λ (job : SeenJob). IsLimited limits job.whose) w.jobs

some_is : (o : Option ℕ) → IsSome o → (n : ℕ) × (o ≡ Some n)
some_is (Some n) some = (n, refl)
some_is None some = cc

-- below a bound that is a number
below_number : (own : Longest) (steps : ℕ) → IsNumber own → IsBelow own steps → steps < steps_in own
below_number (longest.Steps n) steps is below = below
below_number (longest.Loop a) steps is below = absurd is

-- a take clears what is taken
entry_clears : (img : Image) (c : Core) (row : IrqRow) (h : Handler) (irq depth_then : ℕ) (b : Bool)
    → (settle (if b then Done (core_after_entry c row.number h)
    (Some (what.Take row.number (depth img (core_after_entry c row.number h)))) else Trapped c trap.Stack)).1
    ≡ Some (what.Take irq depth_then)
    → (settle (if b then Done (core_after_entry c row.number h)
    (Some (what.Take row.number (depth img (core_after_entry c row.number h)))) else Trapped c trap.Stack)).0.pending
    ≡ slice_set c.pending row.number false
entry_clears img c row h irq depth_then true shows = refl
entry_clears img c row h irq depth_then false shows = cc

-- what is taken was pending, and is cleared
module _ (img : Image) (c : Core) (p : Point) (qs : List Point) (fits : RunsAtPoints img c p qs) (after : Core)
    (shown : Option What) (q : Point) (rest : List Point) (is : step img c ≡ (after, shown))
    (t : IsTaken img c p qs shown q rest) where
  pub taken_set : slice_index_or c.pending t.row.number false ≡ true
  taken_set = (and_parts _ _ (picked_row img c t.row t.picked).1).0

  entry_is : settle (exception_entry img c t.row.number (Some t.handler)) ≡ (after, shown)
  entry_is =
      sym (going_steps img c fits.stopped ∙ ap (λ o. settle (attempt img c o)) t.picked
      ∙ ap (λ o. settle (exception_entry img c t.row.number o)) t.enabled) ∙ is

  pub taken_clears : after.pending ≡ slice_set c.pending t.row.number false
  taken_clears =
      ap (λ (r : Core × Option What). r.0.pending) (sym entry_is)
      ∙ entry_clears img c t.row t.handler t.row.number t.depth (has_room img c (entry_words img + t.handler.frame))
      (ap (λ (r : Core × Option What). r.1) entry_is ∙ t.shows)

module _ (img : Image) (checked : IsChecked img) (form : requests_itself img ≡ false) (b : Bounds)
    (are : AreBounds img b) (limits : List Limit) (value : ℕ) (small : value < 256)
    (numbers : AllByRecursion (λ (a : Ask). IsNumber a.longest) (asks img limits value b.handlers.items)) where
  abbrev all : List Ask
  all = asks img limits value b.handlers.items

  -- a job has steps left that are asked for
  pub record IsOwing (whose : Whose) (steps : ℕ) : Type 0 where
    pub index : ℕ
    pub ask : Ask
    pub at : slice_get all index ≡ Some ask
    pub own : is_of whose ask.irq ≡ true
    pub less : steps < steps_in ask.longest

  -- the steps of a job are below its lines
  abbrev pub IsBelowLines : Whose → ℕ → Type 0
  IsBelowLines whose steps =
      (o : Owner) (line : Longest) → IsOf img o whose → IsToldOf b o line → IsBelow line steps

  -- of a handler that counts and has a limit
  pub asked_for : (irq : ℕ) (start : Point) → (begins : BeginsAtEntry img irq start) → begins.handler.value ≤ value
      → IsSome (every_of limits irq) → (hb : HandlerBound) → Contains b.handlers.items hb → hb.index ≡ begins.index
      → IsFound img limits value irq hb.longest all
  asked_for irq start begins high limit hb has same =
      let every = some_is (every_of limits begins.row.number)
      (subst (λ n. IsSome (every_of limits n)) (sym begins.number) limit) in
      subst (λ n. IsFound img limits value n hb.longest all) begins.number
      (found img limits value begins.row begins.handler every.0 hb (ap (slice_get img.irqs) same ∙ begins.at)
      begins.enabled high every.1 b.handlers.items has)

  pub owing : (whose : Whose) (steps : ℕ) (start : Point) → BeginsAt img whose start → start.owner ≢ owner.Starting
      → owner_value img start.owner ≤ value → IsLimited limits whose → IsBelowLines whose steps → IsOwing whose steps
  owing Init steps start begins started high limited below =
      absurd (started (ap (λ (r : Point). r.owner) begins))
  owing Thread steps start begins started high limited below =
      let same : owner_value img start.owner ≡ 256 = ap (owner_value img) begins in
      absurd (omega (arith, same, high, small))
  owing (HandlerOf irq) steps start begins started high limited below =
      let there : handler_at img begins.index ≡ Some begins.handler =
      ap (λ o. then_from o (λ r. r.handler)) begins.at ∙ begins.enabled in
      let same : owner_value img start.owner ≡ begins.handler.value =
      ap (λ (r : Point). owner_value img r.owner) begins.point ∙ value_is img begins.index begins.handler there in
      let hb = handler_row img b are irq start begins in
      let numbered : IsOf img (owner.Handling begins.index) (HandlerOf irq) =
      record { row = begins.row; at = begins.at; number = begins.number } in
      let one = asked_for irq start begins (omega (arith, same, high)) limited hb.0 hb.1 hb.2 in
      let few : IsBelow one.ask.longest steps =
      subst (λ l. IsBelow l steps) (sym one.bound)
      (below (owner.Handling begins.index) hb.0.longest numbered (hb.0, hb.1, hb.2, refl)) in
      record {
        index = one.index;
        ask = one.ask;
        at = one.at;
        own = eq-eqb irq one.ask.irq (sym one.number);
        less = below_number one.ask.longest steps
            (all_at (λ (a : Ask). IsNumber a.longest) all one.index one.ask numbers one.at) few;
      }

  -- a job at a point that does not begin with `init`
  pub owing_job : (job : SeenJob) (p : Point) → IsJobAt img job p → p.owner ≢ owner.Starting → job.value ≤ value
      → IsLimited limits job.whose → KeepsLines img b IsBelow job → IsOwing job.whose job.steps
  owing_job job p at started high limited below =
      let same = came_owner img 0 all_left at.start job.steps at.now p at.came in
      let values = at.value in
      let mine : owner_value img p.owner ≡ owner_value img at.start.owner = ap (owner_value img) same in
      owing job.whose job.steps at.start at.begins (λ is. started (same ∙ is)) (omega (arith, values, mine, high))
      limited below

  module _ (c : Core) (w : Watch) (p : Point) (qs : List Point) (fits : RunsAtPoints img c p qs)
      (at : AreJobsAt img w.jobs (p ∷ qs)) (live : IsLive limits c w p) where
    -- the first job, which steps
    abbrev Falls : List SeenJob → List SeenJob → List SeenJob → Type 0
    Falls by jobs later =
        (owed_jobs value all later ≤ owed_jobs value all jobs)
        × (lower value by ≡ [] → owed_jobs value all later + 1 ≤ owed_jobs value all jobs)

    none_lower : (job : SeenJob) → lower value (job ∷ []) ≡ [] → job.value ≤ value
    none_lower job none = ⊎_elim (λ less. absurd (held (nat_lt value job.value) (lt-ltb value job.value less) none))
        (λ high. high) (cases_lt value job.value)
      where
        held : (t : Bool) → t ≡ true → (if t then job ∷ [] else []) ≡ [] → ⊥
        held true is none = cc
        held false is none = cc

    runs : (f : SeenJob → SeenJob)
        → ((job : SeenJob) → owed_job value all (f job)
        ≡ (if nat_le job.value value then left_of job.whose (suc job.steps) all else 0))
        → (jobs : List SeenJob) → AreJobsAt img jobs (p ∷ qs)
        → AllByRecursion (λ (job : SeenJob). IsLimited limits job.whose) jobs
        → AllByRecursion (KeepsLines img b IsBelow) jobs → Falls (take 1 jobs) jobs (on_running f jobs)
    runs f is [] there limited below = absurd there
    runs f is (job ∷ jobs) there limited below = (weak, strict)
      where
        less : (t : Bool) (m n : ℕ) → m ≤ n → (if t then m else 0) ≤ (if t then n else 0)
        less true m n h = h
        less false m n h = omega arith

        weak : owed_jobs value all (f job ∷ jobs) ≤ owed_jobs value all (job ∷ jobs)
        weak =
            let same = is job in
            let fewer = less (nat_le job.value value) _ _ (step_lowers job.whose job.steps all) in
            omega (arith, same, fewer)

        strict : lower value (job ∷ []) ≡ [] → owed_jobs value all (f job ∷ jobs) + 1 ≤ owed_jobs value all (job ∷ jobs)
        strict none =
            let high = none_lower job none in
            let one = owing_job job p there.0 live.started high limited.0 below.0 in
            let same = is job in
            let later : (if nat_le job.value value then left_of job.whose (suc job.steps) all else 0)
            ≡ left_of job.whose (suc job.steps) all =
            ap (λ t. if t then left_of job.whose (suc job.steps) all else 0) (le-leb job.value value high) in
            let now = owed_job_is value all job high in
            let spends = step_spends job.whose job.steps all one.index one.ask one.at one.own one.less in
            omega (arith, same, later, now, spends)

    -- the first job, which ends
    ends : (jobs : List SeenJob) → AreJobsAt img jobs (p ∷ qs)
        → AllByRecursion (λ (job : SeenJob). IsLimited limits job.whose) jobs
        → AllByRecursion (KeepsLines img b IsBelow) jobs → Falls (take 1 jobs) jobs (drop 1 jobs)
    ends [] there limited below = absurd there
    ends (job ∷ jobs) there limited below = (omega arith, strict)
      where
        strict : lower value (job ∷ []) ≡ [] → owed_jobs value all jobs + 1 ≤ owed_jobs value all (job ∷ jobs)
        strict none =
            let high = none_lower job none in
            let one = owing_job job p there.0 live.started high limited.0 below.0 in
            let now = owed_job_is value all job high in
            let some = job_owes job.whose job.steps all one.index one.ask one.at one.own one.less in
            omega (arith, now, some)

    below : AllByRecursion (KeepsLines img b IsBelow) w.jobs
    below = jobs_below img checked b are w.jobs (p ∷ qs) at

    module _ (after : Core) (shown : Option What) (q : Point) (rest : List Point) (is : step img c ≡ (after, shown))
      where
        abbrev pub Lowers : Option What → Type 0
        Lowers s =
            (owed value all after.pending (after_step c w (after, s)).jobs ≤ owed value all c.pending w.jobs)
            × (IsBusy img value c → lower value (stepper_by s w.jobs) ≡ []
            → owed value all after.pending (after_step c w (after, s)).jobs + 1 ≤ owed value all c.pending w.jobs)

        pending_same : pick img c ≡ None → after.pending ≡ c.pending
        pending_same picked =
            ap (λ (r : Core × Option What). r.0.pending) (sym is) ∙ pending_stays img checked form c p qs fits picked

        by_falls : (s : Option What) → pick img c ≡ None
            → Falls (stepper_by s w.jobs) w.jobs (after_step c w (after, s)).jobs → Lowers s
        by_falls s picked falls =
            let same : owed_pending after.pending all ≡ owed_pending c.pending all =
            ap (λ ps. owed_pending ps all) (pending_same picked) in
            let weak = falls.0 in
            (omega (arith, same, weak), λ busy none. let less = falls.1 none in omega (arith, same, less))

        gone : pick img c ≡ None → IsSilent shown → Lowers shown
        gone picked silent =
            let by : stepper_by shown w.jobs ≡ take 1 w.jobs = silent_stepper shown silent w.jobs in
            let new : (after_step c w (after, shown)).jobs ≡ on_running stepped w.jobs =
            ap (λ (v : Watch). v.jobs) (silent_seen c after w shown silent) in
            by_falls shown picked
            (subst (λ (js : List SeenJob). Falls js w.jobs (after_step c w (after, shown)).jobs) (sym by)
            (subst (λ (js : List SeenJob). Falls (take 1 w.jobs) w.jobs js) (sym new)
            (runs stepped (λ job. refl) w.jobs at live.jobs below)))

        module _ (t : IsTaken img c p qs shown q rest) where
          set : slice_index_or c.pending t.row.number false ≡ true
          set = taken_set img c p qs fits after shown q rest is t

          cleared : after.pending ≡ slice_set c.pending t.row.number false
          cleared = taken_clears img c p qs fits after shown q rest is t

          asks_one : IsBusy img value c → (hb : HandlerBound)
              → IsFound img limits value t.row.number hb.longest all
              → owed_pending (slice_set c.pending t.row.number false) all + left_of (HandlerOf t.row.number) 0 all + 1
              ≤ owed_pending c.pending all
          asks_one busy hb one = take_spends c.pending t.row.number set all one.index one.ask one.at one.number

          taken : Lowers shown
          taken =
              let same : owed_pending after.pending all ≡ owed_pending (slice_set c.pending t.row.number false) all =
              ap (λ ps. owed_pending ps all) cleared in
              let job = owed_job_most value all (begun (HandlerOf t.row.number) after) in
              subst Lowers (sym t.shows) (
                let weak = take_lowers c.pending t.row.number set all in omega (arith, same, job, weak),
                λ busy none.
                    let start : Point = starts_at t.handler.entry (owner.Handling t.index) in
                    let begins : BeginsAtEntry img t.row.number start = record {
                      index = t.index;
                      row = t.row;
                      handler = t.handler;
                      at = t.at;
                      number = refl;
                      enabled = t.enabled;
                      point = refl;
                    } in
                    let high : t.handler.value ≤ value =
                    subst (λ (o : Option Handler). value_or_none o ≤ value) t.enabled (busy.high t.row t.picked) in
                    let hb = handler_row img b are t.row.number start begins in
                    let spends = asks_one busy hb.0
                    (asked_for t.row.number start begins high (live.pending t.row.number set) hb.0 hb.1 hb.2) in
                    omega (arith, same, job, spends),
              )

        -- a step lowers what is owed
        pub lowers : Moved img c p qs shown q rest → Lowers shown
        lowers (Taken t) = taken t
        lowers (Gone one inside silent) = gone one.none silent
        lowers (Opened_one one) =
            subst Lowers (sym one.shows)
            (by_falls (Some (what.Enter one.section)) one.goes.none
            (runs (λ job. inside_too (entered c after one.section w.steps) (stepped job)) (λ job. refl) w.jobs at
            live.jobs below))
        lowers (Closed_one one) =
            subst Lowers (sym one.shows)
            (by_falls (Some (what.Leave one.opened.section one.value)) one.goes.none
            (runs (λ job. outside_again (stepped job)) (λ job. refl) w.jobs at live.jobs below))
        lowers (Served one) = absurd (live.started one.before)
        lowers (Back one) =
            subst Lowers (sym one.shows)
            (by_falls (Some (what.Ret one.irq)) one.none (ends w.jobs at live.jobs below))
