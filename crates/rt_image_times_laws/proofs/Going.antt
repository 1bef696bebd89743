-- A job of an interrupt that goes on: it owes, and it goes on until its return.
use Rattle.std.proofs.Common.{◌≡◌, ◌≢◌, ℕ, ◌<◌, ◌≤◌, ◌==◌, ◌⊎◌, inl, inr, true, false, List, [], ◌∷◌, drop}
use Rattle.std.proofs.Common.{Option, Some, None, refl, sym, ap, subst, ◌∙◌, arith, eq-eqb}
use Rattle.std.specs.List.{AllByRecursion}
use Rattle.std.proofs.lemmas.Bool.{eqb-true}
use Rattle.rt_lemmas.proofs.Bools.{true_and_false}
use Rattle.rt_ids.specs.Lists.{then_from}
use Rattle.rt_ids.specs.declared.ids.BodyId.TheVariants as body
use Rattle.rt_trace.specs.Label.{Stepped}
use Rattle.rt_trace.specs.declared.item.What.{What}
use Rattle.rt_trace.specs.declared.item.What.TheVariants as what
use Rattle.rt_code.specs.Image.{Image}
use Rattle.rt_code.specs.declared.image.Handler.{Handler}
use Rattle.rt_core.specs.Core.{Context, Core}
use Rattle.rt_core.specs.Priority.{value_or_none}
use Rattle.rt_core.specs.Stepping.{step}
use Rattle.rt_laws.specs.Waiting.{is_take, is_return}
use Rattle.rt_points.specs.Checked.{IsChecked}
use Rattle.rt_points.specs.ExecutionPriority.{owner_value, execution_priority}
use Rattle.rt_points.specs.Leading.{handler_at}
use Rattle.rt_points.specs.Point.{Point}
use Rattle.rt_points.specs.declared.point.Owner.TheVariants as owner
use Rattle.rt_bounds.specs.Bounds.{AreBounds}
use Rattle.rt_bounds.specs.CountedWays.{all_left}
use Rattle.rt_bounds.specs.declared.bound.Bounds.{Bounds}
use Rattle.rt_safe.specs.Inside.Moved.{IsSilent, IsTaken, Moved, Taken, Gone, Opened_one, Closed_one, Served, Back}
use Rattle.rt_safe.specs.Inside.RunsAtPoints.{RunsAtPoints}
use Rattle.rt_safe.proofs.Depth.{value_is}
use Rattle.rt_safe.proofs.Execution.{execution_is}
use Rattle.rt_safe.proofs.Taking.{handling_differs}
use Rattle.rt_rta.specs.declared.limits.Limit.{Limit}
use Rattle.rt_image_times.specs.Form.{requests_itself}
use Rattle.rt_timely.specs.InTime.{IsBelow, KeepsLines}
use Rattle.rt_timely.specs.Watching.{Whose, Handler as HandlerOf, SeenJob, Watch, stepped, inside_too, outside_again}
use Rattle.rt_timely.specs.Watching.{on_running, entered, after_step}
use Rattle.rt_timely.proofs.Came.{came_owner}
use Rattle.rt_timely.proofs.Keeping.{silent_seen}
use Rattle.rt_timely.proofs.Tied.{BeginsAtEntry, BeginsAt, AreJobsAt}
use Rattle.rt_image_times_laws.proofs.Asks.{Ask, IsNumber, asks}
use Rattle.rt_image_times_laws.proofs.Busy.{IsBusy}
use Rattle.rt_image_times_laws.proofs.Lowering.{IsLimited, owing}
use Rattle.rt_image_times_laws.proofs.Named.{AreNamed, left_context}
use Rattle.rt_image_times_laws.proofs.Owing.{owed_jobs, owed_job_is, job_owes}

-- a job of the interrupt, of no greater value, is among these
abbrev pub Goes : ℕ → ℕ → List SeenJob → Type 0
Goes irq value [] = ⊥
Goes irq value (job ∷ jobs) = ((job.whose ≡ HandlerOf irq) × (job.value ≤ value)) ⊎ Goes irq value jobs

module _ (img : Image) (checked : IsChecked img) (form : requests_itself img ≡ false) (b : Bounds)
    (are : AreBounds img b) (limits : List Limit) (value : ℕ) (small : value < 256)
    (numbers : AllByRecursion (λ (a : Ask). IsNumber a.longest) (asks img limits value b.handlers.items)) where
  abbrev all : List Ask
  all = asks img limits value b.handlers.items

  -- it owes
  pub goes_owes : (irq : ℕ) (jobs : List SeenJob) (ps : List Point) → AreJobsAt img jobs ps
      → AllByRecursion (λ (job : SeenJob). IsLimited limits job.whose) jobs
      → AllByRecursion (KeepsLines img b IsBelow) jobs → Goes irq value jobs → 0 < owed_jobs value all jobs
  goes_owes irq [] ps at limited below goes = absurd goes
  goes_owes irq (job ∷ jobs) [] at limited below goes = absurd at
  goes_owes irq (job ∷ jobs) (p ∷ ps) at limited below (inr deeper) =
      let more = goes_owes irq jobs ps at.1 limited.1 below.1 deeper in omega (arith, more)
  goes_owes irq (job ∷ jobs) (p ∷ ps) at limited below (inl here) =
      let begins : BeginsAtEntry img irq at.0.start =
      subst (λ (who : Whose). BeginsAt img who at.0.start) here.0 at.0.begins in
      let same = came_owner img 0 all_left at.0.start job.steps at.0.now p at.0.came in
      let values = at.0.value in
      let high = here.1 in
      let mine : owner_value img p.owner ≡ owner_value img at.0.start.owner = ap (owner_value img) same in
      let one = owing img checked form b are limits value small numbers job.whose job.steps at.0.start at.0.begins
      (λ is. handling_differs begins.index (sym (ap (λ (r : Point). r.owner) begins.point) ∙ is))
      (omega (arith, values, mine, high)) limited.0 below.0 in
      let now = owed_job_is value all job high in
      let some = job_owes job.whose job.steps all one.index one.ask one.at one.own one.less in
      omega (arith, now, some)

module _ (img : Image) (c : Core) (p : Point) (qs : List Point) (fits : RunsAtPoints img c p qs) (after : Core)
    (shown : Option What) (q : Point) (rest : List Point) (after_fits : RunsAtPoints img after q rest)
    (is : step img c ≡ (after, shown)) (w : Watch) (named : AreNamed w.jobs c.below) (irq value : ℕ) where
  runs : (f : SeenJob → SeenJob)
      → ((job : SeenJob) → ((f job).whose ≡ job.whose) × ((f job).value ≡ job.value)) → (jobs : List SeenJob)
      → Goes irq value jobs → Goes irq value (on_running f jobs)
  runs f keeps [] goes = goes
  runs f keeps (job ∷ jobs) (inr deeper) = inr deeper
  runs f keeps (job ∷ jobs) (inl here) =
      let same = keeps job in
      let high = here.1 in
      let level = same.1 in
      inl (same.0 ∙ here.0, omega (arith, high, level))

  abbrev number_of : Whose → ℕ
  number_of (HandlerOf n) = n
  number_of whose = 0

  -- where another returns
  others : (jobs : List SeenJob) (x : Context) (below : List Context) → AreNamed jobs (x ∷ below)
      → Goes irq value jobs → (x.irq == irq) ≡ false → Goes irq value (drop 1 jobs)
  others [] x below names goes other = absurd names
  others (job ∷ jobs) x below names (inr deeper) other = deeper
  others (job ∷ jobs) x below names (inl here) other =
      let same : x.irq ≡ irq = ap number_of (sym names.0 ∙ here.0) in
      absurd (true_and_false (x.irq == irq) (eq-eqb x.irq irq same) other)

  abbrev Then : Option What → Type 0
  Then s = Goes irq value (after_step c w (after, s)).jobs

  pub goes_on : p.owner ≢ owner.Starting → Moved img c p qs shown q rest → Goes irq value w.jobs
      → is_return irq (Stepped shown) ≡ false → Then shown
  goes_on started (Taken t) goes other = subst Then (sym t.shows) (inr goes)
  goes_on started (Gone one inside silent) goes other =
      subst (Goes irq value) (sym (ap (λ (v : Watch). v.jobs) (silent_seen c after w shown silent)))
      (runs stepped (λ job. (refl, refl)) w.jobs goes)
  goes_on started (Opened_one one) goes other =
      subst Then (sym one.shows)
      (runs (λ job. inside_too (entered c after one.section w.steps) (stepped job)) (λ job. (refl, refl)) w.jobs goes)
  goes_on started (Closed_one one) goes other =
      subst Then (sym one.shows) (runs (λ job. outside_again (stepped job)) (λ job. (refl, refl)) w.jobs goes)
  goes_on started (Served one) goes other = absurd (started one.before)
  goes_on started (Back one) goes other =
      let x = left_context img c p qs fits after shown q rest after_fits is one in
      subst Then (sym one.shows)
      (others w.jobs x.0 after.below (subst (AreNamed w.jobs) x.1 named) goes
      (sym (ap (λ s. is_return irq (Stepped s)) x.2) ∙ other))

  no_take : (s : Option What) → IsSilent s → is_take irq (Stepped s) ≡ false
  no_take None silent = refl
  no_take (Some (what.Emit n)) silent = refl
  no_take (Some (what.Post i)) silent = refl
  no_take (Some (what.Clock time)) silent = refl
  no_take (Some (what.End body.Idle)) silent = refl
  no_take s silent = absurd silent

  pub record IsItsTake : Type 0 where
    pub taken : IsTaken img c p qs shown q rest
    pub number : taken.row.number ≡ irq

  -- what shows the take of the interrupt is its take
  pub its_take : Moved img c p qs shown q rest → is_take irq (Stepped shown) ≡ true → IsItsTake
  its_take (Taken t) own =
      record { taken = t; number = eqb-true t.row.number irq (sym (ap (λ s. is_take irq (Stepped s)) t.shows) ∙ own) }
  its_take (Gone one inside silent) own =
      absurd (true_and_false (is_take irq (Stepped shown)) own (no_take shown silent))
  its_take (Opened_one one) own =
      absurd (true_and_false (is_take irq (Stepped shown)) own (ap (λ s. is_take irq (Stepped s)) one.shows))
  its_take (Closed_one one) own =
      absurd (true_and_false (is_take irq (Stepped shown)) own (ap (λ s. is_take irq (Stepped s)) one.shows))
  its_take (Served one) own =
      absurd (true_and_false (is_take irq (Stepped shown)) own (ap (λ s. is_take irq (Stepped s)) one.shows))
  its_take (Back one) own =
      absurd (true_and_false (is_take irq (Stepped shown)) own (ap (λ s. is_take irq (Stepped s)) one.shows))

  -- behind it a job of the interrupt goes on
  pub goes_from : IsChecked img → IsBusy img value c → IsItsTake → Then shown
  goes_from checked busy one =
      let t = one.taken in
      let there : handler_at img t.index ≡ Some t.handler = ap (λ o. then_from o (λ r. r.handler)) t.at ∙ t.enabled in
      let level = execution_is img checked after q rest after_fits in
      let entry : execution_priority img q.owner q.inside ≡ owner_value img (owner.Handling t.index) =
      ap (λ (r : Point). execution_priority img r.owner r.inside) t.point in
      let own = value_is img t.index t.handler there in
      let high : t.handler.value ≤ value =
      subst (λ (o : Option Handler). value_or_none o ≤ value) t.enabled (busy.high t.row t.picked) in
      subst Then (sym t.shows) (inl (ap HandlerOf one.number, omega (arith, level, entry, own, high)))
