-- How a run begins: while `init` runs nothing preempts it, and what is requested is pending as it ends.
use Rattle.std.proofs.Common.{◌≡◌, ℕ, ◌+◌, ◌≤◌, ◌<◌, ◌==◌, ◌⊎◌, inl, inr, Bool, true, false}
use Rattle.std.proofs.Common.{List, [], ◌∷◌, ◌++◌, Contains, length, slice_set, slice_index_or}
use Rattle.std.proofs.Common.{Option, Some, None, refl, sym, ap, subst, ◌∙◌, arith, eq-eqb}
use Rattle.std.specs.List.{AllByRecursion}
use Rattle.std.proofs.lemmas.Bool.{eqb-true}
use Rattle.std.proofs.lemmas.List.{length-set, length-replicate, get_or-set_same}
use Rattle.rt_lemmas.proofs.Bools.{true_and_false}
use Rattle.rt_lemmas.proofs.Membership.{contains_cases, contains_none, contains_here, contains_there}
use Rattle.rt_ids.specs.declared.ids.BodyId.TheVariants as body
use Rattle.rt_ids.specs.declared.limits.TheConstants.{IRQ_NUMBERS}
use Rattle.rt_trace.specs.Label.{Label, Arrived, Ticked, Rang, Stepped}
use Rattle.rt_trace.specs.declared.item.What.TheVariants as what
use Rattle.rt_code.specs.Image.{Image}
use Rattle.rt_core.specs.Core.{Context}
use Rattle.rt_core.specs.Priority.{pick}
use Rattle.rt_laws.proofs.Pending.{still_set}
use Rattle.rt_points.specs.Checked.{IsChecked}
use Rattle.rt_points.specs.ExecutionPriority.{owner_value}
use Rattle.rt_points.specs.Point.{Point}
use Rattle.rt_points.specs.declared.point.Owner.TheVariants as owner
use Rattle.rt_bounds.specs.Bounds.{IsWait, AreBounds}
use Rattle.rt_bounds.specs.declared.bound.Bounds.{Bounds}
use Rattle.rt_bounds.specs.declared.longest.Longest.{Longest}
use Rattle.rt_safe.specs.Inside.Moved.{Moved, Taken, Gone, Opened_one, Closed_one, Served, Back, IsServing}
use Rattle.rt_safe.specs.Inside.RunsAtPoints.{IsStacked}
use Rattle.rt_safe.specs.Inside.Steps.{Steps as Moves}
use Rattle.rt_safe.proofs.Apart.{alone_in_init}
use Rattle.rt_safe.proofs.PointPriorities.{priority_within}
use Rattle.rt_safe.proofs.Taking.{handling_differs}
use Rattle.rt_rta.specs.Kept.{end_of_init, InitEnds, KeptOnceInitEnds}
use Rattle.rt_rta.specs.declared.limits.Limit.{Limit}
use Rattle.rt_rta.proofs.Beginning.{pending_short}
use Rattle.rt_rta.proofs.Owing.{other_set}
use Rattle.rt_rta.proofs.Spacing.{Waits, KeptYet, yet_on, pending_waits, spaced_from_end, kept_yet}
use Rattle.rt_image_times.specs.Form.{requests_itself}
use Rattle.rt_image_times.specs.Limits.{AreImageLimits}
use Rattle.rt_image_times.specs.Response.{held_off}
use Rattle.rt_image_times.specs.declared.needed.Needed.TheVariants as needs
use Rattle.rt_timely.specs.Watching.{Thread, SeenJob, begun, on_running, after_step}
use Rattle.rt_timely.proofs.Tied.{AreJobsAt}
use Rattle.rt_image_times_laws.proofs.Asks.{Ask, IsNumber, asks, demand}
use Rattle.rt_image_times_laws.proofs.Living.{stays_pending}
use Rattle.rt_image_times_laws.proofs.Lowering.{IsLimited}
use Rattle.rt_image_times_laws.proofs.Moments.{Now, jobs_are, on_arrival, on_tick, move, on_step, first_moment, Follows}
use Rattle.rt_image_times_laws.proofs.Named.{AreNamed, named_none}
use Rattle.rt_image_times_laws.proofs.Owing.{left_of, owed_job_most, owed_jobs}
use Rattle.rt_image_times_laws.proofs.Responding.{Moment}
use Rattle.rt_image_times_laws.proofs.Walk.{Stretch, fresh_from_end}

-- the thread owes nothing
thread_none : (steps : ℕ) (all : List Ask) → left_of Thread steps all ≡ 0
thread_none steps [] = refl
thread_none steps (a ∷ all) = let rest = thread_none steps all in omega (arith, rest)

module _ (img : Image) (checked : IsChecked img) where
  -- where `init` ends it is alone
  end_alone : (s : Now img) → (one : IsServing img s.core s.point s.below (move img checked s).shown
      (move img checked s).point (move img checked s).below)
      → (move img checked s).below ≡ []
  end_alone s one = one.below ∙ alone_in_init img s.point s.below s.core.below one.before s.fits.stack

  none_below : (p : Point) (qs : List Point) (below : List Context) → qs ≡ [] → IsStacked img p qs below → below ≡ []
  none_below p [] [] none stacked = refl
  none_below p [] (x ∷ below) none stacked = absurd stacked
  none_below p (q ∷ qs) below none stacked = absurd (cc)

  -- a step of `init` ends it, or is one of it still: nothing is taken
  pub data EarlyStep (s : Now img) : Type 0 where
    Ends : IsServing img s.core s.point s.below (move img checked s).shown (move img checked s).point
        (move img checked s).below → EarlyStep s
    Goes_on : pick img s.core ≡ None → (move img checked s).point.owner ≡ owner.Starting → EarlyStep s

  early_step : (s : Now img) → s.point.owner ≡ owner.Starting → EarlyStep s
  early_step s starting = by (move img checked s).how
    where
      by : Moved img s.core s.point s.below (move img checked s).shown (move img checked s).point
          (move img checked s).below → EarlyStep s
      by (Taken t) =
          let above = t.above in
          let within = priority_within img s.point.owner s.point.inside in
          let none : owner_value img s.point.owner ≡ 0 = ap (owner_value img) starting in
          absurd (omega (arith, above, within, none))
      by (Gone one inside silent) = Goes_on one.none (one.owner ∙ starting)
      by (Opened_one one) = Goes_on one.goes.none (one.goes.owner ∙ starting)
      by (Closed_one one) = Goes_on one.goes.none (one.goes.owner ∙ starting)
      by (Served one) = Ends one
      by (Back one) = absurd (handling_differs one.index (sym one.handles ∙ starting))

module _ (img : Image) (checked : IsChecked img) (form : requests_itself img ≡ false) (b : Bounds)
    (are : AreBounds img b) (limits : List Limit) (value : ℕ) (small : value < 256)
    (numbers : AllByRecursion (λ (a : Ask). IsNumber a.longest) (asks img limits value b.handlers.items))
    (wait : Option Longest) (told : IsWait img value wait) (off : ℕ) (is_off : held_off wait ≡ needs.Steps off)
    (least : ℕ) (some_least : 1 ≤ least)
    (covers : off + demand least (asks img limits value b.handlers.items) ≤ least)
    (fine : AreImageLimits img limits) (irq : ℕ) (known : irq < IRQ_NUMBERS) where
  abbrev all : List Ask
  all = asks img limits value b.handlers.items

  abbrev At : Now img → Waits → List Label → Type 0
  At = Moment img checked form b are limits value small numbers wait told off is_off least some_least covers

  abbrev In : Now img → Waits → ℕ → Type 0
  In s waits steps =
      Stretch img checked limits value b.handlers.items wait told off is_off least some_least covers s.core.pending
      s.watch.jobs (s.point ∷ s.below) waits steps

  abbrev IsSet : List Bool → Type 0
  IsSet pending = slice_index_or pending irq false ≡ true

  -- while `init` runs, which nothing preempts
  record Early (s : Now img) (labels : List Label) : Type 0 where
    starting : s.point.owner ≡ owner.Starting
    follows : Follows img checked s labels
    long : length s.core.pending ≡ IRQ_NUMBERS
    kept : KeptYet limits s.core.pending labels

  -- where it has ended, a stretch begins; what was pending, or was requested before the end, is pending
  pub record Begun (pending : List Bool) (during behind : List Label) : Type 0 where
    pub begun : Now img
    pub waits : Waits
    pub moment : At begun waits behind
    pub stretch : In begun waits 0
    pub set : IsSet pending ⊎ Contains during (Arrived irq) → IsSet begun.core.pending

  -- it ends
  ends_here : (behind : List Label) (s : Now img) → Early s (end_of_init ∷ behind) → Begun s.core.pending [] behind
  ends_here behind s early = by (early_step img checked s early.starting)
    where
      one : Moves img s.core s.point s.below
      one = move img checked s

      shows : one.shown ≡ Some (what.End body.Init)
      shows = sym early.follows.0

      then_now : Now img
      then_now = on_step img checked s

      thread : List SeenJob
      thread = on_running (λ job. begun Thread one.core) s.watch.jobs

      jobs_same : then_now.watch.jobs ≡ thread
      jobs_same = ap (λ t. (after_step s.core s.watch (one.core, t)).jobs) shows

      ended : IsServing img s.core s.point s.below one.shown one.point one.below → Begun s.core.pending [] behind
      ended serving = record {
        begun = then_now;
        waits = pending_waits limits one.core.pending;
        moment = record {
          live = record {
            started = one.ended shows;
            pending = λ k set. kept.pending_limited k set;
            jobs = subst (AllByRecursion (λ (job : SeenJob). IsLimited limits job.whose)) (sym jobs_same) limited;
          };
          follows = early.follows.1;
          short = pending_short limits fine.positive one.core.pending;
          spaced = spaced_from_end limits one.core.pending behind kept;
          long = ap (λ (ps : List Bool). length ps) same ∙ early.long;
          named = subst (AreNamed then_now.watch.jobs)
              (sym (none_below img checked one.point one.below one.core.below (end_alone img checked s serving)
              one.fits.stack)) (named_none then_now.watch.jobs);
        };
        stretch = fresh_from_end img checked limits value b.handlers.items wait told off is_off least some_least covers
            one.core.pending then_now.watch.jobs (one.point ∷ one.below) (jobs_are img then_now) kept.pending_limited
            (pending_short limits fine.positive one.core.pending) (ap (owed_jobs value all) jobs_same ∙ nothing);
        set = still;
      }
        where
          same : one.core.pending ≡ s.core.pending
          same =
              stays_pending img checked form s.core s.point s.below s.fits one.core one.shown one.point one.below one.is
              serving.none

          kept : KeptYet limits one.core.pending (end_of_init ∷ behind)
          kept = subst (λ ps. KeptYet limits ps (end_of_init ∷ behind)) (sym same) early.kept

          still : IsSet s.core.pending ⊎ Contains [] (Arrived irq) → IsSet one.core.pending
          still (inl before) = subst IsSet (sym same) before
          still (inr there) = absurd (contains_none (Arrived irq) there)

          only : (jobs : List SeenJob) (qs : List Point) → qs ≡ [] → AreJobsAt img jobs (s.point ∷ qs)
              → (AllByRecursion (λ (job : SeenJob). IsLimited limits job.whose)
              (on_running (λ job. begun Thread one.core) jobs))
              × (owed_jobs value all (on_running (λ job. begun Thread one.core) jobs) ≡ 0)
          only [] qs none at = absurd at
          only (job ∷ []) qs none at =
              let most = owed_job_most value all (begun Thread one.core) in
              let owes = thread_none 0 all in
              ((tt, tt), omega (arith, most, owes))
          only (job ∷ (more ∷ jobs)) [] none at = absurd at.1
          only (job ∷ (more ∷ jobs)) (q ∷ qs) none at = absurd (cc)

          both : AllByRecursion (λ (job : SeenJob). IsLimited limits job.whose) thread
              × (owed_jobs value all thread ≡ 0)
          both =
              only s.watch.jobs s.below
              (alone_in_init img s.point s.below s.core.below early.starting s.fits.stack) (jobs_are img s)

          limited : AllByRecursion (λ (job : SeenJob). IsLimited limits job.whose) thread
          limited = both.0

          nothing : owed_jobs value all thread ≡ 0
          nothing = both.1

      by : EarlyStep img checked s → Begun s.core.pending [] behind
      by (Ends serving) = ended serving
      by (Goes_on none starting) = absurd (one.ended shows starting)

  -- a label in front at which it does not end
  begun_behind : (label : Label) (during behind : List Label) (before after : List Bool)
      → (IsSet before → IsSet after) → (label ≡ Arrived irq → IsSet after) → Begun after during behind
      → Begun before (label ∷ during) behind
  begun_behind label during behind before after keeps requests begun = record {
    begun = begun.begun;
    waits = begun.waits;
    moment = begun.moment;
    stretch = begun.stretch;
    set = set;
  }
    where
      here_or_behind : (label ≡ Arrived irq) ⊎ Contains during (Arrived irq) → IsSet begun.begun.core.pending
      here_or_behind (inl is) = begun.set (inl (requests is))
      here_or_behind (inr deeper) = begun.set (inr deeper)

      set : IsSet before ⊎ Contains (label ∷ during) (Arrived irq) → IsSet begun.begun.core.pending
      set (inl was) = begun.set (inl (keeps was))
      set (inr there) = here_or_behind (contains_cases label during (Arrived irq) there)

  until_end : (during behind : List Label) (s : Now img) → Early s (during ++ end_of_init ∷ behind)
      → ¬ Contains during end_of_init → Begun s.core.pending during behind
  until_end [] behind s early not_yet = ends_here behind s early
  until_end (Arrived i ∷ during) behind s early not_yet =
      begun_behind (Arrived i) during behind s.core.pending (slice_set s.core.pending i true)
      (still_set s.core.pending i irq) here
      (until_end during behind (on_arrival img s i) (record {
        starting = early.starting;
        follows = early.follows;
        long = length-set s.core.pending i true ∙ early.long;
        kept = yet_on limits s.core.pending (slice_set s.core.pending i true) (Arrived i)
            (during ++ end_of_init ∷ behind) (λ e. cc) (λ k set. older k set (k == i) refl) early.kept;
      }) (λ there. not_yet (contains_there (Arrived i) during end_of_init there)))
    where
      here : Arrived i ≡ Arrived irq → IsSet (slice_set s.core.pending i true)
      here e =
          let same : i ≡ irq = cc in
          let long = early.long in
          subst (λ k. IsSet (slice_set s.core.pending k true)) (sym same)
          (get_or-set_same s.core.pending irq true false (omega (arith, long, known)))

      older : (k : ℕ) → slice_index_or (slice_set s.core.pending i true) k false ≡ true → (t : Bool) → (k == i) ≡ t
          → (slice_index_or s.core.pending k false ≡ true) ⊎ (Arrived i ≡ Arrived k)
      older k set true test = inr (ap Arrived (sym (eqb-true k i test)))
      older k set false test =
          inl (sym (other_set s.core.pending i k true (λ e. true_and_false (k == i) (eq-eqb k i e) test)) ∙ set)
  until_end (Ticked ∷ during) behind s early not_yet =
      begun_behind Ticked during behind s.core.pending s.core.pending (λ set. set) (λ e. cc)
      (until_end during behind (on_tick img s) (record {
        starting = early.starting;
        follows = early.follows;
        long = early.long;
        kept = yet_on limits s.core.pending s.core.pending Ticked (during ++ end_of_init ∷ behind) (λ e. cc)
            (λ k set. inl set) early.kept;
      }) (λ there. not_yet (contains_there Ticked during end_of_init there)))
  until_end (Rang ∷ during) behind s early not_yet = absurd early.follows
  until_end (Stepped shown ∷ during) behind s early not_yet =
      by (early_step img checked s early.starting)
      (λ next. until_end during behind (on_step img checked s) next
      (λ there. not_yet (contains_there (Stepped shown) during end_of_init there)))
    where
      one : Moves img s.core s.point s.below
      one = move img checked s

      other : ¬ (Stepped shown ≡ end_of_init)
      other e = not_yet (subst (λ l. Contains (l ∷ during) end_of_init) (sym e) (contains_here end_of_init during))

      by : EarlyStep img checked s
          → (Early (on_step img checked s) (during ++ end_of_init ∷ behind) → Begun one.core.pending during behind)
          → Begun s.core.pending (Stepped shown ∷ during) behind
      by (Ends serving) next = absurd (other (ap Stepped (early.follows.0 ∙ serving.shows)))
      by (Goes_on none starting) next =
          let same = stays_pending img checked form s.core s.point s.below s.fits one.core one.shown one.point one.below
          one.is none in
          begun_behind (Stepped shown) during behind s.core.pending one.core.pending (subst IsSet (sym same)) (λ e. cc)
          (next (record {
            starting = starting;
            follows = early.follows.1;
            long = ap (λ (ps : List Bool). length ps) same ∙ early.long;
            kept = yet_on limits s.core.pending one.core.pending (Stepped shown) (during ++ end_of_init ∷ behind) other
                (λ k set. inl (ap (λ ps. slice_index_or ps k false) (sym same) ∙ set)) early.kept;
          }))

  -- from reset on
  pub begun_from_reset : (labels during behind : List Label) → Follows img checked (first_moment img) labels
      → KeptOnceInitEnds limits labels → InitEnds labels during behind
      → Begun (first_moment img).core.pending during behind
  begun_from_reset labels during behind follows kept ends =
      until_end during behind (first_moment img) (subst (Early (first_moment img)) ends.parts (record {
        starting = refl;
        follows = follows;
        long = length-replicate IRQ_NUMBERS false;
        kept = kept_yet limits IRQ_NUMBERS labels kept;
      })) ends.first_end
