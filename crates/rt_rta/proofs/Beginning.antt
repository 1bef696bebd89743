-- How a run begins: while `init` runs nothing preempts it, and what is requested is pending as it ends.
use Rattle.std.proofs.Common.{◌≡◌, ℕ, suc, ◌+◌, ◌≤◌, ◌<◌, ◌^◌, ◌==◌, ◌⊎◌, inl, inr, Bool, true, false, if◌then◌else◌}
use Rattle.std.proofs.Common.{List, [], ◌∷◌, ◌++◌, Contains, length, slice_set, slice_index_or, take, find, Option}
use Rattle.std.proofs.Common.{Some, None, IsSome, refl, sym, ap, subst, ◌∙◌, arith, eq-eqb}
use Rattle.std.specs.List.{AllByRecursion}
use Rattle.std.proofs.lemmas.Bool.{eqb-true}
use Rattle.std.proofs.lemmas.Option.{none-some}
use Rattle.std.proofs.lemmas.List.{length-set, length-replicate, get_or-set_same}
use Rattle.rt_lemmas.proofs.Bools.{true_and_false}
use Rattle.rt_lemmas.proofs.Lists.{find_has}
use Rattle.rt_lemmas.proofs.Membership.{contains_cases, contains_none, contains_here, contains_there, all_at, any_one}
use Rattle.rt_ids.specs.Lists.{or_zero}
use Rattle.rt_actions.specs.Action.{Action, Ends, SetsAlarm, Returns}
use Rattle.rt_actions.specs.Content.{Values}
use Rattle.rt_actions.specs.Doing.{Doing, over, does}
use Rattle.rt_ids.specs.declared.ids.BodyId.TheVariants as body
use Rattle.rt_ids.specs.declared.ids.Section.{Section}
use Rattle.rt_ids.specs.declared.limits.TheConstants.{IRQ_NUMBERS}
use Rattle.rt_trace.specs.Label.{Label, Arrived, Ticked, Rang, Stepped}
use Rattle.rt_trace.specs.declared.item.What.{What}
use Rattle.rt_trace.specs.declared.item.What.TheVariants as what
use Rattle.rt_app.specs.Tree.{App}
use Rattle.rt_app.specs.Accepted.{IsAccepted}
use Rattle.rt_app.specs.Forms.{has_response_times}
use Rattle.rt_app.specs.Handlers.{Service, services}
use Rattle.rt_app.proofs.Sound.{accepted_are_sound}
use Rattle.rt_laws.specs.Services.{is_declared, timer_number}
use Rattle.rt_laws.specs.State.{Role, Init, Idle, Waiting, Serving, Job, State, first_values, first}
use Rattle.rt_laws.specs.Preemption.{system_ceiling}
use Rattle.rt_laws.specs.Giving.{return_item, item_of, next_item, item_given, next_instant, is_due}
use Rattle.rt_laws.specs.Allowed.{May, after}
use Rattle.rt_laws.specs.Run.{RunsOn}
use Rattle.rt_laws.specs.ByItems.{after_all}
use Rattle.rt_laws.specs.Observer.{Seen, Observer, first_sight, sees}
use Rattle.rt_laws.specs.Unspent.{AreUnspent, NoneIsSpent}
use Rattle.rt_laws.specs.Waiting.{is_pending}
use Rattle.rt_laws.proofs.Fine.{ActsFine, IsFine}
use Rattle.rt_laws.proofs.Waiting.{pending_stays}
use Rattle.rt_laws.proofs.Well.{StackWell, StateWell}
use Rattle.rt_laws.proofs.Pending.{made_number, priority_is, starts_above}
use Rattle.rt_laws.proofs.Happens.{first_well, happens, after_well}
use Rattle.rt_rta.specs.declared.limits.Limit.{Limit}
use Rattle.rt_rta.specs.Limits.{every_of, AreLimits}
use Rattle.rt_rta.specs.Response.{Suffices}
use Rattle.rt_rta.specs.Kept.{end_of_init, InitEnds, KeptOnceInitEnds}
use Rattle.rt_rta.proofs.Spacing.{Waits, Spaced, KeptYet, yet_on, pending_waits, spaced_from_end, kept_yet}
use Rattle.rt_rta.proofs.Quiet.{IsQuiet, init_quiet}
use Rattle.rt_rta.proofs.Owing.{at_priority, not_at_priority, other_set, owed_jobs}
use Rattle.rt_rta.proofs.Spending.{Spends, SpendsOne, BeginsAnew, LeavesStack, Spent, step_spends}
use Rattle.rt_rta.proofs.Stepping.{StaysQuiet, lowers, is_served}
use Rattle.rt_rta.proofs.Walk.{Short, Stretch, fresh_from_end}

-- how many interrupts there are stays
pub long_stays : (app : App) (v : Observer) (label : Label) → length (sees app v label).pending ≡ length v.pending
long_stays app v (Arrived i) = length-set v.pending i true
long_stays app v Ticked = refl
long_stays app v Rang = length-set v.pending (timer_number app) true
long_stays app v (Stepped None) = refl
long_stays app v (Stepped (Some (what.Take j d))) = length-set v.pending j false
long_stays app v (Stepped (Some (what.Post i))) = length-set v.pending i true
long_stays app v (Stepped (Some what.Alarm)) = length-set v.pending (timer_number app) true
long_stays app v (Stepped (Some (what.End body.Init))) = refl
long_stays app v (Stepped (Some w)) = refl

-- from a state on no job's cost is spent
abbrev pub Unspent : App → State → List Label → Type 0
Unspent app s labels = (n : ℕ) → AreUnspent (after_all app s (take n labels)).jobs

-- a limit of positive ones is positive
positive_limit : (limits : List Limit) → AllByRecursion (λ limit. 1 ≤ limit.every) limits → (irq every : ℕ)
    → every_of limits irq ≡ Some every → 1 ≤ every
positive_limit limits positive irq every row =
    let one = made_number (λ (l : Limit). l.every) (find (λ l. l.irq == irq) limits) every row in
    subst (λ n. 1 ≤ n) one.2 (find_has (λ l. 1 ≤ l.every) (λ l. l.irq == irq) limits one.0 positive one.1)

pub positive_row : (limits : List Limit) → {app : App} → AreLimits app limits → (i every : ℕ) → every_of limits i
    ≡ Some every → 1 ≤ every
positive_row limits fine = positive_limit limits fine.positive

-- what is pending as `init` ends waits no longer than its limit
pub pending_short : (limits : List Limit) → AllByRecursion (λ limit. 1 ≤ limit.every) limits → (pending : List Bool)
    → (irq every : ℕ) → every_of limits irq ≡ Some every → (pending_waits limits pending irq ≤ every) × (1 ≤ every)
pending_short limits positive pending irq every row =
    (by (slice_index_or pending irq false), positive_limit limits positive irq every row)
  where
    by : (b : Bool) → (if b then or_zero (every_of limits irq) else 0) ≤ every
    by true = let is : or_zero (every_of limits irq) ≡ every = ap or_zero row in omega (arith, is)
    by false = omega arith

-- a declared interrupt has its index among the pending ones
pub is_within : (app : App) → IsAccepted app → (irq : ℕ) (v : Observer) → is_declared app irq ≡ true
    → length v.pending ≡ IRQ_NUMBERS → irq < length v.pending
is_within app accepted irq v declared long =
    let one = any_one (λ d. d.number == irq) app.irqs declared in
    let small = all_at (λ d. d.number < IRQ_NUMBERS) app.irqs one.0 one.1 (accepted_are_sound app accepted).numbers
    one.2 in
    let same : one.1.number ≡ irq = eqb-true one.1.number irq one.3 in
    omega arith

pub next_well : (app : App) (accepted : IsAccepted app) (s : State) (v : Observer) (label : Label) → StateWell app s v
    → May app s label
    → StateWell app (after app s label) (sees app v label)
next_well app accepted s v label well may =
    after_well app accepted s v well label (happens app accepted s v well label may)

-- a job whose next action ends `idle` runs it
module _ (app : App) (s : State) (role : Role) (q : ℕ) where
  no_return : (r : Role) → ¬ (return_item r ≡ Some (what.End body.Idle))
  no_return Init is = cc
  no_return Idle is = cc
  no_return Waiting is = cc
  no_return (Serving irq) is = cc

  no_alarm : (b : Bool) → ¬ (Some (if b then what.Alarm else what.AlarmSet) ≡ Some (what.End body.Idle))
  no_alarm true is = cc
  no_alarm false is = cc

  of_action : (held : List Section) (action : Action) → ActsFine app role q held action
      → item_of s role action ≡ Some (what.End body.Idle) → role ≡ Idle
  of_action held (Ends body.Idle) fine is = fine.0
  of_action held SetsAlarm fine is = absurd (no_alarm (is_due s.time (next_instant s)) is)
  of_action held Returns fine is = absurd (no_return role is)
  of_action held action fine is = cc

  pub idle_ends : (n : ℕ) (held : List Section) (base : Values) (rest : Doing Values) → IsFine app role q n held base rest
      → next_item s role rest ≡ Some (what.End body.Idle) → role ≡ Idle
  idle_ends n held base over fine is = absurd (none-some (what.End body.Idle) is)
  idle_ends n held base (does action made next) fine is = of_action held action fine.1 is

module _ (app : App) (accepted : IsAccepted app) (form : has_response_times app ≡ true) (limits : List Limit)
    (fine : AreLimits app limits) (p : ℕ) (positive : 0 < p) (top : p ≤ 2 ^ app.bits) (least : ℕ)
    (suffices : Suffices app limits p least) where
  abbrev Brief : Waits → Type 0
  Brief = Short app accepted form limits p positive top least suffices

  -- while `init` runs, which nothing preempts
  record Early (s : State) (v : Observer) (labels : List Label) : Type 0 where
    job : Job
    jobs : s.jobs ≡ job ∷ []
    role : job.role ≡ Init
    highest : job.priority ≡ 2 ^ app.bits
    well : StateWell app s v
    quiet : StaysQuiet s
    runs : RunsOn app s labels
    long : length v.pending ≡ IRQ_NUMBERS
    unspent : Unspent app s labels
    kept : KeptYet limits s.pending labels

  -- where it has ended, a stretch begins; what was pending, or was requested before the end, is pending
  pub record Begun (v : Observer) (during behind : List Label) : Type 0 where
    pub begun : State
    pub seen : Observer
    pub waits : Waits
    pub well : StateWell app begun seen
    pub quiet : StaysQuiet begun
    pub runs : RunsOn app begun behind
    pub short : Brief waits
    pub spaced : Spaced limits waits behind
    pub long : length seen.pending ≡ IRQ_NUMBERS
    pub stretch : Stretch app accepted form limits p positive top least suffices begun seen waits 0
    pub unspent : Unspent app begun behind
    pub set : (irq : ℕ) → (is_pending v irq ≡ true) ⊎ Contains during (Arrived irq) → is_pending seen irq ≡ true

  no_takes : (s : State) (v : Observer) (shown : Option What) (labels : List Label)
      → Early s v (Stepped shown ∷ labels) → (i depth : ℕ) → ¬ (shown ≡ Some (what.Take i depth))
  no_takes s v shown labels early i depth is =
      let taken = subst (λ w. May app s (Stepped w)) is early.runs.0 in
      let one = is_served app accepted form p positive s i taken.1 in
      let over = starts_above app s i taken.1 in
      let level = priority_is app i one.0 one.1 in
      let reach : 2 ^ app.bits ≤ system_ceiling app s.jobs =
      subst (λ js. 2 ^ app.bits ≤ system_ceiling app js) (sym early.jobs)
      (let highest = early.highest in omega arith) in
      let range = find_has (λ (s : Service). (s.irq < length app.irqs) × (1 ≤ s.priority)
      × (s.priority ≤ 2 ^ app.bits))
      _ (services app) one.0 (accepted_are_sound app accepted).served one.1 in
      let within = range.2 in
      omega arith

  -- a step of `init`
  early_spent : (s : State) (v : Observer) (shown : Option What) (labels : List Label)
      → (early : Early s v (Stepped shown ∷ labels)) → Spent s early.job [] shown (after app s (Stepped shown))
  early_spent s v shown labels early =
      step_spends app accepted form s early.job [] early.jobs
      (subst (AllByRecursion (λ job. IsQuiet job.rest)) early.jobs early.quiet.rests).0
      shown early.runs.0 (no_takes s v shown labels early)

  early_quiet : (s : State) (v : Observer) (shown : Option What) (labels : List Label)
      → Early s v (Stepped shown ∷ labels) → StaysQuiet (after app s (Stepped shown))
  early_quiet s v shown labels early = (lowers app accepted form p positive s v early.well early.quiet shown
      early.runs.0).quiet

  -- no step of it ends `idle`
  not_idle : (s : State) (v : Observer) (shown : Option What) (labels : List Label)
      → Early s v (Stepped shown ∷ labels) → ¬ (shown ≡ Some (what.End body.Idle))
  not_idle s v shown labels early is =
      let given = (subst (λ w. May app s (Stepped w)) is early.runs.0).1 in
      let next : next_item s early.job.role early.job.rest ≡ Some (what.End body.Idle) =
      subst (λ js. item_given s js ≡ Some (what.End body.Idle)) early.jobs given in
      of_seen v.jobs (subst (λ js. StackWell app js v.jobs) early.jobs early.well.stack) next
    where
      init_or_idle : (role : Role) → role ≡ Init → role ≡ Idle → ⊥
      init_or_idle role init idle = cc

      of_seen : (vs : List Seen) → StackWell app (early.job ∷ []) vs
          → next_item s early.job.role early.job.rest ≡ Some (what.End body.Idle) → ⊥
      of_seen [] stack next = absurd stack
      of_seen (seen ∷ seens) stack next =
          init_or_idle early.job.role early.role
          (idle_ends app s early.job.role early.job.priority stack.0.answered early.job.sections stack.0.base
          early.job.rest stack.0.fine next)

  -- it ends
  ends_here : (behind : List Label) (s : State) (v : Observer) → Early s v (end_of_init ∷ behind) → Begun v [] behind
  ends_here behind s v early = by spent.spends
    where
      spent : Spent s early.job [] (Some (what.End body.Init)) (after app s end_of_init)
      spent = early_spent s v (Some (what.End body.Init)) behind early

      well : StateWell app (after app s end_of_init) (sees app v end_of_init)
      well = next_well app accepted s v end_of_init early.well early.runs.0

      still : (irq : ℕ) → (is_pending v irq ≡ true) ⊎ Contains [] (Arrived irq) → is_pending v irq ≡ true
      still irq (inl before) = before
      still irq (inr there) = absurd (contains_none (Arrived irq) there)

      calm : owed_jobs app p (after app s end_of_init).jobs ≡ 0 → Begun v [] behind
      calm none = record {
        begun = after app s end_of_init;
        seen = sees app v end_of_init;
        waits = pending_waits limits s.pending;
        well = well;
        quiet = early_quiet s v (Some (what.End body.Init)) behind early;
        runs = early.runs.1;
        short = pending_short limits fine.positive s.pending;
        spaced = spaced_from_end limits s.pending behind early.kept;
        long = early.long;
        stretch = fresh_from_end app accepted form limits p positive top least suffices
            (after app s end_of_init) (sees app v end_of_init) s.pending well spent.pending early.kept.pending_limited
            (pending_short limits fine.positive s.pending) none;
        unspent = λ n. early.unspent (suc n);
        set = still;
      }

      by : Spends early.job [] (Some (what.End body.Init)) (after app s end_of_init).jobs → Begun v [] behind
      by (SpendsOne j js role priority left rest no_end) = absurd (no_end refl)
      by (BeginsAnew j js priority rest ended) =
          calm (ap (owed_jobs app p) js ∙ last (not_at_priority p j.priority j.left
          (subst (λ q. q < p) (sym priority) positive)))
        where
          last : at_priority p j.priority j.left ≡ 0 → at_priority p j.priority j.left + 0 ≡ 0
          last none = omega arith
      by (LeavesStack js returned) = calm (ap (owed_jobs app p) js)

  -- a label in front at which it does not end
  begun_behind : (label : Label) (during behind : List Label) (v : Observer)
      → ((j d : ℕ) → ¬ (label ≡ Stepped (Some (what.Take j d))))
      → ((irq : ℕ) → label ≡ Arrived irq → is_pending (sees app v label) irq ≡ true)
      → Begun (sees app v label) during behind → Begun v (label ∷ during) behind
  begun_behind label during behind v no_take requests begun = record {
    begun = begun.begun;
    seen = begun.seen;
    waits = begun.waits;
    well = begun.well;
    quiet = begun.quiet;
    runs = begun.runs;
    short = begun.short;
    spaced = begun.spaced;
    long = begun.long;
    stretch = begun.stretch;
    unspent = begun.unspent;
    set = set;
  }
    where
      here_or_behind : (irq : ℕ) → (label ≡ Arrived irq) ⊎ Contains during (Arrived irq)
          → is_pending begun.seen irq ≡ true
      here_or_behind irq (inl is) = begun.set irq (inl (requests irq is))
      here_or_behind irq (inr deeper) = begun.set irq (inr deeper)

      set : (irq : ℕ) → (is_pending v irq ≡ true) ⊎ Contains (label ∷ during) (Arrived irq)
          → is_pending begun.seen irq ≡ true
      set irq (inl before) =
          begun.set irq (inl (pending_stays app irq v label (λ j d e same. no_take j d e) before))
      set irq (inr there) = here_or_behind irq (contains_cases label during (Arrived irq) there)

  until_end : (during behind : List Label) (s : State) (v : Observer) → Early s v (during ++ end_of_init ∷ behind)
      → ¬ Contains during end_of_init → Begun v during behind
  until_end [] behind s v early not_yet = ends_here behind s v early
  until_end (Arrived i ∷ during) behind s v early not_yet =
      begun_behind (Arrived i) during behind v (λ j d e. cc) here
      (until_end during behind (after app s (Arrived i)) (sees app v (Arrived i)) (record {
        job = early.job;
        jobs = early.jobs;
        role = early.role;
        highest = early.highest;
        well = next_well app accepted s v (Arrived i) early.well early.runs.0;
        quiet = record { rests = early.quiet.rests; alarm = early.quiet.alarm; not_owing = early.quiet.not_owing };
        runs = early.runs.1;
        long = long_stays app v (Arrived i) ∙ early.long;
        unspent = λ n. early.unspent (suc n);
        kept = yet_on limits s.pending (slice_set s.pending i true) (Arrived i) (during ++ end_of_init ∷ behind)
            (λ e. cc) (λ k set. older k set (k == i) refl) early.kept;
      }) (λ there. not_yet (contains_there (Arrived i) during end_of_init there)))
    where
      here : (irq : ℕ) → Arrived i ≡ Arrived irq → is_pending (sees app v (Arrived i)) irq ≡ true
      here irq e =
          let same : i ≡ irq = cc in
          subst (λ k. is_pending (sees app v (Arrived i)) k ≡ true) same
          (get_or-set_same v.pending i true false (is_within app accepted i v early.runs.0.1 early.long))

      older : (k : ℕ) → slice_index_or (slice_set s.pending i true) k false ≡ true → (b : Bool) → (k == i) ≡ b
          → (slice_index_or s.pending k false ≡ true) ⊎ (Arrived i ≡ Arrived k)
      older k set true test = inr (ap Arrived (sym (eqb-true k i test)))
      older k set false test =
          inl (sym (other_set s.pending i k true (λ e. true_and_false (k == i) (eq-eqb k i e) test)) ∙ set)
  until_end (Ticked ∷ during) behind s v early not_yet =
      begun_behind Ticked during behind v (λ j d e. cc) (λ irq e. cc)
      (until_end during behind (after app s Ticked) (sees app v Ticked) (record {
        job = early.job;
        jobs = early.jobs;
        role = early.role;
        highest = early.highest;
        well = next_well app accepted s v Ticked early.well early.runs.0;
        quiet = record {
          rests = early.quiet.rests;
          alarm = early.quiet.alarm;
          not_owing = ap (is_due (suc s.time)) early.quiet.alarm;
        };
        runs = early.runs.1;
        long = early.long;
        unspent = λ n. early.unspent (suc n);
        kept = yet_on limits s.pending s.pending Ticked (during ++ end_of_init ∷ behind) (λ e. cc) (λ k set. inl set)
            early.kept;
      }) (λ there. not_yet (contains_there Ticked during end_of_init there)))
  until_end (Rang ∷ during) behind s v early not_yet =
      absurd (true_and_false s.owing early.runs.0 early.quiet.not_owing)
  until_end (Stepped shown ∷ during) behind s v early not_yet =
      begun_behind (Stepped shown) during behind v
      (λ j d e. no_takes s v shown (during ++ end_of_init ∷ behind) early j d (shown_same shown _ e)) (λ irq e. cc)
      (goes_on (λ next. until_end during behind (after app s (Stepped shown)) (sees app v (Stepped shown)) next
      (λ there. not_yet (contains_there (Stepped shown) during end_of_init there))) spent.spends)
    where
      spent : Spent s early.job [] shown (after app s (Stepped shown))
      spent = early_spent s v shown (during ++ end_of_init ∷ behind) early

      shown_same : (a b : Option What) → Stepped a ≡ Stepped b → a ≡ b
      shown_same a b e = cc

      other : ¬ (Stepped shown ≡ end_of_init)
      other e = not_yet (subst (λ l. Contains (l ∷ during) end_of_init) (sym e) (contains_here end_of_init during))

      no_item : (role : Role) → role ≡ Init → ¬ IsSome (return_item role)
      no_item Init is some = cc
      no_item Idle is some = cc
      no_item Waiting is some = cc
      no_item (Serving irq) is some = cc

      goes_on : (Early (after app s (Stepped shown)) (sees app v (Stepped shown)) (during ++ end_of_init ∷ behind)
          → Begun (sees app v (Stepped shown)) during behind)
          → Spends early.job [] shown (after app s (Stepped shown)).jobs
          → Begun (sees app v (Stepped shown)) during behind
      goes_on next (SpendsOne j js role priority left rest no_end) = next (record {
        job = j;
        jobs = js;
        role = role ∙ early.role;
        highest = priority ∙ early.highest;
        well = next_well app accepted s v (Stepped shown) early.well early.runs.0;
        quiet = early_quiet s v shown (during ++ end_of_init ∷ behind) early;
        runs = early.runs.1;
        long = long_stays app v (Stepped shown) ∙ early.long;
        unspent = λ n. early.unspent (suc n);
        kept = yet_on limits s.pending (after app s (Stepped shown)).pending (Stepped shown)
            (during ++ end_of_init ∷ behind) other
            (λ k set. inl (ap (λ ps. slice_index_or ps k false) (sym spent.pending) ∙ set)) early.kept;
      })
      goes_on next (BeginsAnew j js priority rest (inl ended)) = absurd (other (ap Stepped ended))
      goes_on next (BeginsAnew j js priority rest (inr ended)) =
          absurd (not_idle s v shown (during ++ end_of_init ∷ behind) early ended)
      goes_on next (LeavesStack js returned) = absurd (no_item early.job.role early.role returned)

  -- from reset on
  pub begun_from_reset : (labels during behind : List Label) → RunsOn app (first app) labels
      → KeptOnceInitEnds limits labels
      → NoneIsSpent app labels → InitEnds labels during behind → Begun (first_sight app) during behind
  begun_from_reset labels during behind runs kept unspent ends =
      until_end during behind (first app) (first_sight app) (subst (Early (first app) (first_sight app)) ends.parts
      (record {
        job = _;
        jobs = refl;
        role = refl;
        highest = refl;
        well = first_well app accepted;
        quiet = record {
          rests = (init_quiet app accepted form (first_values app), tt);
          alarm = refl;
          not_owing = refl;
        };
        runs = runs;
        long = length-replicate IRQ_NUMBERS false;
        unspent = unspent;
        kept = kept_yet limits IRQ_NUMBERS labels kept;
      })) ends.first_end
