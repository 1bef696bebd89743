-- A step of the running job keeps the messages of a level served, whichever its action is.
use Rattle.std.proofs.Common.{◌≡◌, ℕ, zero, suc, ◌<◌, ◌-◌, ◌==◌, arith, map, eq-eqb, length-set, Bool, true, false}
use Rattle.std.proofs.Common.{if◌then◌else◌, List, [], ◌∷◌, drop, length, slice_set, slice_index_or, Option, Some, None}
use Rattle.std.proofs.Common.{refl, sym, ap, subst, ◌∙◌, inl, inr}
use Rattle.std.proofs.lemmas.Bool.{eqb-true}
use Rattle.std.proofs.lemmas.Option.{none-some}
use Rattle.rt_lemmas.proofs.Membership.{all_at}
use Rattle.rt_ids.specs.Choice.{IsIn}
use Rattle.rt_actions.specs.Location.{Guarded}
use Rattle.rt_actions.specs.Content.{Message, Values, messages}
use Rattle.rt_actions.specs.Action.{Action, Enters, Leaves, Posts, Clocks, Readies, Starts, SetsAlarm, Ends, Returns}
use Rattle.rt_actions.specs.Action.{effect}
use Rattle.rt_actions.specs.Doing.{Doing, over, does}
use Rattle.rt_ids.specs.declared.ids.BodyId.TheVariants as body
use Rattle.rt_ids.specs.declared.ids.Section.{Section}
use Rattle.rt_ids.specs.declared.ids.Section.TheVariants as section
use Rattle.rt_ids.specs.declared.limits.TheConstants.{IRQ_NUMBERS}
use Rattle.rt_trace.specs.declared.item.What.{What}
use Rattle.rt_app.specs.Tree.{App, Body}
use Rattle.rt_app.specs.Ceiling.{ceiling}
use Rattle.rt_app.specs.Accepted.{IsAccepted}
use Rattle.rt_app.specs.Sending.{dispatcher_number}
use Rattle.rt_laws.specs.Services.{timer_number}
use Rattle.rt_laws.specs.State.{Role, Idle, Job, State, reached_values}
use Rattle.rt_laws.specs.Giving.{next_instant, is_due, next_item}
use Rattle.rt_laws.specs.Acting.{job_after_step, state_after_pend, idle_job, answer, alarm_set, state_after_doing}
use Rattle.rt_laws.specs.Observer.{Seen}
use Rattle.rt_laws.specs.Served.{IsOpen}
use Rattle.rt_laws.proofs.Order.{apart_below}
use Rattle.rt_laws.proofs.Pending.{still_set}
use Rattle.rt_laws.proofs.Fine.{Within, reached_same, effect_beside, effect_same, Queued, IsFine, held_after}
use Rattle.rt_laws.proofs.Fine.{queued_effect}
use Rattle.rt_laws.proofs.FineHandlers.{idle_fine}
use Rattle.rt_laws.proofs.Well.{NextKept, IsAbove, JobWell}
use Rattle.rt_laws.proofs.Readying.{Away, Inside, Serves, idle_serves}
use Rattle.rt_laws.proofs.Beginnings.{BeginsWith, dispatcher_begins}
use Rattle.rt_laws.proofs.ReadyServed.{no_drop, no_more, readied, taken, IsPosted, AllServe, LevelServed, Open, Nothing}
use Rattle.rt_laws.proofs.ReadyServed.{Posted, Begins, Keeps, KeepsState, posts_kept, goes_outside, goes_inside}
use Rattle.rt_laws.proofs.ReadyServed.{goes_out}

pub differ : (r p : ℕ) → (r == p) ≡ false → ¬ (r ≡ p)
differ r p test same = let equal : (r == p) ≡ true = eq-eqb r p same in cc

apart_too : (r p : ℕ) → ¬ (r ≡ p) → ¬ (section.Ready r ≡ section.Ready p)
apart_too r p differs same = differs cc

pub now_set : (xs : List Bool) (i : ℕ) → i < length xs → slice_index_or (slice_set xs i true) i false ≡ true
now_set [] i within = absurd (omega (arith, within))
now_set (x ∷ xs) zero within = refl
now_set (x ∷ xs) (suc i) within = now_set xs i (omega (arith, within))

module _ (app : App) (accepted : IsAccepted app) (p : ℕ) (s : State) (long : length s.pending ≡ IRQ_NUMBERS)
    (small : dispatcher_number app p < IRQ_NUMBERS) (queued : Queued app s.values)
    (role : Role) (q left : ℕ) (sections : List Section) (lefts : List ℕ) (others : List Job) (seen : Seen)
    (above : IsAbove app role q others) (all : AllServe app p s.pending s.values others) where
  abbrev running : Doing Values → Job
  running rest = record { role = role; priority = q; rest = rest; left = left; sections = sections; lefts = lefts }

  abbrev queue : Section
  queue = section.Ready p

  abbrev ready : Values → List Message
  ready vs = messages (vs (Guarded queue))

  abbrev Asked : Doing Values → Type 0
  Asked rest = NextKept app s.time s.values sections rest

  -- the state behind what is to be done first
  abbrev Kept : Doing Values → Type 0
  Kept rest = KeepsState app p (state_after_doing app s (running rest) others rest)

  module _ (action : Action) (made : Values) (next : ℕ → Values → Doing Values)
      (well : JobWell app (running (does action made next)) seen) (asked : Asked (does action made next)) where
    abbrev vs : Values
    vs = effect action s.values

    abbrev rest : Doing Values
    rest = next (answer s action) vs

    rest_fine : IsFine app role q (answer s action) (held_after sections action) vs rest
    rest_fine = well.fine.5 (answer s action) vs
        (queued_effect app s.values queued role q sections action well.fine.1 s.time asked.1)
        (effect_same action sections s.values made asked.0 asked.2)

    reached_is : ready (reached_values rest vs) ≡ ready vs
    reached_is = ap messages
        (reached_same app role q (answer s action) (held_after sections action) rest vs rest_fine queue tt)

    untouched : ¬ IsIn sections queue → ready (reached_values rest vs) ≡ ready s.values
    untouched out = reached_is ∙ ap messages (effect_beside action s.values sections queue asked.0 out)

    below : IsOpen others queue → ready (reached_values rest vs) ≡ ready s.values
    below there = untouched (λ own. apart_below app role q others queue above
        (all_at (λ x. Within role q (ceiling app x)) sections own.0 queue well.within own.1) there)

    away : ¬ IsIn sections queue → ¬ BeginsWith queue (does action made next)
        → (after : Job) → ¬ IsIn after.sections queue → Serves app p Away after.rest
        → LevelServed app p s.pending s.values (running (does action made next) ∷ others)
        → Keeps app p s.pending (reached_values rest vs) (after ∷ others)
    away out before after still good served =
        goes_outside app p s.pending long s.values (reached_values rest vs) (running (does action made next)) after
        others
        out before still good (untouched out) all served

    -- what it knows of the queue is so as it goes on
    known_so : (ms : List Message) (posted : Bool) → ready vs ≡ ms → Serves app p (Inside ms posted) rest
        → Serves app p (Inside (ready (reached_values rest vs)) posted) rest
    known_so ms posted is good = subst (λ ms. Serves app p (Inside ms posted) rest) (sym (reached_is ∙ is)) good

    inside : (later : List Bool) → length later ≡ IRQ_NUMBERS → (after : Job) (posted : Bool) (outer : List Section)
        → after.sections ≡ queue ∷ outer → ¬ IsIn outer queue → (posted ≡ true → IsPosted app p later)
        → Serves app p (Inside (ready (reached_values rest vs)) posted) after.rest
        → (IsPosted app p s.pending → IsPosted app p later)
        → Keeps app p later (reached_values rest vs) (after ∷ others)
    inside later still after posted outer is out known good keeps =
        goes_inside app p s.pending later still s.values (reached_values rest vs) after others posted outer is out known
        good
        (λ there. (keeps, below there)) all

  -- the alarm is set, or comes at once
  alarm_kept : (t : State) (instant : Option ℕ) → KeepsState app p t → KeepsState app p (alarm_set app instant t)
  alarm_kept t instant keeps = elim (is_due t.time instant) as
      (λ b. KeepsState app p
      (if b then state_after_pend (timer_number app) (record t { alarm = None }) else record t { alarm = instant })) [
        | true ↦ posts_kept app p t.pending t.values t.jobs (timer_number app) keeps
        | false ↦ keeps
      ]

  -- the thread begins `idle`, or waits
  restarts : (o : Option Body) (left_to_do : Doing Values) → ¬ IsIn sections queue
      → ¬ BeginsWith queue left_to_do
      → LevelServed app p s.pending s.values (running left_to_do ∷ others)
      → Keeps app p s.pending (reached_values (idle_job app s.values o).rest s.values)
      (idle_job app s.values o ∷ others)
  restarts None left_to_do out before served =
      goes_outside app p s.pending long s.values s.values (running left_to_do) (idle_job app s.values None) others
      out before (λ is. none-some queue is.1) tt refl all served
  restarts (Some b) left_to_do out before served =
      goes_outside app p s.pending long s.values (reached_values (idle_job app s.values (Some b)).rest s.values)
      (running left_to_do) (idle_job app s.values (Some b)) others out before (λ is. none-some queue is.1)
      (idle_serves app p s.values)
      (ap messages (reached_same app Idle 0 0 [] (idle_job app s.values (Some b)).rest s.values
      (idle_fine app accepted 0 s.values queued) queue tt)) all served

  -- a job that is outside
  pub outside : (rest : Doing Values) → JobWell app (running rest) seen → Asked rest → ¬ IsIn sections queue
      → Serves app p Away rest → LevelServed app p s.pending s.values (running rest ∷ others)
      → (w : What) → next_item s role rest ≡ Some w → Kept rest
  outside over well asked out good served w is = absurd (none-some w is)
  outside (does (Enters (section.Ready r) cost) made next) well asked out good served w is = go (r == p) refl
    where
      after : Job
      after = record (job_after_step (running (does (Enters (section.Ready r) cost) made next))) {
        rest = next 0 s.values;
        sections = section.Ready r ∷ sections;
        lefts = (cost - 1) ∷ map (λ n. n - 1) lefts;
      }

      go : (b : Bool) → (r == p) ≡ b → Keeps app p s.pending (reached_values (next 0 s.values) s.values)
          (after ∷ others)
      go true test =
          let same : r ≡ p = eqb-true r p test in
          inside (Enters (section.Ready r) cost) made next well asked s.pending long after false sections
          (ap (λ r. section.Ready r ∷ sections) same) out (λ yet. absurd (cc))
          (known_so (Enters (section.Ready r) cost) made next well asked (ready s.values) false refl
          ((good 0 s.values).0 same)) (λ yet. yet)
      go false test =
          let differs : ¬ (r ≡ p) = differ r p test in
          let apart : ¬ (section.Ready r ≡ section.Ready p) = apart_too r p differs in
          away (Enters (section.Ready r) cost) made next well asked out apart after
          (no_more (section.Ready r) queue sections apart out) ((good 0 s.values).1 differs) served
  outside (does (Enters (section.Res r) cost) made next) well asked out good served w is =
      let apart : ¬ (section.Res r ≡ section.Ready p) = λ same. cc in
      away (Enters (section.Res r) cost) made next well asked out apart _
      (no_more (section.Res r) queue sections apart out) (good 0 s.values) served
  outside (does (Enters (section.Free r) cost) made next) well asked out good served w is =
      let apart : ¬ (section.Free r ≡ section.Ready p) = λ same. cc in
      away (Enters (section.Free r) cost) made next well asked out apart _
      (no_more (section.Free r) queue sections apart out) (good 0 s.values) served
  outside (does (Enters section.Timer cost) made next) well asked out good served w is =
      let apart : ¬ (section.Timer ≡ section.Ready p) = λ same. cc in
      away (Enters section.Timer cost) made next well asked out apart _
      (no_more section.Timer queue sections apart out) (good 0 s.values) served
  outside (does (Leaves x) made next) well asked out good served w is =
      away (Leaves x) made next well asked out (λ no_entry. no_entry) _ (no_drop sections queue out) (good 0 s.values)
      served
  outside (does (Posts irq) made next) well asked out good served w is =
      posts_kept app p s.pending _ _ irq
      (away (Posts irq) made next well asked out (λ no_entry. no_entry) _ out (good 0 s.values) served)
  outside (does SetsAlarm made next) well asked out good served w is =
      let after : Job = record (job_after_step (running (does SetsAlarm made next))) { rest = next 0 s.values } in
      alarm_kept (record s { jobs = after ∷ others; values = reached_values (next 0 s.values) s.values })
      (next_instant s)
      (away SetsAlarm made next well asked out (λ no_entry. no_entry) after out (good 0 s.values) served)
  outside (does (Ends body.Init) made next) well asked out good served w is =
      restarts app.idle (does (Ends body.Init) made next) out (λ no_entry. no_entry) served
  outside (does (Ends body.Idle) made next) well asked out good served w is =
      restarts app.idle (does (Ends body.Idle) made next) out (λ no_entry. no_entry) served
  outside (does (Ends (body.Task n)) made next) well asked out good served w is =
      away (Ends (body.Task n)) made next well asked out (λ no_entry. no_entry) _ out (good 0 s.values) served
  outside (does Returns made next) well asked out good served w is = record {
    long = long;
    all = all;
    served = go served;
  }
    where
      go : LevelServed app p s.pending s.values (running (does Returns made next) ∷ others)
          → LevelServed app p s.pending s.values others
      go (Open (inl is)) = absurd (out is)
      go (Open (inr is)) = Open is
      go (Nothing none) = Nothing none
      go (Posted is) = Posted is
      go (Begins (inl is)) = absurd (dispatcher_begins app p (does Returns made next) is.1)
      go (Begins (inr is)) = Begins is
  outside (does Clocks made next) well asked out good served w is =
      away Clocks made next well asked out (λ no_entry. no_entry) _ out (good s.time s.values) served
  outside (does action made next) well asked out good served w is =
      away action made next well asked out (λ no_entry. no_entry) _ out (good 0 (effect action s.values)) served

  -- a job that is inside
  pub inside_too : (rest : Doing Values) → JobWell app (running rest) seen → Asked rest → (posted : Bool)
      → (outer : List Section) → sections ≡ queue ∷ outer → ¬ IsIn outer queue
      → (posted ≡ true → IsPosted app p s.pending) → Serves app p (Inside (ready s.values) posted) rest
      → (w : What) → next_item s role rest ≡ Some w → Kept rest
  inside_too over well asked posted outer in_it out known good w is = absurd (none-some w is)
  inside_too (does (Readies r m) made next) well asked posted outer in_it out known good w is =
      inside (Readies r m) made next well asked s.pending long _ posted outer in_it out known
      (known_so (Readies r m) made next well asked _ posted (readied p s.values r m good.0)
      (good.1 0 (effect (Readies r m) s.values))) (λ yet. yet)
  inside_too (does (Starts r m) made next) well asked posted outer in_it out known good w is =
      inside (Starts r m) made next well asked s.pending long _ posted outer in_it out known
      (known_so (Starts r m) made next well asked _ posted (taken p s.values r m good.0)
      (good.1 0 (effect (Starts r m) s.values))) (λ yet. yet)
  inside_too (does (Posts irq) made next) well asked posted outer in_it out known good w is =
      let within : dispatcher_number app p < length s.pending = omega (arith, small, long) in
      inside (Posts irq) made next well asked (slice_set s.pending irq true)
      (length-set s.pending irq true ∙ long) _ true outer in_it out
      (λ yet. subst (λ i. IsPosted app p (slice_set s.pending i true)) (sym good.0)
      (now_set s.pending (dispatcher_number app p) within))
      (known_so (Posts irq) made next well asked (ready s.values) true refl (good.1 0 s.values))
      (still_set s.pending irq (dispatcher_number app p))
  inside_too (does (Leaves x) made next) well asked posted outer in_it out known good w is =
      goes_out app p s.pending long s.values (reached_values (next 0 s.values) s.values) _ others posted
      (subst (λ xs. ¬ IsIn (drop 1 xs) queue) (sym in_it) out) (good.1 0 s.values)
      (reached_is (Leaves x) made next well asked) good.0 known all
  inside_too (does action made next) well asked posted outer in_it out known good w is = absurd good
