-- How a step of the running job changes it, the others, and what is pending: the same for each action but those that
-- begin the thread anew or return. Beside it, what the action finds in the queues, and makes of them.
use Rattle.std.proofs.Common.{◌≡◌, ℕ, ◌-◌, ◌⊎◌, inl, inr, true, false, if◌then◌else◌, Bool, List, [], ◌∷◌, map, drop}
use Rattle.std.proofs.Common.{slice_set, Option}
use Rattle.std.proofs.Common.{Some, None, IsSome, refl, sym, ap, subst}
use Rattle.std.specs.List.{AllByRecursion}
use Rattle.std.proofs.lemmas.Option.{none-some}
use Rattle.rt_ids.specs.Choice.{IsIn}
use Rattle.rt_ids.specs.declared.ids.BodyId.{BodyId}
use Rattle.rt_ids.specs.declared.ids.BodyId.TheVariants as body
use Rattle.rt_ids.specs.declared.ids.Section.{Section}
use Rattle.rt_ids.specs.declared.ids.Section.TheVariants as section
use Rattle.rt_actions.specs.Location.{Guarded}
use Rattle.rt_actions.specs.Content.{Message, Values, messages}
use Rattle.rt_actions.specs.Action.{Action, Enters, Leaves, Emits, Posts, Clocks, Places, FindsFull, Readies, Starts}
use Rattle.rt_actions.specs.Action.{Frees, Arms, Fires, Cancels, Moves, SetsAlarm, Ends, Returns, effect}
use Rattle.rt_actions.specs.Doing.{Doing, over, does}
use Rattle.rt_trace.specs.Label.{Stepped}
use Rattle.rt_trace.specs.declared.item.What.{What}
use Rattle.rt_trace.specs.declared.item.What.TheVariants as what
use Rattle.rt_app.specs.Tree.{Body, App}
use Rattle.rt_app.specs.Accepted.{IsAccepted}
use Rattle.rt_app.specs.Doings.{idle_doing}
use Rattle.rt_laws.specs.State.{Idle, Job, State, reached_values}
use Rattle.rt_laws.specs.Giving.{return_item, item_of, next_item, item_given}
use Rattle.rt_laws.specs.Acting.{job_after_step, idle_job, answer, state_after_action, state_after_doing}
use Rattle.rt_laws.specs.Allowed.{May, state_after_silence, state_after_item, after}
use Rattle.rt_laws.specs.Observer.{Seen, Observer}
use Rattle.rt_laws.specs.Queues.{KeepsOrder}
use Rattle.rt_laws.proofs.Fine.{OfLevel, ActsFine, Queued, IsFine, held_after, queued_effect, effect_same, reached_same}
use Rattle.rt_laws.proofs.FineHandlers.{idle_fine}
use Rattle.rt_laws.proofs.Well.{NextKept, AllKept, StackWell, StateWell}

-- the open sections behind an action, and what they have left
abbrev pub sections_after : Action → List Section → List Section
sections_after (Enters x cost) xs = x ∷ xs
sections_after (Leaves x) xs = drop 1 xs
sections_after action xs = xs

abbrev pub lefts_after : Action → List ℕ → List ℕ
lefts_after (Enters x cost) ns = (cost - 1) ∷ map (λ n. n - 1) ns
lefts_after (Leaves x) ns = drop 1 (map (λ n. n - 1) ns)
lefts_after action ns = map (λ n. n - 1) ns

-- what is pending behind it
abbrev pub pending_after : Action → List Bool → List Bool
pending_after (Posts irq) ps = slice_set ps irq true
pending_after action ps = ps

-- no alarm is set in it
abbrev pub SetsNone : Doing Values → Type 0
SetsNone over = Unit {0}
SetsNone (does SetsAlarm made next) = ⊥
SetsNone (does action made next) = Unit {0}

-- values hold the same ready messages
abbrev pub SameReady : Values → Values → Type 0
SameReady vs ws = (q : ℕ) → messages (ws (Guarded (section.Ready q))) ≡ messages (vs (Guarded (section.Ready q)))

-- a message that becomes ready, or starts, is one of its level
abbrev pub LevelOf : App → Values → Action → Type 0
LevelOf app vs (Readies q m) = OfLevel app q m
LevelOf app vs (Starts q m) =
    OfLevel app q m × ((more : List Message) × (messages (vs (Guarded (section.Ready q))) ≡ m ∷ more))
LevelOf app vs action = Unit {0}

-- what comes behind an action is what is left to do of its job
abbrev pub GoesOn : Action → Type 0
GoesOn Returns = ⊥
GoesOn SetsAlarm = ⊥
GoesOn action = Unit {0}

-- what an action finds in the queues and makes of them, which the code came to with some values
pub record Acted (app : App) (s : State) (job : Job) (shown : Option What) (action : Action)
    (made vs later : Values) : Type 0 where
  pub goes_on : GoesOn action
  pub is : vs ≡ effect action s.values
  pub queued : Queued app vs
  pub reached : SameReady vs later
  pub shows : item_of s job.role action ≡ shown
  pub level : LevelOf app s.values action
  pub as_open : (q : ℕ) → IsIn job.sections (section.Ready q)
      → messages (s.values (Guarded (section.Ready q))) ≡ messages (made (Guarded (section.Ready q)))

-- the thread's body that ends
abbrev pub thread_end : Bool → BodyId
thread_end is_init = if is_init then body.Init else body.Idle

-- the next action of a job is this one
pub record NextIs (job : Job) (action : Action) : Type 0 where
  pub made : Values
  pub next : ℕ → Values → Doing Values
  pub is : job.rest ≡ does action made next

module _ (app : App) (s : State) (job : Job) (others : List Job) (shown : Option What) (t : State) where
  pub data Passes : Type 0 where
    -- a silent step
    Silently : t.jobs ≡ job_after_step job ∷ others → t.pending ≡ s.pending → shown ≡ None → t.values ≡ s.values
        → Passes
    -- it does its next action, and goes on
    Acts : (action : Action) → (made : Values) → (next : ℕ → Values → Doing Values) → job.rest ≡ does action made next
        → (a : ℕ) → (vs : Values) → (j : Job) → t.jobs ≡ j ∷ others → j.role ≡ job.role → j.priority ≡ job.priority
        → j.left ≡ job.left - 1 → j.rest ≡ next a vs → j.sections ≡ sections_after action job.sections
        → j.lefts ≡ lefts_after action job.lefts → t.pending ≡ pending_after action s.pending
        → ¬ (shown ≡ Some (what.End body.Init)) → Acted app s job shown action made vs t.values → Passes
    -- the thread begins anew
    Anew : (vs : Values) → t.jobs ≡ idle_job app vs app.idle ∷ others → t.pending ≡ s.pending
        → (shown ≡ Some (what.End body.Init)) ⊎ (shown ≡ Some (what.End body.Idle))
        → (is_init : Bool) → NextIs job (Ends (thread_end is_init)) → SameReady s.values t.values → Passes
    -- it returns
    Returned : t.jobs ≡ others → t.pending ≡ s.pending → shown ≡ return_item job.role → IsSome (return_item job.role)
        → NextIs job Returns → t.values ≡ s.values → Passes

  pub record Passed : Type 0 where
    pub passes : Passes
    pub alarm : t.alarm ≡ s.alarm
    pub owing : t.owing ≡ s.owing

module _ (app : App) (accepted : IsAccepted app) (s : State) (queued : Queued app s.values) (job : Job)
    (others : List Job) (answered : ℕ) (base : Values) where
  abbrev PassedBy : What → State → Type 0
  PassedBy w t = Passed app s job others (Some w) t

  -- what is left to do is well formed, and its next action in order
  abbrev Sound : Doing Values → Type 0
  Sound rest = IsFine app job.role job.priority answered job.sections base rest
      × NextKept app s.time s.values job.sections rest

  level_of : (action : Action) → ActsFine app job.role job.priority job.sections action
      → KeepsOrder app s.time s.values action → LevelOf app s.values action
  level_of (Readies q m) fine order = fine
  level_of (Starts q m) fine order = (
    (subst (AllByRecursion (OfLevel app q)) order.1 (queued.ready q)).0,
    (order.0, order.1),
  )
  level_of action fine order = tt

  acted : (action : Action) (made : Values) (next : ℕ → Values → Doing Values) → Sound (does action made next)
      → GoesOn action → (w : What) → item_of s job.role action ≡ Some w
      → Acted app s job (Some w) action made (effect action s.values)
      (reached_values (next (answer s action) (effect action s.values)) (effect action s.values))
  acted action made next sound goes_on w is = record {
    goes_on = goes_on;
    is = refl;
    queued = queued_then;
    reached = λ q. ap messages
        (reached_same app job.role job.priority (answer s action) (held_after job.sections action)
        (next (answer s action) (effect action s.values)) (effect action s.values) rest_fine (section.Ready q) tt);
    shows = is;
    level = level_of action sound.0.1 sound.1.1;
    as_open = λ q there. ap messages (sound.1.2 (section.Ready q) tt there);
  }
    where
      queued_then : Queued app (effect action s.values)
      queued_then =
          queued_effect app s.values queued job.role job.priority job.sections action sound.0.1 s.time sound.1.1

      rest_fine : IsFine app job.role job.priority (answer s action) (held_after job.sections action)
          (effect action s.values) (next (answer s action) (effect action s.values))
      rest_fine = sound.0.5 (answer s action) (effect action s.values) queued_then
          (effect_same action job.sections s.values made sound.1.0 sound.1.2)

  anew_same : (o : Option Body) → SameReady s.values (reached_values (idle_job app s.values o).rest s.values)
  anew_same None q = refl
  anew_same (Some b) q = ap messages
      (reached_same app Idle 0 0 [] (idle_doing app s.values) s.values (idle_fine app accepted 0 s.values queued)
      (section.Ready q) tt)

  acts : (action : Action) (made : Values) (next : ℕ → Values → Doing Values) → job.rest ≡ does action made next
      → SetsNone (does action made next) → Sound (does action made next) → (w : What)
      → item_of s job.role action ≡ Some w → PassedBy w (state_after_action app s job others action
      (effect action s.values) (next (answer s action) (effect action s.values)))
  acts (Enters x cost) made next rest none sound w is = record {
    passes = Acts (Enters x cost) made next rest 0 (effect (Enters x cost) s.values) _ refl refl refl refl refl refl
        refl refl
        (λ e. cc) (acted (Enters x cost) made next sound tt w is);
    alarm = refl;
    owing = refl;
  }
  acts (Leaves x) made next rest none sound w is = record {
    passes = Acts (Leaves x) made next rest 0 (effect (Leaves x) s.values) _ refl refl refl refl refl refl refl refl
        (λ e. cc) (acted (Leaves x) made next sound tt w is);
    alarm = refl;
    owing = refl;
  }
  acts (Emits v) made next rest none sound w is = record {
    passes = Acts (Emits v) made next rest 0 (effect (Emits v) s.values) _ refl refl refl refl refl refl refl refl
        (λ e. cc) (acted (Emits v) made next sound tt w is);
    alarm = refl;
    owing = refl;
  }
  acts (Posts irq) made next rest none sound w is = record {
    passes = Acts (Posts irq) made next rest 0 (effect (Posts irq) s.values) _ refl refl refl refl refl refl refl refl
        (λ e. cc) (acted (Posts irq) made next sound tt w is);
    alarm = refl;
    owing = refl;
  }
  acts Clocks made next rest none sound w is = record {
    passes = Acts Clocks made next rest s.time (effect Clocks s.values) _ refl refl refl refl refl refl refl refl
        (λ e. cc) (acted Clocks made next sound tt w is);
    alarm = refl;
    owing = refl;
  }
  acts (Places n) made next rest none sound w is = record {
    passes = Acts (Places n) made next rest 0 (effect (Places n) s.values) _ refl refl refl refl refl refl refl refl
        (λ e. cc) (acted (Places n) made next sound tt w is);
    alarm = refl;
    owing = refl;
  }
  acts (FindsFull n) made next rest none sound w is = record {
    passes = Acts (FindsFull n) made next rest 0 (effect (FindsFull n) s.values) _ refl refl refl refl refl refl refl
        refl
        (λ e. cc) (acted (FindsFull n) made next sound tt w is);
    alarm = refl;
    owing = refl;
  }
  acts (Readies q m) made next rest none sound w is = record {
    passes = Acts (Readies q m) made next rest 0 (effect (Readies q m) s.values) _ refl refl refl refl refl refl refl
        refl
        (λ e. cc) (acted (Readies q m) made next sound tt w is);
    alarm = refl;
    owing = refl;
  }
  acts (Starts q m) made next rest none sound w is = record {
    passes = Acts (Starts q m) made next rest 0 (effect (Starts q m) s.values) _ refl refl refl refl refl refl refl refl
        (λ e. cc) (acted (Starts q m) made next sound tt w is);
    alarm = refl;
    owing = refl;
  }
  acts (Frees n) made next rest none sound w is = record {
    passes = Acts (Frees n) made next rest 0 (effect (Frees n) s.values) _ refl refl refl refl refl refl refl refl
        (λ e. cc) (acted (Frees n) made next sound tt w is);
    alarm = refl;
    owing = refl;
  }
  acts (Arms k m) made next rest none sound w is = record {
    passes = Acts (Arms k m) made next rest 0 (effect (Arms k m) s.values) _ refl refl refl refl refl refl refl refl
        (λ e. cc) (acted (Arms k m) made next sound tt w is);
    alarm = refl;
    owing = refl;
  }
  acts (Fires m) made next rest none sound w is = record {
    passes = Acts (Fires m) made next rest 0 (effect (Fires m) s.values) _ refl refl refl refl refl refl refl refl
        (λ e. cc) (acted (Fires m) made next sound tt w is);
    alarm = refl;
    owing = refl;
  }
  acts (Cancels n h) made next rest none sound w is = record {
    passes = Acts (Cancels n h) made next rest 0 (effect (Cancels n h) s.values) _ refl refl refl refl refl refl refl
        refl
        (λ e. cc) (acted (Cancels n h) made next sound tt w is);
    alarm = refl;
    owing = refl;
  }
  acts (Moves n h k) made next rest none sound w is = record {
    passes = Acts (Moves n h k) made next rest 0 (effect (Moves n h k) s.values) _ refl refl refl refl refl refl refl
        refl
        (λ e. cc) (acted (Moves n h k) made next sound tt w is);
    alarm = refl;
    owing = refl;
  }
  acts (Ends (body.Task n)) made next rest none sound w is = record {
    passes = Acts (Ends (body.Task n)) made next rest 0 (effect (Ends (body.Task n)) s.values) _ refl refl refl refl
        refl refl refl refl
        (λ e. cc) (acted (Ends (body.Task n)) made next sound tt w is);
    alarm = refl;
    owing = refl;
  }
  acts SetsAlarm made next rest none sound w is = absurd none
  acts (Ends body.Init) made next rest none sound w is = record {
    passes = Anew s.values refl refl (inl (sym is)) true (record { made = made; next = next; is = rest })
        (anew_same app.idle);
    alarm = refl;
    owing = refl;
  }
  acts (Ends body.Idle) made next rest none sound w is = record {
    passes = Anew s.values refl refl (inr (sym is)) false (record { made = made; next = next; is = rest })
        (anew_same app.idle);
    alarm = refl;
    owing = refl;
  }
  acts Returns made next rest none sound w is = record {
    passes = Returned refl refl (sym is) (subst IsSome (sym is) refl) (record { made = made; next = next; is = rest })
        refl;
    alarm = refl;
    owing = refl;
  }

  pub rest_acts : (rest : Doing Values) → job.rest ≡ rest → SetsNone rest → Sound rest → (w : What)
      → next_item s job.role rest ≡ Some w → PassedBy w (state_after_doing app s job others rest)
  rest_acts over rest none sound w is = absurd (none-some w is)
  rest_acts (does action made next) rest none sound w is = acts action made next rest none sound w is

module _ (app : App) (accepted : IsAccepted app) (s : State) (v : Observer) (well : StateWell app s v) (job : Job)
    (others : List Job) (jobs_are : s.jobs ≡ job ∷ others) (none : SetsNone job.rest) where
  stack : StackWell app (job ∷ others) v.jobs
  stack = subst (λ js. StackWell app js v.jobs) jobs_are well.stack

  order : NextKept app s.time s.values job.sections job.rest
  order = (subst (AllKept app s.time s.values) jobs_are well.order).0

  step_acts : (w : What) → item_given s s.jobs ≡ Some w
      → Passed app s job others (Some w) (state_after_item app s s.jobs)
  step_acts w is =
      subst (λ js. Passed app s job others (Some w) (state_after_item app s js)) (sym jobs_are) (seen v.jobs stack)
    where
      seen : (seens : List Seen) → StackWell app (job ∷ others) seens
          → Passed app s job others (Some w) (state_after_item app s (job ∷ others))
      seen [] none_seen = absurd none_seen
      seen (one ∷ seens) there =
          rest_acts app accepted s well.queued job others there.0.answered there.0.base job.rest refl none
          (there.0.fine, order) w (subst (λ js. item_given s js ≡ Some w) jobs_are is)

  -- a step of the running job
  pub step_passes : (shown : Option What) → May app s (Stepped shown)
      → ((irq depth : ℕ) → ¬ (shown ≡ Some (what.Take irq depth)))
      → Passed app s job others shown (after app s (Stepped shown))
  step_passes None may no_take =
      subst (λ js. Passed app s job others None (state_after_silence s js)) (sym jobs_are)
      (record { passes = Silently refl refl refl refl; alarm = refl; owing = refl })
  step_passes (Some (what.Take irq depth)) may no_take = absurd (no_take irq depth refl)
  step_passes (Some w) may no_take = step_acts w may.1
