-- With each label the queues change by what one action does at most: on its way to its next action code makes the same
-- of them, and so do handlers and the thread as they begin.
use Rattle.std.proofs.Common.{◌≡◌, ℕ, suc, ◌≤◌, true, false, if◌then◌else◌, List, [], ◌∷◌, slice_set, Option, Some}
use Rattle.std.proofs.Common.{None}
use Rattle.std.proofs.Common.{refl, ap, ◌∙◌, arith, le_refl}
use Rattle.rt_lemmas.proofs.Lists.{find_has}
use Rattle.rt_actions.specs.Location.{Guarded}
use Rattle.rt_actions.specs.Content.{Values}
use Rattle.rt_actions.specs.Action.{Action, Clocks, SetsAlarm, Ends, Returns, effect}
use Rattle.rt_actions.specs.Doing.{Doing, over, does}
use Rattle.rt_ids.specs.declared.ids.BodyId.TheVariants as body
use Rattle.rt_ids.specs.declared.ids.Section.{Section}
use Rattle.rt_trace.specs.Label.{Label, Arrived, Ticked, Rang, Stepped}
use Rattle.rt_trace.specs.declared.item.What.TheVariants as what
use Rattle.rt_app.specs.Tree.{App, Body}
use Rattle.rt_app.specs.Handlers.{Service, services}
use Rattle.rt_app.specs.Doings.{init_doing, idle_doing, handler_doing}
use Rattle.rt_app.specs.Accepted.{IsAccepted}
use Rattle.rt_laws.specs.Services.{service_at, timer_number}
use Rattle.rt_laws.specs.State.{Role, Init, Idle, Serving, Job, State, reached_values, first_values, first}
use Rattle.rt_laws.specs.Giving.{next_instant, is_due}
use Rattle.rt_laws.specs.Acting.{job_after_step, state_after_pend, idle_job, answer, state_after_doing}
use Rattle.rt_laws.specs.Allowed.{state_after_start, state_after_silence, state_after_item, after}
use Rattle.rt_laws.specs.Observer.{Seen, Observer}
use Rattle.rt_laws.proofs.Fine.{SameQueues, Queued, IsFine, held_after, first_queued, queued_effect, effect_same}
use Rattle.rt_laws.proofs.Fine.{reached_same}
use Rattle.rt_laws.proofs.FineHandlers.{init_fine, idle_fine, services_fine}
use Rattle.rt_laws.proofs.Well.{NextKept, AllKept, StackWell, StateWell}

-- from one state to the next
pub record ByOneAction (s t : State) : Type 0 where
  pub action : Action
  pub queues : SameQueues t.values (effect action s.values)
  pub time : t.time ≤ suc s.time

-- the queues are as they were, as behind a reading of the clock
as_before : (s t : State) → t.time ≤ suc s.time → SameQueues t.values s.values → ByOneAction s t
as_before s t time same = record { action = Clocks; queues = same; time = time }

still : (n : ℕ) → n ≤ suc n
still n = omega arith

module _ (app : App) (accepted : IsAccepted app) where
  -- at reset
  pub first_queues : SameQueues (first app).values (first_values app)
  first_queues = reached_same app Init _ 0 [] (init_doing app (first_values app)) (first_values app)
      (init_fine app accepted 0 (first_values app) (first_queued app))

  module _ (s : State) (queued : Queued app s.values) where
    -- the thread begins `idle`, or waits
    idles : (o : Option Body) (others : List Job) → ByOneAction s
        (record s {
          jobs = idle_job app s.values o ∷ others;
          values =
              reached_values (idle_job app s.values o).rest s.values;
        })
    idles None others = as_before s _ (still s.time) (λ x queue. refl)
    idles (Some b) others = as_before s _ (still s.time)
        (reached_same app Idle 0 0 [] (idle_doing app s.values) s.values (idle_fine app accepted 0 s.values queued))

    module _ (role : Role) (q k : ℕ) (held : List Section) (base : Values) (job : Job) (others : List Job) where
      abbrev Asked : Doing Values → Type 0
      Asked rest = IsFine app role q k held base rest × NextKept app s.time s.values held rest

      -- behind an action, with the values that the code has made on its way to the next
      behind : (action : Action) (made : Values) (next : ℕ → Values → Doing Values) → Asked (does action made next)
          → (t : State) → t.time ≡ s.time
          → t.values ≡ reached_values (next (answer s action) (effect action s.values)) (effect action s.values)
          → ByOneAction s t
      behind action made next asked t time values = record {
        action = action;
        queues = λ x queue. ap (λ ws. ws (Guarded x)) values
            ∙ reached_same app role q (answer s action) (held_after held action) (next (answer s action) vs) vs
            rest_fine x queue;
        time = omega (arith, time);
      }
        where
          vs : Values
          vs = effect action s.values

          rest_fine : IsFine app role q (answer s action) (held_after held action) vs (next (answer s action) vs)
          rest_fine = asked.0.5 (answer s action) vs
              (queued_effect app s.values queued role q held action asked.0.1 s.time asked.1.1)
              (effect_same action held s.values made asked.1.0 asked.1.2)

      acts : (rest : Doing Values) → Asked rest → ByOneAction s (state_after_doing app s job others rest)
      acts over asked = as_before s _ (still s.time) (λ x queue. refl)
      acts (does SetsAlarm made next) asked =
          let on : State = record s {
            jobs = record (job_after_step job) { rest = next 0 s.values } ∷ others;
            values = reached_values (next 0 s.values) s.values;
          } in
          elim (is_due s.time (next_instant s)) as
          (λ b. ByOneAction s
          (if b then state_after_pend (timer_number app) (record on { alarm = None })
          else record on { alarm = next_instant s })) [
            | true ↦ behind SetsAlarm made next asked _ refl refl
            | false ↦ behind SetsAlarm made next asked _ refl refl
          ]
      acts (does (Ends body.Init) made next) asked = idles app.idle others
      acts (does (Ends body.Idle) made next) asked = idles app.idle others
      acts (does Returns made next) asked = as_before s _ (still s.time) (λ x queue. refl)
      acts (does action made next) asked = behind action made next asked _ refl refl

    gives : (js : List Job) (vs : List Seen) → StackWell app js vs → AllKept app s.time s.values js
        → ByOneAction s (state_after_item app s js)
    gives [] vs stack order = as_before s _ (still s.time) (λ x queue. refl)
    gives (job ∷ others) [] stack order = absurd stack
    gives (job ∷ others) (seen ∷ seens) stack order =
        acts job.role job.priority stack.0.answered job.sections stack.0.base job others job.rest
        (stack.0.fine, order.0)

    -- the handling of an interrupt starts
    starts : (irq : ℕ) (o : Option Service) → service_at app irq ≡ o
        → ByOneAction s (state_after_start app (record s { pending = slice_set s.pending irq false }) irq o)
    starts irq None at = as_before s _ (still s.time) (λ x queue. refl)
    starts irq (Some x) at =
        as_before s _ (still s.time)
        (reached_same app (Serving irq) x.priority 0 [] (handler_doing app x.handler s.values) s.values
        (find_has (λ (x : Service). (n : ℕ) (vs : Values) → Queued app vs
        → IsFine app (Serving irq) x.priority n [] vs (handler_doing app x.handler vs)) _ (services app) x
        (services_fine app accepted irq) at 0 s.values queued))

    -- a silent step
    keeps : (js : List Job) → ByOneAction s (state_after_silence s js)
    keeps [] = as_before s _ (still s.time) (λ x queue. refl)
    keeps (job ∷ others) = as_before s _ (still s.time) (λ x queue. refl)

  pub by_one_action : (s : State) (v : Observer) → StateWell app s v → (label : Label)
      → ByOneAction s (after app s label)
  by_one_action s v well (Arrived irq) = as_before s _ (still s.time) (λ x queue. refl)
  by_one_action s v well Ticked = as_before s _ (le_refl (suc s.time)) (λ x queue. refl)
  by_one_action s v well Rang = as_before s _ (still s.time) (λ x queue. refl)
  by_one_action s v well (Stepped None) = keeps s well.queued s.jobs
  by_one_action s v well (Stepped (Some (what.Take irq depth))) = starts s well.queued irq (service_at app irq) refl
  by_one_action s v well (Stepped (Some w)) = gives s well.queued s.jobs v.jobs well.stack well.order
