-- A good image on lists of events: what the core shows is allowed, and the two machines agree behind it.
use Rattle.std.proofs.Common.{◌≡◌, ℕ, ◌+◌, ◌^◌, ◌<◌, List, [], ◌∷◌, ◌++◌, length, Option, ap, subst, ◌∙◌, arith}
use Rattle.std.proofs.Common.{length-append}
use Rattle.rt_ids.specs.Event.{Event, Arrive, Step}
use Rattle.rt_trace.specs.Label.{Label, Arrived, Stepped}
use Rattle.rt_trace.specs.declared.item.What.{What}
use Rattle.rt_app.specs.Tree.{App}
use Rattle.rt_app.specs.Accepted.{IsAccepted}
use Rattle.rt_build.specs.Image.{IsImageOf}
use Rattle.rt_code.specs.Image.{Image}
use Rattle.rt_core.specs.Core.{Core, reset}
use Rattle.rt_core.specs.Stepping.{step}
use Rattle.rt_core.specs.Trace.{core_after, labels}
use Rattle.rt_core.specs.Transfer.{core_after_pend}
use Rattle.rt_core.proofs.Happening.{happens_by_event, core_after-append, labels-append}
use Rattle.rt_laws.specs.State.{State, first}
use Rattle.rt_laws.specs.Allowed.{May, after}
use Rattle.rt_laws.specs.Run.{RunsOn}
use Rattle.rt_laws.specs.ByItems.{after_all}
use Rattle.rt_laws.proofs.ByItems.{after_append}
use Rattle.rt_sim.specs.Good.{AreDeclared}
use Rattle.rt_sim.proofs.Armed.{counts_of_few}
use Rattle.rt_sim.proofs.Reached.{ReachedBy}
use Rattle.rt_sim.proofs.Reached as sim

-- the back of a run is one from where the front leads to
runs_behind : (app : App) (front behind : List Label) (s : State) → RunsOn app s (front ++ behind)
    → RunsOn app (after_all app s front) behind
runs_behind app [] behind s runs = runs
runs_behind app (label ∷ front) behind s runs = runs_behind app front behind (after app s label) runs.1

module _ (app : App) (img : Image) (accepted : IsAccepted app) (is_image : IsImageOf app img) where
  -- the core and the state of Baker's machine behind events
  abbrev pub core_behind : List Event → Core
  core_behind events = core_after img (reset img) events

  abbrev pub state_after : List Event → State
  state_after events = after_all app (first app) (labels img (reset img) events)

  pub reached_by : (events : List Event) → length events < 2 ^ 31 → AreDeclared app events
      → ReachedBy app img accepted is_image events
  reached_by events few declared =
      sim.reached_by app img accepted is_image events (counts_of_few app img events few) declared

  -- one core step behind events
  abbrev pub shown_next : List Event → Option What
  shown_next events = (step img (core_behind events)).1

  labels_step : (events : List Event)
      → labels img (reset img) (events ++ Step ∷ [])
      ≡ labels img (reset img) events ++ Stepped (shown_next events) ∷ []
  labels_step events =
      let c : Core = core_behind events in
      labels-append img (reset img) events (Step ∷ [])
      ∙ ap (λ ls. labels img (reset img) events ++ ls)
      (happens_by_event.labels_more img c Step []
      ∙ ap (λ r. r.1 ++ labels img r.0 []) (happens_by_event.step img c)
      ∙ ap (λ ls. Stepped (step img c).1 ∷ ls) (happens_by_event.labels_none img (step img c).0))

  -- it is allowed, and leads on
  pub step_allowed : (events : List Event) → length events + 1 < 2 ^ 31 → AreDeclared app (events ++ Step ∷ [])
      → May app (state_after events) (Stepped (shown_next events))
  step_allowed events few declared =
      let whole = reached_by (events ++ Step ∷ []) (omega (arith, few, length-append events (Step ∷ []))) declared in
      (runs_behind app (labels img (reset img) events) (Stepped (shown_next events) ∷ []) (first app)
      (subst (RunsOn app (first app)) (labels_step events) whole.runs)).0

  pub state_step : (events : List Event)
      → state_after (events ++ Step ∷ []) ≡ after app (state_after events) (Stepped (shown_next events))
  state_step events =
      ap (after_all app (first app)) (labels_step events)
      ∙ after_append app (labels img (reset img) events) (Stepped (shown_next events) ∷ []) (first app)

  pub core_step : (events : List Event) → core_behind (events ++ Step ∷ []) ≡ (step img (core_behind events)).0
  core_step events =
      let c : Core = core_behind events in
      core_after-append img (reset img) events (Step ∷ [])
      ∙ happens_by_event.core_more img c Step []
      ∙ ap (λ r. core_after img r.0 []) (happens_by_event.step img c)
      ∙ happens_by_event.core_none img (step img c).0

  -- a request behind events
  pub state_request : (events : List Event) (irq : ℕ)
      → state_after (events ++ Arrive irq ∷ []) ≡ after app (state_after events) (Arrived irq)
  state_request events irq =
      let c : Core = core_behind events in
      ap (after_all app (first app))
      (labels-append img (reset img) events (Arrive irq ∷ [])
      ∙ ap (λ ls. labels img (reset img) events ++ ls)
      (happens_by_event.labels_more img c (Arrive irq) []
      ∙ ap (λ r. r.1 ++ labels img r.0 []) (happens_by_event.arrive img c irq)
      ∙ ap (λ ls. Arrived irq ∷ ls) (happens_by_event.labels_none img (core_after_pend c irq))))
      ∙ after_append app (labels img (reset img) events) (Arrived irq ∷ []) (first app)

  pub core_request : (events : List Event) (irq : ℕ) → core_behind (events ++ Arrive irq ∷ [])
      ≡ core_after_pend (core_behind events) irq
  core_request events irq =
      let c : Core = core_behind events in
      core_after-append img (reset img) events (Arrive irq ∷ [])
      ∙ happens_by_event.core_more img c (Arrive irq) []
      ∙ ap (λ r. core_after img r.0 []) (happens_by_event.arrive img c irq)
      ∙ happens_by_event.core_none img (core_after_pend c irq)

  -- nothing has come
  pub state_first : state_after [] ≡ first app
  state_first = ap (after_all app (first app)) (happens_by_event.labels_none img (reset img))
