-- `init` or `idle` ends: the thread goes on at its address, with `idle` from its beginning, or waits where that is
-- absent.
use Rattle.std.proofs.Common.{◌≡◌, ℕ, ◌||◌, inl, inr, true, false, List, [], ◌∷◌, ◌++◌, slice_index, Option, Some}
use Rattle.std.proofs.Common.{None, length, refl, sym, ap, subst, ◌∙◌, arith}
use Rattle.rt_actions.specs.Location.{Location}
use Rattle.rt_actions.specs.Content.{Values}
use Rattle.rt_actions.specs.Action.{Ends}
use Rattle.rt_actions.specs.Doing.{over}
use Rattle.rt_actions.specs.Storage.{AtPriority}
use Rattle.rt_ids.specs.declared.ids.BodyId.{BodyId}
use Rattle.rt_ids.specs.declared.ids.BodyId.TheVariants as body
use Rattle.rt_app.specs.Tree.{Body, App}
use Rattle.rt_app.specs.BodyCost.{cost_measure, cost_of}
use Rattle.rt_app.specs.Doings.{idle_doing}
use Rattle.rt_app.specs.Holding.{storage, is_kept, is_constant, IsHeld}
use Rattle.rt_build.specs.Image.{IdleStands}
use Rattle.rt_code.specs.Image.{Image}
use Rattle.rt_code.specs.declared.image.BodyRow.{BodyRow}
use Rattle.rt_code.specs.Standing.{Finishes, HaveLeft, Stands, spend_step}
use Rattle.rt_core.specs.Core.{Core}
use Rattle.rt_core.specs.Leading.{with_processor, core_serving, at_address}
use Rattle.rt_core.specs.Stepping.{step}
use Rattle.rt_trace.specs.Label.{Stepped}
use Rattle.rt_trace.specs.declared.item.What.TheVariants as what
use Rattle.rt_laws.specs.State.{Role, Init, Idle, Waiting, Serving, Job, State, reached_values}
use Rattle.rt_laws.specs.Acting.{idle_job}
use Rattle.rt_laws.specs.Allowed.{after}
use Rattle.rt_laws.specs.Preemption.{candidate}
use Rattle.rt_sim.specs.Inside.Coupling.{Part, Coupling, runner_of, configuration_of, job_of, whereabouts_of}
use Rattle.rt_sim.specs.Inside.States.{core_of, state_of}
use Rattle.rt_sim.specs.Inside.Chains.{is_init, base_inside, mask_inside}
use Rattle.rt_sim.specs.Inside.Ownership.{AlwaysRespects}
use Rattle.rt_sim.specs.Inside.Counts.{hands}
use Rattle.rt_sim.specs.Inside.PartInvariant.{who}
use Rattle.rt_sim.specs.Inside.CouplingInvariant.{CouplingInvariant}
use Rattle.rt_sim.specs.Inside.Agrees.{StepsBoth}
use Rattle.rt_sim.proofs.Counting.{fewer_once}
use Rattle.rt_sim.proofs.BodyRows.{no_rows, calls_none}
use Rattle.rt_sim.proofs.Plain.{IsWorking, may_turn}
use Rattle.rt_sim.proofs.Acts.{owns_alike, agrees_reached, gives_item, acts_as}
use Rattle.rt_sim.proofs.Returns.{given_back}

-- the thread as it begins `idle`, or waits, in this frame
abbrev pub thread_part : App → Image → Option Body → ℕ → List ℕ → Values → Part
thread_part app img None address slots vs = record {
  role = Waiting;
  priority = 0;
  rest = over;
  left = 0;
  lefts = [];
  held = [];
  places = [];
  address = address;
  slots = slots;
  caller = None;
  steps = 0;
  rows = no_rows app img;
  own = length slots;
}
thread_part app img (Some b) address slots vs = record {
  role = Idle;
  priority = 0;
  rest = idle_doing app vs;
  left = cost_of (cost_measure app) app.idle;
  lefts = [];
  held = [];
  places = [];
  address = address;
  slots = slots;
  caller = None;
  steps = cost_of (cost_measure app) app.idle;
  rows = no_rows app img;
  own = length slots;
}

module _ (app : App) (img : Image) (thread : ℕ)
    (idle : (bodies : List BodyRow) → IdleStands app img.code bodies thread app.idle)
    (held_there : (p : ℕ) (h : Location) → (is_kept app (AtPriority p) h || is_constant app (AtPriority p) h) ≡ true
    → IsHeld app h)
    (respects : AlwaysRespects app (AtPriority 0) false [] (idle_doing app)) where
  module _ (m : Coupling) (invariant : CouplingInvariant app img thread (record m { below = [] }))
      (works : IsWorking m.running.role)
      (none : candidate app (state_of (record m { below = [] })) ≡ None)
      (left : HaveLeft (m.running.lefts ++ m.running.left ∷ []))
      (b : BodyId) (ends : Finishes (storage app) img.code m.running.rows thread (who m.running) (Ends b)
      (spend_step (configuration_of m.cells m.queues m.running))) where
    abbrev m0 : Coupling
    m0 = record m { below = [] }

    -- nothing is owned by a job then
    all_represented : (h : Location) → IsHeld app h → (storage app).Represents h (slice_index m.cells) (m.queues h)
        (m.values h)
    all_represented h held = given_back app img thread (record m { below = [] }) invariant works (Ends b) ends h held tt

    abbrev coupling_of : Option Body → Coupling
    coupling_of o = record m {
      running = thread_part app img o thread m.running.slots m.values;
      below = [];
      primask = false;
      values = reached_values (thread_part app img o thread m.running.slots m.values).rest m.values;
    }

    invariant_idle : (c : Body) → app.idle ≡ Some c → CouplingInvariant app img thread (coupling_of (Some c))
    unfolding storage
    invariant_idle c is = record {
      stack = record {
        frame = invariant.stack.frame;
        own_frame = refl;
        role = inr (inl refl, refl);
        greatest = λ e. absurd (cc (e));
        saves = tt;
      };
      parts = (
        record {
          stands = subst (λ cost. Stands (storage app) img.code (no_rows app img) thread (AtPriority 0) cost
              (record (configuration_of m.cells m.queues
              (thread_part app img (Some c) thread m.running.slots m.values)) {
                lefts =
                    cost ∷ [];
              }))
              (ap (cost_of (cost_measure app)) (sym is))
              (subst (λ o. IdleStands app img.code (no_rows app img) thread o) is (idle (no_rows app img))
              m.running.slots m.cells m.queues
              m.values invariant.stack.frame invariant.memory
              (λ h reads. all_represented h (held_there 0 h reads)));
          agrees = agrees_reached app img thread (AtPriority 0) [] (idle_doing app m.values) m.values;
          counted = refl;
          respects = (respects m.values).1;
          opened = tt;
          kinds = tt;
          once = tt;
          calls = calls_none app img Idle 0 (length m.running.slots);
          own = refl;
        },
        tt,
      );
      represented = λ h held away.
          subst (λ content. (storage app).Represents h (slice_index m.cells) (m.queues h) content)
          (sym ((respects m.values).0 h (owns_alike app (AtPriority 0) false [] h ∙ away.0))) (all_represented h held);
      basepri = invariant.basepri ∙ ap (λ held. base_inside app held 0) ends.closed;
      primask = refl;
      memory = invariant.memory;
      once = fewer_once m.queues (hands (m.running ∷ [])) (λ e. 0) (λ e. omega arith) invariant.once;
      numbers = invariant.numbers;
      alarmed = invariant.alarmed;
    }

    invariant_waiting : app.idle ≡ None → CouplingInvariant app img thread (coupling_of None)
    invariant_waiting is = record {
      stack = record {
        frame = invariant.stack.frame;
        own_frame = refl;
        role = inr (inr refl, refl);
        greatest = λ e. absurd (cc (e));
        saves = tt;
      };
      parts = (
        record {
          stands = record {
            code = subst (λ o. IdleStands app img.code (no_rows app img) thread o) is (idle (no_rows app img));
            over =
                refl;
            closed = refl;
            none = refl;
          };
          agrees = tt;
          counted = refl;
          respects = tt;
          opened = tt;
          kinds = tt;
          once = tt;
          calls = calls_none app img Waiting 0 (length m.running.slots);
          own = refl;
        },
        tt,
      );
      represented = λ h held away. all_represented h held;
      basepri = invariant.basepri ∙ ap (λ held. base_inside app held 0) ends.closed;
      primask = refl;
      memory = invariant.memory;
      once = fewer_once m.queues (hands (m.running ∷ [])) (λ e. 0) (λ e. omega arith) invariant.once;
      numbers = invariant.numbers;
      alarmed = invariant.alarmed;
    }

    invariant_thread : (o : Option Body) → app.idle ≡ o → CouplingInvariant app img thread (coupling_of o)
    invariant_thread None is = invariant_waiting is
    invariant_thread (Some c) is = invariant_idle c is

    idling_is : (o : Option Body)
        → idle_job app m.values o ≡ job_of (thread_part app img o thread m.running.slots m.values)
    idling_is None = refl
    idling_is (Some c) = refl

    none_in_hands : (o : Option Body) → (thread_part app img o thread m.running.slots m.values).places ≡ []
    none_in_hands None = refl
    none_in_hands (Some c) = refl

    core_is : (o : Option Body) → with_processor (core_of app.bits m0) (record
        (core_of app.bits m0).processor { address = thread; primask = false }) ≡ core_of app.bits (coupling_of o)
    core_is None = ap (λ k. record (core_of app.bits (coupling_of None)) { caller = k }) ends.own_frame
    core_is (Some c) = ap (λ k. record (core_of app.bits (coupling_of (Some c))) { caller = k }) ends.own_frame

    abbrev State_of : Job → State
    State_of j = record (state_of m0) { jobs = j ∷ []; values = reached_values j.rest m.values }

    thread_goes_on : (c : Core) → c ≡ with_processor (core_of app.bits m0) (record
        (core_of app.bits m0).processor { address = thread; primask = false })
        → step img (core_of app.bits m0) ≡ (c, Some (what.End b))
        → after app (state_of m0) (Stepped (Some (what.End b))) ≡ State_of (idle_job app m.values app.idle)
        → StepsBoth app img thread (core_of app.bits m0) (state_of m0) (whereabouts_of m0)
    thread_goes_on c there is state_is = record {
      core = c;
      shown = Some (what.End b);
      is = is;
      may = (
        may_turn app img thread m0 invariant works none left,
        gives_item app img thread m0 invariant works
            (Ends b) ends.values ends.follows ends.is,
      );
      agrees = record {
        coupling = coupling_of app.idle;
        core = there ∙ core_is app.idle;
        state = state_is ∙ ap State_of (idling_is app.idle);
        invariant = invariant_thread app.idle refl;
        places = ap (λ es. record (whereabouts_of m0) { in_hands = es ∷ [] }) (none_in_hands app.idle ∙ sym ends.empty);
      };
    }

  pub ends_init : (m : Coupling) (invariant : CouplingInvariant app img thread (record m { below = [] }))
      (works : IsWorking m.running.role)
      → candidate app (state_of (record m { below = [] })) ≡ None → HaveLeft (m.running.lefts ++ m.running.left ∷ [])
      → Finishes (storage app) img.code m.running.rows thread (who m.running) (Ends body.Init)
      (spend_step (configuration_of m.cells m.queues m.running))
      → step img (core_of app.bits (record m { below = [] })) ≡
      (core_serving (core_of app.bits (record m { below = [] })) thread, Some (what.End body.Init))
      → StepsBoth app img thread (core_of app.bits (record m { below = [] })) (state_of (record m { below = [] }))
      (whereabouts_of (record m { below = [] }))
  ends_init m invariant works none left ends is =
      thread_goes_on m invariant works none left body.Init ends _ refl is
      (acts_as app img thread (record m { below = [] }) invariant works
      (Ends body.Init) ends.values ends.follows ends.is)

  not_init : (role : Role) (p : ℕ) → runner_of role p ≡ AtPriority 0 → is_init role ≡ false
  not_init Init p is = absurd (cc (is))
  not_init Idle p is = refl
  not_init Waiting p is = refl
  not_init (Serving irq) p is = refl

  pub ends_idle : (m : Coupling) (invariant : CouplingInvariant app img thread (record m { below = [] }))
      (works : IsWorking m.running.role)
      → candidate app (state_of (record m { below = [] })) ≡ None → HaveLeft (m.running.lefts ++ m.running.left ∷ [])
      → who m.running ≡ AtPriority 0
      → Finishes (storage app) img.code m.running.rows thread (who m.running) (Ends body.Idle)
      (spend_step (configuration_of m.cells m.queues m.running))
      → step img (core_of app.bits (record m { below = [] })) ≡
      (at_address (core_of app.bits (record m { below = [] })) thread, Some (what.End body.Idle))
      → StepsBoth app img thread (core_of app.bits (record m { below = [] })) (state_of (record m { below = [] }))
      (whereabouts_of (record m { below = [] }))
  ends_idle m invariant works none left low ends is =
      let clear : m.primask ≡ false = invariant.primask
      ∙ ap (λ held. mask_inside app held (is_init m.running.role)) ends.closed
      ∙ not_init m.running.role m.running.priority low in
      let c : Core = core_of app.bits (record m { below = [] }) in
      thread_goes_on m invariant works none left body.Idle ends (at_address c thread)
      (ap (λ k. with_processor c (record c.processor { address = thread; primask = k })) clear) is
      (acts_as app img thread (record m { below = [] }) invariant works (Ends body.Idle) ends.values ends.follows
      ends.is)
