-- A core step is a step of Baker's machine, from every coupling of which the invariant holds: an interrupt is taken,
-- the thread waits, or the running job goes on.
use Rattle.std.proofs.Common.{◌≡◌, ℕ, ◌-◌, ◌+◌, ◌*◌, ◌^◌, ◌<◌, ◌≤◌, true, false, if◌then◌else◌, List, [], ◌∷◌}
use Rattle.std.proofs.Common.{length, map, replicate, slice_get, Option, Some, None, option_map}
use Rattle.std.proofs.Common.{Contains}
use Rattle.std.proofs.Common.{refl, sym, ap, subst, ◌∙◌, arith}
use Rattle.std.specs.List.{AllByRecursion}
use Rattle.std.proofs.lemmas.List.{length-replicate}
use Rattle.rt_lemmas.proofs.Lists.{find_has}
use Rattle.rt_ids.specs.Lists.{or_zero}
use Rattle.rt_actions.specs.Action.{Returns}
use Rattle.rt_actions.specs.Storage.{AtPriority}
use Rattle.rt_app.specs.declared.app.Mono.{Mono}
use Rattle.rt_app.specs.Tree.{Task, App}
use Rattle.rt_app.specs.Accepted.{IsAccepted}
use Rattle.rt_app.specs.Acceptance.{IsSound}
use Rattle.rt_app.specs.Doings.{nothing, idle_doing, task_doing, dispatcher_doing, timer_doing}
use Rattle.rt_app.specs.Handlers.{Service, services}
use Rattle.rt_app.specs.Level.{is_software, levels}
use Rattle.rt_app.specs.Sending.{act}
use Rattle.rt_build.specs.Entries.{Entries, handler_row, handler_words}
use Rattle.rt_build.specs.Image.{IsImageOf}
use Rattle.rt_code.specs.Cells.{resource_cell}
use Rattle.rt_code.specs.Image.{Image, entry_words}
use Rattle.rt_code.specs.declared.image.IrqRow.{IrqRow}
use Rattle.rt_code.specs.declared.image.Handler as row
use Rattle.rt_core.specs.Core.{Core, depth, stack_in_use}
use Rattle.rt_core.specs.Outcome.{Trapped, Done, settle}
use Rattle.rt_core.specs.Priority.{pick}
use Rattle.rt_core.specs.Transfer.{has_room, exception_entry, core_after_entry}
use Rattle.rt_core.proofs.Happening.{steps_by_cause}
use Rattle.rt_code.specs.declared.processor.Trap.TheVariants as trap
use Rattle.rt_trace.specs.declared.item.What.TheVariants as what
use Rattle.rt_laws.specs.Services.{service_at, priority_of}
use Rattle.rt_laws.specs.State.{Role, Init, Idle, Waiting, Serving}
use Rattle.rt_laws.specs.Preemption.{candidate, system_ceiling}
use Rattle.rt_laws.specs.Allowed.{HasStep}
use Rattle.rt_laws.proofs.Fine.{Queued}
use Rattle.rt_laws.proofs.Pending.{starts_above}
use Rattle.rt_sim.specs.Inside.Coupling.{Part, Coupling, jobs_of, whereabouts_of}
use Rattle.rt_sim.specs.Inside.States.{core_of, state_of}
use Rattle.rt_sim.specs.Inside.Ownership.{AlwaysRespects}
use Rattle.rt_sim.specs.Inside.PartInvariant.{StandsBy, WaitsAt}
use Rattle.rt_sim.specs.Inside.CouplingInvariant.{IsStacked, CouplingInvariant}
use Rattle.rt_sim.specs.Inside.Agrees.{StepsBoth}
use Rattle.rt_sim.proofs.Plain.{IsWorking, length-passed}
use Rattle.rt_sim.proofs.ExecutionPriority.{execution_is}
use Rattle.rt_sim.proofs.Choosing.{picks, IfServed, priority_top}
use Rattle.rt_sim.proofs.Takes.{IsHandler, invariant_taken, takes}
use Rattle.rt_sim.proofs.Fitting.{FitIn}
use Rattle.rt_sim.proofs.Handling.{IsHandled, all_handled}
use Rattle.rt_sim.proofs.Depth.{depth_within, used_is, room_of}
use Rattle.rt_sim.proofs.Keepers.{keepers_apart, kept_is_held}
use Rattle.rt_sim.proofs.Working.{working}

module _ (app : App) (img : Image) (thread : ℕ) where
  -- the thread that waits
  abbrev waited : Coupling → Coupling
  waited m = record m {
    running = record m.running {
      left = m.running.left - 1;
      lefts = map
          (λ n. n - 1) m.running.lefts;
    };
  }

  stack_waited : (p : Part) (ps : List Part) → IsStacked app img thread p ps
      → IsStacked app img thread (record p { left = p.left - 1; lefts = map (λ n. n - 1) p.lefts }) ps
  stack_waited p [] is = record {
    frame = is.frame;
    own_frame = is.own_frame;
    role = is.role;
    greatest = is.greatest;
    saves = is.saves;
  }
  stack_waited p (q ∷ ps) stack = (
    record {
      irq = stack.0.irq;
      serves = stack.0.serves;
      above = stack.0.above;
      most = stack.0.most;
      apart = stack.0.apart;
      unmasked = stack.0.unmasked;
      handled = stack.0.handled;
      frame = stack.0.frame;
      saves = stack.0.saves;
    },
    stack.1,
  )

  invariant_waited : (m : Coupling) → CouplingInvariant app img thread m → m.running.role ≡ Waiting
      → WaitsAt app img thread m.running
      → CouplingInvariant app img thread (waited m)
  invariant_waited m invariant role waits = record {
    stack = stack_waited m.running m.below invariant.stack;
    parts = (
      record {
        stands = subst (λ r. StandsBy app img thread r m.cells m.queues (waited m).running) (sym role)
            (record {
              code = waits.code;
              over = waits.over;
              closed = waits.closed;
              none =
                  ap (λ ls. map (λ n. n - 1) ls) waits.none;
            });
        agrees = invariant.parts.0.agrees;
        counted = length-passed m.running.lefts ∙ invariant.parts.0.counted;
        respects = invariant.parts.0.respects;
        opened = invariant.parts.0.opened;
        kinds = invariant.parts.0.kinds;
        once = invariant.parts.0.once;
        calls = invariant.parts.0.calls;
        own = invariant.parts.0.own;
      },
      invariant.parts.1,
    );
    represented = invariant.represented;
    basepri = invariant.basepri;
    primask = invariant.primask;
    memory = invariant.memory;
    once = invariant.once;
    numbers = invariant.numbers;
    alarmed = invariant.alarmed;
  }

  waiting : (m : Coupling) → CouplingInvariant app img thread m → m.running.role ≡ Waiting
      → pick img (core_of app.bits m) ≡ None
      → candidate app (state_of m) ≡ None
      → StepsBoth app img thread (core_of app.bits m) (state_of m) (whereabouts_of m)
  waiting m invariant role picked none =
      let waits : WaitsAt app img thread m.running =
      subst (λ r. StandsBy app img thread r m.cells m.queues m.running) role invariant.parts.0.stands in
      record {
        core = core_of app.bits m;
        shown = None;
        is = steps_by_cause.line img (core_of app.bits m) _ refl picked waits.code;
        may = record {
          not_owing = refl;
          quiet = none;
          step = (
            subst (λ r. HasStep r m.running.left) (sym role) tt,
            subst (λ ls. AllByRecursion (λ n. 0 < n) ls) (sym waits.none) tt,
          );
        };
        agrees = record {
          coupling = waited m;
          core = refl;
          state = refl;
          invariant =
              invariant_waited m invariant role waits;
          places = refl;
        };
      }

module _ (app : App) (img : Image) (accepted : IsAccepted app) (sound : IsSound app)
    (is_image : IsImageOf app img) (named : (r : ℕ) → r < length app.shared → resource_cell img r ≡ Some r)
    (respects_idle : AlwaysRespects app (AtPriority 0) false [] (idle_doing app))
    (respects_task : (k : ℕ) (t : Task) → slice_get app.tasks k ≡ Some t → is_software t ≡ false
    → AlwaysRespects app (AtPriority t.priority) true [] (task_doing app k [] (act Returns nothing)))
    (respects_level : (p : ℕ) → Contains (levels app) p
    → AlwaysRespects app (AtPriority p) true [] (dispatcher_doing app p))
    (respects_timer : (mono : Mono) → app.mono ≡ Some mono
    → AlwaysRespects app (AtPriority mono.priority) true [] (timer_doing app)) where
  abbrev at : Entries
  at = is_image.at

  few : 3 ≤ app.bits
  few = accepted.limits.least_bits

  many : app.bits ≤ 7
  many = accepted.limits.most_bits

  -- a row that is picked is of an interrupt that is served, by a handler of a higher priority than all that has
  -- started, and there is room for its frame
  pub record IsTaking (m : Coupling) (r : IrqRow) : Type 0 where
    pub service : Service
    pub next : candidate app (state_of m) ≡ Some r.number
    pub serves : service_at app r.number ≡ Some service
    pub handler : r.handler ≡ Some (handler_row app at service)
    pub has : IsHandler app img at.idle at service
    pub above : system_ceiling app (jobs_of m.running m.below) < service.priority
    pub room : has_room img (core_of app.bits m) (entry_words img + (handler_row app at service).frame) ≡ true

  served_well : (m : Coupling) → CouplingInvariant app img at.idle m → (r : IrqRow)
      → candidate app (state_of m) ≡ Some r.number
      → (o : Option Service) → service_at app r.number ≡ o → r.handler ≡ option_map (handler_row app at) o
      → IsTaking m r
  served_well m invariant r next None serves served =
      absurd (let above = starts_above app (state_of m) r.number next in
      let none : priority_of app r.number ≡ 0 =
      ap (λ (o : Option Service). or_zero (option_map (λ s. s.priority) o)) serves in omega (arith, above, none))
  served_well m invariant r next (Some v) serves served =
      let level_is : priority_of app r.number ≡ v.priority =
      ap (λ (o : Option Service). or_zero (option_map (λ s. s.priority) o)) serves in
      let most : v.priority ≤ 2 ^ app.bits = subst (λ p. p ≤ 2 ^ app.bits) level_is
      (priority_top app at few many sound r.number) in
      let has : IsHandler app img at.idle at v =
      find_has (IsHandled app img sound is_image respects_task respects_level respects_timer) _ (services app) v
      (all_handled app img sound is_image respects_task respects_level respects_timer) serves most in
      let above : system_ceiling app (jobs_of m.running m.below) < v.priority =
      subst (λ p. system_ceiling app (jobs_of m.running m.below) < p) level_is
      (starts_above app (state_of m) r.number next) in
      let h : row.Handler = handler_row app at v in
      let c : Core = core_of app.bits m in
      let coupled = invariant_taken app img at.idle at few many (keepers_apart app accepted sound)
      (kept_is_held app accepted sound) r.number v serves has m invariant above in
      let deep = depth_within app img at.idle is_image.tables.fpu many _ coupled in
      let words = used_is app img at.idle _ coupled in
      let before = used_is app img at.idle m invariant in
      let zeros : List ℕ = replicate (handler_words app v.handler) 0 in
      let long : length zeros ≡ handler_words app v.handler = length-replicate (handler_words app v.handler) 0 in
      let fitting : 4 * (stack_in_use img c + (entry_words img + h.frame)) ≤ img.stack_bytes =
      omega (arith, deep, words, before, long, is_image.tables.stack) in
      record {
        service = v;
        next = next;
        serves = serves;
        handler = served;
        has = has;
        above = above;
        room = room_of (stack_in_use img c) (entry_words img + h.frame) img.stack_bytes fitting;
      }

  pub is_taking : (m : Coupling) → CouplingInvariant app img at.idle m → (r : IrqRow)
      → pick img (core_of app.bits m) ≡ Some r → IsTaking m r
  is_taking m invariant r picked =
      let both = picks app at few many sound (core_of app.bits m) (state_of m) refl
      (execution_is app img at.idle few many m invariant) img is_image.tables.irqs in
      let same : Some r.number ≡ candidate app (state_of m) =
      subst (λ o. option_map (λ r. r.number) o ≡ candidate app (state_of m)) picked both.0 in
      let served : IfServed app at few many sound (core_of app.bits m) (state_of m) refl
      (execution_is app img at.idle few many m invariant) (Some r) =
      subst (IfServed app at few many sound (core_of app.bits m) (state_of m) refl
      (execution_is app img at.idle few many m invariant)) picked both.1 in
      served_well m invariant r (sym same) (service_at app r.number) refl served

  -- where none is picked none is to be taken
  pub none_is_taken : (m : Coupling) → CouplingInvariant app img at.idle m → pick img (core_of app.bits m) ≡ None
      → candidate app (state_of m) ≡ None
  none_is_taken m invariant picked =
      let both = picks app at few many sound (core_of app.bits m) (state_of m) refl
      (execution_is app img at.idle few many m invariant) img is_image.tables.irqs in
      sym (subst (λ o. option_map (λ r. r.number) o ≡ candidate app (state_of m)) picked both.0)

  -- a row that is picked is taken
  pub taking : (m : Coupling) → CouplingInvariant app img at.idle m → (r : IrqRow)
      → pick img (core_of app.bits m) ≡ Some r → IsTaking m r
      → StepsBoth app img at.idle (core_of app.bits m) (state_of m) (whereabouts_of m)
  taking m invariant r picked is =
      let h : row.Handler = handler_row app at is.service in
      let c : Core = core_of app.bits m in
      takes app img at.idle at few many (keepers_apart app accepted sound)
      (kept_is_held app accepted sound) r.number is.service is.serves is.has m invariant is.above is.next
      (steps_by_cause.entry img c r refl picked
      ∙ ap (λ o. settle (exception_entry img c r.number o)) is.handler
      ∙ ap (λ b. settle (if b then Done (core_after_entry c r.number h)
      (Some (what.Take r.number (depth img (core_after_entry c r.number h)))) else Trapped c trap.Stack)) is.room)

  -- every core step
  pub step_both : (m : Coupling) → CouplingInvariant app img at.idle m → Queued app m.values → FitIn app m
      → StepsBoth app img at.idle (core_of app.bits m) (state_of m) (whereabouts_of m)
  step_both m invariant queued fit =
      let both = picks app at few many sound (core_of app.bits m) (state_of m) refl
      (execution_is app img at.idle few many m invariant) img is_image.tables.irqs in
      by (pick img (core_of app.bits m)) refl both.0 both.1
    where
      on_with : IsWorking m.running.role → pick img (core_of app.bits m) ≡ None → candidate app (state_of m) ≡ None
          → StepsBoth app img at.idle (core_of app.bits m) (state_of m) (whereabouts_of m)
      on_with works picked none =
          working app img at.idle many is_image.tables.fpu is_image.tables.stack named is_image.code.idle
          (kept_is_held app accepted sound) respects_idle m invariant works queued fit picked none

      goes_on : (role : Role) → m.running.role ≡ role → pick img (core_of app.bits m) ≡ None
          → candidate app (state_of m) ≡ None → StepsBoth app img at.idle (core_of app.bits m) (state_of m)
          (whereabouts_of m)
      goes_on Waiting is picked none = waiting app img at.idle m invariant is picked none
      goes_on Init is picked none = on_with (subst IsWorking (sym is) tt) picked none
      goes_on Idle is picked none = on_with (subst IsWorking (sym is) tt) picked none
      goes_on (Serving irq) is picked none = on_with (subst IsWorking (sym is) tt) picked none

      by : (o : Option IrqRow) → pick img (core_of app.bits m) ≡ o
          → option_map (λ r. r.number) o ≡ candidate app (state_of m)
          → IfServed app at few many sound (core_of app.bits m) (state_of m) refl
          (execution_is app img at.idle few many m invariant) o
          → StepsBoth app img at.idle (core_of app.bits m) (state_of m) (whereabouts_of m)
      by None picked same served = goes_on m.running.role refl picked (sym same)
      by (Some r) picked same served =
          taking m invariant r picked (served_well m invariant r (sym same) (service_at app r.number) refl served)
