-- The first exception entry on a good image: an interrupt that is requested at reset is taken behind `init`, and its
-- handler's frame stands on the thread's. Behind any events, one that is requested above the priority is taken at once.
use Rattle.std.proofs.Common.{◌≡◌, ℕ, zero, suc, ◌+◌, ◌-◌, ◌==◌, ◌^◌, ◌<◌, ◌≤◌, inl, inr, true, false}
use Rattle.std.proofs.Common.{List, [], ◌∷◌, ◌++◌, length, flat_map, replicate}
use Rattle.std.proofs.Common.{Option, Some, IsSome, refl, ap, sym, subst, ◌∙◌, arith, append_assoc, append-nil}
use Rattle.std.proofs.Common.{length-set, eq-eqb}
use Rattle.std.proofs.lemmas.Bool.{leb-true}
use Rattle.std.proofs.lemmas.List.{length-replicate}
use Rattle.std.proofs.lemmas.List.Concat.{flat_map-append}
use Rattle.rt_lemmas.proofs.Lists.{found, find_has, mapped_at}
use Rattle.rt_lemmas.proofs.Membership.{all_at, any_passes}
use Rattle.rt_ids.specs.Event.{Event, Arrive, Step}
use Rattle.rt_ids.specs.declared.limits.TheConstants.{IRQ_NUMBERS}
use Rattle.rt_ids.specs.Naming.{IsDeclared}
use Rattle.rt_app.specs.declared.app.IrqDecl.{IrqDecl}
use Rattle.rt_app.specs.Tree.{App}
use Rattle.rt_app.specs.Accepted.{IsAccepted}
use Rattle.rt_app.specs.Acceptance.{IsSound}
use Rattle.rt_app.specs.BodyCost.{cost_measure, cost_of}
use Rattle.rt_app.specs.Handlers.{Service, services}
use Rattle.rt_app.specs.Names.{names_of}
use Rattle.rt_app.specs.Stack.{need, thread_words}
use Rattle.rt_app.proofs.Sound.{accepted_are_sound}
use Rattle.rt_build.specs.Entries.{handler_words, task_words}
use Rattle.rt_build.specs.Image.{IsImageOf}
use Rattle.rt_code.specs.Image.{Image, entry_words}
use Rattle.rt_core.specs.Core.{Core, stack_in_use}
use Rattle.rt_laws.specs.Acting as acting
use Rattle.rt_laws.specs.Allowed.{after}
use Rattle.rt_laws.specs.Services.{service_at, is_declared}
use Rattle.rt_laws.specs.State.{State, first}
use Rattle.rt_laws.specs.Preemption.{system_ceiling}
use Rattle.rt_script.specs.Script.{events, line_events}
use Rattle.rt_sim.specs.Good.{AreDeclared}
use Rattle.rt_sim.proofs.Reached.{declared_append}
use Rattle.rt_trace.specs.Label.{Arrived, Stepped}
use Rattle.rt_trace.specs.declared.item.What.{What}
use Rattle.rt_reach.specs.Deepest.{priority_lines, script_of, item_after, IsFirstTake}
use Rattle.rt_app.specs.Forms.{has_deepest_script}
use Rattle.rt_reach.specs.Take.{IsTake}
use Rattle.rt_reach.proofs.Entering.{takes_words, alone_words}
use Rattle.rt_reach.proofs.Jobs.{InInit, BehindInit, RestsBelow, init_steps, is_candidate, takes, first_requested}
use Rattle.rt_reach.proofs.Pended.{PendsOnly}
use Rattle.rt_reach.proofs.Quiet.{init_quiet}
use Rattle.rt_reach.proofs.Rising.{IsOfForm, form_of}
use Rattle.rt_reach.proofs.Running.{core_behind, state_after, reached_by, shown_next, step_allowed, state_step}
use Rattle.rt_reach.proofs.Running.{core_step, state_request, state_first}
use Rattle.rt_reach.proofs.Served.{IsDeepestAt, is_hardware, is_untimed}
use Rattle.rt_reach.proofs.Takes.{starts, starts_more}
use borrow.Author.Count.{below_more}

pub steps_declared : (app : App) (n : ℕ) → AreDeclared app (replicate n Step)
steps_declared app zero = tt
steps_declared app (suc n) = steps_declared app n

-- the events of the script
pub events_one : (steps irq : ℕ) → events (script_of steps (irq ∷ [])) ≡ starts irq steps
events_one steps irq = ap (λ es. Arrive irq ∷ es) (append-nil (replicate steps Step))

pub events_next : (steps irq next : ℕ) (more : List ℕ)
    → events (script_of steps (irq ∷ more ++ next ∷ []))
    ≡ events (script_of steps (irq ∷ more)) ++ Arrive next ∷ Step ∷ []
events_next steps irq next more =
    ap (λ ls. events (priority_lines steps irq ++ ls)) (flat_map-append (priority_lines 1) more (next ∷ []))
    ∙ ap events (sym (append_assoc (priority_lines steps irq) (flat_map (priority_lines 1) more)
    (priority_lines 1 next)))
    ∙ flat_map-append line_events (script_of steps (irq ∷ more)) (priority_lines 1 next)

module _ (app : App) (img : Image) (accepted : IsAccepted app) (is_image : IsImageOf app img)
    (form : has_deepest_script app ≡ true) where
  abbrev pub sound : IsSound app
  sound = accepted_are_sound app accepted

  -- the machine and the core behind events
  abbrev pub state_at : List Event → State
  state_at = state_after app img accepted is_image

  abbrev pub core_at : List Event → Core
  core_at = core_behind app img accepted is_image

  abbrev pub next_at : List Event → Option What
  next_at = shown_next app img accepted is_image

  abbrev pub Rests : ℕ → List Event → Type 0
  Rests p es = RestsBelow app sound p (state_at es)

  -- an interrupt that is served
  pub record IsServed (p irq : ℕ) : Type 0 where
    pub service : Service
    pub served : service_at app irq ≡ Some service
    pub at_priority : service.priority ≡ p
    pub words : handler_words app service.handler ≡ need app p
    pub some : 1 ≤ p
    pub low : irq < IRQ_NUMBERS
    pub declared : is_declared app irq ≡ true
    pub named : IsDeclared (names_of app) irq

  pub deepest_served : (p irq : ℕ) → IsDeepestAt app p irq → IsServed p irq
  deepest_served p irq at =
      let least : (at.service.irq < length app.irqs) × (1 ≤ at.service.priority)
      × (at.service.priority ≤ 2 ^ app.bits) =
      find_has (λ (s : Service). (s.irq < length app.irqs) × (1 ≤ s.priority) × (s.priority ≤ 2 ^ app.bits)) _
      (services app)
      at.service sound.served at.served in
      let number : at.decl.number < IRQ_NUMBERS =
      all_at (λ (d : IrqDecl). d.number < IRQ_NUMBERS) app.irqs at.index at.decl sound.numbers at.declared in
      let row = found (λ (r : List ℕ × ℕ). r.1 == irq) (names_of app).irqs at.index (at.decl.name, at.decl.number)
      (mapped_at (λ (d : IrqDecl). (d.name, d.number)) app.irqs at.index at.decl at.declared)
      (eq-eqb at.decl.number irq at.numbered) in
      record {
        service = at.service;
        served = at.served;
        at_priority = at.at_priority;
        words = ap (handler_words app) at.runs ∙ ap task_words at.there ∙ at.frame;
        some = omega (arith, least.1, at.at_priority);
        low = omega (arith, number, at.numbered);
        declared = any_passes (λ (d : IrqDecl). d.number == irq) app.irqs at.index at.decl at.declared
            (eq-eqb at.decl.number irq at.numbered);
        named = subst IsSome (sym row.1) refl;
      }

  -- an interrupt is taken behind events
  module _ (es : List Event) (few : length es + 1 < 2 ^ 31) (known : AreDeclared app es) where
    whole_declared : AreDeclared app (es ++ Step ∷ [])
    whole_declared = declared_append app es (Step ∷ []) known tt

    pub taken : (p irq : ℕ) (is : IsServed p irq) → PendsOnly (state_at es).pending irq
        → system_ceiling app (state_at es).jobs < p
        → (state_at es).owing ≡ false → length (state_at es).pending ≡ IRQ_NUMBERS
        → IsTake (next_at es) × Rests (suc p) (es ++ Step ∷ [])
        × (stack_in_use img (core_at (es ++ Step ∷ [])) ≡ stack_in_use img (core_at es)
        + (entry_words img + need app p))
    taken p irq is pends above owing long =
        let v : Service = is.service in
        let over : system_ceiling app (state_at es).jobs < v.priority = omega (arith, above, is.at_priority) in
        let allowed = step_allowed app img accepted is_image es few whole_declared in
        let done = takes app sound (state_at es) irq v is.served pends over owing long (next_at es) allowed in
        let taking : IsTake (next_at es) = subst IsTake (sym done.1) tt in
        let agrees = (reached_by app img accepted is_image es (omega (arith, few)) known).agrees in
        let words = takes_words app img accepted is_image _ (core_at es) (state_at es) agrees irq v is.served
        (is_candidate app sound (state_at es) irq v is.served pends over) taking in (
          taking,
          subst (RestsBelow app sound (suc p)) (sym (state_step app img accepted is_image es))
              (subst (λ q. RestsBelow app sound (suc q) (after app (state_at es) (Stepped (next_at es)))) is.at_priority
              done.2),
          ap (stack_in_use img) (core_step app img accepted is_image es) ∙ words
              ∙ ap (λ w. stack_in_use img (core_at es) + (entry_words img + w)) is.words,
        )

  -- the first exception entry, where an interrupt is requested at reset
  pub record Enters (p irq : ℕ) : Type 0 where
    pub steps : ℕ
    pub few : steps ≤ 900001
    pub first_take : IsFirstTake img irq steps
    pub rests : Rests (suc p) (starts irq steps)
    pub words : stack_in_use img (core_at (starts irq steps)) ≡ thread_words app + (entry_words img + need app p)

  starts_declared : (irq n : ℕ) → is_declared app irq ≡ true → AreDeclared app (starts irq n)
  starts_declared irq n is = (is, steps_declared app n)

  starts_long : (irq n : ℕ) → length (starts irq n) ≡ suc n
  starts_long irq n = let long = length-replicate n Step in omega (arith, long)

  module _ (p irq : ℕ) (is : IsServed p irq) where
    abbrev NoneBefore : ℕ → Type 0
    NoneBefore n = (k : ℕ) → k < n → ¬ IsTake (item_after img irq k)

    abbrev here : ℕ → State
    here n = state_at (starts irq n)

    one_more : (n : ℕ) → n ≤ 900001 → here (n + 1) ≡ after app (here n) (Stepped (next_at (starts irq n)))
    one_more n few = ap state_at (starts_more irq n) ∙ state_step app img accepted is_image (starts irq n)

    at_end : (n : ℕ) → n ≤ 900000 → NoneBefore n → BehindInit app sound (here n) → PendsOnly (here n).pending irq
        → length (here n).pending ≡ IRQ_NUMBERS → Enters p irq
    at_end n few none behind pends long =
        let room : length (starts irq n) + 1 < 2 ^ 31 = omega (arith, few, starts_long irq n) in
        let known = starts_declared irq n is.declared in
        let done = taken (starts irq n) room known p irq is pends (omega (arith, behind.low, is.some)) behind.owing
        long in
        let agrees = (reached_by app img accepted is_image (starts irq n) (omega (arith, room)) known).agrees in
        let alone = alone_words app img accepted is_image _ (core_at (starts irq n)) (here n) agrees behind.job
        behind.jobs in
        record {
          steps = n + 1;
          few = omega (arith, few);
          first_take = record { done = n; number = omega arith; takes = done.0; none = none };
          rests = subst (Rests (suc p)) (sym (starts_more irq n)) done.1;
          words = ap (λ es. stack_in_use img (core_at es)) (starts_more irq n) ∙ done.2
              ∙ ap (λ w. w + (entry_words img + need app p)) alone;
        }

    go : (left n : ℕ) → n + left ≤ 900000 → NoneBefore n → InInit app sound left (here n)
        → PendsOnly (here n).pending irq → length (here n).pending ≡ IRQ_NUMBERS → Enters p irq
    go zero n few none runs pends long =
        let stays = init_steps app sound (here n) 0 runs (next_at (starts irq n))
        (step_allowed app img accepted is_image (starts irq n) (omega (arith, few, starts_long irq n))
        (declared_append app (starts irq n) (Step ∷ []) (starts_declared irq n is.declared) tt)) in
        absurd (omega (arith, stays.some))
    go (suc left) n few none runs pends long =
        let stays = init_steps app sound (here n) (suc left) runs (next_at (starts irq n))
        (step_allowed app img accepted is_image (starts irq n) (omega (arith, few, starts_long irq n))
        (declared_append app (starts irq n) (Step ∷ []) (starts_declared irq n is.declared) tt)) in
        let next = one_more n (omega (arith, few)) in
        let pending_is : (here (n + 1)).pending ≡ (here n).pending = ap (λ (s : State). s.pending) next
        ∙ stays.pending in
        let none_more : NoneBefore (n + 1) =
        below_more (λ k. ¬ IsTake (item_after img irq k)) n none stays.no_take in
        let pends_more : PendsOnly (here (n + 1)).pending irq =
        subst (λ ps. PendsOnly ps irq) (sym pending_is) pends in
        let long_more : length (here (n + 1)).pending ≡ IRQ_NUMBERS = ap length pending_is ∙ long in
        let same : suc left - 1 ≡ left = omega arith in
        elim stays.leads [
          | inl runs_on ↦ go left (n + 1) (omega (arith, few)) none_more
              (subst (InInit app sound left) (sym next)
              (subst (λ k. InInit app sound k (after app (here n) (Stepped (next_at (starts irq n))))) same runs_on))
              pends_more long_more
          | inr behind ↦ at_end (n + 1) (omega (arith, few)) none_more
              (subst (BehindInit app sound) (sym next) behind) pends_more long_more
        ]

    pub enters : Enters p irq
    enters =
        let of_form : IsOfForm app = form_of app form in
        let brief : cost_of (cost_measure app) app.init ≤ 900000 = leb-true _ 900000 of_form.brief in
        let start : here 0 ≡ acting.state_after_pend irq (first app) =
        state_request app img accepted is_image [] irq
        ∙ ap (λ s. after app s (Arrived irq)) (state_first app img accepted is_image) in
        let begins : InInit app sound 900000 (acting.state_after_pend irq (first app)) = record {
          job = _;
          jobs = refl;
          role = refl;
          top = refl;
          rest = init_quiet app sound (is_hardware app accepted sound of_form.hardware of_form.untimed)
              (is_untimed app accepted sound of_form.hardware of_form.untimed) of_form.quiet _;
          few = brief;
          owing = refl;
        } in
        go 900000 0 (omega arith) (λ k below. absurd (omega (arith, below)))
        (subst (InInit app sound 900000) (sym start) begins)
        (subst (λ (s : State). PendsOnly s.pending irq) (sym start) (first_requested app sound irq is.low))
        (ap (λ (s : State). length s.pending) start
        ∙ length-set (first app).pending irq true ∙ length-replicate IRQ_NUMBERS false)
