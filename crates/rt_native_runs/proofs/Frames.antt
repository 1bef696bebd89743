-- A coupled core is coupled where a frame comes into being, or a body comes back, whatever words the frame then holds
-- that no code has written.
use Rattle.std.proofs.Common.{◌≡◌, ℕ, suc, ◌+◌, ◌<◌, ◌≤◌, ◌==◌, ◌&&◌, ◌||◌, nat_le, true, false, not}
use Rattle.std.proofs.Common.{if◌then◌else◌, is_none, List, [], ◌∷◌, ◌++◌, length, slice_get, slice_set, Option, Some}
use Rattle.std.proofs.Common.{None, refl, sym, ap, subst, ◌∙◌, arith}
use Rattle.std.proofs.lemmas.Bool.{false≢true, leb-true}
use Rattle.std.proofs.lemmas.List.{length-replicate}
use Rattle.rt_lemmas.proofs.Bools.{and_both, and_right}
use Rattle.rt_ids.specs.Lists.{is_empty}
use Rattle.rt_ids.specs.Priority.{hardware}
use Rattle.rt_ids.specs.declared.ids.BodyId.TheVariants as body
use Rattle.rt_app.specs.Accepted.{IsAccepted}
use Rattle.rt_app.specs.Doings.{handler_doing}
use Rattle.rt_app.specs.Holding.{storage}
use Rattle.rt_app.specs.Tree.{App}
use Rattle.rt_app.proofs.Sound.{accepted_are_sound}
use Rattle.rt_build.specs.Entries.{handler_row}
use Rattle.rt_build.specs.Image.{IsImageOf}
use Rattle.rt_build.proofs.ImageCells.{resource_numbers}
use Rattle.rt_code.specs.Effect.{effect}
use Rattle.rt_code.specs.Ending.{Calls}
use Rattle.rt_code.specs.Image.{Image, entry_words}
use Rattle.rt_code.specs.Stack.{IsAlikeUpTo, arguments_fit, body_frame, caller_frame, last_slot}
use Rattle.rt_code.specs.Standing.{HaveLeft, Stands, spend_step}
use Rattle.rt_code.specs.declared.image.BodyRow.{BodyRow}
use Rattle.rt_code.specs.declared.image.Handler.{Handler}
use Rattle.rt_code.specs.declared.image.IrqRow.{IrqRow}
use Rattle.rt_code.specs.declared.instr.Instr.TheVariants as instr
use Rattle.rt_code.specs.declared.instr.Note.{Note}
use Rattle.rt_code.specs.declared.instr.Note.TheVariants as note
use Rattle.rt_code.specs.declared.processor.Trap.TheVariants as trap
use Rattle.rt_code.proofs.Standing.{stands_left}
use Rattle.rt_core.specs.Core.{Core, Context, depth, reset}
use Rattle.rt_core.specs.Leading.{in_frame}
use Rattle.rt_core.specs.Outcome.{Trapped, Done, settle}
use Rattle.rt_core.specs.Priority.{pick}
use Rattle.rt_core.specs.Stepping.{go_on, step, with_note}
use Rattle.rt_core.specs.Transfer.{call_row, core_after_call, core_after_entry, exception_entry, has_room, may_call}
use Rattle.rt_core.specs.Transfer.{back_to}
use Rattle.rt_core.proofs.Happening.{steps_by_cause}
use Rattle.rt_trace.specs.Label.{Stepped}
use Rattle.rt_trace.specs.declared.item.What.{What}
use Rattle.rt_trace.specs.declared.item.What.TheVariants as what
use Rattle.rt_laws.specs.Allowed.{after, state_after_start}
use Rattle.rt_laws.specs.Observer.{first_sight}
use Rattle.rt_laws.specs.Preemption.{candidate}
use Rattle.rt_laws.specs.State.{State, first, reached_values}
use Rattle.rt_laws.proofs.Armings.{first_armings}
use Rattle.rt_laws.proofs.Happens.{first_well}
use Rattle.rt_native_laws.specs.Moments.{with_frame}
use Rattle.rt_sim.specs.Inside.Coupling.{Coupling, Part, configuration_of, handled_irq, jobs_of}
use Rattle.rt_sim.specs.Inside.CouplingInvariant.{IsStacked}
use Rattle.rt_sim.specs.Inside.PartInvariant.{who}
use Rattle.rt_sim.specs.Inside.States.{contexts, contexts_of, core_of, state_of}
use Rattle.rt_sim.proofs.Armed.{arming_in}
use Rattle.rt_sim.proofs.Bodies.{init_respects, idle_respects, task_respects, dispatcher_respects, timer_respects}
use Rattle.rt_sim.proofs.Calls.{agrees_back, callable_by, in_body, invariant_called, long_body, not_alone}
use Rattle.rt_sim.proofs.Calls.{room_for_body}
use Rattle.rt_sim.proofs.Fitting.{Fits}
use Rattle.rt_sim.proofs.Keepers.{keepers_apart, kept_is_held}
use Rattle.rt_sim.proofs.Starting.{first_coupling, invariant_first, stands_first}
use Rattle.rt_sim.proofs.Stepping.{IsTaking, is_taking, none_is_taken}
use Rattle.rt_sim.proofs.Takes.{handler_part, invariant_taken, kept_represented}
use Rattle.rt_native_runs.proofs.Bases.{base_under}
use Rattle.rt_native_runs.proofs.Coupled.{Coupled, base_is, contexts_long, coupled_behind, left_stays}
use Rattle.rt_native_runs.proofs.Facts.{AtLine, at_line}
use Rattle.rt_native_runs.proofs.Lines.{back_here, calls_here}
use Rattle.rt_native_runs.proofs.Steps.{both, runs, time_stays}
use Rattle.rt_native_runs.proofs.Words.{invariant_words, with_words}

module _ (app : App) (img : Image) (accepted : IsAccepted app) (is_image : IsImageOf app img) where
  -- after reset, whatever the thread's frame holds
  pub coupled_reset : (words : List ℕ) → length words ≡ img.thread_words
      → Coupled app img accepted is_image (first app) 0 [] (with_frame words (reset img))
  coupled_reset words long =
      let sound = accepted_are_sound app accepted in
      let respects = init_respects app accepted sound in
      let none = first_armings app accepted in
      let start : Coupling = first_coupling app img accepted sound is_image respects in
      record {
        coupling = with_words app img is_image.at.idle words
            (first_coupling app img accepted sound is_image respects);
        seen = first_sight app;
        is = refl;
        state = refl;
        invariant = invariant_words app img is_image.at.idle
            (first_coupling app img accepted sound is_image respects) words
            (invariant_first app img accepted sound is_image respects) refl
            (long ∙ sym (length-replicate img.thread_words 0))
            (stands_first app img accepted sound is_image respects words long);
        well = first_well app accepted;
        few = omega (arith, none);
        left = refl;
      }

  module _ (s : State) (n : ℕ) (bases : List ℕ) (c : Core) (x : Coupled app img accepted is_image s n bases c)
      (fit : Fits app n) where
    -- an interrupt is taken
    pub record Took (row : IrqRow) : Type 0 where
      pub handler : Handler
      pub enabled : row.handler ≡ Some handler
      pub is : (step img c).0 ≡ core_after_entry c row.number handler
      pub shown : (step img c).1 ≡ Some (what.Take row.number (depth img (core_after_entry c row.number handler)))
      pub behind : (words : List ℕ) → length words ≡ handler.frame
          → Coupled app img accepted is_image (after app s (Stepped (step img c).1)) (n + arming_in (step img c).1)
          (c.processor.basepri ∷ bases)
          (with_frame words (core_after_entry c row.number handler))

    pub coupled_entry : (row : IrqRow) → pick img c ≡ Some row → Took row
    coupled_entry row picked =
        let sound = accepted_are_sound app accepted in
        let m : Coupling = x.coupling in
        let taking : IsTaking app img accepted sound is_image
        (resource_numbers app is_image.at img is_image.tables sound) (idle_respects app accepted sound)
        (task_respects app accepted sound) (dispatcher_respects app accepted sound)
        (timer_respects app accepted sound) m row =
        is_taking app img accepted sound is_image
        (resource_numbers app is_image.at img is_image.tables sound) (idle_respects app accepted sound)
        (task_respects app accepted sound) (dispatcher_respects app accepted sound)
        (timer_respects app accepted sound) m x.invariant row (ap (pick img) (sym x.is) ∙ picked) in
        let v = taking.service in
        let h : Handler = handler_row app is_image.at v in
        let room : has_room img c (entry_words img + h.frame) ≡ true =
        ap (λ (d : Core). has_room img d (entry_words img + h.frame)) x.is ∙ taking.room in
        let stepped : step img c ≡ (
          core_after_entry c row.number h,
          Some (what.Take row.number (depth img (core_after_entry c row.number h))),
        ) =
        steps_by_cause.entry img c row (runs app img accepted is_image s n bases c x fit) picked
        ∙ ap (λ o. settle (exception_entry img c row.number o)) taking.handler
        ∙ ap (λ b. settle (if b then Done (core_after_entry c row.number h)
        (Some (what.Take row.number (depth img (core_after_entry c row.number h)))) else Trapped c trap.Stack)) room in
        let all = both app img accepted is_image s n bases c x fit in
        let shown : all.shown ≡ Some (what.Take row.number (depth img (core_after_entry c row.number h))) =
        ap (λ (r : Core × Option What). r.1) (sym all.is) ∙ ap (λ (d : Core). (step img d).1) (sym x.is)
        ∙ ap (λ (r : Core × Option What). r.1) stepped in
        let start : Coupling = record m {
          running = handler_part app is_image.at row.number v taking.has.rows m.values;
          below = m.running ∷ m.below;
          pending = slice_set m.pending row.number false;
          values = reached_values (handler_doing app v.handler m.values) m.values;
        } in
        let state : after app (state_of m) (Stepped all.shown) ≡ state_of start =
        ap (λ o. after app (state_of m) (Stepped o)) shown
        ∙ ap (λ o. state_after_start app (record (state_of m) { pending = slice_set m.pending row.number false })
        row.number o) taking.serves in
        let strict = invariant_taken app img is_image.at.idle is_image.at accepted.limits.least_bits
        accepted.limits.most_bits (keepers_apart app accepted sound) (kept_is_held app accepted sound) row.number v
        taking.serves taking.has m x.invariant taking.above in
        record {
          handler = h;
          enabled = taking.handler;
          is = ap (λ (r : Core × Option What). r.0) stepped;
          shown = ap (λ (r : Core × Option What). r.1) stepped;
          behind = λ words long.
              let stands = taking.has.code words m.cells m.queues m.values long x.invariant.memory
              (kept_represented app img is_image.at.idle is_image.at accepted.limits.least_bits
              accepted.limits.most_bits (keepers_apart app accepted sound) (kept_is_held app accepted sound)
              row.number v taking.serves taking.has m x.invariant taking.above) in
              coupled_behind app img accepted is_image s n bases c x all.core all.shown all.is all.may
              (with_words app img is_image.at.idle words start)
              (invariant_words app img is_image.at.idle start words strict refl
              (long ∙ sym (length-replicate h.frame 0)) stands) state
              (time_stays app img accepted is_image s n bases c x fit (with_words app img is_image.at.idle words start)
              state)
              (with_frame words (core_after_entry c row.number h))
              (ap (λ (d : Core). with_frame words (core_after_entry d row.number h)) x.is)
              (c.processor.basepri ∷ bases)
              (ap (λ b. b ∷ bases) (ap (λ (d : Core). d.processor.basepri) x.is
              ∙ base_is app img accepted is_image m x.invariant)
              ∙ ap (λ bs. base_under app (jobs_of m.running m.below) ∷ bs) x.left);
        }

    -- what is known of the running job where no interrupt is taken
    quiet : pick img c ≡ None → candidate app (state_of x.coupling) ≡ None
    quiet picked =
        let sound = accepted_are_sound app accepted in
        none_is_taken app img accepted sound is_image
        (resource_numbers app is_image.at img is_image.tables sound) (idle_respects app accepted sound)
        (task_respects app accepted sound) (dispatcher_respects app accepted sound)
        (timer_respects app accepted sound) x.coupling x.invariant (ap (pick img) (sym x.is) ∙ picked)

    shown_is : (shown : Option What) → (step img c).1 ≡ shown
        → (both app img accepted is_image s n bases c x fit).shown ≡ shown
    shown_is shown is =
        ap (λ (r : Core × Option What). r.1) (sym (both app img accepted is_image s n bases c x fit).is)
        ∙ ap (λ (d : Core). (step img d).1) (sym x.is) ∙ is

    -- a body is called
    pub record Called (row from : ℕ) : Type 0 where
      pub body : BodyRow
      pub there : slice_get img.bodies row ≡ Some body
      pub first : Context
      pub others : List Context
      pub below : c.below ≡ first ∷ others
      pub caller : c.caller ≡ None
      pub few : body.args ≤ body.frame
      pub long : length (core_after_call c body from).processor.slots ≡ body.frame
      pub is : step img c ≡ (core_after_call c body from, None)
      pub behind : (words : List ℕ) → IsAlikeUpTo body.args (core_after_call c body from).processor.slots words
          → Coupled app img accepted is_image (after app s (Stepped (step img c).1)) (n + arming_in (step img c).1)
          bases (with_frame words (core_after_call c body from))

    pub coupled_call : (row from : ℕ) (told : Option Note) → pick img c ≡ None
        → slice_get img.code c.processor.address ≡ Some (instr.Call row from, told) → Called row from
    coupled_call row from told picked at = by c.below refl
      where
        line : AtLine app img accepted is_image x.coupling (instr.Call row from) told
        line = at_line app img accepted is_image x.coupling x.invariant (instr.Call row from) told
            (subst (λ (d : Core). slice_get img.code d.processor.address ≡ Some (instr.Call row from, told)) x.is at)
            (λ e. cc (e))

        here : (told ≡ None) × Calls (storage app) img.code x.coupling.running.rows is_image.at.idle
            (who x.coupling.running) row from
            (spend_step (configuration_of x.coupling.cells x.coupling.queues x.coupling.running))
            (Stands (storage app) img.code x.coupling.running.rows is_image.at.idle (who x.coupling.running)
            line.steps)
        here = calls_here (storage app) img.code x.coupling.running.rows is_image.at.idle (who x.coupling.running)
            (spend_step (configuration_of x.coupling.cells x.coupling.queues x.coupling.running))
            (Stands (storage app) img.code x.coupling.running.rows is_image.at.idle (who x.coupling.running)
            line.steps) row from told line.fits

        left : HaveLeft (x.coupling.running.lefts ++ x.coupling.running.left ∷ [])
        left = stands_left (storage app) img.code x.coupling.running.rows is_image.at.idle (who x.coupling.running)
            line.steps (configuration_of x.coupling.cells x.coupling.queues x.coupling.running) line.stands

        there : slice_get img.bodies row ≡ Some here.1.called
        there = (callable_by app img is_image.at.idle x.coupling x.invariant line.steps row from here.1).same

        caller : c.caller ≡ None
        caller = ap (λ (d : Core). d.caller) x.is ∙ here.1.may_call.0

        room : has_room img c here.1.called.frame ≡ true
        room = ap (λ (d : Core). has_room img d here.1.called.frame) x.is
            ∙ room_for_body app img is_image.at.idle accepted.limits.most_bits is_image.tables.fpu
            is_image.tables.stack x.coupling x.invariant line.works line.steps (quiet picked) left row from here.1

        deep : is_empty c.below ≡ false
        deep = ap (λ (d : Core). is_empty d.below) x.is
            ∙ not_alone app img is_image.at.idle accepted.limits.most_bits is_image.tables.fpu is_image.tables.stack
            x.coupling x.invariant line.works line.steps (quiet picked) left row from here.1

        filled : (xs : List ℕ) → 0 < length xs → is_empty xs ≡ false
        filled [] some = absurd (omega (arith, some))
        filled (y ∷ xs) some = refl

        may : may_call c ≡ true
        may = and_both (is_none c.caller) (not (is_empty c.below) && not (is_empty c.processor.slots))
            (ap is_none caller)
            (and_both (not (is_empty c.below)) (not (is_empty c.processor.slots)) (ap not deep)
            (ap not (filled c.processor.slots
            (subst (λ (d : Core). 0 < length d.processor.slots) (sym x.is) here.1.may_call.1))))

        fits : arguments_fit c.processor.slots here.1.called from ≡ true
        fits = ap (λ (d : Core). arguments_fit d.processor.slots here.1.called from) x.is ∙ here.1.fits

        stepped : step img c ≡ (core_after_call c here.1.called from, None)
        stepped =
            steps_by_cause.line img c (instr.Call row from, told) (runs app img accepted is_image s n bases c x fit)
            picked at
            ∙ ap (λ t. settle (go_on img c t (effect (instr.Call row from) c.time c.processor))) here.0
            ∙ ap (λ b. settle (if b then call_row img c (slice_get img.bodies row) from else Trapped c trap.Stack)) may
            ∙ ap (λ o. settle (call_row img c o from)) there
            ∙ ap (λ b. settle (if b then Done (core_after_call c here.1.called from) None else Trapped c trap.Stack))
            (and_both (arguments_fit c.processor.slots here.1.called from) (has_room img c here.1.called.frame) fits
            room)

        by : (bs : List Context) → c.below ≡ bs → Called row from
        by [] is = absurd (false≢true (sym deep ∙ ap is_empty is))
        by (first ∷ others) is =
            let all = both app img accepted is_image s n bases c x fit in
            let shown : all.shown ≡ None = shown_is None (ap (λ (r : Core × Option What). r.1) stepped) in
            record {
              body = here.1.called;
              there = there;
              first = first;
              others = others;
              below = is;
              caller = caller;
              few = leb-true here.1.called.args here.1.called.frame
                  (and_right ((here.1.called.args == 0)
                  || nat_le (from + here.1.called.args) (length c.processor.slots))
                  (nat_le here.1.called.args here.1.called.frame) fits);
              long = ap (λ (d : Core). length (core_after_call d here.1.called from).processor.slots) x.is
                  ∙ long_body app img is_image.at.idle accepted.limits.most_bits is_image.tables.fpu
                  is_image.tables.stack x.coupling x.invariant line.works line.steps (quiet picked) left row from
                  here.1;
              is = stepped;
              behind = λ words alike.
                  let same : IsAlikeUpTo here.1.called.args
                  (body_frame (caller_frame x.coupling.running.slots (suc x.coupling.running.address))
                  here.1.called from) words =
                  subst (λ (d : Core). IsAlikeUpTo here.1.called.args
                  (core_after_call d here.1.called from).processor.slots words) x.is alike in
                  coupled_behind app img accepted is_image s n bases c x all.core all.shown all.is all.may
                  (record x.coupling {
                    running = in_body app img is_image.at.idle x.coupling.running here.1.called
                        words line.steps;
                  })
                  (invariant_called app img is_image.at.idle accepted.limits.most_bits is_image.tables.fpu
                  is_image.tables.stack x.coupling x.invariant line.works line.steps (quiet picked) left row from
                  here.1 words same)
                  (ap (λ o. after app (state_of x.coupling) (Stepped o)) shown)
                  refl
                  (with_frame words (core_after_call c here.1.called from))
                  (ap (λ (d : Core). with_frame words (core_after_call d here.1.called from)) x.is)
                  bases x.left;
            }

    -- what runs a body interrupted something
    has_interrupted : (p : Part) (ps : List Part) (frame : List ℕ) → p.caller ≡ Some frame
        → IsStacked app img is_image.at.idle p ps
        → (first : Context) × (others : List Context) × (contexts_of app.bits p ps ≡ first ∷ others)
    has_interrupted p [] frame caller stack =
        absurd (let none : Some frame ≡ None = sym caller ∙ stack.own_frame in cc (none))
    has_interrupted p (q ∷ ps) frame caller stack = (
      record {
        irq = handled_irq p.role;
        value = hardware app.bits p.priority;
        address = q.address;
        slots = q.slots;
        caller = q.caller;
      },
      contexts app.bits (handled_irq q.role) (hardware app.bits q.priority) ps,
      refl,
    )

    -- a body comes back
    pub record CameBackTo : Type 0 where
      pub frame : List ℕ
      pub caller : c.caller ≡ Some frame
      pub first : Context
      pub others : List Context
      pub below : c.below ≡ first ∷ others
      pub is : (step img c).0 ≡ in_frame c frame
      pub behind : (words : List ℕ) → IsAlikeUpTo (last_slot frame) frame words
          → Coupled app img accepted is_image (after app s (Stepped (step img c).1)) (n + arming_in (step img c).1)
          bases (with_frame words (in_frame c frame))

    pub coupled_back : (told : Option Note) → pick img c ≡ None
        → slice_get img.code c.processor.address ≡ Some (instr.Back, told) → CameBackTo
    coupled_back told picked at =
        let line : AtLine app img accepted is_image x.coupling instr.Back told =
        at_line app img accepted is_image x.coupling x.invariant instr.Back told
        (subst (λ (d : Core). slice_get img.code d.processor.address ≡ Some (instr.Back, told)) x.is at)
        (λ e. cc (e)) in
        let here = back_here (storage app) img.code x.coupling.running.rows is_image.at.idle
        (who x.coupling.running)
        (spend_step (configuration_of x.coupling.cells x.coupling.queues x.coupling.running))
        (Stands (storage app) img.code x.coupling.running.rows is_image.at.idle (who x.coupling.running) line.steps)
        told line.fits in
        let t : ℕ = here.0 in
        let back = here.2 in
        let left : HaveLeft (x.coupling.running.lefts ++ x.coupling.running.left ∷ []) =
        stands_left (storage app) img.code x.coupling.running.rows is_image.at.idle (who x.coupling.running)
        line.steps (configuration_of x.coupling.cells x.coupling.queues x.coupling.running) line.stands in
        let caller : c.caller ≡ Some back.frame = ap (λ (d : Core). d.caller) x.is ∙ back.caller in
        let stepped : step img c ≡ (in_frame c back.frame, Some (what.End (body.Task t))) =
        steps_by_cause.line img c (instr.Back, told) (runs app img accepted is_image s n bases c x fit) picked at
        ∙ ap (λ n. settle (go_on img c n (effect instr.Back c.time c.processor))) here.1
        ∙ ap (λ o. settle (with_note img (Some (note.End (body.Task t))) (back_to c o))) caller in
        let all = both app img accepted is_image s n bases c x fit in
        let shown : all.shown ≡ Some (what.End (body.Task t)) =
        shown_is (Some (what.End (body.Task t))) (ap (λ (r : Core × Option What). r.1) stepped) in
        let deep = has_interrupted x.coupling.running x.coupling.below back.frame back.caller x.invariant.stack in
        let interrupted : c.below ≡ contexts_of app.bits x.coupling.running x.coupling.below =
        ap (λ (d : Core). d.below) x.is in
        record {
          frame = back.frame;
          caller = caller;
          first = deep.0;
          others = deep.1;
          below = interrupted ∙ deep.2;
          is = ap (λ (r : Core × Option What). r.0) stepped;
          behind = λ words alike.
              let agrees = agrees_back app img is_image.at.idle accepted.limits.most_bits is_image.tables.fpu
              is_image.tables.stack x.coupling x.invariant line.works line.steps (quiet picked) left t back words
              alike in
              let state : after app (state_of x.coupling) (Stepped all.shown) ≡ state_of agrees.coupling =
              ap (λ o. after app (state_of x.coupling) (Stepped o)) shown ∙ agrees.state in
              let core : with_frame words (in_frame c back.frame) ≡ core_of app.bits agrees.coupling =
              ap (λ (d : Core). with_frame words (in_frame d back.frame)) x.is ∙ agrees.core in
              let timed = time_stays app img accepted is_image s n bases c x fit agrees.coupling state in
              let deep : length agrees.coupling.below ≡ length x.coupling.below =
              sym (ap (λ (d : Core). length d.below) core ∙ contexts_long app.bits agrees.coupling.below _ _)
              ∙ ap (λ (d : Core). length d.below) x.is ∙ contexts_long app.bits x.coupling.below _ _ in
              coupled_behind app img accepted is_image s n bases c x all.core all.shown all.is all.may
              agrees.coupling agrees.invariant state timed (with_frame words (in_frame c back.frame)) core bases
              (left_stays app img accepted is_image s n bases c x all.core all.shown all.is all.may agrees.coupling
              agrees.invariant state timed deep);
        }
