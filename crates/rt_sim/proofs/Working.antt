-- Where no interrupt is taken, a core step is a step of Baker's machine: case by case of what code that stands leads
-- to.
use Rattle.std.proofs.Common.{◌≡◌, ℕ, zero, suc, ◌^◌, ◌<◌, ◌≤◌, ◌||◌, true, false, List, [], ◌∷◌, ◌++◌}
use Rattle.std.proofs.Common.{length}
use Rattle.std.proofs.Common.{slice_get, Option, Some, None, refl, sym, ap, subst, ◌∙◌, arith}
use Rattle.rt_lemmas.proofs.Membership.{all_weaker}
use Rattle.rt_actions.specs.Content.{Values, delays}
use Rattle.rt_actions.specs.Location.{Location, Guarded}
use Rattle.rt_ids.specs.Lists.{is_some_and}
use Rattle.rt_actions.specs.Storage.{Starting, AtPriority}
use Rattle.rt_actions.specs.Action.{Clocks, Returns, Ends}
use Rattle.rt_ids.specs.declared.ids.BodyId.TheVariants as body
use Rattle.rt_ids.specs.declared.ids.Section.TheVariants as section
use Rattle.rt_app.specs.Tree.{App}
use Rattle.rt_app.specs.Doings.{idle_doing}
use Rattle.rt_app.specs.Stack.{stack_bytes}
use Rattle.rt_app.specs.Holding.{storage, is_kept, is_constant, IsHeld}
use Rattle.rt_app.specs.Level.{is_software}
use Rattle.rt_build.specs.Image.{IdleStands}
use Rattle.rt_code.specs.Acting.{Noted}
use Rattle.rt_code.specs.Cells.{resource_cell}
use Rattle.rt_code.specs.Image.{Image}
use Rattle.rt_code.specs.Effect.{effect}
use Rattle.rt_code.specs.Owning.{MayAccess}
use Rattle.rt_code.specs.Processor.{Processor, Effect, Traps, Leads}
use Rattle.rt_code.specs.Standing.{Stands, HaveLeft, Finishes, configuration_after, spend_step}
use Rattle.rt_code.specs.declared.image.BodyRow.{BodyRow}
use Rattle.rt_code.specs.declared.instr.Instr.{Instr}
use Rattle.rt_code.specs.declared.instr.Instr.TheVariants as instr
use Rattle.rt_code.specs.declared.instr.Note.{Note}
use Rattle.rt_code.specs.declared.instr.Note.TheVariants as note
use Rattle.rt_code.specs.declared.processor.Request.{Request}
use Rattle.rt_code.specs.declared.processor.Request.TheVariants as request
use Rattle.rt_code.proofs.Asking.{done_leads}
use Rattle.rt_code.proofs.StandingLaws.{standing_laws}
use Rattle.rt_core.specs.Access.{access}
use Rattle.rt_core.specs.Core.{Context}
use Rattle.rt_gen_body.proofs.Stored.{stored}
use Rattle.rt_core.specs.Masks.{processor_after_closing}
use Rattle.rt_core.specs.Leading.{GoesPlainly, with_processor, at_address, core_serving, in_context, item_of}
use Rattle.rt_core.specs.Priority.{pick}
use Rattle.rt_core.specs.Standing.{StepsBy, BySilence, ByNote, ByEmit, ByPost, ByClock, ByAlarm, ByNoAlarm, ByEnter}
use Rattle.rt_core.specs.Standing.{ByLeave, ByCall, ByBack, ByEndOfInit, ByEndOfIdle, ByReturn}
use Rattle.rt_core.specs.Stepping.{step}
use Rattle.rt_core.proofs.Standing.{standing_leads}
use Rattle.rt_trace.specs.declared.item.What.TheVariants as what
use Rattle.rt_laws.specs.Preemption.{candidate}
use Rattle.rt_laws.proofs.Fine.{IsTimedOne, Queued}
use Rattle.rt_sim.specs.Inside.Coupling.{Part, Coupling, runner_of, configuration_of, whereabouts_of}
use Rattle.rt_sim.specs.Inside.States.{core_of, state_of}
use Rattle.rt_sim.specs.Inside.Ownership.{IsEntered, AlwaysRespects}
use Rattle.rt_sim.specs.Inside.PartInvariant.{who}
use Rattle.rt_sim.specs.Inside.CouplingInvariant.{CouplingInvariant}
use Rattle.rt_sim.specs.Inside.Agrees.{StepsBoth}
use Rattle.rt_sim.proofs.Alike.{with_rows, left_alike, CallsAlike, LeadsAlike, step_alike}
use Rattle.rt_sim.proofs.Plain.{IsWorking, stands_of, is_at}
use Rattle.rt_sim.proofs.Acts.{respects_next, silent, emits, clocks, finds_none, posts}
use Rattle.rt_sim.proofs.Alarms.{sets_none, sets_some}
use Rattle.rt_sim.proofs.Moves.{places_message, readies_message, starts_message, frees_place, arms_message}
use Rattle.rt_sim.proofs.Moves.{fires_message}
use Rattle.rt_sim.proofs.Moves.{cancels_message, moves_message}
use Rattle.rt_sim.proofs.Calls.{no_handler, callable_by, calls_body, comes_back}
use Rattle.rt_sim.proofs.Enters.{enters}
use Rattle.rt_sim.proofs.Fitting.{FitIn, clock_fits}
use Rattle.rt_sim.proofs.Leaves.{leaves_at}
use Rattle.rt_sim.proofs.Returns.{returns_to}
use Rattle.rt_sim.proofs.EndsOfThread.{ends_init, ends_idle}

-- armed messages are of software tasks
software_armed : (app : App) (vs : Values) → Queued app vs → IsEntered app Clocks vs
software_armed app vs queued =
    all_weaker (IsTimedOne app) (λ a. is_some_and is_software (slice_get app.tasks a.message.task) ≡ true)
    (λ a timed. timed.1) (delays (vs (Guarded section.Timer))) queued.timer

-- a call is one at any time
call_timeless : (i : Instr) (time row from : ℕ) (p q : Processor) → effect i time p ≡ Leads q (request.Call row from)
    → effect i 0 p ≡ Leads q (request.Call row from)
call_timeless (instr.Clock d) time row from p q leads =
    absurd (let done = done_leads (instr.Clock d) time p q (request.Call row from) leads in cc)
call_timeless i time row from p q leads = leads

module _ (app : App) (img : Image) (thread : ℕ) (many : app.bits ≤ 7) (fpu : img.fpu ≡ app.fpu)
    (sized : img.stack_bytes ≡ stack_bytes app)
    (named : (r : ℕ) → r < length app.shared → resource_cell img r ≡ Some r)
    (idle : (bodies : List BodyRow) → IdleStands app img.code bodies thread app.idle)
    (held_there : (p : ℕ) (h : Location) → (is_kept app (AtPriority p) h || is_constant app (AtPriority p) h) ≡ true
    → IsHeld app h)
    (respects : AlwaysRespects app (AtPriority 0) false [] (idle_doing app)) where
  no_steps : (m : Coupling) → Stands (storage app) img.code m.running.rows thread (who m.running) zero
      (configuration_of m.cells m.queues m.running) → ⊥
  unfolding Stands
  no_steps m s = s

  module _ (m : Coupling) (invariant : CouplingInvariant app img thread m) (works : IsWorking m.running.role)
      (queued : Queued app m.values) (few : FitIn app m)
      (none : candidate app (state_of m) ≡ None) (n : ℕ)
      (left : HaveLeft (m.running.lefts ++ m.running.left ∷ []))
      (may : MayAccess (storage app) (who m.running) (configuration_of m.cells m.queues m.running)
      (access img (core_of app.bits m))) where
    abbrev Both : Type 0
    Both = StepsBoth app img thread (core_of app.bits m) (state_of m) (whereabouts_of m)

    by_note : (p : Processor) → GoesPlainly (configuration_of m.cells m.queues m.running) (core_of app.bits m).processor
        p
        → (told : Note)
        → (noted : Noted (storage app) m.running.rows (who m.running) told
        (configuration_after (spend_step (configuration_of m.cells m.queues m.running)) p)
        (λ t. Stands (storage app) img.code m.running.rows thread (who m.running) n t))
        → step img (core_of app.bits m) ≡ (
          with_processor (core_of app.bits m) p,
          Some (item_of (storage app) m.running.rows (who m.running)
              (λ t. Stands (storage app) img.code m.running.rows thread (who m.running) n t) told
              (configuration_after (spend_step (configuration_of m.cells m.queues m.running)) p) noted),
        ) → Both
    by_note p plain (note.Placed t) noted gives =
        places_message app img thread m invariant works n none left may p plain t gives noted
    by_note p plain (note.Full t) noted gives =
        finds_none app img thread m invariant works n none left may p plain t gives noted.acts
    by_note p plain (note.Ready t) noted gives =
        readies_message app img thread m invariant works n none left may p plain t gives noted
    by_note p plain (note.Start t from) noted gives =
        starts_message app img thread m invariant works n none left may p plain t from noted gives
    by_note p plain (note.Free t) noted gives =
        frees_place app img thread m invariant works n none left may p plain t gives noted
    by_note p plain (note.Arm t slot) noted gives =
        arms_message app img thread m invariant works n none left may p plain t slot noted gives
    by_note p plain (note.Fire t) noted gives =
        fires_message app img thread m invariant works n none left may p plain t noted gives
    by_note p plain (note.Cancel t slot) noted gives =
        cancels_message app img thread m invariant works n none left may p plain t slot noted gives
    by_note p plain (note.Move t slot from) noted gives =
        moves_message app img thread m invariant works n none left may p plain t slot from noted gives
    by_note p plain (note.Enter x) noted gives = absurd noted
    by_note p plain (note.Leave x) noted gives = absurd noted
    by_note p plain (note.End b) noted gives = absurd noted

    -- the ends of the thread's bodies: it is alone then
    of_init : who m.running ≡ Starting → Finishes (storage app) img.code m.running.rows thread (who m.running)
        (Ends body.Init) (spend_step (configuration_of m.cells m.queues m.running))
        → (ps : List Part) → CouplingInvariant app img thread (record m { below = ps })
        → candidate app (state_of (record m { below = ps })) ≡ None
        → step img (core_of app.bits (record m { below = ps })) ≡
        (core_serving (core_of app.bits (record m { below = ps })) thread, Some (what.End body.Init))
        → StepsBoth app img thread (core_of app.bits (record m { below = ps })) (state_of (record m { below = ps }))
        (whereabouts_of (record m { below = ps }))
    of_init starts ends [] coupled quiet gives =
        ends_init app img thread idle held_there respects m coupled works quiet left ends gives
    of_init starts ends (q ∷ ps) coupled quiet gives =
        absurd (let one : AtPriority m.running.priority ≡ Starting =
        sym (ap (λ r. runner_of r m.running.priority) coupled.stack.0.serves) ∙ starts in cc (one))

    of_idle : who m.running ≡ AtPriority 0 → Finishes (storage app) img.code m.running.rows thread (who m.running)
        (Ends body.Idle) (spend_step (configuration_of m.cells m.queues m.running))
        → (ps : List Part) → CouplingInvariant app img thread (record m { below = ps })
        → candidate app (state_of (record m { below = ps })) ≡ None
        → step img (core_of app.bits (record m { below = ps })) ≡
        (at_address (core_of app.bits (record m { below = ps })) thread, Some (what.End body.Idle))
        → StepsBoth app img thread (core_of app.bits (record m { below = ps })) (state_of (record m { below = ps }))
        (whereabouts_of (record m { below = ps }))
    of_idle low ends [] coupled quiet gives =
        ends_idle app img thread idle held_there respects m coupled works quiet left low ends gives
    of_idle low ends (q ∷ ps) coupled quiet gives = absurd (
        let one : AtPriority m.running.priority ≡ AtPriority 0 =
        sym (ap (λ r. runner_of r m.running.priority) coupled.stack.0.serves) ∙ low in
        let zero_is : m.running.priority ≡ 0 = cc (one) in
        omega (arith, zero_is, coupled.stack.0.above))

    of_return : Finishes (storage app) img.code m.running.rows thread (who m.running) Returns
        (spend_step (configuration_of m.cells m.queues m.running))
        → (ps : List Part) → CouplingInvariant app img thread (record m { below = ps })
        → candidate app (state_of (record m { below = ps })) ≡ None
        → ((x : Context) (others : List Context) → (core_of app.bits (record m { below = ps })).below ≡ x ∷ others
        → step img (core_of app.bits (record m { below = ps })) ≡
        (in_context (core_of app.bits (record m { below = ps })) x others, Some (what.Ret x.irq)))
        → StepsBoth app img thread (core_of app.bits (record m { below = ps })) (state_of (record m { below = ps }))
        (whereabouts_of (record m { below = ps }))
    of_return ends [] coupled quiet gives =
        absurd (no_handler app img thread m.running coupled.stack (respects_next app img thread
        (record m { below = [] }) coupled works Returns ends.values ends.follows ends.is).0)
    of_return ends (q ∷ ps) coupled quiet gives =
        returns_to app img thread m q ps coupled works quiet left ends (gives _ _ refl)

    -- a step beside the rows that the job calls by is one of the image
    by : step (with_rows img m.running.rows) (core_of app.bits m) ≡ step img (core_of app.bits m)
        → StepsBy (with_rows img m.running.rows) (storage app) thread (who m.running) (core_of app.bits m)
        (configuration_of m.cells m.queues m.running)
        (λ t. Stands (storage app) img.code m.running.rows thread (who m.running) n t) → Both
    by same (BySilence p plain gives stands) =
        silent app img thread m invariant works n none left may p plain (sym same ∙ gives) stands
    by same (ByNote p plain told noted gives) = by_note p plain told noted (sym same ∙ gives)
    by same (ByEmit p plain value gives acts) =
        emits app img thread m invariant works n none left may p plain value (sym same ∙ gives) acts
    by same (ByPost p plain irq gives acts) =
        posts app img thread m invariant works n none left may p plain irq (sym same ∙ gives) acts
    by same (ByClock p plain gives acts) =
        clocks app img thread m invariant works n none left may p plain (software_armed app m.values queued)
        (sym same ∙ gives) acts
    by same (ByAlarm p plain instant irq timer gives sets) =
        sets_some app img thread m invariant works n none left may p plain instant irq timer (sym same ∙ gives) sets
    by same (ByNoAlarm p plain gives sets) =
        sets_none app img thread m invariant works n none left may p plain (sym same ∙ gives) sets
    by same (ByEnter x i goes gives) =
        enters app img thread m invariant works few n none left x i goes (sym same ∙ gives)
    by same (ByLeave x i comes gives) =
        subst (λ held. CouplingInvariant app img thread (record m { running = record m.running { held = held } })
        → candidate app (state_of (record m { running = record m.running { held = held } })) ≡ None
        → StepsBoth app img thread (core_of app.bits m)
        (state_of (record m { running = record m.running { held = held } }))
        (whereabouts_of (record m { running = record m.running { held = held } }))) (sym comes.innermost)
        (λ coupled quiet. leaves_at app img thread named m x comes.kind comes.outer coupled works n quiet left
        comes.values
        comes.follows comes.is comes.represented comes.on
        (λ can. sym same ∙ gives can ∙ ap (λ v. (
          with_processor (core_of app.bits m) (processor_after_closing (core_of app.bits m).processor comes.kind),
          Some (what.Leave x v),
        )) (left_alike img m.running.rows invariant.parts.0.calls.arguments (core_of app.bits m) x))) invariant none
    by same (ByCall row from calls gives) =
        calls_body app img thread many fpu sized m invariant works n none left row from calls
        (λ deep room. sym same ∙ gives deep room)
    by same (ByBack t back gives) =
        comes_back app img thread many fpu sized m invariant works n none left t back (sym same ∙ gives)
    by same (ByEndOfInit starts ends gives) = of_init starts ends m.below invariant none (sym same ∙ gives)
    by same (ByEndOfIdle low ends gives) = of_idle low ends m.below invariant none (sym same ∙ gives)
    by same (ByReturn ends gives) = of_return ends m.below invariant none (λ x others is. sym same ∙ gives x others is)

  -- what an instruction of the running job calls by is a row of the image
  leads_alike : (m : Coupling) (invariant : CouplingInvariant app img thread m) (n : ℕ)
      → Stands (storage app) img.code m.running.rows thread (who m.running) (suc n)
      (configuration_of m.cells m.queues m.running)
      → (i : Instr) (told : Option Note) → slice_get img.code m.running.address ≡ Some (i, told)
      → LeadsAlike img m.running.rows invariant.parts.0.calls.arguments (effect i m.time (core_of app.bits m).processor)
  leads_alike m invariant n stands i told is = by (effect i m.time (core_of app.bits m).processor) refl
    where
      asked_by : (p : Processor) (asked : Request) → effect i m.time (core_of app.bits m).processor ≡ Leads p asked
          → CallsAlike img m.running.rows invariant.parts.0.calls.arguments asked
      asked_by p (request.Call row from) leads =
          let frames = (standing_laws (storage app) (stored app)).frames img.code m.running.rows thread
          (who m.running) n (configuration_of m.cells m.queues m.running) stands in
          let few : 0 < 2 ^ 31 = omega arith in
          let calls = frames.call i told is 0 m.basepri row from m.primask p
          (few, call_timeless i m.time row from (core_of app.bits m).processor p leads) in
          calls.is_there ∙ sym (callable_by app img thread m invariant n row from calls).same
      asked_by p _ leads = tt

      by : (e : Effect) → effect i m.time (core_of app.bits m).processor ≡ e
          → LeadsAlike img m.running.rows invariant.parts.0.calls.arguments e
      by (Traps t) leads = tt
      by (Leads p asked) leads = asked_by p asked leads

  -- a job that runs code
  pub working : (m : Coupling) → CouplingInvariant app img thread m → IsWorking m.running.role → Queued app m.values
      → FitIn app m → pick img (core_of app.bits m) ≡ None → candidate app (state_of m) ≡ None
      → StepsBoth app img thread (core_of app.bits m) (state_of m) (whereabouts_of m)
  working m invariant works queued few picked none =
      go m.running.steps (stands_of app img thread m.running.role works m.cells m.queues m.running
      invariant.parts.0.stands)
    where
      go : (n : ℕ) → Stands (storage app) img.code m.running.rows thread (who m.running) n
          (configuration_of m.cells m.queues m.running) → StepsBoth app img thread (core_of app.bits m) (state_of m)
          (whereabouts_of m)
      go zero stands = absurd (no_steps m stands)
      go (suc n) stands =
          let leads = standing_leads (storage app) (with_rows img m.running.rows) thread (who m.running)
          (core_of app.bits m) (configuration_of m.cells m.queues m.running) n refl picked
          (clock_fits app img thread m invariant works few) (is_at app img thread m invariant works) stands in
          by m invariant works queued few none n leads.left leads.touches
          (step_alike img m.running.rows invariant.parts.0.calls.arguments (core_of app.bits m) refl picked
          (leads_alike m invariant n stands)) leads.by
