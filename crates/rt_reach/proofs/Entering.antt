-- An exception entry on the core adds what it pushes and the handler's frame to the stack words in use; below the first
-- lies the thread's frame alone.
use Rattle.std.proofs.Common.{◌≡◌, ℕ, ◌+◌, Bool, true, false, if◌then◌else◌, List, [], ◌∷◌, length}
use Rattle.std.proofs.Common.{Option, Some, None, option_map, refl, ap, sym, subst, ◌∙◌, arith}
use Rattle.std.proofs.lemmas.List.{length-replicate}
use Rattle.std.proofs.lemmas.List.Sums.{sum_by-cons}
use Rattle.std.proofs.lemmas.Option.{same_Some, none-some}
use Rattle.rt_app.specs.Tree.{App}
use Rattle.rt_app.specs.Accepted.{IsAccepted}
use Rattle.rt_app.specs.Acceptance.{IsSound}
use Rattle.rt_app.proofs.Sound.{accepted_are_sound}
use Rattle.rt_app.specs.Handlers.{Service}
use Rattle.rt_app.specs.Stack.{thread_words}
use Rattle.rt_build.specs.Entries.{Entries, handler_words, handler_row}
use Rattle.rt_build.specs.Image.{IsImageOf}
use Rattle.rt_code.specs.Image.{Image, entry_words}
use Rattle.rt_code.specs.Stack as stack
use Rattle.rt_code.specs.declared.image.Handler as row
use Rattle.rt_code.specs.declared.image.IrqRow.{IrqRow}
use Rattle.rt_code.specs.declared.processor.Trap.TheVariants as trap
use Rattle.rt_core.specs.Core.{Core, Context, context_words, stack_in_use, depth}
use Rattle.rt_core.specs.Outcome.{Trapped, Done, settle}
use Rattle.rt_core.specs.Priority.{pick}
use Rattle.rt_core.specs.Stepping.{step}
use Rattle.rt_core.specs.Transfer.{has_room, exception_entry, core_after_entry}
use Rattle.rt_core.proofs.Happening.{steps_by_cause}
use Rattle.rt_trace.specs.declared.item.What.{What}
use Rattle.rt_trace.specs.declared.item.What.TheVariants as what
use Rattle.rt_laws.specs.Services.{service_at}
use Rattle.rt_laws.specs.State.{Job, State}
use Rattle.rt_laws.specs.Preemption.{candidate}
use Rattle.rt_sim.specs.Inside.Coupling.{Part, Coupling, jobs_of}
use Rattle.rt_sim.specs.Inside.States.{core_of, state_of, words_under}
use Rattle.rt_sim.specs.Inside.CouplingInvariant.{IsStacked}
use Rattle.rt_sim.specs.Whereabouts.{Whereabouts}
use Rattle.rt_sim.specs.Inside.Agrees.{Agrees}
use Rattle.rt_sim.proofs.Choosing.{IfServed, picks}
use Rattle.rt_sim.proofs.Depth.{used_is}
use Rattle.rt_sim.proofs.ExecutionPriority.{execution_is}
use Rattle.rt_reach.specs.Take.{IsTake}

-- what an exception entry adds
entered_words : (img : Image) (c : Core) (irq : ℕ) (h : row.Handler)
    → stack_in_use img (core_after_entry c irq h) ≡ stack_in_use img c + (entry_words img + h.frame)
entered_words img c irq h =
    let x : Context = record {
      irq = irq;
      value = h.value;
      address = c.processor.address;
      slots = c.processor.slots;
      caller = c.caller;
    } in
    omega (arith, sum_by-cons (context_words (entry_words img)) x c.below, length-replicate {A = ℕ} h.frame 0)

module _ (app : App) (img : Image) (accepted : IsAccepted app) (is_image : IsImageOf app img) where
  abbrev at : Entries
  at = is_image.at

  abbrev sound : IsSound app
  sound = accepted_are_sound app accepted

  -- where the two machines agree, and an interrupt is to be taken, and taken
  pub takes_words : (Are : Whereabouts → Type 0) (c : Core) (s : State) → Agrees app img at.idle c s Are
      → (irq : ℕ) (v : Service)
      → service_at app irq ≡ Some v → candidate app s ≡ Some irq → IsTake (step img c).1
      → stack_in_use img (step img c).0 ≡ stack_in_use img c + (entry_words img + handler_words app v.handler)
  takes_words Are c s agrees irq v serves next takes =
      subst (λ d. stack_in_use img (step img d).0 ≡ stack_in_use img d
      + (entry_words img + handler_words app v.handler))
      (sym agrees.core)
      (by (pick img c_m) refl both.0 both.1 (subst (λ d. IsTake (step img d).1) agrees.core takes))
    where
      m : Coupling
      m = agrees.coupling

      c_m : Core
      c_m = core_of app.bits m

      both : (option_map (λ r. r.number) (pick img c_m) ≡ candidate app (state_of m))
          × IfServed app at accepted.limits.least_bits accepted.limits.most_bits sound c_m (state_of m) refl
          (execution_is app img at.idle accepted.limits.least_bits accepted.limits.most_bits m agrees.invariant)
          (pick img c_m)
      both = picks app at accepted.limits.least_bits accepted.limits.most_bits sound c_m
          (state_of m) refl
          (execution_is app img at.idle accepted.limits.least_bits accepted.limits.most_bits m agrees.invariant) img
          is_image.tables.irqs

      next_is : candidate app (state_of m) ≡ Some irq
      next_is = ap (candidate app) (sym agrees.state) ∙ next

      in_room : (h : row.Handler) (room : Bool)
          → step img c_m ≡ settle (if room then Done (core_after_entry c_m irq h)
          (Some (what.Take irq (depth img (core_after_entry c_m irq h)))) else Trapped c_m trap.Stack)
          → IsTake (step img c_m).1 → stack_in_use img (step img c_m).0 ≡ stack_in_use img c_m
          + (entry_words img + h.frame)
      in_room h true is taken = ap (λ r. stack_in_use img r.0) is ∙ entered_words img c_m irq h
      in_room h false is taken = absurd (subst (λ (r : Core × Option What). IsTake r.1) is taken)

      by : (o : Option IrqRow) → pick img c_m ≡ o → option_map (λ r. r.number) o ≡ candidate app (state_of m)
          → IfServed app at accepted.limits.least_bits accepted.limits.most_bits sound c_m
          (state_of m) refl
          (execution_is app img at.idle accepted.limits.least_bits accepted.limits.most_bits m agrees.invariant) o
          → IsTake (step img c_m).1
          → stack_in_use img (step img c_m).0 ≡ stack_in_use img c_m + (entry_words img + handler_words app v.handler)
      by None picked same served taken = absurd (none-some irq (same ∙ next_is))
      by (Some r) picked same served taken =
          let number_is : r.number ≡ irq = same_Some r.number irq (same ∙ next_is) in
          let handler_is : r.handler ≡ Some (handler_row app at v) =
          served ∙ ap (λ n. option_map (handler_row app at) (service_at app n)) number_is
          ∙ ap (option_map (handler_row app at)) serves in
          in_room (handler_row app at v)
          (has_room img c_m (entry_words img + handler_words app v.handler))
          (steps_by_cause.entry img c_m r refl picked ∙ ap (λ n. settle (exception_entry img c_m n r.handler)) number_is
          ∙ ap (λ o. settle (exception_entry img c_m irq o)) handler_is) taken

  -- where one job has started, the thread's frame is all
  pub alone_words : (Are : Whereabouts → Type 0) (c : Core) (s : State) → Agrees app img at.idle c s Are
      → (job : Job) → s.jobs ≡ job ∷ []
      → stack_in_use img c ≡ thread_words app
  alone_words Are c s agrees job alone =
      ap (stack_in_use img) agrees.core ∙ used_is app img at.idle agrees.coupling agrees.invariant
      ∙ by agrees.coupling.below (sym (ap (λ (t : State). t.jobs) agrees.state) ∙ alone) agrees.invariant.stack
    where
      p : Part
      p = agrees.coupling.running

      by : (ps : List Part) → jobs_of p ps ≡ job ∷ [] → IsStacked app img at.idle p ps
          → length (stack.words_of p.caller) + length p.slots + words_under (entry_words img) ps ≡ thread_words app
      by [] is stacked =
          let none : length (stack.words_of p.caller) ≡ 0 = ap (λ o. length (stack.words_of o)) stacked.own_frame in
          omega (arith, stacked.frame, none)
      by (q ∷ ps) is stacked = absurd (let long = ap length is in omega (arith, long))
