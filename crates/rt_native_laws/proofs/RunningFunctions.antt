-- A machine instruction of a function of C leads on, where it is harmless.
use Rattle.std.proofs.Common.{◌≡◌, ◌≢◌, ◌∙◌, ℕ, suc, ◌+◌, ◌*◌, ◌/◌, ◌≤◌, Bool, true, List, [], ◌∷◌, ◌++◌}
use Rattle.std.proofs.Common.{Option, Some, None, refl, sym, ap, subst, arith, length, flat_map}
use Rattle.std.specs.Prelude.{if◌then◌else◌, ◌==◌, reverse}
use Rattle.std.proofs.lemmas.List.{length-append, length-map}
use Rattle.std.specs.List.{AllByRecursion}
use Rattle.rt_ids.specs.Choice.{IsIn}
use Rattle.rt_ids.specs.Event.{Step}
use Rattle.rt_lemmas.proofs.Lists.{all_append}
use Rattle.rt_code.specs.Image.{Image}
use Rattle.rt_core.specs.Core.{Context, Core}
use Rattle.rt_native.specs.Layout.{outside, places, stack_top}
use Rattle.rt_native.specs.Service.{is_called, timer_irq}
use Rattle.rt_native.specs.Target.{Target}
use Rattle.rt_native.specs.declared.outside.Outside.{Outside}
use Rattle.rt_thumb.specs.Exceptions.{external, systick}
use Rattle.rt_thumb.specs.Machine.{Machine, Seen, word_at}
use Rattle.rt_thumb.specs.Step.{Program}
use Rattle.rt_thumb.specs.declared.instruction.Instruction.{Instruction}
use Rattle.rt_native_laws.specs.Behaving.{StaysGood}
use Rattle.rt_native_laws.specs.Functions.{HasComeBack, IsHarmless, IsOurs, OfCells, OfFlash, OfStack, OfSystem}
use Rattle.rt_native_laws.specs.Functions.{OfTime, cells_with, core_with_cells, words_put}
use Rattle.rt_native_laws.specs.GoingInCall.{FunctionGoes, GoesOnIn}
use Rattle.rt_native_laws.specs.InCall.{AtTake, CallStage, IsInCall, Within}
use Rattle.rt_native_laws.specs.InTail.{Debt, paid}
use Rattle.rt_native_laws.specs.Moments.{AllCanHappen, Comes, HasBegun, Happening, Moment, Puts, Taking, moment_after}
use Rattle.rt_native_laws.specs.Moments.{moment_after_all, shown, with_core}
use Rattle.rt_native_laws.specs.Phases.{Calls, IsInFrame, tail_of, viewed}
use Rattle.rt_native_laws.specs.Relating.{IsInPlace, IsPastMarks, IsWhere, calls_of, lowest, program_flash}
use Rattle.rt_native_laws.specs.Simulating.{arrivals_of, compared, seen_of_label}
use Rattle.rt_native_laws.specs.Waiting.{Waiting, others_tail}
use Rattle.rt_native_laws.specs.WithFunctions.{Functions, IsFromFunction, KeepToTheirs, RunsOn, called_back}
use Rattle.rt_native_laws.specs.WithFunctions.{inputs_beside, interrupt_of}
use Rattle.rt_native_laws.proofs.CallKept.{frame_again}
use Rattle.rt_native_laws.proofs.CallingFunctions.{irq_is, is_of, others_below, room_fits}
use Rattle.rt_native_laws.proofs.Events.{after_both, can_both, stays_behind}
use Rattle.rt_native_laws.proofs.Fewer.{can_beside_more, good_beside_fewer}
use Rattle.rt_native_laws.proofs.Functions.{cells_long, functions_put_words}
use Rattle.rt_native_laws.proofs.Leading.{begun_of}
use Rattle.rt_native_laws.proofs.LeadingInCall.{Jobs, first, fresh_of_call, settled_first, where_called}
use Rattle.rt_native_laws.proofs.Marking.{marks_are_done}
use Rattle.rt_native_laws.proofs.Prefixes.{same_some}
use Rattle.rt_native_laws.proofs.Recalling.{jobs_again}
use Rattle.rt_native_laws.proofs.Tests.{not_equal}
use Rattle.rt_native_laws.proofs.Unpaid.{by_debt, parts_same}
use Rattle.rt_native_laws.proofs.Viewing.{view_rest}
use Rattle.rt_native_laws.proofs.WithinCall.{function_goes_on}

-- what is ours, in a smaller part of flash
fewer_ours : (img : Image) (target : Target) (p : Program) (written : List ℕ) (sp k : ℕ)
    → target.flash.address + (program_flash img target p).size ≤ target.flash.address + target.flash.size
    → IsOurs (outside img target) (program_flash img target p) written sp k
    → IsOurs (outside img target) target.flash written sp k
fewer_ours img target p written sp k fits (OfStack from to) = OfStack from to
fewer_ours img target p written sp k fits (OfCells from to others) = OfCells from to others
fewer_ours img target p written sp k fits (OfTime from to) = OfTime from to
fewer_ours img target p written sp k fits (OfFlash from to) = OfFlash from (omega (arith, to, fits))
fewer_ours img target p written sp k fits (OfSystem from to) = OfSystem from to

-- words that are put are seen by nobody, and no interrupt arrives
module _ (img : Image) (at : Outside) (n : Machine) where
  puts_unseen : (written : List ℕ) (s : Moment) (more : List Happening)
      → shown img s (words_put at n written ++ more) ≡ shown img (moment_after_all img s (words_put at n written)) more
  puts_unseen [] s more = refl
  puts_unseen (k ∷ written) s more =
      puts_unseen written (moment_after img s (Puts k (n.memory ((at.cells + 4 * k) / 4)))) more

  puts_silent : (written : List ℕ) (more : List Happening)
      → flat_map arrivals_of (words_put at n written ++ more) ≡ flat_map arrivals_of more
  puts_silent [] more = refl
  puts_silent (k ∷ written) more = puts_silent written more

-- words that are put are the function's
module _ (at : Outside) (all : List ℕ) (n : Machine) where
  puts_from : (written : List ℕ) → AllByRecursion (IsIn all) written
      → AllByRecursion (IsFromFunction at all n) (words_put at n written)
  puts_from [] h = tt
  puts_from (k ∷ written) h = ((h.0, refl), puts_from written h.1)

  steps_from : (xs : List Happening) → AllByRecursion (λ x. x ≡ Comes Step) xs
      → AllByRecursion (IsFromFunction at all n) xs
  steps_from [] h = tt
  steps_from (x ∷ xs) h = (subst (IsFromFunction at all n) (sym h.0) tt, steps_from xs h.1)

in_later : (x : ℕ) (all written : List ℕ) → AllByRecursion (IsIn all) written
    → AllByRecursion (IsIn (x ∷ all)) written
in_later x all [] h = tt
in_later x all (k ∷ written) h = ((suc h.0.0, h.0.1), in_later x all written h.1)

-- each is among them
all_in : (written : List ℕ) → AllByRecursion (IsIn written) written
all_in [] = tt
all_in (k ∷ written) = ((0, refl), in_later k written written (all_in written))

module _ (img : Image) (target : Target) (functions : Functions) (p : Program) (there : IsInPlace img target p)
    (keep : KeepToTheirs img target functions p) (ceiling : ℕ)
    (called : ℕ → Option Machine) (fits : List Happening → Bool) (s : Moment) (m : Machine)
    (stays_beside : StaysGood img (inputs_beside target functions) ceiling fits s)
    (w : IsWhere img target p ceiling called s m)
    (x : IsInCall (outside img target) (lowest img target p) img (places img target) p w.unpaid w.top m)
    (f : IsInFrame (outside img target) (lowest img target p) img (places img target) p w.unpaid w.top m x)
    (is : w.phase ≡ Calls x f) (within : x.stage ≡ Within) (function n : Machine)
    (under_way : called m.exception ≡ Some function) (runs : RunsOn img target functions p function m n) where
  abbrev at : Outside
  at = outside img target

  abbrev stays : StaysGood img target.inputs ceiling fits s
  stays = good_beside_fewer img target.inputs functions.inputs ceiling fits s stays_beside

  abbrev pl : List ℕ
  pl = places img target

  abbrev bottom : ℕ
  bottom = lowest img target p

  abbrev c : Core
  c = w.unpaid

  abbrev written : List ℕ
  written = functions.written (interrupt_of m.exception)

  irq_here : interrupt_of m.exception ≡ x.irq
  irq_here = irq_is img target p there ceiling called fits s m stays w x f is

  is_here : is_called target.calls x.irq ≡ true
  is_here = is_of img target p there ceiling called fits s m stays w x f is

  called_here : called (external x.irq) ≡ Some x.called
  called_here = (fresh_of_call img target p there ceiling called fits s m stays w x f is).3.1 within

  called_at : function ≡ x.called
  called_at = same_some function x.called (sym under_way ∙ (ap called x.exception ∙ called_here))

  room : functions.room (interrupt_of m.exception) ≤ x.room
  room = room_fits img target p there ceiling called fits s m stays w x f is functions keep

  within_flash : target.flash.address + (program_flash img target p).size ≤ target.flash.address + target.flash.size
  within_flash = let fits_flash = w.loaded.loaded.fits in omega (arith, fits_flash)

  harmless : IsHarmless at (program_flash img target p) written x.room x.called m n
  harmless = subst (λ (y : Machine). IsHarmless at (program_flash img target p) written x.room y m n) called_at
      (record {
        stack = (
          omega (arith, runs.harmless.stack.0, room),
          runs.harmless.stack.1,
        );
        base_priority = runs.harmless.base_priority;
        is_masked = runs.harmless.is_masked;
        exception = runs.harmless.exception;
        active = runs.harmless.active;
        requests = runs.harmless.requests;
        settled = runs.harmless.settled;
        seen = runs.harmless.seen;
        memory = λ k ours.
            runs.harmless.memory k
            (fewer_ours img target p written (function.register 13) k within_flash ours);
        words = runs.harmless.words;
      })

  abbrev d : Core
  d = core_with_cells (cells_with at n written c.processor.cells) c

  g : FunctionGoes at bottom img pl p (program_flash img target p) written c d w.top m n x
  g = function_goes_on at bottom img pl p (program_flash img target p) written c w.top m n x within harmless

  take_differs : AtTake ≡ Within → ⊥
  take_differs e = cc

  abbrev Then : (ℕ → Option Machine) → Type 0
  Then now = IsWhere img target p ceiling now (with_core s (paid w.tail d)) n

  abbrev TheJobs : (ℕ → Option Machine) → Type 0
  TheJobs now = Jobs img target p there ceiling called fits s m stays w x f is now

  -- it is in the call still
  goes_to : (now : ℕ → Option Machine) → (TheJobs called → TheJobs now) → (stage : CallStage)
      → (y : GoesOnIn at bottom img pl p w.top c d m n x stage x.called)
      → (stage ≡ Within → now (external x.irq) ≡ Some x.called) → Then now
  goes_to now recall stage y still =
      let again = frame_again at bottom img pl p c d w.top m n x stage x.called y f runs.aligned in
      let fresh = fresh_of_call img target p there ceiling called fits s m stays w x f is in
      where_called img target p there ceiling called fits s m stays w x f is written n g.ours now recall d
      (Calls y.call again) (
        settled_first img target p there ceiling called fits s m stays w x f is (length c.processor.slots),
        (first img target p there ceiling called fits s m stays w x f is, y.declared ∙ fresh.1.1),
        tt,
        (
          subst (λ (k : ℕ). is_called target.calls k ≡ true) (sym y.irq) is_here,
          λ e. ap (λ (k : ℕ). now (external k)) y.irq ∙ (still (sym y.at_stage ∙ e)
              ∙ sym (ap (λ (z : Machine). Some z) y.called_at)),
        ),
      ) refl (λ k h i j. ap (λ (r : ℕ → ℕ). r k) y.registers) y.call.words runs.placed refl
      (cells_long at n written c.processor.cells)

  some_is_not_none : (i : Instruction) → Some i ≢ None
  some_is_not_none i e = cc

  abbrev back : ℕ → Option Machine
  back e = if e == m.exception then None else called e

  -- behind the function it is under way no more
  recalled : TheJobs called → TheJobs back
  recalled jobs =
      jobs_again at bottom (stack_top img target) ceiling target.inputs target.calls called back img pl p x.irq
      (λ k other. ap (λ (b : Bool). if b then None else called (external k))
      (not_equal (external k) m.exception (λ e. other (omega (arith, e, x.exception)))))
      (others_tail (tail_of at bottom img pl p c w.top m w.phase) w.tail) s.takings c.below c w.top
      (viewed at bottom img pl p c w.top m w.phase)
      (others_below img target p there ceiling called fits s m stays w x f is c.below refl x.exception w.agrees.values
      w.agrees.nested jobs) jobs

  by_code : (o : Option Instruction) → p.code n.address ≡ o → Then (called_back o m.exception called)
  by_code None e = goes_to called (λ jobs. jobs) Within g.within (λ h. called_here)
  by_code (Some i) e =
      goes_to back recalled AtTake
      (g.back (subst (λ (y : Machine). HasComeBack y n) called_at
      (runs.comes_back (λ none. some_is_not_none i (sym e ∙ none))))) (λ h. absurd (take_differs h))

  abbrev now : ℕ → Option Machine
  now = called_back (p.code n.address) m.exception called

  where_then : Then now
  where_then = by_code (p.code n.address) refl

  -- which handler has begun
  begun_by : (tail : Option Debt) (takings : List Taking) (below : List Context) (v : Machine)
      → v.exception ≡ external x.irq
      → Waiting at bottom (stack_top img target) ceiling target.inputs
      (calls_of target called) img pl p tail takings below c
      w.top v
      → HasBegun x.irq below s.last
  begun_by tail [] [] v e jobs = absurd (omega (arith, jobs.1, e))
  begun_by tail [] (context ∷ below) v e jobs = absurd jobs
  begun_by tail (taking ∷ takings) [] v e jobs = absurd jobs
  begun_by tail (taking ∷ takings) (context ∷ below) v e jobs =
      begun_of x.irq context below s.last (first img target p there ceiling called fits s m stays w x f is)
      (omega (arith, jobs.2, e))

  begun : HasBegun (interrupt_of m.exception) s.core.below s.last
  begun =
      subst (λ (k : ℕ). HasBegun k s.core.below s.last) (sym irq_here)
      (subst (λ (b : List Context). HasBegun x.irq b s.last) (sym (parts_same img target p ceiling called s m w).below)
      (begun_by (others_tail (tail_of at bottom img pl p c w.top m w.phase) w.tail) s.takings c.below
      (viewed at bottom img pl p c w.top m w.phase)
      (ap (λ (y : Machine). y.exception) (view_rest at bottom img pl p c w.top m w.phase) ∙ x.exception) w.waiting))

  abbrev words : List Happening
  words = words_put at n written

  put : AllCanHappen img (inputs_beside target functions) s words × (shown img s words ≡ [])
      × (moment_after_all img s words
      ≡ with_core s (core_with_cells (cells_with at n written s.core.processor.cells) s.core))
  put =
      functions_put_words at img (inputs_beside target functions) (interrupt_of m.exception) written s n
      (keep.cells (interrupt_of m.exception) (subst (λ (k : ℕ). is_called target.calls k ≡ true)
      (sym irq_here) is_here)) begun
      runs.harmless.words

  paid_is : core_with_cells (cells_with at n written s.core.processor.cells) s.core ≡ paid w.tail d
  paid_is =
      ap (λ (k : Core). core_with_cells (cells_with at n written k.processor.cells) k) w.owed
      ∙ by_debt (λ (h : Core → Core). core_with_cells (cells_with at n written (h c).processor.cells)
      (h c) ≡ h d) w.tail
      refl (λ t e. refl)

  here : IsWhere img target p ceiling now (moment_after_all img s words) n
  here =
      subst (λ (z : Moment). IsWhere img target p ceiling now z n)
      (sym (put.2 ∙ ap (with_core s) paid_is)) where_then

  -- What it leads to: words are put, nobody sees anything, and marks are done.
  pub record FunctionLeads : Type 0 where
    pub happened : List Happening
    pub can : AllCanHappen img (inputs_beside target functions) s happened
    pub arrivals : flat_map arrivals_of happened ≡ []
    pub few : length happened ≤ length written + length img.code
    pub from : AllByRecursion (IsFromFunction at written n) happened
    pub seen : compared (timer_irq img.code) n.seen
        ≡ compared (timer_irq img.code) (reverse (flat_map seen_of_label (shown img s happened)) ++ m.seen)
    pub time : (moment_after_all img s happened).core.time ≡ s.core.time
    pub ticks : n.is_pending systick ≡ m.is_pending systick
    pub there_then : IsWhere img target p ceiling now (moment_after_all img s happened) n
    pub marks : fits happened ≡ true → IsPastMarks img target p there_then.unpaid there_then.top n there_then.phase

  pub function_leads_on : FunctionLeads
  function_leads_on =
      let marked = marks_are_done img target p there ceiling now (λ more. fits (words ++ more))
      (moment_after_all img s words) n
      (good_beside_fewer img target.inputs functions.inputs ceiling (λ more. fits (words ++ more))
      (moment_after_all img s words)
      (stays_behind img (inputs_beside target functions) ceiling fits s words put.0 stays_beside)) here in
      let both = after_both img s words marked.happened in
      let again = subst (λ (z : Moment). (h : IsWhere img target p ceiling now z n)
      × (fits (words ++ marked.happened) ≡ true → IsPastMarks img target p h.unpaid h.top n h.phase)) (sym both)
      (marked.here, marked.marks) in
      record {
        happened = words ++ marked.happened;
        can = can_both img (inputs_beside target functions) s words marked.happened put.0
            (can_beside_more img target.inputs functions.inputs (moment_after_all img s words) marked.happened
            marked.can);
        arrivals = puts_silent img at n written marked.happened ∙ marked.arrivals;
        few = omega (
          arith,
          marked.few,
          length-append words marked.happened,
          length-map written (λ k. Puts k (word_at n (at.cells + 4 * k))),
        );
        from = all_append (IsFromFunction at written n) words marked.happened
            (puts_from at written n written (all_in written))
            (steps_from at written n marked.happened marked.steps);
        seen = ap (compared (timer_irq img.code))
            (runs.harmless.seen ∙ sym (ap (λ (xs : List Seen). reverse xs ++ m.seen)
            (ap (flat_map seen_of_label) (puts_unseen img at n written s marked.happened) ∙ marked.seen)));
        time = ap (λ (z : Moment). z.core.time) both ∙ (marked.time ∙ (ap (λ (z : Moment). z.core.time) put.2));
        ticks = runs.harmless.requests systick;
        there_then = again.0;
        marks = again.1;
      }
