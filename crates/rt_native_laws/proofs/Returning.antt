-- An exception return leads on: what waited last runs on, and the image is where it is.
use Rattle.std.proofs.Common.{◌≡◌, ◌∙◌, ℕ, ◌+◌, ◌*◌, ◌/◌, ◌^◌, ◌<◌, Bool, true, false, List, []}
use Rattle.std.proofs.Common.{◌∷◌, ◌++◌, Option, Some, None, refl, sym, ap, subst, arith, length}
use Rattle.std.specs.Prelude.{if◌then◌else◌, ◌==◌, nat_lt, option_map, reverse}
use Rattle.rt_ids.specs.Event.{Step}
use Rattle.rt_code.specs.Effect as model
use Rattle.rt_code.specs.Image.{Image}
use Rattle.rt_code.specs.Stack.{interrupted_context}
use Rattle.rt_code.specs.declared.instr.Instr.TheVariants as instr
use Rattle.rt_code.specs.declared.instr.Note.{Note}
use Rattle.rt_core.specs.Core.{Context, Core, exception_number}
use Rattle.rt_core.specs.Leading.{in_context}
use Rattle.rt_core.specs.Outcome.{Done, settle}
use Rattle.rt_core.specs.Priority.{pick}
use Rattle.rt_core.specs.Stepping.{attempt, go_on, run, step, with_note}
use Rattle.rt_core.specs.Transfer.{exception_return, outcome_of_return}
use Rattle.rt_native.specs.Layout.{outside, places, stack_top}
use Rattle.rt_native.specs.Service.{timer_irq}
use Rattle.rt_native.specs.Target.{Target}
use Rattle.rt_native.specs.declared.outside.Outside.{Outside}
use Rattle.rt_native.specs.declared.target.Input.{Input}
use Rattle.rt_priorities.proofs.Keeping.{returns_keep_agreeing}
use Rattle.rt_thumb.specs.Exceptions.{external, popped, returned, systick}
use Rattle.rt_thumb.specs.Machine.{Machine, Returned, Seen}
use Rattle.rt_thumb.specs.Step.{Program}
use Rattle.rt_thumb.specs.declared.instruction.Instruction.{Instruction}
use Rattle.rt_trace.specs.Label.{Stepped}
use Rattle.rt_trace.specs.declared.item.What.{What}
use Rattle.rt_trace.specs.declared.item.What.TheVariants as what
use Rattle.rt_native_laws.specs.Alike.{SetsNoAlarm}
use Rattle.rt_native_laws.specs.Behaving.{IsAsTaken, ReturnsWell, StaysGood}
use Rattle.rt_native_laws.specs.Going.{StepsBy}
use Rattle.rt_native_laws.specs.InTail.{Debt, paid}
use Rattle.rt_native_laws.specs.Leaving.{Resumes}
use Rattle.rt_native_laws.specs.Moments.{Comes, Happening, Moment, Taking, after_instruction, after_return, after_step}
use Rattle.rt_native_laws.specs.Moments.{instruction_at, moment_after, with_core}
use Rattle.rt_native_laws.specs.Own.{Executes}
use Rattle.rt_native_laws.specs.Phases.{tail_of, viewed}
use Rattle.rt_native_laws.specs.Relating.{calls_of, AreEvenBelow, IsAlarmOf, IsInPlace, IsWhere, LeadsOn, lowest}
use Rattle.rt_native_laws.specs.Standing.{HoldsWords, IsLaidOut, Shows}
use Rattle.rt_native_laws.specs.Simulating.{compared, seen_of_label}
use Rattle.rt_native_laws.specs.Waiting.{FunctionCalls, Waiting, others_tail}
use Rattle.rt_native_laws.proofs.EachKind.{HasContext, return_context}
use Rattle.rt_native_laws.proofs.Even.{goes_to_even}
use Rattle.rt_native_laws.proofs.Leaving.{return_pops, return_resumes}
use Rattle.rt_native_laws.proofs.Marking.{marks_are_done, step_seen}
use Rattle.rt_native_laws.proofs.Relating.{KeepsService, service_kept, loaded_still, tick_still}
use Rattle.rt_native_laws.proofs.Showing.{phases_show}
use Rattle.rt_native_laws.proofs.Unpaid.{IsQuiet, moment_same, paid_same, parts_same, step_same}
use Rattle.rt_native_laws.proofs.Viewing.{IsAlone}

-- words that a return gives back are words
word_by : (a b c d : Bool) (s t u v w : ℕ) → s < 2 ^ 32 → t < 2 ^ 32 → u < 2 ^ 32 → v < 2 ^ 32 → w < 2 ^ 32
    → (if a then s else if b then t else if c then u else if d then v else w) < 2 ^ 32
word_by true b c d s t u v w f g h i j = f
word_by false true c d s t u v w f g h i j = g
word_by false false true d s t u v w f g h i j = h
word_by false false false true s t u v w f g h i j = i
word_by false false false false s t u v w f g h i j = j

popped_words : (m : Machine) → m.register 13 + 36 < 2 ^ 32 → HoldsWords m → HoldsWords (popped m)
popped_words m room words = record {
  registers = λ k.
      word_by (nat_lt k 4) (k == 12) (k == 13) (k == 14) _ _ _ _ _ (words.memory ((m.register 13 + 4 * k) / 4))
      (words.memory ((m.register 13 + 4 * 4) / 4)) (omega (arith, room))
      (words.memory ((m.register 13 + 4 * 5) / 4)) (words.registers k);
  memory = words.memory;
  base_priority = words.base_priority;
}

-- the item of `ret`, whatever its note
noted_done : (img : Image) (n : Option Note) (d : Core) (w : What) → with_note img n (Done d (Some w)) ≡ Done d (Some w)
noted_done img None d w = refl
noted_done img (Some n) d w = refl

-- what `ret` leads to, and shows
record Returning (img : Image) (c d : Core) (said : Option What) (x : Context) (below : List Context) : Type 0 where
  pub core : d ≡ in_context c x below
  pub item : said ≡ Some (what.Ret x.irq)

returning_is : (img : Image) (c d : Core) (said : Option What) (x : Context) (below : List Context)
    → StepsBy img instr.Ret c d said → c.caller ≡ None → c.below ≡ x ∷ below → Returning img c d said x below
unfolding step
returning_is img c d said x below st free waits =
    let done : exception_return c ≡ Done (in_context c x below) (Some (what.Ret x.irq)) =
    ap (λ (o : Option (List ℕ)). outcome_of_return c (interrupted_context o c.below)) free
    ∙ ap (λ (bs : List Context). outcome_of_return c (interrupted_context None bs)) waits in
    let goes : go_on img c st.note (model.effect instr.Ret c.time c.processor)
    ≡ Done (in_context c x below) (Some (what.Ret x.irq)) =
    ap (with_note img st.note) done ∙ noted_done img st.note (in_context c x below) (what.Ret x.irq) in
    let to : settle (Done (in_context c x below) (Some (what.Ret x.irq))) ≡ (d, said) =
    sym (ap (λ (b : Bool). if b then (c, None) else settle (attempt img c (pick img c))) st.goes
    ∙ (ap (λ o. settle (attempt img c o)) st.takes_none
    ∙ (ap (λ o. settle (run img c o)) st.line ∙ ap settle goes))) ∙ st.steps in
    record {
      core = sym (ap (λ (y : Core × Option What). y.0) to);
      item = sym (ap (λ (y : Core × Option What). y.1) to);
    }

module _ (img : Image) (target : Target) (p : Program) (there : IsInPlace img target p) (ceiling : ℕ)
    (called : ℕ → Option Machine)
    (fits : List Happening → Bool) (s : Moment) (m n : Machine)
    (stays : StaysGood img target.inputs ceiling fits s) (w : IsWhere img target p ceiling called s m)
    (executed : Instruction)
    (exec : Executes p executed m n)
    (own : IsAlone (outside img target) (lowest img target p) img (places img target) p w.unpaid w.top m w.phase)
    (st : StepsBy img instr.Ret w.unpaid (step img w.unpaid).0 (step img w.unpaid).1)
    (well : ReturnsWell img (with_core s w.unpaid))
    (stack : m.register 13 ≡ w.top) (goes : returned (m.register 14) m ≡ Some n) where
  abbrev at : Outside
  at = outside img target

  abbrev pl : List ℕ
  pl = places img target

  abbrev bottom : ℕ
  bottom = lowest img target p

  abbrev highest : ℕ
  highest = stack_top img target

  abbrev inputs : List Input
  inputs = target.inputs

  abbrev calls : FunctionCalls
  calls = calls_of target called

  abbrev c : Core
  c = w.unpaid

  abbrev d : Core
  d = (step img c).0

  laid : IsLaidOut at bottom (length c.processor.cells)
  laid = subst (IsLaidOut at bottom) (sym w.cells) there.laid

  shown : Shows at c m
  shown = phases_show at bottom img pl p c w.top m laid there.has.port w.phase

  found : HasContext c
  found = return_context img c d (step img c).1 st

  returning : Returning img c d (step img c).1 found.context found.others
  returning = returning_is img c d (step img c).1 found.context found.others st found.free found.below

  popped_is : popped m ≡ n
  popped_is = return_pops (m.register 14) m n goes

  at_ret : instruction_at img c ≡ Some instr.Ret
  at_ret = ap (option_map (λ l. l.0)) st.line

  -- a return sets no alarm
  quiet : IsQuiet img target p ceiling called s m w
  quiet t e none = subst SetsNoAlarm (sym at_ret) tt

  next_is : moment_after img s (Comes Step)
      ≡ with_core (after_return d s.takings) (paid w.tail (after_return d s.takings).core)
  next_is =
      moment_same img target p ceiling called s m w quiet
      ∙ ap (λ (z : Moment). with_core z (paid w.tail z.core))
      (ap (after_step img (with_core s c) d) st.takes_none ∙ ap (after_instruction img (with_core s c) d) at_ret)

  -- the job that waited last
  module _ (taking : Taking) (takings : List Taking) (taken : s.takings ≡ taking ∷ takings)
      (same_base : c.processor.basepri ≡ taking.base_priority)
      (jobs : Waiting at bottom highest ceiling inputs calls img pl p w.tail (taking ∷ takings)
      (found.context ∷ found.others) c w.top m) where
    resumes : Resumes at bottom highest ceiling inputs calls img pl p w.tail taking.last takings found.others d n
    resumes =
        return_resumes at bottom highest ceiling inputs calls img pl p w.tail taking takings found.context found.others
        c d
        (step img c).1 w.top m n
        st found.below found.free same_base well.primask (shown.base_priority ∙ same_base)
        (shown.is_masked ∙ well.primask) stack goes jobs

    runs : m.exception ≡ external found.context.irq
    runs = jobs.2

    low : w.top + 36 < 2 ^ 32
    low = omega (arith, jobs.5, jobs.7.0, jobs.8, there.laid.time, there.laid.in_memory)

    same_cells : length d.processor.cells ≡ length c.processor.cells
    same_cells = ap (λ (y : Core). length y.processor.cells) returning.core

    service : KeepsService img target p there m n
    service =
        service_kept img target p there m n (omega (arith, w.loaded.loaded.region.0))
        (λ k h. sym (ap (λ (y : Machine). y.memory k) popped_is))

    below_is : d.below ≡ found.others
    below_is = ap (λ (y : Core). y.below) returning.core

    where_then : IsWhere img target p ceiling called
        (record { core = paid w.tail d; last = taking.last; takings = takings }) n
    where_then = record {
      tail = w.tail;
      of_timer = w.of_timer;
      unpaid = d;
      owed = refl;
      top = resumes.top;
      phase = resumes.phase;
      fresh = resumes.fresh;
      waiting = subst (λ (b : List Context). Waiting at bottom highest ceiling inputs calls img pl p
          (others_tail (tail_of at bottom img pl p d resumes.top n resumes.phase) w.tail) takings b d resumes.top
          (viewed at bottom img pl p d resumes.top n resumes.phase))
          (sym below_is) resumes.others;
      agrees = returns_keep_agreeing img c d (Some (what.Ret found.context.irq)) m n (m.register 14) w.agrees
          (runs ∙ sym (ap exception_number found.below))
          (ap (λ (o : Option (List ℕ)). outcome_of_return c (interrupted_context o c.below)) found.free
          ∙ (ap (λ (bs : List Context). outcome_of_return c (interrupted_context None bs)) found.below
          ∙ ap (λ (k : Core). Done k (Some (what.Ret found.context.irq))) (sym returning.core)))
          goes;
      words = subst HoldsWords popped_is (popped_words m (omega (arith, low, stack)) w.words);
      placed = goes_to_even p.port m n w.placed.0 (there.has.low m.address executed exec.found) w.words executed
          (there.has.encodable m.address executed exec.found) exec.does;
      loaded = loaded_still img target p there m n service w.loaded;
      tick = tick_still img target p there m n service w.tick;
      requests = ap (λ (y : Core). length y.pending) returning.core ∙ w.requests;
      alarm = subst (IsAlarmOf img) (sym (ap (λ (y : Core). y.alarm) returning.core)) w.alarm;
      cells = same_cells ∙ w.cells;
      frames = subst AreEvenBelow (sym below_is) (subst AreEvenBelow found.below w.frames).1;
    }

    where_next : IsWhere img target p ceiling called (moment_after img s (Comes Step)) n
    where_next =
        subst (λ (z : Moment). IsWhere img target p ceiling called z n)
        (sym (next_is ∙ ap (λ (ts : List Taking). with_core (after_return d ts) (paid w.tail (after_return d ts).core))
        taken)) where_then

    leads : LeadsOn img target p ceiling called fits s m n
    leads =
        let s1 = moment_after img s (Comes Step) in
        let marked = marks_are_done img target p there ceiling called (λ more. fits (Comes Step ∷ more)) s1 n
        (λ more can f. stays (Comes Step ∷ more) (tt, can) f) where_next in
        record {
          happened = Comes Step ∷ marked.happened;
          can = (tt, marked.can);
          arrivals = marked.arrivals;
          few = omega (arith, marked.few);
          words = (tt, marked.words m);
          seen = ap (compared (timer_irq img.code)) (sym (ap (λ (x : Machine). x.seen) popped_is)
              ∙ (ap (λ (e : ℕ). Returned e ∷ m.seen) runs
              ∙ sym (ap (λ (xs : List Seen). reverse xs ++ m.seen)
              (step_seen img s marked.happened
              ∙ (ap (λ (xs : List Seen). seen_of_label (Stepped (step img s.core).1) ++ xs) marked.seen
              ∙ ap (λ (o : Option What). seen_of_label (Stepped o) ++ [])
              (ap (λ (x : Core × Option What). x.1) (step_same img target p ceiling called s m w quiet)
              ∙ returning.item))))));
          ticks = sym (ap (λ (x : Machine). x.is_pending systick) popped_is);
          time = marked.time ∙ (ap (λ (z : Moment). z.core.time) (next_is
              ∙ ap (λ (ts : List Taking). with_core (after_return d ts) (paid w.tail (after_return d ts).core)) taken)
              ∙ ((paid_same w.tail d).time ∙ (ap (λ (y : Core). y.time) returning.core
              ∙ sym (parts_same img target p ceiling called s m w).time)));
          here = marked.here;
          marks = marked.marks;
        }

  by_takings : (takings : List Taking) → s.takings ≡ takings → IsAsTaken c.processor.basepri takings
      → Waiting at bottom highest ceiling inputs calls img pl p w.tail takings (found.context ∷ found.others) c w.top m
      → LeadsOn img target p ceiling called fits s m n
  by_takings [] e same jobs = absurd same
  by_takings (taking ∷ takings) e same jobs = leads taking takings e same jobs

  pub return_leads_on : LeadsOn img target p ceiling called fits s m n
  return_leads_on =
      by_takings s.takings refl well.base_priority
      (subst (λ (b : List Context). Waiting at bottom highest ceiling inputs calls img pl p w.tail s.takings b c w.top
      m)
      found.below (subst (λ (o : Option Debt). Waiting at bottom highest ceiling inputs calls img pl p
      (others_tail o w.tail)
      s.takings c.below c w.top m) own.tail
      (subst (λ (v : Machine). Waiting at bottom highest ceiling inputs calls img pl p
      (others_tail (tail_of at bottom img pl p c w.top m w.phase) w.tail) s.takings c.below c w.top v) own.view
      w.waiting)))
