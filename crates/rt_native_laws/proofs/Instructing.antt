-- A machine instruction where no exception is taken before it leads on.
use Rattle.std.proofs.Common.{◌≡◌, ◌≢◌, ◌∙◌, ℕ, ◌^◌, ◌<◌, ◌≤◌, ◌⊎◌, inl, inr, Bool, true, false, List, [], ◌∷◌}
use Rattle.std.proofs.Common.{◌++◌, Option, Some}
use Rattle.std.proofs.Common.{IfSome, None, refl, sym, ap, subst, arith, length, ⊎_elim}
use Rattle.std.specs.Prelude.{if◌then◌else◌, option_map, slice_get, ⊤}
use Rattle.rt_lemmas.proofs.Bools.{true_and_false}
use Rattle.rt_code.specs.Effect.{next}
use Rattle.rt_code.specs.Image.{Image}
use Rattle.rt_code.specs.declared.instr.Instr.{Instr}
use Rattle.rt_code.specs.declared.instr.Instr.TheVariants as instr
use Rattle.rt_code.specs.declared.instr.Note.{Note}
use Rattle.rt_core.specs.Core.{Core}
use Rattle.rt_core.specs.Outcome.{settle}
use Rattle.rt_core.specs.Priority.{pick, running_value}
use Rattle.rt_core.specs.Stepping.{attempt, run, step}
use Rattle.rt_native.specs.Layout.{outside, places, stack_top}
use Rattle.rt_native.specs.Sequences.{sequence}
use Rattle.rt_native.specs.Target.{Target}
use Rattle.rt_native.specs.declared.outside.Outside.{Outside}
use Rattle.rt_thumb.specs.Machine.{Machine}
use Rattle.rt_thumb.specs.Step.{Program, executed, executing}
use Rattle.rt_thumb.specs.declared.instruction.Instruction.{Instruction}
use Rattle.rt_native_laws.specs.Behaving.{GoesWell, IsGood, SetsTheAlarm, StaysGood}
use Rattle.rt_native_laws.specs.EachKind.{BySteps, ByReturn, EachGoes, HasOneCommit, Silently}
use Rattle.rt_native_laws.specs.Going.{IsNothing, LeavesOthers, StepsBy}
use Rattle.rt_native_laws.specs.InTail.{Debt, IsInTail}
use Rattle.rt_native_laws.specs.Moments.{HasJustRead, Happening, Moment, instruction_at, with_core}
use Rattle.rt_native_laws.specs.Own.{AreSteady, Executes, RunsPrivately}
use Rattle.rt_native_laws.specs.Phases.{AlreadyDone, Calling, Calls, Entering, FunctionCall, IsDone, IsOrdinary}
use Rattle.rt_native_laws.specs.Phases.{IsToCome, Phase, Reads, call_of, viewed}
use Rattle.rt_native_laws.specs.Phases.{Tails, ToCome, kept_words, reads_from, tail_of}
use Rattle.rt_native_laws.specs.Relating.{CallsNone, InstructionsLeadOn, IsInPlace, IsOwnInstruction, IsPastMarks}
use Rattle.rt_native_laws.specs.Relating.{IsWhere}
use Rattle.rt_native_laws.specs.Relating.{call_here, calls_of}
use Rattle.rt_native_laws.specs.Relating.{LeadsOn, Related, lowest}
use Rattle.rt_native_laws.specs.Standing.{HoldsWords, IsLaidOut, StandsFor, frames_end}
use Rattle.rt_native_laws.specs.Waiting.{Waiting, others_tail}
use Rattle.rt_native_laws.proofs.Beginning.{calling_goes, entering_goes}
use Rattle.rt_native_laws.proofs.EachKind.{each_kind_goes_on, link_is_high}
use Rattle.rt_native_laws.proofs.Faultless.{calling_has_next, done_has_next, entering_has_next}
use Rattle.rt_native_laws.proofs.Going.{goes_behind, to_come_at}
use Rattle.rt_native_laws.proofs.Inputs.{reading_goes_on, reading_has_next}
use Rattle.rt_native_laws.proofs.Leading.{reading_leads_on, silence_leads_on, step_leads_on}
use Rattle.rt_native_laws.proofs.Marking.{steps_by}
use Rattle.rt_native_laws.proofs.Prefixes.{same_some}
use Rattle.rt_native_laws.proofs.Branching.{none_by_link, none_by_return}
use Rattle.rt_native_laws.proofs.LeadingInCall.{call_leads_on}
use Rattle.rt_native_laws.proofs.Leaving.{return_pops}
use Rattle.rt_native_laws.proofs.Viewing.{IsAlone, ordinary_alone}
use Rattle.rt_native_laws.proofs.Returning.{return_leads_on}
use Rattle.rt_native_laws.proofs.Shapes.{alarm_has_first}
use Rattle.rt_native_laws.proofs.Shaping.{StaysInContext}
use Rattle.rt_native_laws.proofs.Storing.{alarm_has_next, alarm_is_stored}
use Rattle.rt_native_laws.proofs.Tail.{tail_goes_on, tails_are_no_fault}
use Rattle.rt_native_laws.proofs.Tailing.{store_leads_on, tail_leads_on}
use Rattle.rt_native_laws.proofs.Unpaid.{IsQuiet, above, good_unpaid, picks_same, quiet_above}

-- an instruction with one commit that is no `ret` stays in its context
stays_of : (i : Instr) → HasOneCommit i → (i ≡ instr.Ret → ⊥) → StaysInContext i
stays_of (instr.Alarm slot irq) one never = absurd one
stays_of instr.Ret one never = absurd (never refl)
stays_of i one never = tt

-- at a good moment a line is there
trapped_there : (img : Image) (c : Core) → c.stopped ≡ false → pick img c ≡ None
    → slice_get img.code c.processor.address ≡ None → (step img c).0.stopped ≡ true
unfolding step
trapped_there img c goes none empty =
    ap (λ (x : Core × Option _). x.0.stopped)
    (ap (λ (b : Bool). if b then (c, None) else settle (attempt img c (pick img c))) goes
    ∙ (ap (λ o. settle (attempt img c o)) none ∙ ap (λ o. settle (run img c o)) empty))

record HasLine (img : Image) (c : Core) : Type 0 where
  i : Instr
  note : Option Note
  line : slice_get img.code c.processor.address ≡ Some (i, note)

line_there : (img : Image) (c : Core) → c.stopped ≡ false → pick img c ≡ None → (step img c).0.stopped ≡ false
    → HasLine img c
line_there img c goes none no_trap = by_line (slice_get img.code c.processor.address) refl
  where
    by_line : (o : Option (Instr × Option Note)) → slice_get img.code c.processor.address ≡ o → HasLine img c
    by_line None e =
        absurd (true_and_false (step img c).0.stopped (trapped_there img c goes none e) no_trap)
    by_line (Some line) e = record { i = line.0; note = line.1; line = e }

module _ (img : Image) (target : Target) (p : Program) (there : IsInPlace img target p) (c : Core) (top : ℕ)
    (m : Machine)
    (laid : IsLaidOut (outside img target) (lowest img target p) (length c.processor.cells)) where
  abbrev at : Outside
  at = outside img target

  abbrev pl : List ℕ
  pl = places img target

  abbrev bottom : ℕ
  bottom = lowest img target p

  abbrev ThePhase : Type 0
  ThePhase = Phase at bottom img pl p c top m

  -- it goes on, and that is nothing to the core
  abbrev Silent : ThePhase → Type 0
  Silent phase =
      (executed : Instruction) × (n : Machine) × Executes p executed m n
      × IsNothing at bottom img pl p c top m n (kept_words at bottom img pl p c top m phase)

  abbrev NoMark : Type 0
  NoMark = instruction_at img c ≡ Some instr.Mark → ⊥

  empty_is : (xs ys : List Instruction) (y : Instruction) → [] ≡ xs ++ y ∷ ys → ⊥
  empty_is [] ys y e = cc
  empty_is (x ∷ xs) ys y e = cc

  to_come_no_mark : IsToCome at bottom img pl p c top m → NoMark
  to_come_no_mark x e =
      let same : x.instruction ≡ instr.Mark =
      same_some x.instruction instr.Mark (sym (ap (option_map (λ l. l.0)) x.line) ∙ e) in
      empty_is x.passed x.left x.next
      (sym (ap (λ (i : Instr). sequence at img pl c.processor.address i) same) ∙ x.parts)

  done_silent : (x : IsDone at bottom img pl p c top m) (left : List Instruction) → AreSteady left
      → RunsPrivately p (x.last.register 13) top left m x.last → Silent (AlreadyDone x) ⊎ ⊤
  done_silent x [] steady r = inr tt
  done_silent x (j ∷ js) steady r =
      let y = done_has_next p (x.last.register 13) top j js m x.last r in
      inl (y.0, y.1, y.2, goes_behind at bottom img pl p there.has c laid top m y.1 y.0 y.2 x j js steady r)

  -- what is next is nothing to the core, or of an instruction that is no mark
  pub is_silent : (phase : ThePhase) → IsOrdinary at bottom img pl p c top m phase
      → IsPastMarks img target p c top m phase → pick img c ≡ None → Silent phase ⊎ NoMark
  is_silent (Reads x) unread past none = absurd unread
  is_silent (Calls x f) unread past none = absurd unread
  is_silent (Tails core x same) unread past none = absurd unread
  is_silent (ToCome x) unread past none = inr (to_come_no_mark x)
  is_silent (AlreadyDone x) unread past none =
      ⊎_elim (λ (y : Silent (AlreadyDone x)). inl y) (λ (y : ⊤). inr (past none))
      (done_silent x x.left x.steady x.completes)
  is_silent (Entering x) unread past none =
      let y = entering_has_next at bottom img pl p there.has c top m x in
      inl (y.0, y.1, y.2, entering_goes at bottom img pl p there.has c top m y.1 y.0 y.2 x)
  is_silent (Calling x) unread past none =
      let y = calling_has_next at bottom img pl p there.has c top m x in
      inl (y.0, y.1, y.2, calling_goes at bottom img pl p there.has c top m y.1 y.0 y.2 x)

abbrev Result : Image → Target → Program → ℕ → (ℕ → Option Machine) → (List Happening → Bool) → Moment → Machine
    → Type 0
Result img target p ceiling called fits s m =
    (n : Machine) × (executed p m ≡ Some n) × LeadsOn img target p ceiling called fits s m n × CallsNone p m

pub executes_so : (p : Program) (i : Instruction) (m n : Machine) → Executes p i m n → executed p m ≡ Some n
executes_so p i m n exec = ap (executing p.port m) exec.found ∙ exec.does

module _ (img : Image) (target : Target) (p : Program) (there : IsInPlace img target p) (ceiling : ℕ)
    (called : ℕ → Option Machine)
    (fits : List Happening → Bool) (s : Moment) (m : Machine) (stays : StaysGood img target.inputs ceiling fits s)
    (w : IsWhere img target p ceiling called s m) where
  abbrev c : Core
  c = w.unpaid

  abbrev outer : Outside
  outer = outside img target

  abbrev spots : List ℕ
  spots = places img target

  abbrev base : ℕ
  base = lowest img target p

  laid_now : IsLaidOut outer base (length c.processor.cells)
  laid_now = subst (IsLaidOut outer base) (sym w.cells) there.laid

  -- what is executed that leaves LR as it is calls no function
  module _ (own : IsAlone outer base img spots p c w.top m w.phase) (j : Instruction) (n : Machine)
      (exec : Executes p j m n) where
    link : m.exception ≢ 0 → 0xF0000000 ≤ m.register 14
    link inside =
        subst (λ (v : Machine). v.exception ≢ 0 → 0xF0000000 ≤ v.register 14) own.view
        (link_is_high outer base (stack_top img target) ceiling target.inputs (calls_of target called) img spots p
        (others_tail (tail_of outer base img spots p c w.top m w.phase) w.tail) c w.top
        (viewed outer base img spots p c w.top m w.phase) s.takings c.below w.waiting) inside

    none_called : n.register 14 ≡ m.register 14 → CallsNone p m
    none_called same = none_by_link p j m n exec (there.has.low m.address j exec.found) same link

  module _ (unread : IsOrdinary outer base img spots p c w.top m w.phase)
      (good : IsGood img ceiling s) (none : pick img c ≡ None) where
    own : IsAlone outer base img spots p c w.top m w.phase
    own = ordinary_alone outer base img spots p c w.top m w.phase unread

    none_here : (j : Instruction) (n : Machine) → Executes p j m n → n.register 14 ≡ m.register 14 → CallsNone p m
    none_here j n exec same = none_called own j n exec same

    quiet : IsQuiet img target p ceiling called s m w
    quiet = quiet_above img target p ceiling called s m w good own.tail

    good_here : IsGood img ceiling (with_core s c)
    good_here = good_unpaid img target p ceiling called s m w quiet good

    line_here : HasLine img c
    line_here = line_there img c good_here.goes none good_here.no_trap

    abbrev i : Instr
    i = line_here.i

    st : StepsBy img i c (step img c).0 (step img c).1
    st = steps_by img ceiling (with_core s c) good_here i line_here.note line_here.line none

    well : GoesWell img ceiling (with_core s c) i
    well = good_here.instruction i line_here.note line_here.line none

    at_it : instruction_at img c ≡ Some i
    at_it = ap (option_map (λ x. x.0)) line_here.line

    silently : (j : Instruction) (n : Machine) → Executes p j m n
        → IsNothing outer base img spots p c w.top m n (kept_words outer base img spots p c w.top m w.phase)
        → Result img target p ceiling called fits s m
    silently j n exec y = (
      n,
      executes_so p j m n exec,
      silence_leads_on img target p there ceiling called fits s m n stays w j exec own y,
      none_here j n exec (y.unseen.registers 14 (omega arith) (λ e. omega (arith, e))),
    )

    module _ (one : HasOneCommit i) where
      by_kind : (executed : Instruction) (n : Machine) → Executes p executed m n
          → EachGoes outer base img spots p c w.top m n (kept_words outer base img spots p c w.top m w.phase)
          (step img c).0 (step img c).1
          → Result img target p ceiling called fits s m
      by_kind j n exec (Silently y) =
          silently j n exec y
      by_kind j n exec (BySteps core loosely never y) = (
        n,
        executes_so p j m n exec,
        step_leads_on img target p there ceiling called fits s m n stays w j exec own quiet i st
            (stays_of i one (λ e. never (at_it ∙ ap (λ (k : Instr). Some k) e))) core loosely y,
        none_here j n exec (y.others.registers 14 (omega arith) (λ e. omega (arith, e))),
      )
      by_kind j n exec (ByReturn at_ret stack goes) =
          let is : i ≡ instr.Ret = same_some i instr.Ret (sym at_it ∙ at_ret) in (
            n,
            executes_so p j m n exec,
            return_leads_on img target p there ceiling called fits s m n stays w j exec own
                (subst (λ (k : Instr). StepsBy img k c (step img c).0 (step img c).1) is st)
                (subst (GoesWell img ceiling (with_core s c)) is well) stack goes,
            none_by_return p j m n exec m.exception
                (sym (ap (λ (y : Machine). y.seen) (return_pops (m.register 14) m n goes))),
          )

      instructs : Result img target p ceiling called fits s m
      instructs =
          let y = each_kind_goes_on outer base (stack_top img target) ceiling target.inputs
          (calls_of target called) img spots p i
          (others_tail (tail_of outer base img spots p c w.top m w.phase) w.tail) (with_core s c) (step img c).0
          (step img c).1 w.top m there.has laid_now there.reach
          (omega (arith, there.image.runnable.sizes.stack_pairs)) one st well w.words w.phase unread
          (subst (λ (v : Machine). Waiting outer base (stack_top img target) ceiling target.inputs
          (calls_of target called)
          img spots p (others_tail (tail_of outer base img spots p c w.top m w.phase) w.tail) s.takings c.below c w.top
          v)
          own.view w.waiting) in
          by_kind y.0 y.1 y.2 y.3

    -- an alarm
    module _ (slot irq : ℕ) (is : i ≡ instr.Alarm slot irq) where
      abbrev d : Core
      d = (step img c).0

      st_here : StepsBy img (instr.Alarm slot irq) c d (step img c).1
      st_here = subst (λ (k : Instr). StepsBy img k c d (step img c).1) is st

      sets : SetsTheAlarm img ceiling irq c
      sets = subst (GoesWell img ceiling (with_core s c)) is well

      small : irq < 2 ^ 9
      small = let number = sets.number in omega (arith, number)

      -- nobody who waits is in a tail
      none_owed : w.tail ≡ None
      none_owed =
          by_tail w.tail (above img target p ceiling called s m w own.tail)
        where
          by_tail : (o : Option Debt) → IfSome o (λ t. running_value c.below < ceiling) → o ≡ None
          by_tail None higher = refl
          by_tail (Some t) higher = let low = sets.at_ceiling.own in absurd (omega (arith, low, higher))

      by_event : (executed : Instruction) (n : Machine) → Executes p executed m n
          → IsNothing outer base img spots p c w.top m n (kept_words outer base img spots p c w.top m w.phase)
          ⊎ ((x : IsInTail outer base img spots p d w.top n) × (x.irq ≡ irq) × (x.unpaid ≡ record c {
            processor = next c.processor;
            alarm = Some (record { instant = x.instant; irq = irq });
          }) × LeavesOthers outer w.top None m n)
          → Result img target p ceiling called fits s m
      by_event j n exec (inl y) = silently j n exec y
      by_event j n exec (inr y) = (
        n,
        executes_so p j m n exec,
        store_leads_on img target p there ceiling called fits s m n stays w j exec own none_owed quiet slot irq st_here
            sets
            y.0 y.1 y.2 y.3,
        none_here j n exec (y.3.registers 14 (omega arith) (λ e. omega (arith, e))),
      )

      -- it is to come
      comes : (phase : Phase outer base img spots p c w.top m) → w.phase ≡ phase
          → kept_words outer base img spots p c w.top m phase ≡ length c.processor.slots
          → IsToCome outer base img spots p c w.top m → Result img target p ceiling called fits s m
      comes phase e words x =
          let y = alarm_has_next outer base img spots p there.has slot irq small c d (step img c).1 st_here w.top m x in
          by_event y.0 y.1 y.2
          (subst (λ (k : ℕ). IsNothing outer base img spots p c w.top m y.1 k
          ⊎ ((x : IsInTail outer base img spots p d w.top y.1) × (x.irq ≡ irq) × (x.unpaid ≡ record c {
            processor = next c.processor;
            alarm = Some (record { instant = x.instant; irq = irq });
          }) × LeavesOthers outer w.top None m y.1))
          (sym (ap (λ (f : Phase outer base img spots p c w.top m). kept_words outer base img spots p c w.top m f) e
          ∙ words))
          (alarm_is_stored outer base img spots p slot irq c d (step img c).1 w.top m y.1 y.0 there.has small st_here x
          y.2))

      silent : (phase : Phase outer base img spots p c w.top m) → w.phase ≡ phase
          → Silent img target p there c w.top m laid_now phase → Result img target p ceiling called fits s m
      silent phase e y =
          by_event y.0 y.1 y.2
          (inl (subst (λ (f : Phase outer base img spots p c w.top m). IsNothing outer base img spots p c w.top m y.1
          (kept_words outer base img spots p c w.top m f)) (sym e) y.3))

      between : (x : IsDone outer base img spots p c w.top m) → w.phase ≡ AlreadyDone x → (left : List Instruction)
          → AreSteady left → RunsPrivately p (x.last.register 13) w.top left m x.last
          → Result img target p ceiling called fits s m
      between x e [] steady ran =
          comes (AlreadyDone x) e refl
          (to_come_at outer base img spots p c w.top m (instr.Alarm slot irq) line_here.note there.has
          (alarm_has_first outer slot irq) tt
          (line_here.line ∙ ap (λ (k : Instr). Some (k, line_here.note)) is) laid_now
          (subst (StandsFor outer base spots c) ran x.stands)
          (subst (λ (k : Machine). frames_end c k ≡ w.top) ran x.ends)
          (subst (λ (k : Machine). k.is_unsettled ≡ false) ran x.settled)
          (subst HoldsWords ran x.words)).0
      between x e (j ∷ js) steady ran =
          let y = done_has_next p (x.last.register 13) w.top j js m x.last ran in
          silent (AlreadyDone x) e
          (y.0, y.1, y.2, goes_behind outer base img spots p there.has c laid_now w.top m y.1 y.0 y.2 x j js steady ran)

      alarms : (phase : Phase outer base img spots p c w.top m) → w.phase ≡ phase
          → IsOrdinary outer base img spots p c w.top m phase → Result img target p ceiling called fits s m
      alarms (ToCome x) e so = comes (ToCome x) e refl x
      alarms (AlreadyDone x) e so = between x e x.left x.steady x.completes
      alarms (Entering x) e so =
          let y = entering_has_next outer base img spots p there.has c w.top m x in
          silent (Entering x) e (y.0, y.1, y.2, entering_goes outer base img spots p there.has c w.top m y.1 y.0 y.2 x)
      alarms (Calling x) e so =
          let y = calling_has_next outer base img spots p there.has c w.top m x in
          silent (Calling x) e (y.0, y.1, y.2, calling_goes outer base img spots p there.has c w.top m y.1 y.0 y.2 x)
      alarms (Reads x) e so = absurd so
      alarms (Calls x f) e so = absurd so
      alarms (Tails core x same) e so = absurd so

    by_instruction : (instruction_at img c ≡ Some instr.Mark → ⊥) → (j : Instr) → i ≡ j
        → Result img target p ceiling called fits s m
    by_instruction never (instr.Alarm slot irq) e = alarms slot irq e w.phase refl unread
    by_instruction never instr.Mark e = absurd (never (at_it ∙ ap (λ (k : Instr). Some k) e))
    by_instruction never j e = instructs (subst HasOneCommit (sym e) tt)

-- where an input is read, and where none is
module _ (img : Image) (target : Target) (p : Program) (there : IsInPlace img target p) (ceiling : ℕ)
    (called : ℕ → Option Machine)
    (fits : List Happening → Bool) (s : Moment) (m : Machine)
    (stays : StaysGood img target.inputs ceiling fits s) (fitting : fits [] ≡ true)
    (r : Related img target p ceiling called s m)
    (own_here : IsOwnInstruction (call_here img target p ceiling called s m r.here)) (none : pick img s.core ≡ None)
  where
    abbrev w : IsWhere img target p ceiling called s m
    w = r.here

    abbrev ItsPhase : Type 0
    ItsPhase = Phase (outside img target) (lowest img target p) img (places img target) p w.unpaid w.top m

    none_picked : pick img w.unpaid ≡ None
    none_picked = sym (picks_same img target p ceiling called s m w) ∙ none

    good : IsGood img ceiling s
    good = stays [] tt fitting

    no_input : IsOrdinary (outside img target) (lowest img target p) img
        (places img target) p w.unpaid w.top m w.phase
        → Result img target p ceiling called fits s m
    no_input unread =
        let laid = laid_now img target p there ceiling called fits s m stays w in
        ⊎_elim
        (λ (y : Silent img target p there w.unpaid w.top m laid w.phase).
        silently img target p there ceiling called fits s m stays w unread good none_picked y.0 y.1 y.2 y.3)
        (λ (never : instruction_at img w.unpaid ≡ Some instr.Mark → ⊥).
        by_instruction img target p there ceiling called fits s m stays w unread good none_picked never
        (line_here img target p there ceiling called fits s m stays w unread good none_picked).i refl)
        (is_silent img target p there w.unpaid w.top m laid w.phase unread r.marks none_picked)

    abbrev IsFirst : ItsPhase → Type 0
    IsFirst phase =
        IfSome (reads_from (outside img target) (lowest img target p) img (places img target) p w.unpaid w.top m phase)
        (λ reads. HasJustRead reads.1 s.last × (reads.0 ≡ target.inputs))

    abbrev NoInput : ItsPhase → Type 0
    NoInput phase = IsOrdinary (outside img target) (lowest img target p) img
        (places img target) p w.unpaid w.top m phase

    abbrev Alone : ItsPhase → Type 0
    Alone phase = IsAlone (outside img target) (lowest img target p) img (places img target) p w.unpaid w.top m phase

    abbrev Calling_of : ItsPhase → Option FunctionCall
    Calling_of phase = call_of (outside img target) (lowest img target p) img
        (places img target) p w.unpaid w.top m phase

    abbrev View : ItsPhase → Machine
    View phase = viewed (outside img target) (lowest img target p) img (places img target) p w.unpaid w.top m phase

    -- what is executed that leaves LR as it is calls no function
    linked : (View w.phase ≡ m) → (j : Instruction) (n : Machine) → Executes p j m n → n.register 14 ≡ m.register 14
        → CallsNone p m
    linked seen_as j n exec same =
        none_by_link p j m n exec (there.has.low m.address j exec.found) same
        (subst (λ (v : Machine). v.exception ≢ 0 → 0xF0000000 ≤ v.register 14) seen_as
        (link_is_high (outside img target) (lowest img target p) (stack_top img target) ceiling target.inputs
        (calls_of target called) img (places img target) p
        (others_tail (tail_of (outside img target) (lowest img target p) img (places img target) p w.unpaid w.top m
        w.phase) w.tail) w.unpaid w.top (View w.phase) s.takings w.unpaid.below w.waiting))

    by_phase : (phase : ItsPhase) → w.phase ≡ phase → Result img target p ceiling called fits s m
    by_phase (Reads x) e =
        let first : IsFirst (Reads x) = subst IsFirst e w.fresh.1 in
        let y = reading_has_next (outside img target) (lowest img target p) img
        (places img target) p w.unpaid w.top m there.has x in (
          y.1,
          executes_so p y.0 m y.1 y.2,
          reading_leads_on img target p there ceiling called fits s m y.1 stays w y.0 y.2
              (subst Alone (sym e) (record { tail = refl; call = refl; view = refl })) x first.0 first.1,
          linked (ap View e) y.0 y.1 y.2
              ((reading_goes_on (outside img target) (lowest img target p) img
              (places img target) p w.unpaid w.top m y.1
              y.0 there.has x y.2).others.registers 14 (omega arith) (λ f. omega (arith, f))),
        )
    by_phase (Calls x f) e =
        let own = subst (λ (o : Option FunctionCall). IsOwnInstruction o) (ap Calling_of e) own_here in
        call_leads_on img target p there ceiling called fits s m stays w x f e own.0 own.1
    by_phase (Tails core x same) e =
        let y = tails_are_no_fault (outside img target) (lowest img target p) img (places img target) p core w.top m
        there.has x in (
          y.1,
          executes_so p y.0 m y.1 y.2,
          tail_leads_on img target p there ceiling called fits s m y.1 stays w y.0 y.2 core x same e,
          linked (ap View e) y.0 y.1 y.2
              ((tail_goes_on (outside img target) (lowest img target p) img (places img target) p core w.top m y.1 y.0
              there.has x y.2).others.registers 14 (omega arith) (λ f. omega (arith, f))),
        )
    by_phase (ToCome x) e = no_input (subst NoInput (sym e) tt)
    by_phase (AlreadyDone x) e = no_input (subst NoInput (sym e) tt)
    by_phase (Entering x) e = no_input (subst NoInput (sym e) tt)
    by_phase (Calling x) e = no_input (subst NoInput (sym e) tt)

pub instructions_lead_on : InstructionsLeadOn
instructions_lead_on img target p ceiling called fits s m there stays fitting r own_here none =
    by_phase img target p there ceiling called fits s m stays fitting r own_here none r.here.phase refl
