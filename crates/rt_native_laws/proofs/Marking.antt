-- The image does its marks, for which nothing is executed.
use Rattle.std.proofs.Common.{◌≡◌, ◌∙◌, ℕ, zero, suc, ◌+◌, ◌≤◌, Bool, true, false, List, [], ◌∷◌, ◌++◌, Option, Some}
use Rattle.std.proofs.Common.{None, refl, sym, ap, subst, arith, length, flat_map}
use Rattle.std.specs.Prelude.{option_map, slice_get}
use Rattle.std.proofs.lemmas.Bool.{false≢true}
use Rattle.std.proofs.lemmas.Option.{slice_get_past}
use Rattle.std.specs.List.{AllByRecursion}
use Rattle.rt_ids.specs.Event.{Step}
use Rattle.rt_lemmas.proofs.Bools.{true_and_false}
use Rattle.rt_code.specs.Image.{Image}
use Rattle.rt_code.specs.Processor.{Processor}
use Rattle.rt_code.specs.declared.image.IrqRow.{IrqRow}
use Rattle.rt_code.specs.declared.instr.Instr.{Instr}
use Rattle.rt_code.specs.declared.instr.Instr.TheVariants as instr
use Rattle.rt_code.specs.declared.instr.Note.{Note}
use Rattle.rt_core.specs.Core.{Core, depth}
use Rattle.rt_core.specs.Priority.{pick}
use Rattle.rt_core.specs.Stepping.{step}
use Rattle.rt_core.specs.Trace.{happen}
use Rattle.rt_native.specs.Layout.{outside, places}
use Rattle.rt_native.specs.Target.{Target}
use Rattle.rt_thumb.specs.Machine.{Machine, Seen}
use Rattle.rt_thumb.specs.Step.{Program}
use Rattle.rt_trace.specs.Label.{Stepped}
use Rattle.rt_native_laws.specs.Alike.{SetsNoAlarm}
use Rattle.rt_native_laws.specs.Behaving.{GoesWell, IsGood, StaysGood}
use Rattle.rt_native_laws.specs.Doing.{RaisesOnly, seen_of}
use Rattle.rt_native_laws.specs.Going.{StepsBy}
use Rattle.rt_native_laws.specs.InTail.{paid}
use Rattle.rt_native_laws.specs.Moments.{AllCanHappen, Comes, Happening, Moment, Went, after_instruction, after_step}
use Rattle.rt_native_laws.specs.Moments.{instruction_at, last_after, moment_after, moment_after_all, shown, with_core}
use Rattle.rt_native_laws.specs.Phases.{AlreadyDone, Calling, Calls, Entering, IsDone, Phase, Reads, Tails, ToCome}
use Rattle.rt_native_laws.specs.Relating.{IsPastMarks, IsInPlace, IsWhere, lowest}
use Rattle.rt_native_laws.specs.Simulating.{AreFromRegisters, arrivals_of, seen_of_label}
use Rattle.rt_native_laws.specs.Waiting.{KeepsAbove}
use Rattle.rt_native_laws.proofs.Going.{mark_is_no_event, same_core}
use Rattle.rt_native_laws.proofs.Prefixes.{same_some}
use Rattle.rt_native_laws.proofs.Relating.{alarm_then, in_no_tail, is_where_on}
use Rattle.rt_native_laws.proofs.Settled.{settled_within}
use Rattle.rt_native_laws.proofs.Shaping.{KeepsShape, StaysInContext, step_keeps_shape, step_shows}
use Rattle.rt_native_laws.proofs.Stepping.{outcome_is}
use Rattle.rt_native_laws.proofs.Tails.{tail_same}
use Rattle.rt_native_laws.proofs.Unpaid.{IsQuiet, by_debt, good_unpaid, moment_same, owing, paid_same, parts_same}
use Rattle.rt_native_laws.proofs.Unpaid.{step_same}
use Rattle.rt_trace.specs.declared.item.What.{What}
use Rattle.rt_native_laws.proofs.Viewing.{IsAlone}

abbrev is_mark : Instr → Bool
is_mark instr.Mark = true
is_mark i = false

mark_of : (i : Instr) → is_mark i ≡ true → i ≡ instr.Mark
mark_of instr.Mark h = refl
mark_of i h = absurd (false≢true h)

not_some : {A : Type 0} (x : A) → None ≡ Some x → ⊥
not_some x e = cc

-- BASEPRI is raised alone
pub raises_of : (img : Image) (ceiling : ℕ) (s : Moment) (i : Instr) → GoesWell img ceiling s i → RaisesOnly i s.core
raises_of img ceiling s (instr.Raise d v) well = well
raises_of img ceiling s i well = tt

-- at a good moment the core takes its step
pub steps_by : (img : Image) (ceiling : ℕ) (s : Moment) → IsGood img ceiling s → (i : Instr) (note : Option Note)
    → slice_get img.code s.core.processor.address ≡ Some (i, note) → pick img s.core ≡ None
    → StepsBy img i s.core (step img s.core).0 (step img s.core).1
steps_by img ceiling s good i note line none = record {
  note = note;
  line = line;
  goes = good.goes;
  takes_none = none;
  steps = refl;
  no_trap = good.no_trap;
  base_priority = good.base_priority;
  raises = raises_of img ceiling s i (good.instruction i note line none);
}

-- the moment after a step that stays where it is
stays_there : (img : Image) (s : Moment) (d : Core) (i : Instr) → StaysInContext i
    → after_instruction img s d (Some i) ≡ record { core = d; last = last_after img (Some i); takings = s.takings }
stays_there img s d instr.Ret h = absurd h
stays_there img s d i h = refl

pub moment_is : (img : Image) (s : Moment) (i : Instr) → StaysInContext i → pick img s.core ≡ None
    → instruction_at img s.core ≡ Some i
    → moment_after img s (Comes Step)
    ≡ record { core = (step img s.core).0; last = last_after img (Some i); takings = s.takings }
moment_is img s i stays none at_it =
    let d = (step img s.core).0 in
    ap (after_step img s d) none ∙ (ap (after_instruction img s d) at_it ∙ stays_there img s d i stays)

-- what is shown of a step
pub step_seen : (img : Image) (s : Moment) (more : List Happening)
    → flat_map seen_of_label (shown img s (Comes Step ∷ more))
    ≡ seen_of_label (Stepped (step img s.core).1)
    ++ flat_map seen_of_label (shown img (moment_after img s (Comes Step)) more)
unfolding happen
step_seen img s more = refl

module _ (img : Image) (target : Target) (p : Program) (there : IsInPlace img target p) (ceiling : ℕ)
    (called : ℕ → Option Machine) where
  -- marks have been done
  pub record HasMarked (most : ℕ) (fits : List Happening → Bool) (s : Moment) (m : Machine) : Type 0 where
    pub happened : List Happening
    pub can : AllCanHappen img target.inputs s happened
    pub arrivals : flat_map arrivals_of happened ≡ []
    pub few : length happened ≤ most
    pub words : (n : Machine) → AreFromRegisters img p n s happened
    pub steps : AllByRecursion (λ x. x ≡ Comes Step) happened
    pub seen : flat_map seen_of_label (shown img s happened) ≡ []
    pub time : (moment_after_all img s happened).core.time ≡ s.core.time
    pub deep : depth img (moment_after_all img s happened).core ≡ depth img s.core
    pub here : IsWhere img target p ceiling called (moment_after_all img s happened) m
    pub marks : fits happened ≡ true → IsPastMarks img target p here.unpaid here.top m here.phase

  abbrev ThePhase : Core → ℕ → Machine → Type 0
  ThePhase c top m = Phase (outside img target) (lowest img target p) img (places img target) p c top m

  past_if : (c : Core) (top : ℕ) (m : Machine) (phase : ThePhase c top m)
      → (pick img c ≡ None → instruction_at img c ≡ Some instr.Mark → ⊥) → IsPastMarks img target p c top m phase
  past_if c top m (AlreadyDone x) h = h
  past_if c top m (ToCome x) h = tt
  past_if c top m (Entering x) h = tt
  past_if c top m (Calling x) h = tt
  past_if c top m (Reads x) h = tt
  past_if c top m (Calls x f) h = tt
  past_if c top m (Tails core x same) h = tt

  -- no mark is next
  none_next : (most : ℕ) (fits : List Happening → Bool) (s : Moment) (m : Machine) (w : IsWhere img target p ceiling called s m)
      → (fits [] ≡ true → IsPastMarks img target p w.unpaid w.top m w.phase) → HasMarked most fits s m
  none_next most fits s m w past = record {
    happened = [];
    can = tt;
    arrivals = refl;
    few = omega arith;
    words = λ n. tt;
    steps = tt;
    seen = refl;
    time = refl;
    deep = refl;
    here = w;
    marks = past;
  }

  -- one mark
  module _ (s : Moment) (m : Machine) (w : IsWhere img target p ceiling called s m) (good : IsGood img ceiling s)
      (none : pick img w.unpaid ≡ None) (note : Option Note)
      (line : slice_get img.code w.unpaid.processor.address ≡ Some (instr.Mark, note))
      (x : IsDone (outside img target) (lowest img target p) img (places img target) p w.unpaid w.top m)
      (own : IsAlone (outside img target) (lowest img target p) img
      (places img target) p w.unpaid w.top m w.phase) where
    abbrev u : Core
    u = w.unpaid

    abbrev d : Core
    d = (step img u).0

    at_mark : instruction_at img u ≡ Some instr.Mark
    at_mark = ap (option_map (λ l. l.0)) line

    quiet : IsQuiet img target p ceiling called s m w
    quiet t e f = subst SetsNoAlarm (sym at_mark) tt

    st : StepsBy img instr.Mark u d (step img u).1
    st =
        steps_by img ceiling (with_core s u)
        (good_unpaid img target p ceiling called s m w quiet good) instr.Mark note line
        none

    shape : KeepsShape instr.Mark u d
    shape = step_keeps_shape img instr.Mark u d (step img u).1 tt st

    done : IsDone (outside img target) (lowest img target p) img (places img target) p d w.top m
        × (seen_of (step img u).1 ≡ [])
    done = mark_is_no_event (outside img target) (lowest img target p) img (places img target) p u d
        (step img u).1 w.top m there.has st x

    core_is : record u { processor = record u.processor { address = suc u.processor.address } } ≡ d
    core_is =
        let is = outcome_is img instr.Mark u d (step img u).1 st in
        same_core (record u { processor = record u.processor { address = suc u.processor.address } }) d None is.own
        is.is

    next_is : moment_after img s (Comes Step) ≡ record { core = paid w.tail d; last = Went; takings = s.takings }
    next_is =
        moment_same img target p ceiling called s m w quiet
        ∙ ap (λ (z : Moment). with_core z (paid w.tail z.core))
        (moment_is img (with_core s u) instr.Mark tt none at_mark)

    after_mark : IsWhere img target p ceiling called (moment_after img s (Comes Step)) m
    after_mark =
        subst (λ (y : Moment). IsWhere img target p ceiling called y m) (sym next_is)
        (is_where_on img target p there ceiling called called s m m w (λ jobs. jobs) w.tail w.of_timer d Went
        (AlreadyDone done.0)
        (settled_within Went (length d.processor.slots), tt, tt, tt)
        (in_no_tail _ None w.tail u d own.tail refl
        (tail_same w.tail u d (owing img target p ceiling called s m w) (sym (ap (λ (y : Core). y.time) core_is))
        (sym (ap (λ (y : Core). y.alarm) core_is)) (sym (ap (λ (y : Core). y.pending) core_is))))
        (subst (λ (v : Machine). KeepsAbove (outside img target) w.top v m) (sym own.view)
        (record { registers = λ k h f g. refl; memory = λ k h f. refl; exception = refl; active = refl }))
        (λ k h. refl) w.words w.placed shape.below shape.cells shape.requests shape.stopped
        (alarm_then img u d w.alarm shape.alarm))

    address_is : (moment_after img s (Comes Step)).core.processor.address ≡ suc s.core.processor.address
    address_is =
        ap (λ (y : Moment). y.core.processor.address) next_is
        ∙ (ap (λ (q : Processor). q.address) (paid_same w.tail d).processor
        ∙ (ap (λ (y : Core). y.processor.address) (sym core_is)
        ∙ ap (λ (q : Processor). suc q.address) (sym (parts_same img target p ceiling called s m w).processor)))

    time_is : (moment_after img s (Comes Step)).core.time ≡ s.core.time
    time_is =
        ap (λ (y : Moment). y.core.time) next_is
        ∙ ((paid_same w.tail d).time ∙ (shape.time ∙ sym (parts_same img target p ceiling called s m w).time))

    depth_is : depth img (moment_after img s (Comes Step)).core ≡ depth img s.core
    depth_is =
        ap (λ (y : Moment). depth img y.core) next_is
        ∙ (by_debt (λ (f : Core → Core). depth img (f d) ≡ depth img d) w.tail refl (λ t e. refl)
        ∙ (ap (λ (k : Core). depth img k) (sym core_is)
        ∙ (sym (by_debt (λ (f : Core → Core). depth img (f u) ≡ depth img u) w.tail refl (λ t e. refl))
        ∙ ap (λ (k : Core). depth img k) (sym w.owed))))

    silent : seen_of_label (Stepped (step img s.core).1) ≡ []
    silent =
        ap (λ (x : Core × Option What). seen_of_label (Stepped x.1)) (step_same img target p ceiling called s m w quiet)
        ∙ (step_shows img instr.Mark u d (step img u).1 tt st ∙ done.1)

    and_then : (most : ℕ) (fits : List Happening → Bool)
        → HasMarked most (λ more. fits (Comes Step ∷ more)) (moment_after img s (Comes Step)) m
        → HasMarked (suc most) fits s m
    and_then most fits more = record {
      happened = Comes Step ∷ more.happened;
      can = (tt, more.can);
      arrivals = more.arrivals;
      few = omega (arith, more.few);
      words = λ n. (tt, more.words n);
      steps = (refl, more.steps);
      seen = step_seen img s more.happened ∙ (ap (λ (xs : List Seen). xs ++ flat_map seen_of_label
          (shown img (moment_after img s (Comes Step)) more.happened)) silent ∙ more.seen);
      time = more.time ∙ time_is;
      deep = more.deep ∙ depth_is;
      here = more.here;
      marks = more.marks;
    }

  -- by what is next: a mark, behind code that is done, or something else
  module _ (most : ℕ) (fits : List Happening → Bool) (s : Moment) (m : Machine)
      (stays : StaysGood img target.inputs ceiling fits s) (w : IsWhere img target p ceiling called s m)
      (again : IsGood img ceiling s → pick img w.unpaid ≡ None → (note : Option Note)
      → slice_get img.code w.unpaid.processor.address ≡ Some (instr.Mark, note)
      → IsDone (outside img target) (lowest img target p) img (places img target) p w.unpaid w.top m
      → IsAlone (outside img target) (lowest img target p) img (places img target) p w.unpaid w.top m w.phase
      → HasMarked most fits s m) where
    abbrev Past : ThePhase w.unpaid w.top m → Type 0
    Past phase = IsPastMarks img target p w.unpaid w.top m phase

    abbrev Alone : ThePhase w.unpaid w.top m → Type 0
    Alone phase = IsAlone (outside img target) (lowest img target p) img (places img target) p w.unpaid w.top m phase

    other_line : (pick img w.unpaid ≡ None → instruction_at img w.unpaid ≡ Some instr.Mark → ⊥) → HasMarked most fits s m
    other_line h = none_next most fits s m w (λ f. past_if w.unpaid w.top m w.phase h)

    by_phase : IsGood img ceiling s → pick img w.unpaid ≡ None → (note : Option Note)
        → slice_get img.code w.unpaid.processor.address ≡ Some (instr.Mark, note) → (phase : ThePhase w.unpaid w.top m)
        → w.phase ≡ phase → HasMarked most fits s m
    by_phase good none note line (AlreadyDone x) e = again good none note line x
        (subst Alone (sym e) (record { tail = refl; call = refl; view = refl }))
    by_phase good none _ line (ToCome x) e = none_next most fits s m w (λ f. subst Past (sym e) tt)
    by_phase good none _ line (Entering x) e = none_next most fits s m w (λ f. subst Past (sym e) tt)
    by_phase good none _ line (Calling x) e = none_next most fits s m w (λ f. subst Past (sym e) tt)
    by_phase good none _ line (Reads x) e = none_next most fits s m w (λ f. subst Past (sym e) tt)
    by_phase good none _ line (Calls x g) e = none_next most fits s m w (λ f. subst Past (sym e) tt)
    by_phase good none _ line (Tails core x same) e = none_next most fits s m w (λ f. subst Past (sym e) tt)

    by_test : IsGood img ceiling s → pick img w.unpaid ≡ None → (i : Instr) (note : Option Note)
        → slice_get img.code w.unpaid.processor.address ≡ Some (i, note) → (b : Bool) → is_mark i ≡ b
        → HasMarked most fits s m
    by_test good none i note line true e =
        by_phase good none note (line ∙ ap (λ (j : Instr). Some (j, note)) (mark_of i e)) w.phase refl
    by_test good none i _ line false e =
        other_line (λ f g.
        let same : i ≡ instr.Mark = same_some i instr.Mark (sym (ap (option_map (λ l. l.0)) line) ∙ g) in
        false≢true (sym e ∙ ap is_mark same))

    by_line : IsGood img ceiling s → pick img w.unpaid ≡ None → (line : Option (Instr × Option Note))
        → slice_get img.code w.unpaid.processor.address ≡ line → HasMarked most fits s m
    by_line good none None e = other_line (λ f g. not_some instr.Mark (sym (ap (option_map (λ l. l.0)) e) ∙ g))
    by_line good none (Some line) e = by_test good none line.0 line.1 e (is_mark line.0) refl

    by_pick : IsGood img ceiling s → (o : Option IrqRow) → pick img w.unpaid ≡ o → HasMarked most fits s m
    by_pick good None e = by_line good e (slice_get img.code w.unpaid.processor.address) refl
    by_pick good (Some row) e = other_line (λ f g. not_some row (sym f ∙ e))

    by_fits : (b : Bool) → fits [] ≡ b → HasMarked most fits s m
    by_fits true e = by_pick (stays [] tt e) (pick img w.unpaid) refl
    by_fits false e = none_next most fits s m w (λ f. absurd (true_and_false (fits []) f e))

    one_round : HasMarked most fits s m
    one_round = by_fits (fits []) refl

  -- Each mark is at an address of its own, behind the one before it; so many instructions are left at most.
  all_marks : (left : ℕ) (fits : List Happening → Bool) (s : Moment) (m : Machine)
      → StaysGood img target.inputs ceiling fits s → IsWhere img target p ceiling called s m
      → length img.code ≤ s.core.processor.address + left → HasMarked left fits s m
  all_marks zero fits s m stays w bound =
      one_round zero fits s m stays w (λ good none note line x own.
      absurd (not_some (instr.Mark, note) (sym (slice_get_past img.code w.unpaid.processor.address (omega (
        arith,
        bound,
        ap (λ (q : Processor). q.address) (parts_same img target p ceiling called s m w).processor,
      ))) ∙ line)))
  all_marks (suc left) fits s m stays w bound =
      one_round (suc left) fits s m stays w (λ good none note line x own.
      and_then s m w good none note line x own left fits
      (all_marks left (λ more. fits (Comes Step ∷ more)) (moment_after img s (Comes Step)) m
      (λ more can g. stays (Comes Step ∷ more) (tt, can) g) (after_mark s m w good none note line x own)
      (omega (arith, bound, address_is s m w good none note line x own))))

  pub marks_are_done : (fits : List Happening → Bool) (s : Moment) (m : Machine)
      → StaysGood img target.inputs ceiling fits s → IsWhere img target p ceiling called s m
      → HasMarked (length img.code) fits s m
  marks_are_done fits s m stays w = all_marks (length img.code) fits s m stays w (omega arith)
