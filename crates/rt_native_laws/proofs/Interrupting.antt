-- An interrupt is taken, and what it leads to leads on.
use Rattle.std.proofs.Common.{◌≡◌, ◌≢◌, ◌∙◌, ℕ, ◌+◌, ◌-◌, ◌*◌, ◌/◌, ◌%◌, ◌^◌, ◌<◌, ◌≤◌, inl, inr, Bool, true, false}
use Rattle.std.proofs.Common.{List}
use Rattle.std.proofs.Common.{[], ◌∷◌, ◌++◌, Option, Some, None, IfSome, refl, sym, ap, subst, arith, length, map}
use Rattle.std.proofs.Common.{⊎_elim}
use Rattle.std.proofs.lemmas.List.{get_or-set_other, length-set}
use Rattle.std.specs.List.{AllByRecursion, filter}
use Rattle.std.specs.Prelude.{if◌then◌else◌, ◌==◌, min, nat_lt, reverse, slice_get, slice_index, slice_index_or}
use Rattle.rt_ids.specs.Event.{Step}
use Rattle.rt_lemmas.proofs.Bools.{and_parts, true_and_false}
use Rattle.rt_lemmas.proofs.Membership.{all_at}
use Rattle.rt_code.specs.Image.{Image, entry_words}
use Rattle.rt_code.specs.declared.image.Handler.{Handler}
use Rattle.rt_code.specs.declared.image.IrqRow.{IrqRow}
use Rattle.rt_code.specs.declared.processor.Trap.TheVariants as trap
use Rattle.rt_core.specs.Core.{Context, Core, depth, exception_number, stack_in_use}
use Rattle.rt_core.specs.Outcome.{Done, Trapped, settle}
use Rattle.rt_core.specs.Priority.{base_value, execution, mask_value, pick, running_value, value_or_none}
use Rattle.rt_core.specs.Stepping.{attempt, step}
use Rattle.rt_core.specs.Transfer.{core_after_entry, exception_entry, has_room}
use Rattle.rt_core.proofs.Picking.{picked_row}
use Rattle.rt_native.specs.Layout.{TICK_BYTES, outside, places, stack_top, stub_places}
use Rattle.rt_native.specs.Service.{is_called, stub, timer_irq}
use Rattle.rt_native.specs.Target.{Target}
use Rattle.rt_native.specs.declared.outside.Outside.{Outside}
use Rattle.rt_native.specs.declared.target.Input.{Input}
use Rattle.rt_priorities.specs.Agreeing.{AreNested, IsActiveAs, IsSetAs}
use Rattle.rt_priorities.proofs.Keeping.{entries_keep_agreeing}
use Rattle.rt_priorities.proofs.Ticking.{number_is_small}
use Rattle.rt_thumb.specs.Exceptions.{entered, external, priority_of, systick}
use Rattle.rt_thumb.specs.Machine.{Machine, Seen}
use Rattle.rt_thumb.specs.Step.{Program}
use Rattle.rt_trace.specs.Label.{Stepped}
use Rattle.rt_trace.specs.declared.item.What.{What}
use Rattle.rt_trace.specs.declared.item.What.TheVariants as what
use Rattle.rt_native_laws.specs.Behaving.{HasEvenFrames, IsGood, StaysGood}
use Rattle.rt_native_laws.specs.Deep.{IsWithinFrames}
use Rattle.rt_native_laws.specs.Inputs.{Enters, IsAtInputs, Reads as ReadsMore}
use Rattle.rt_native_laws.specs.InTail.{Debt, paid}
use Rattle.rt_native_laws.specs.Moments.{Began, Comes, HasJustRead, Happening, Moment, Taking, after_step}
use Rattle.rt_native_laws.specs.Moments.{moment_after}
use Rattle.rt_native_laws.specs.InCall.{AtFall, IsInCall, Within, linked_call}
use Rattle.rt_native_laws.specs.Linked.{LiesLinked}
use Rattle.rt_native_laws.specs.Moments.{with_core}
use Rattle.rt_native_laws.specs.Own.{Spans}
use Rattle.rt_native_laws.specs.Phases.{Calls, Entering, IsInFrame, Phase, Reads, tail_of, viewed}
use Rattle.rt_native_laws.specs.Reading.{IsInput}
use Rattle.rt_native_laws.specs.Relating.{calls_of, EntriesLeadOn, IsInPlace, IsWhere, LeadsOn, lowest}
use Rattle.rt_native_laws.specs.Saving.{CanBeInterrupted}
use Rattle.rt_native_laws.specs.Simulating.{compared, seen_of_label}
use Rattle.rt_native_laws.specs.Standing.{IsLaidOut, frame_bytes}
use Rattle.rt_native_laws.specs.Waiting.{FunctionCalls, IsFresh, KeepsTail, Waiting, others_tail}
use Rattle.rt_native_laws.proofs.Deep.{eight, no_deeper_with_padding, phases_are_within_frames}
use Rattle.rt_native_laws.proofs.Eights.{phase_is_rounded}
use Rattle.rt_native_laws.proofs.Inputs.{entry_reads_inputs}
use Rattle.rt_native_laws.proofs.Linked.{linked_entries_lead}
use Rattle.rt_native_laws.proofs.Marking.{marks_are_done, step_seen}
use Rattle.rt_native_laws.proofs.Relating.{KeepsOutside, KeepsService, loaded_still, service_kept, tick_still}
use Rattle.rt_native_laws.proofs.Saving.{entry_pushes_below, stack_is as pushed_stack}
use Rattle.rt_native_laws.proofs.Tails.{for_some, tail_untouched}
use Rattle.rt_native_laws.proofs.Tests.{at_most, is_less, not_equal}
use Rattle.rt_native_laws.proofs.Unpaid.{IsQuiet, free, good_unpaid, moment_same, owing, paid_same, parts_same}
use Rattle.rt_native_laws.proofs.Unpaid.{picks_same, step_same}
use Rattle.rt_native_laws.proofs.Viewing.{view_rest}
use Rattle.rt_native_laws.proofs.Waiting.{entry_adds_a_job, unopened_inside}
use Rattle.rt_native_laws.proofs.WithinCall.{entry_begins_call}

-- the step that takes an interrupt, where it is no trap
record IsEntered (img : Image) (c : Core) (irq : ℕ) (h : Handler) : Type 0 where
  room : has_room img c (entry_words img + h.frame) ≡ true
  is : step img c ≡ (core_after_entry c irq h, Some (what.Take irq (depth img (core_after_entry c irq h))))

entry_is : (img : Image) (c : Core) (row : IrqRow) (h : Handler) → c.stopped ≡ false → pick img c ≡ Some row
    → row.handler ≡ Some h → (step img c).0.stopped ≡ false → IsEntered img c row.number h
unfolding step
entry_is img c row h goes picked handled no_trap =
    by_room (has_room img c (entry_words img + h.frame)) refl
  where
    to : step img c ≡ settle (exception_entry img c row.number (Some h))
    to =
        ap (λ (b : Bool). if b then (c, None) else settle (attempt img c (pick img c))) goes
        ∙ (ap (λ o. settle (attempt img c o)) picked ∙ ap (λ o. settle (exception_entry img c row.number o)) handled)

    by_room : (b : Bool) → has_room img c (entry_words img + h.frame) ≡ b → IsEntered img c row.number h
    by_room true e = record {
      room = e;
      is = to ∙ ap (λ (t : Bool). settle (if t
          then Done (core_after_entry c row.number h)
          (Some (what.Take row.number (depth img (core_after_entry c row.number h)))) else Trapped c trap.Stack)) e;
    }
    by_room false e =
        absurd (true_and_false (step img c).0.stopped
        (ap (λ (x : Core × Option What). x.0.stopped) (to ∙ ap (λ (t : Bool). settle (if t
        then Done (core_after_entry c row.number h)
        (Some (what.Take row.number (depth img (core_after_entry c row.number h)))) else Trapped c trap.Stack)) e))
        no_trap)

-- an interrupt of a higher priority than all that are active is none of them
pub none_is_it : (m : Machine) (irq v : ℕ) (below : List Context) → priority_of m (external irq) ≡ v
    → v < running_value below → AllByRecursion (IsActiveAs m) below → AreNested below
    → AllByRecursion (λ e. e ≢ external irq) (map (λ x. external x.irq) below)
none_is_it m irq v [] value higher all nested = tt
none_is_it m irq v (x ∷ below) value higher all nested = (
  λ same.
      let equal : v ≡ x.value = sym value ∙ (ap (priority_of m) (sym same) ∙ all.0.value) in
      omega (arith, equal, higher),
  none_is_it m irq v below value (omega (arith, higher, nested.0)) all.1 nested.1,
)

-- what interrupted jobs say of what runs
module _ (at : Outside) (bottom highest ceiling : ℕ) (inputs : List Input) (calls : FunctionCalls) (img : Image)
    (places : List ℕ)
    (p : Program) (tail : Option Debt) (c : Core) (top : ℕ) (m : Machine) where
  pub top_is_eight : (takings : List Taking) (below : List Context)
      → Waiting at bottom highest ceiling inputs calls img places p tail takings below c top m → highest % 8 ≡ 0
      → top % 8 ≡ 0
  top_is_eight [] [] jobs z = omega (arith, jobs.0, z)
  top_is_eight [] (x ∷ below) jobs z = absurd jobs
  top_is_eight (taking ∷ takings) [] jobs z = absurd jobs
  top_is_eight (taking ∷ takings) (x ∷ below) jobs z = jobs.0

  pub exception_is : (takings : List Taking) (below : List Context)
      → Waiting at bottom highest ceiling inputs calls img places p tail takings below c top m
      → m.exception ≡ exception_number below
  exception_is [] [] jobs = jobs.1
  exception_is [] (x ∷ below) jobs = absurd jobs
  exception_is (taking ∷ takings) [] jobs = absurd jobs
  exception_is (taking ∷ takings) (x ∷ below) jobs = jobs.2

-- those of a list that pass are as all are
all_of : (P : Input → Type 0) (passes : Input → Bool) (xs : List Input) → AllByRecursion P xs
    → AllByRecursion P (filter passes xs)
all_of P passes [] h = tt
all_of P passes (x ∷ xs) h = by_test (all_of P passes xs h.1) (passes x)
  where
    by_test : AllByRecursion P (filter passes xs) → (b : Bool)
        → AllByRecursion P (if b then x ∷ filter passes xs else filter passes xs)
    by_test later true = (h.0, later)
    by_test later false = later

module _ (img : Image) (target : Target) (p : Program) (ceiling : ℕ)
    (called : ℕ → Option Machine) (fits : List Happening → Bool) (s : Moment)
    (m : Machine) (row : IrqRow) (h : Handler) (there : IsInPlace img target p) (even_frames : HasEvenFrames img)
    (stays : StaysGood img target.inputs ceiling fits s) (fitting : fits [] ≡ true)
    (w : IsWhere img target p ceiling called s m)
    (picked : pick img w.unpaid ≡ Some row) (handled : row.handler ≡ Some h) where
  abbrev at : Outside
  at = outside img target

  abbrev pl : List ℕ
  pl = places img target

  abbrev bottom : ℕ
  bottom = lowest img target p

  abbrev highest : ℕ
  highest = stack_top img target

  abbrev inputs : List Input
  inputs = target.inputs

  abbrev calls : FunctionCalls
  calls = calls_of target called

  abbrev c : Core
  c = w.unpaid

  abbrev others : Option Debt
  others = others_tail (tail_of at bottom img pl p c w.top m w.phase) w.tail

  abbrev e : ℕ
  e = external row.number

  abbrev n : Machine
  n = entered e m

  abbrev d : Core
  d = core_after_entry c row.number h

  -- an interrupt is taken, so no instruction is executed
  quiet : IsQuiet img target p ceiling called s m w
  quiet t e none = absurd (some_row (sym none ∙ picked))
    where
      some_row : None ≡ Some row → ⊥
      some_row f = cc

  good : IsGood img ceiling (with_core s c)
  good = good_unpaid img target p ceiling called s m w quiet (stays [] tt fitting)

  laid : IsLaidOut at bottom (length c.processor.cells)
  laid = subst (IsLaidOut at bottom) (sym w.cells) there.laid

  at_index : slice_get img.irqs (picked_row img c row picked).0.0 ≡ Some row
  at_index = (picked_row img c row picked).0.1

  higher : value_or_none row.handler < execution c
  higher =
      is_less (value_or_none row.handler) (execution c)
      (and_parts (slice_index_or c.pending row.number false) (nat_lt (value_or_none row.handler) (execution c))
      (picked_row img c row picked).1).1

  higher_than : h.value < execution c
  higher_than = subst (λ (o : Option Handler). value_or_none o < execution c) handled higher

  unmasked : c.processor.primask ≡ false
  unmasked = by_mask c.processor.primask refl
    where
      by_mask : (b : Bool) → c.processor.primask ≡ b → c.processor.primask ≡ false
      by_mask false f = f
      by_mask true f =
          let none = subst (λ (t : Bool). h.value < min (running_value c.below)
          (min (base_value c.processor.basepri) (mask_value t))) f higher_than in
          absurd (omega (arith, none))

  declared : IsSetAs m row
  declared = all_at (IsSetAs m) img.irqs (picked_row img c row picked).0.0 row w.agrees.declared at_index

  value : priority_of m e ≡ h.value
  value = subst (λ (o : Option Handler). IfSome o (λ k. priority_of m e ≡ k.value)) handled declared.value

  inactive : AllByRecursion (λ x. x ≢ e) m.active
  inactive =
      subst (AllByRecursion (λ x. x ≢ e)) (sym w.agrees.active)
      (none_is_it m row.number h.value c.below value (omega (arith, higher_than)) w.agrees.values w.agrees.nested)

  highest_eight : highest % 8 ≡ 0
  highest_eight = omega (arith, there.image.ram.0)

  -- the processor as those who wait will find it
  abbrev seen_now : Machine
  seen_now = viewed at bottom img pl p c w.top m w.phase

  within : IsWithinFrames at bottom c w.top m
  within = phases_are_within_frames at bottom img pl p c w.top m laid there.has.port w.phase

  rounded : (m.register 13 % 4 ≡ 0) × (w.top + m.register 13 % 8 ≤ m.register 13 + frame_bytes c)
  rounded =
      phase_is_rounded at bottom img pl p there.has even_frames c w.top m
      (top_is_eight at bottom highest ceiling inputs calls img pl p others c w.top seen_now s.takings c.below w.waiting
      highest_eight) good.frames within w.phase

  entry : IsEntered img c row.number h
  entry = entry_is img c row h good.goes picked handled good.no_trap

  room : bottom + 4 * h.frame + 32 + m.register 13 % 8 ≤ m.register 13
  room =
      let deep = no_deeper_with_padding at bottom highest ceiling inputs calls img pl p others s.takings c w.top m
      seen_now laid there.has.port rounded.1 w.waiting in
      let fits_in = at_most (stack_in_use img c + (entry_words img + h.frame)) (img.stack_bytes / 4) entry.room in
      omega (arith, deep, fits_in, there.reach, there.image.runnable.sizes.stack_pairs, eight img.fpu)

  lowest_is : 32 ≤ bottom
  lowest_is = omega (arith, there.reach)

  exception_here : m.exception ≡ exception_number c.below
  exception_here =
      sym (ap (λ (y : Machine). y.exception) (view_rest at bottom img pl p c w.top m w.phase))
      ∙ exception_is at bottom highest ceiling inputs calls img pl p others c w.top seen_now s.takings c.below w.waiting

  can : CanBeInterrupted m
  can = record {
    stack = rounded.0;
    room = omega (arith, room);
    address = w.placed.0;
    exception = subst (λ (x : ℕ). x < 2 ^ 9) (sym exception_here) (number_is_small m c.below w.agrees.values);
  }

  abbrev to : ℕ
  to = slice_index (stub_places img target) ((picked_row img c row picked).0.0 + 1)

  abbrev linked : LiesLinked img target p m
  linked = w.loaded

  -- what runs first as the interrupt is taken
  abbrev Lies : Bool → Type 0
  Lies b =
      Spans p n.address ((if b then linked_call n.address (linked.addresses row.number) else [])
      ++ stub at target.inputs pl to row.number (Some h)) to

  lies : Lies (is_called target.calls row.number)
  lies =
      linked_entries_lead img target linked.addresses linked.object p m linked.loaded linked.linked
      there.image.runnable.rows.numbers (picked_row img c row picked).0.0 row h at_index handled

  all_inputs : AllByRecursion (IsInput (length c.processor.cells)) (filter (λ i. i.irq == row.number) target.inputs)
  all_inputs =
      all_of (IsInput (length c.processor.cells)) (λ i. i.irq == row.number) target.inputs
      (subst (λ (k : ℕ). AllByRecursion (IsInput k) target.inputs) (sym w.cells) there.image.inputs)

  -- where it leads to a phase, as those who wait will find it
  abbrev Leads : Type 0
  Leads =
      (phase : Phase at bottom img pl p d (n.register 13) n)
      × IsFresh at bottom highest ceiling inputs calls img pl p w.tail Began d (n.register 13) n phase
      × (tail_of at bottom img pl p d (n.register 13) n phase ≡ None)
      × (viewed at bottom img pl p d (n.register 13) n phase ≡ n)

  phase_of : IsAtInputs at bottom img pl p target.inputs d (n.register 13) n → Leads
  phase_of (ReadsMore x same) = (
    Reads x,
    (
      omega arith,
      (
        subst (λ (r : Option (Input × ℕ)). HasJustRead r Began) (sym
            (ap (λ (r : List Input × Option (Input × ℕ)). r.1) same)) tt,
        ap (λ (r : List Input × Option (Input × ℕ)). r.0) same,
      ),
      tt,
      tt,
    ),
    refl,
    refl,
  )
  phase_of (Enters x) = (Entering x, (omega arith, tt, tt, tt), refl, refl)

  stack_then : n.register 13 + 32 + m.register 13 % 8 ≡ m.register 13
  stack_then = pushed_stack e m can

  -- a function is called first
  module _ (is : is_called target.calls row.number ≡ true) where
    deep_frame : 2 ≤ h.frame
    deep_frame =
        subst (λ (o : Option Handler). IfSome o (λ k. 2 ≤ k.frame)) handled
        (all_at (λ (r : IrqRow). is_called target.calls r.number ≡ true → IfSome r.handler (λ k. 2 ≤ k.frame)) img.irqs
        (picked_row img c row picked).0.0 row linked.frames at_index is)

    begun : (x : IsInCall at bottom img pl p d (n.register 13) n) × (x.stage ≡ AtFall) × (x.irq ≡ row.number)
        × (x.handler ≡ h) × (x.declared ≡ target.inputs) × (x.function ≡ linked.addresses row.number)
        × (x.room ≡ 4 * h.frame - 8) × (x.registers ≡ n.register)
    begun =
        entry_begins_call at bottom img pl p target.inputs (4 * h.frame - 8)
        (linked.addresses row.number) to row.number h
        c w.top m there.has laid can w.placed.1 inactive unmasked w.words within.high within.below_cells w.phase
        (there.entrances ((picked_row img c row picked).0.0 + 1)) all_inputs (linked.reached row.number is)
        (subst Lies is lies) room (omega (arith, room, deep_frame))

    fall_differs : AtFall ≡ Within → ⊥
    fall_differs f = cc

    whole : 4 * h.frame - 8 + 8 ≡ 4 * h.frame
    whole = omega (arith, deep_frame)

    in_frame : IsInFrame at bottom img pl p d (n.register 13) n begun.0
    in_frame = record {
      room = ap (λ (r : ℕ). r + 8) begun.6 ∙ (whole ∙ ap (λ (k : Handler). 4 * k.frame) (sym begun.3));
      place = (picked_row img c row picked).0.0;
      row = row;
      found = at_index;
      number = sym begun.2;
      handled = handled ∙ ap (λ (k : Handler). Some k) (sym begun.3);
      aligned = omega (arith, stack_then, rounded.0);
      given = λ k. subst (λ (r : ℕ → ℕ). r k < 2 ^ 32) (sym begun.7)
          ((unopened_inside at bottom img pl p row.number h c w.top m laid there.has.port can w.placed.1 inactive
          unmasked
          w.words within.high within.below_cells w.phase there.has to
          (there.entrances ((picked_row img c row picked).0.0 + 1)) room).words.registers k);
      elsewhere = ap p.code begun.5 ∙ linked.elsewhere row.number is;
    }

    calls_first : Leads
    calls_first = (
      Calls begun.0 in_frame,
      (
        omega arith,
        (tt, begun.4),
        tt,
        (
          subst (λ (k : ℕ). is_called target.calls k ≡ true) (sym begun.2) is,
          λ f. absurd (fall_differs (sym begun.1 ∙ f)),
        ),
      ),
      refl,
      ap (λ (r : ℕ → ℕ). record n { register = r }) begun.7,
    )

  by_call : (b : Bool) → is_called target.calls row.number ≡ b → Leads
  by_call true is = calls_first is
  by_call false is =
      phase_of (entry_reads_inputs at bottom img pl p target.inputs to row.number h c w.top m there.has laid can
      w.placed.1 inactive unmasked w.words within.high within.below_cells w.phase
      (there.entrances ((picked_row img c row picked).0.0 + 1)) all_inputs (subst Lies is lies) room)

  phase : Leads
  phase = by_call (is_called target.calls row.number) refl

  keeps : KeepsOutside at bottom m n
  keeps k beside =
      entry_pushes_below e m can k (⊎_elim (λ (x : 4 * k + 4 + TICK_BYTES ≤ bottom). inl (omega (arith, x, room)))
      (λ (x : at.time + 8 ≤ 4 * k). inr (omega (arith, x, within.high, within.below_cells, there.laid.time))) beside)

  service : KeepsService img target p there m n
  service = service_kept img target p there m n (omega (arith, linked.loaded.region.0)) keeps

  -- the interrupt of an alarm that is owed is another one
  meanwhile : KeepsTail w.tail w.tail c d
  meanwhile =
      tail_untouched w.tail c d (owing img target p ceiling called s m w) refl
      (for_some w.tail (λ t. (d.alarm ≡ c.alarm)
      × (slice_index_or c.pending t.irq false ≡ true → slice_index_or d.pending t.irq false ≡ true)) (λ t e. (
        refl,
        λ f. get_or-set_other c.pending row.number t.irq false false (λ g.
            let low = free img target p ceiling called s m w t e row (picked_row img c row picked).0 (sym g) in
            omega (arith, low, higher)) ∙ f,
      )))

  abbrev taking : Taking
  taking = record { base_priority = c.processor.basepri; last = s.last }

  small_place : n.address < 2 ^ 32
  small_place =
      let small = w.words.memory ((m.memory (0xE000ED08 / 4) + 4 * e) / 4) in omega (arith, small)

  where_then : IsWhere img target p ceiling called
      (record { core = paid w.tail d; last = Began; takings = taking ∷ s.takings }) n
  where_then = record {
    tail = w.tail;
    of_timer = w.of_timer;
    unpaid = d;
    owed = refl;
    top = n.register 13;
    phase = phase.0;
    fresh = phase.1;
    waiting = subst (λ (v : Machine). Waiting at bottom highest ceiling inputs calls img pl p
        (others_tail (tail_of at bottom img pl p d (n.register 13) n phase.0) w.tail) (taking ∷ s.takings) d.below d
        (n.register 13) v) (sym phase.3)
        (subst (λ (o : Option Debt). Waiting at bottom highest ceiling inputs calls img pl p (others_tail o w.tail)
        (taking ∷ s.takings) d.below d (n.register 13) n) (sym phase.2)
        (entry_adds_a_job at bottom highest ceiling inputs calls img pl p w.tail s.takings s.last row.number h c w.top
        m laid
        there.has.port can w.placed.1 inactive unmasked w.words within.high within.below_cells rounded.1 higher_than
        meanwhile w.phase w.fresh w.waiting));
    agrees = entries_keep_agreeing img c m row h w.agrees picked handled (omega (arith, room, lowest_is))
        (omega (arith, within.high, within.below_cells, there.laid.time, there.laid.in_memory));
    words = (unopened_inside at bottom img pl p row.number h c w.top m laid there.has.port can w.placed.1 inactive
        unmasked w.words within.high within.below_cells w.phase there.has to
        (there.entrances ((picked_row img c row picked).0.0 + 1)) room).words;
    placed = (omega arith, small_place);
    loaded = loaded_still img target p there m n service w.loaded;
    tick = tick_still img target p there m n service w.tick;
    requests = length-set c.pending row.number false ∙ w.requests;
    alarm = w.alarm;
    cells = w.cells;
    frames = (good.frames, w.frames);
  }

  next_is : moment_after img s (Comes Step)
      ≡ record { core = paid w.tail d; last = Began; takings = taking ∷ s.takings }
  next_is =
      moment_same img target p ceiling called s m w quiet
      ∙ ap (λ (z : Moment). with_core z (paid w.tail z.core))
      (ap (after_step img (with_core s c) (step img c).0) picked
      ∙ ap (λ (k : Core). after_step img (with_core s c) k (Some row))
      (ap (λ (x : Core × Option What). x.0) entry.is))

  leads : LeadsOn img target p ceiling called fits s m n
  leads =
      let s1 = moment_after img s (Comes Step) in
      let here = subst (λ (z : Moment). IsWhere img target p ceiling called z n) (sym next_is) where_then in
      let marked = marks_are_done img target p there ceiling called (λ more. fits (Comes Step ∷ more)) s1 n
      (λ more ok f. stays (Comes Step ∷ more) (tt, ok) f) here in
      record {
        happened = Comes Step ∷ marked.happened;
        can = (tt, marked.can);
        arrivals = marked.arrivals;
        few = omega (arith, marked.few);
        words = (tt, marked.words m);
        seen = ap (compared (timer_irq img.code)) (sym (ap (λ (xs : List Seen). reverse xs ++ m.seen)
            (step_seen img s marked.happened
            ∙ (ap (λ (xs : List Seen). seen_of_label (Stepped (step img s.core).1) ++ xs) marked.seen
            ∙ ap (λ (o : Option What). seen_of_label (Stepped o) ++ [])
            (ap (λ (x : Core × Option What). x.1) (step_same img target p ceiling called s m w quiet)
            ∙ ap (λ (x : Core × Option What). x.1) entry.is)))));
        ticks = ap (λ (b : Bool). if b then false else m.is_pending systick)
            (not_equal systick e (λ f. omega (arith, f)));
        time = marked.time ∙ (ap (λ (z : Moment). z.core.time) next_is
            ∙ ((paid_same w.tail d).time ∙ sym (parts_same img target p ceiling called s m w).time));
        here = marked.here;
        marks = marked.marks;
      }

pub entries_lead_on : EntriesLeadOn
entries_lead_on img target p ceiling called fits s m row h there even_frames stays fitting r picked
    handled =
    leads img target p ceiling called fits s m row h there even_frames stays fitting r.here
    (sym (picks_same img target p ceiling called s m r.here) ∙ picked) handled
