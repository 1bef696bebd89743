-- The stack keeps within its region.
use Rattle.std.proofs.Common.{◌≡◌, ℕ, suc, ◌+◌, ◌/◌, ◌≤◌, ◌-◌, ◌||◌, ◌==◌, Bool, true, false, nat_le, if◌then◌else◌}
use Rattle.std.proofs.Common.{List, [], ◌∷◌, length, take, drop, replicate, Option, Some, None, slice_get, sum_by, refl}
use Rattle.std.proofs.Common.{arith, length-append, length-set, length-take}
use Rattle.std.proofs.lemmas.Bool.{leb-true}
use Rattle.std.proofs.lemmas.List.{length-replicate}
use Rattle.std.proofs.lemmas.List.Sums.{sum_by-cons}
use Rattle.rt_lemmas.proofs.Bools.{and_left, and_right}
use Rattle.rt_ids.specs.Event.{Event, Arrive, Tick, Step}
use Rattle.rt_code.specs.Effect.{effect}
use Rattle.rt_code.specs.Image.{Image, entry_words}
use Rattle.rt_code.specs.Processor.{Effect, Traps, Leads}
use Rattle.rt_code.specs.Runnable.{IsRunnable}
use Rattle.rt_code.specs.declared.image.IrqRow.{IrqRow}
use Rattle.rt_code.specs.declared.image.Handler.{Handler}
use Rattle.rt_code.specs.declared.image.BodyRow.{BodyRow}
use Rattle.rt_code.specs.declared.instr.Instr.{Instr}
use Rattle.rt_code.specs.declared.instr.Note.{Note}
use Rattle.rt_code.specs.declared.processor.Request.{Request}
use Rattle.rt_code.specs.declared.processor.Request.TheVariants as request
use Rattle.rt_code.specs.declared.processor.Trap.TheVariants as trap
use Rattle.rt_code.proofs.Touching.{slots_after, slots_sized}
use Rattle.rt_code.specs.Stack.{words_of, interrupted_context, last_slot, caller_frame, arguments_fit}
use Rattle.rt_trace.specs.Label.{Label, Rang}
use Rattle.rt_trace.specs.declared.item.What.{What}
use Rattle.rt_trace.specs.declared.item.What.TheVariants as what
use Rattle.rt_core.specs.declared.alarm.Alarm.{Alarm}
use Rattle.rt_core.specs.Core.{Core, Context, context_words, stack_in_use, depth, reset}
use Rattle.rt_core.specs.Laws.{KeepsWithinTheRegion}
use Rattle.rt_core.specs.Note.{item_of_note}
use Rattle.rt_core.specs.Outcome.{Outcome, Trapped, Done, settle}
use Rattle.rt_core.specs.Priority.{pick}
use Rattle.rt_core.specs.Stepping as stepping
use Rattle.rt_core.specs.Trace.{ring, happen, core_after}
use Rattle.rt_core.specs.Transfer as transfer
use Rattle.rt_core.proofs.Happening.{step_by}

module _ (img : Image) where
  abbrev Fits : Core → Type 0
  Fits c = stack_in_use img c ≤ img.stack_bytes / 4

  abbrev FitsAfter : Outcome → Type 0
  FitsAfter (Trapped c t) = Fits c
  FitsAfter (Done c shown) = Fits c

  fits_if : (b : Bool) (x y : Outcome) → (b ≡ true → FitsAfter x) → FitsAfter y → FitsAfter (if b then x else y)
  fits_if true x y f k = f refl
  fits_if false x y f k = k

  noted_fits : (c : Core) (shown : Option What) → Fits c → FitsAfter (stepping.outcome_of_note c shown)
  noted_fits c None h = h
  noted_fits c (Some w) h = h

  with_note_fits : (n : Option Note) (o : Outcome) → FitsAfter o → FitsAfter (stepping.with_note img n o)
  with_note_fits None (Trapped c t) h = h
  with_note_fits None (Done c shown) h = h
  with_note_fits (Some n) (Trapped c t) h = h
  with_note_fits (Some n) (Done c (Some w)) h = h
  with_note_fits (Some n) (Done c None) h = noted_fits c (item_of_note img c n) h

  module _ (c : Core) (fits : Fits c) where
    enter_fits : (irq : ℕ) (h : Option Handler) → FitsAfter (transfer.exception_entry img c irq h)
    enter_fits irq None = fits
    enter_fits irq (Some h) =
        let x : Context = record {
          irq = irq;
          value = h.value;
          address = c.processor.address;
          slots = c.processor.slots;
          caller = c.caller;
        } in
        let after : Core = transfer.core_after_entry c irq h in
        let more = sum_by-cons (context_words (entry_words img)) x c.below in
        fits_if (transfer.has_room img c (entry_words img + h.frame))
        (Done after (Some (what.Take irq (depth img after)))) (Trapped c trap.Stack)
        (λ room. omega (
          arith,
          more,
          length-replicate {A = ℕ} h.frame 0,
          leb-true (stack_in_use img c + (entry_words img + h.frame)) (img.stack_bytes / 4) room,
        )) fits

    resumed_fits : (caller : Option (List ℕ)) (below : List Context)
        → length (words_of caller) + length c.processor.slots + sum_by (context_words (entry_words img)) below
        ≤ img.stack_bytes / 4
        → FitsAfter (transfer.outcome_of_return c (interrupted_context caller below))
    resumed_fits None [] h = fits
    resumed_fits None (x ∷ below) h = omega (arith, h, sum_by-cons (context_words (entry_words img)) x below)
    resumed_fits (Some slots) [] h = fits
    resumed_fits (Some slots) (x ∷ below) h = fits

    called_fits : (row : BodyRow) (from : ℕ) → transfer.call_fits img c row from ≡ true
        → Fits (transfer.core_after_call c row from)
    called_fits row from test =
        let arguments = and_left (arguments_fit c.processor.slots row from) (transfer.has_room img c row.frame) test in
        let room = leb-true (stack_in_use img c + row.frame) (img.stack_bytes / 4)
        (and_right (arguments_fit c.processor.slots row from) (transfer.has_room img c row.frame) test) in
        let few = leb-true row.args row.frame
        (and_right ((row.args == 0) || nat_le (from + row.args) (length c.processor.slots))
        (nat_le row.args row.frame) arguments) in
        let caller : List ℕ = caller_frame c.processor.slots (suc c.processor.address) in
        let same = length-set c.processor.slots (last_slot c.processor.slots) (suc c.processor.address) in
        let copied : List ℕ = take row.args (drop from caller) in
        let rest : List ℕ = replicate (row.frame - row.args) 0 in
        omega (
          arith,
          room,
          few,
          same,
          length-append copied rest,
          length-take row.args (drop from caller),
          length-replicate {A = ℕ} (row.frame - row.args) 0,
        )

    call_row_fits : (row : Option BodyRow) (from : ℕ) → FitsAfter (transfer.call_row img c row from)
    call_row_fits None from = fits
    call_row_fits (Some row) from =
        fits_if (transfer.call_fits img c row from) (Done (transfer.core_after_call c row from) None)
        (Trapped c trap.Stack) (called_fits row from) fits

    back_fits : (caller : Option (List ℕ)) → length (words_of caller) + length c.processor.slots
        + sum_by (context_words (entry_words img)) c.below ≤ img.stack_bytes / 4
        → FitsAfter (transfer.back_to c caller)
    back_fits None h = fits
    back_fits (Some slots) h = omega (arith, h)

    answer_fits : (asked : Request) → FitsAfter (stepping.answer img c asked)
    answer_fits request.Nothing = fits
    answer_fits (request.Emit value) = fits
    answer_fits (request.Post irq) = fits
    answer_fits (request.Clock time) = fits
    answer_fits (request.Alarm instant irq) =
        fits_if (nat_le instant c.time) (Done (record (transfer.core_after_pend c irq) { alarm = None })
        (Some what.Alarm))
        (Done (record c { alarm = Some (record { instant = instant; irq = irq }) }) (Some what.AlarmSet)) (λ due. fits)
        fits
    answer_fits request.NoAlarm = fits
    answer_fits (request.Call number from) =
        let row : Option BodyRow = slice_get img.bodies number in
        fits_if (transfer.may_call c) (transfer.call_row img c row from) (Trapped c trap.Stack)
        (λ may. call_row_fits row from) fits
    answer_fits request.Back = back_fits c.caller fits
    answer_fits request.Return = resumed_fits c.caller c.below fits

  go_on_fits : (c : Core) (n : Option Note) (e : Effect) → Fits c → length (slots_after e c.processor.slots)
      ≡ length c.processor.slots → FitsAfter (stepping.go_on img c n e)
  go_on_fits c n (Traps t) fits same = fits
  go_on_fits c n (Leads p asked) fits same =
      let after : Core = record c { processor = p } in
      with_note_fits n (stepping.answer img after asked) (answer_fits after (omega (arith, fits, same)) asked)

  run_fits : (c : Core) (line : Option (Instr × Option Note)) → Fits c → FitsAfter (stepping.run img c line)
  run_fits c None fits = fits
  run_fits c (Some line) fits = go_on_fits c line.1 (effect line.0 c.time c.processor) fits
      (slots_sized line.0 c.time c.processor)

  attempt_fits : (c : Core) (taken : Option IrqRow) → Fits c → FitsAfter (stepping.attempt img c taken)
  attempt_fits c (Some row) fits = enter_fits c fits row.number row.handler
  attempt_fits c None fits = run_fits c (slice_get img.code c.processor.address) fits

  settled_fits : (o : Outcome) → FitsAfter o → Fits (settle o).0
  settled_fits (Trapped c t) h = h
  settled_fits (Done c shown) h = h

  step_by_fits : (c : Core) (stopped : Bool) → Fits c → Fits (step_by img c stopped).0
  step_by_fits c true fits = fits
  step_by_fits c false fits = settled_fits (stepping.attempt img c (pick img c)) (attempt_fits c (pick img c) fits)

  step_fits : (c : Core) → Fits c → Fits (stepping.step img c).0
  unfolding stepping.step
  step_fits c fits = step_by_fits c c.stopped fits

  rung_fits : (c : Core) (alarm : Option Alarm) → Fits c → Fits (ring c alarm).0
  rung_fits c None fits = fits
  rung_fits c (Some alarm) fits = one (nat_le alarm.instant c.time)
      (record (transfer.core_after_pend c alarm.irq) { alarm = None }) c fits fits
    where
      one : (due : Bool) (x y : Core) → Fits x → Fits y
          → Fits (if◌then◌else◌ {A = Core × List Label} due (x, Rang ∷ []) (y, [])).0
      one true x y h k = h
      one false x y h k = k

  happen_fits : (c : Core) (e : Event) → Fits c → Fits (happen img c e).0
  unfolding happen
  happen_fits c (Arrive irq) fits = fits
  happen_fits c Tick fits = rung_fits (record c { time = suc c.time }) c.alarm fits
  happen_fits c Step fits = step_fits c fits

  core_after_fits : (c : Core) (events : List Event) → Fits c → Fits (core_after img c events)
  unfolding core_after
  core_after_fits c [] fits = fits
  core_after_fits c (e ∷ events) fits = core_after_fits (happen img c e).0 events (happen_fits c e fits)

  reset_fits : IsRunnable img → Fits (reset img)
  reset_fits runnable = omega (arith, runnable.sizes.thread_fits, length-replicate {A = ℕ} img.thread_words 0)

pub keeps_within_the_region : KeepsWithinTheRegion
keeps_within_the_region img events runnable =
    let fits = core_after_fits img (reset img) events (reset_fits img runnable) in omega (arith, fits)
