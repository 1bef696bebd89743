-- What a step does depends on memory by what it loads alone.
use Rattle.std.proofs.Common.{◌≡◌, ℕ, ◌+◌, Bool, true, false, nat_le, if◌then◌else◌, List, [], length, Option, Some}
use Rattle.std.proofs.Common.{None, slice_get, option_map, refl, sym, ap, ◌∙◌}
use Rattle.rt_ids.specs.Lists.{then_from}
use Rattle.rt_code.specs.Access.{Stores}
use Rattle.rt_code.specs.Effect.{effect}
use Rattle.rt_code.specs.Image.{Image, entry_words}
use Rattle.rt_code.specs.Processor.{Effect, Traps, Leads}
use Rattle.rt_code.specs.declared.image.IrqRow.{IrqRow}
use Rattle.rt_code.specs.declared.image.Handler.{Handler}
use Rattle.rt_code.specs.declared.image.BodyRow.{BodyRow}
use Rattle.rt_code.specs.declared.instr.Instr.{Instr}
use Rattle.rt_code.specs.declared.instr.Note.{Note}
use Rattle.rt_code.specs.declared.instr.Note.TheVariants as note
use Rattle.rt_code.specs.declared.processor.Request.{Request}
use Rattle.rt_code.specs.declared.processor.Request.TheVariants as request
use Rattle.rt_code.specs.declared.processor.Trap.TheVariants as trap
use Rattle.rt_code.proofs.Touching.{with_memory, aside, effect_alike, access_alike, stores_alike, HaveLoad}
use Rattle.rt_code.specs.Stack.{interrupted_context}
use Rattle.rt_code.specs.Tables.{argument_count}
use Rattle.rt_trace.specs.declared.item.What.{What}
use Rattle.rt_trace.specs.declared.item.What.TheVariants as what
use Rattle.rt_core.specs.Access.{access_by, access_by_line}
use Rattle.rt_core.specs.Core.{Core, Context, depth}
use Rattle.rt_core.specs.Note.{item_of_note, slots_from}
use Rattle.rt_core.specs.Outcome.{Outcome, Trapped, Done, settle}
use Rattle.rt_core.specs.Priority.{pick}
use Rattle.rt_core.specs.Stepping as stepping
use Rattle.rt_core.specs.Touching.{with_cells, without_value, StepsAlike, DependsOnItsLoadAlone}
use Rattle.rt_core.specs.Transfer as transfer
use Rattle.rt_core.proofs.Happening.{step_by}
use Rattle.rt_core.proofs.Keeping.{cells_by_line, cells_by, cells_of_step}

-- an outcome with its cells put aside, and without the value of a leave besides
abbrev cut : Outcome → Outcome
cut (Trapped c t) = Trapped (with_cells c []) t
cut (Done c shown) = Done (with_cells c []) shown

abbrev plain : Outcome → Outcome
plain (Trapped c t) = Trapped (with_cells c []) t
plain (Done c shown) = Done (with_cells c []) (without_value shown)

cut_if : (b : Bool) (x y u v : Outcome) → cut x ≡ u → cut y ≡ v → cut (if b then x else y) ≡ (if b then u else v)
cut_if true x y u v h k = h
cut_if false x y u v h k = k

module _ (img : Image) (c : Core) where
  abbrev bare : Core
  bare = with_cells c []

  cut-enter : (irq : ℕ) (h : Option Handler) → cut (transfer.exception_entry img c irq h)
      ≡ transfer.exception_entry img bare irq h
  cut-enter irq None = refl
  cut-enter irq (Some h) =
      cut_if (transfer.has_room img c (entry_words img + h.frame))
      (Done (transfer.core_after_entry c irq h) (Some (what.Take irq (depth img (transfer.core_after_entry c irq h)))))
      (Trapped c trap.Stack)
      (Done (transfer.core_after_entry bare irq h)
      (Some (what.Take irq (depth img (transfer.core_after_entry bare irq h))))) (Trapped bare trap.Stack) refl refl

  cut-resumed : (found : Option (Context × List Context)) → cut (transfer.outcome_of_return c found)
      ≡ transfer.outcome_of_return bare found
  cut-resumed None = refl
  cut-resumed (Some found) = refl

  cut-call_row : (row : Option BodyRow) (from : ℕ) → cut (transfer.call_row img c row from)
      ≡ transfer.call_row img bare row from
  cut-call_row None from = refl
  cut-call_row (Some row) from =
      cut_if (transfer.call_fits img c row from) (Done (transfer.core_after_call c row from) None)
      (Trapped c trap.Stack)
      (Done (transfer.core_after_call bare row from) None) (Trapped bare trap.Stack) refl refl

  cut-back : (caller : Option (List ℕ)) → cut (transfer.back_to c caller) ≡ transfer.back_to bare caller
  cut-back None = refl
  cut-back (Some slots) = refl

  cut-answer : (asked : Request) → cut (stepping.answer img c asked) ≡ stepping.answer img bare asked
  cut-answer request.Nothing = refl
  cut-answer (request.Emit value) = refl
  cut-answer (request.Post irq) = refl
  cut-answer (request.Clock time) = refl
  cut-answer (request.Alarm instant irq) =
      cut_if (nat_le instant c.time)
      (Done (record (transfer.core_after_pend c irq) { alarm = None }) (Some what.Alarm))
      (Done (record c { alarm = Some (record { instant = instant; irq = irq }) }) (Some what.AlarmSet))
      (Done (record (transfer.core_after_pend bare irq) { alarm = None }) (Some what.Alarm))
      (Done (record bare { alarm = Some (record { instant = instant; irq = irq }) }) (Some what.AlarmSet)) refl refl
  cut-answer request.NoAlarm = refl
  cut-answer (request.Call number from) =
      let row : Option BodyRow = slice_get img.bodies number in
      cut_if (transfer.may_call c) (transfer.call_row img c row from) (Trapped c trap.Stack)
      (transfer.call_row img bare row from) (Trapped bare trap.Stack) (cut-call_row row from) refl
  cut-answer request.Back = cut-back c.caller
  cut-answer request.Return = cut-resumed (interrupted_context c.caller c.below)

plain-noted : (c : Core) (shown : Option What) → plain (stepping.outcome_of_note c shown)
    ≡ plain (stepping.outcome_of_note (with_cells c []) shown)
plain-noted c None = refl
plain-noted c (Some w) = refl

plain-note : (img : Image) (c : Core) (n : Note)
    → plain (stepping.outcome_of_note c (item_of_note img c n)) ≡ plain
    (stepping.outcome_of_note (with_cells c []) (item_of_note img (with_cells c []) n))
plain-note img c (note.Enter s) = refl
plain-note img c (note.Leave s) = refl
plain-note img c (note.Placed t) = refl
plain-note img c (note.Full t) = refl
plain-note img c (note.Ready t) = refl
plain-note img c (note.Start t from) = plain-noted c (option_map (what.Start t)
    (slots_from c from (argument_count img t)))
plain-note img c (note.Free t) = refl
plain-note img c (note.Arm t s) = plain-noted c (option_map (what.Arm t) (slice_get c.processor.slots s))
plain-note img c (note.Fire t) = refl
plain-note img c (note.Cancel t s) = plain-noted c (option_map (what.Cancel t) (slice_get c.processor.slots s))
plain-note img c (note.Move t s a) =
    let slots = c.processor.slots in
    plain-noted c (then_from (slice_get slots s) (λ handle. option_map (what.Move t handle) (slice_get slots a)))
plain-note img c (note.End b) = refl

plain-with_note : (img : Image) (n : Option Note) (o : Outcome) → plain (stepping.with_note img n o)
    ≡ plain (stepping.with_note img n (cut o))
plain-with_note img None (Trapped c t) = refl
plain-with_note img None (Done c shown) = refl
plain-with_note img (Some n) (Trapped c t) = refl
plain-with_note img (Some n) (Done c (Some w)) = refl
plain-with_note img (Some n) (Done c None) = plain-note img c n

-- what follows an effect, with the cells put aside
plain-go_on : (img : Image) (c : Core) (n : Option Note) (e : Effect)
    → plain (stepping.go_on img c n e) ≡ plain (stepping.go_on img (with_cells c []) n (aside e))
plain-go_on img c n (Traps t) = refl
plain-go_on img c n (Leads p asked) =
    let after : Core = record c { processor = p } in
    plain-with_note img n (stepping.answer img after asked)
    ∙ ap (λ o. plain (stepping.with_note img n o)) (cut-answer img after asked)

-- an outcome is plain where it is cut
plain-cut : (o : Outcome) → plain (cut o) ≡ plain o
plain-cut (Trapped c t) = refl
plain-cut (Done c shown) = refl

module _ (img : Image) (c : Core) (cells : List ℕ) (long : length cells ≡ length c.processor.cells) where
  abbrev other : Core
  other = with_cells c cells

  run_alike : (line : Option (Instr × Option Note)) → HaveLoad (access_by_line c line) cells c.processor.cells
      → plain (stepping.run img other line) ≡ plain (stepping.run img c line)
  run_alike None load = refl
  run_alike (Some line) load =
      plain-go_on img other line.1 (effect line.0 c.time (with_memory c.processor cells))
      ∙ ap (λ e. plain (stepping.go_on img (with_cells c []) line.1 e))
      (effect_alike line.0 c.time c.processor cells long load)
      ∙ sym (plain-go_on img c line.1 (effect line.0 c.time c.processor))

  attempt_alike : (taken : Option IrqRow) → HaveLoad (access_by img c taken) cells c.processor.cells
      → plain (stepping.attempt img other taken) ≡ plain (stepping.attempt img c taken)
  attempt_alike (Some row) load =
      sym (plain-cut (transfer.exception_entry img other row.number row.handler))
      ∙ ap plain (cut-enter img other row.number row.handler ∙ sym (cut-enter img c row.number row.handler))
      ∙ plain-cut (transfer.exception_entry img c row.number row.handler)
  attempt_alike None load = run_alike (slice_get img.code c.processor.address) load

  settled_core : (o : Outcome) → with_cells (settle o).0 [] ≡ (settle (plain o)).0
  settled_core (Trapped d t) = refl
  settled_core (Done d shown) = refl

  settled_shown : (o : Outcome) → without_value (settle o).1 ≡ (settle (plain o)).1
  settled_shown (Trapped d t) = refl
  settled_shown (Done d shown) = refl

  core_alike : (stopped : Bool) → HaveLoad (if stopped then None else access_by img c (pick img c)) cells
      c.processor.cells
      → with_cells (step_by img other stopped).0 [] ≡ with_cells (step_by img c stopped).0 []
  core_alike true load = refl
  core_alike false load =
      settled_core (stepping.attempt img other (pick img c)) ∙ ap (λ o. (settle o).0) (attempt_alike (pick img c) load)
      ∙ sym (settled_core (stepping.attempt img c (pick img c)))

  shown_alike : (stopped : Bool) → HaveLoad (if stopped then None else access_by img c (pick img c)) cells
      c.processor.cells
      → without_value (step_by img other stopped).1 ≡ without_value (step_by img c stopped).1
  shown_alike true load = refl
  shown_alike false load =
      settled_shown (stepping.attempt img other (pick img c)) ∙ ap (λ o. (settle o).1) (attempt_alike (pick img c) load)
      ∙ sym (settled_shown (stepping.attempt img c (pick img c)))

  line_touches_alike : (line : Option (Instr × Option Note)) → HaveLoad (access_by_line c line) cells c.processor.cells
      → access_by_line other line ≡ access_by_line c line
  line_touches_alike None load = refl
  line_touches_alike (Some line) load = access_alike line.0 c.time c.processor cells long load

  attempt_touches_alike : (taken : Option IrqRow) → HaveLoad (access_by img c taken) cells c.processor.cells
      → access_by img other taken ≡ access_by img c taken
  attempt_touches_alike (Some row) load = refl
  attempt_touches_alike None load = line_touches_alike (slice_get img.code c.processor.address) load

  touches_alike : (stopped : Bool) → HaveLoad (if stopped then None else access_by img c (pick img c)) cells
      c.processor.cells
      → (if stopped then None else access_by img other (pick img c))
      ≡ (if stopped then None else access_by img c (pick img c))
  touches_alike true load = refl
  touches_alike false load = attempt_touches_alike (pick img c) load

  line_stores_alike : (line : Option (Instr × Option Note)) (k : ℕ) → access_by_line c line ≡ Some (Stores k)
      → slice_get (cells_by_line other line) k ≡ slice_get (cells_by_line c line) k
  line_stores_alike None k h = absurd (cc)
  line_stores_alike (Some line) k h = stores_alike line.0 c.time c.processor cells k long h

  attempt_stores_alike : (taken : Option IrqRow) (k : ℕ) → access_by img c taken ≡ Some (Stores k)
      → slice_get (cells_by img other taken) k ≡ slice_get (cells_by img c taken) k
  attempt_stores_alike (Some row) k h = absurd (cc)
  attempt_stores_alike None k h = line_stores_alike (slice_get img.code c.processor.address) k h

  step_stores_alike : (stopped : Bool) (k : ℕ) → (if stopped then None else access_by img c (pick img c))
      ≡ Some (Stores k)
      → slice_get (step_by img other stopped).0.processor.cells k ≡ slice_get (step_by img c stopped).0.processor.cells
      k
  step_stores_alike true k h = absurd (cc)
  step_stores_alike false k h =
      ap (λ cells. slice_get cells k) (cells_of_step img other) ∙ attempt_stores_alike (pick img c) k h
      ∙ sym (ap (λ cells. slice_get cells k) (cells_of_step img c))

  alike : HaveLoad (if c.stopped then None else access_by img c (pick img c)) cells c.processor.cells
      → StepsAlike img c cells
  unfolding stepping.step
  alike load = record {
    touched = touches_alike c.stopped load;
    core = core_alike c.stopped load;
    stored = step_stores_alike c.stopped;
    shown = shown_alike c.stopped load;
  }

pub depends_on_its_load_alone : DependsOnItsLoadAlone
depends_on_its_load_alone img c cells same = alike img c cells same.long same.load
