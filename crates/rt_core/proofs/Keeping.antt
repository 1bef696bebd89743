-- What each outcome keeps: the time, and the cells but for what an instruction stores; and its item is none of an
-- arrival or a tick.
use Rattle.std.proofs.Common.{◌≡◌, ℕ, suc, ◌+◌, Bool, true, false, if◌then◌else◌, List, [], ◌∷◌, Option, Some}
use Rattle.std.proofs.Common.{None, slice_get, option_map, nat_le, refl, ◌∙◌, ap}
use Rattle.rt_ids.specs.Event.{Tick}
use Rattle.rt_ids.specs.Lists.{then_from}
use Rattle.rt_code.specs.Image.{Image, entry_words}
use Rattle.rt_code.specs.Effect.{effect}
use Rattle.rt_code.specs.Processor.{Effect, Traps, Leads}
use Rattle.rt_code.specs.declared.image.IrqRow.{IrqRow}
use Rattle.rt_code.specs.declared.image.Handler.{Handler}
use Rattle.rt_code.specs.declared.image.BodyRow.{BodyRow}
use Rattle.rt_code.specs.declared.instr.Instr.{Instr}
use Rattle.rt_code.specs.declared.instr.Note.{Note}
use Rattle.rt_code.specs.declared.instr.Note.TheVariants as note
use Rattle.rt_code.specs.declared.processor.Request.{Request}
use Rattle.rt_code.specs.declared.processor.Request.TheVariants as request
use Rattle.rt_code.specs.declared.processor.Trap.TheVariants as trap
use Rattle.rt_code.proofs.Touching.{cells_after}
use Rattle.rt_code.specs.Stack.{interrupted_context}
use Rattle.rt_trace.specs.declared.item.What.{What}
use Rattle.rt_trace.specs.declared.item.What.TheVariants as what
use Rattle.rt_trace.specs.Label.{Label, Rang}
use Rattle.rt_trace.specs.Shown.{event_of}
use Rattle.rt_core.specs.declared.alarm.Alarm.{Alarm}
use Rattle.rt_core.specs.Core.{Core, Context, depth}
use Rattle.rt_core.specs.Priority.{pick}
use Rattle.rt_core.specs.Outcome.{Outcome, Trapped, Done, settle}
use Rattle.rt_core.specs.Note.{item_of_note, slots_from}
use Rattle.rt_code.specs.Tables.{argument_count}
use Rattle.rt_core.specs.Stepping as stepping
use Rattle.rt_core.specs.Transfer as transfer
use Rattle.rt_core.specs.Trace.{ring, happen}
use Rattle.rt_core.proofs.Happening.{step_by, step_is}

-- an item of a step
abbrev pub IsOwn : Option What → Type 0
IsOwn None = Unit {0}
IsOwn (Some w) = event_of w ≡ []

abbrev pub Keeps : ℕ → List ℕ → Outcome → Type 0
Keeps time cells (Trapped c trap) = (c.time ≡ time) × (c.processor.cells ≡ cells)
Keeps time cells (Done c shown) = (c.time ≡ time) × (c.processor.cells ≡ cells) × IsOwn shown

keeps_if : (time : ℕ) (cells : List ℕ) (b : Bool) (x y : Outcome) → Keeps time cells x → Keeps time cells y
    → Keeps time cells (if b then x else y)
keeps_if time cells true x y this that = this
keeps_if time cells false x y this that = that

module _ (img : Image) (c : Core) where
  abbrev Own : Outcome → Type 0
  Own o = Keeps c.time c.processor.cells o

  enter_keeps : (irq : ℕ) (h : Option Handler) → Own (transfer.exception_entry img c irq h)
  enter_keeps irq None = (refl, refl, tt)
  enter_keeps irq (Some h) =
      let after : Core = transfer.core_after_entry c irq h in
      keeps_if c.time c.processor.cells (transfer.has_room img c (entry_words img + h.frame))
      (Done after (Some (what.Take irq (depth img after)))) (Trapped c trap.Stack) (refl, refl, refl) (refl, refl)

  resumed_keeps : (found : Option (Context × List Context)) → Own (transfer.outcome_of_return c found)
  resumed_keeps None = (refl, refl)
  resumed_keeps (Some found) = (refl, refl, refl)

  call_row_keeps : (row : Option BodyRow) (from : ℕ) → Own (transfer.call_row img c row from)
  call_row_keeps None from = (refl, refl)
  call_row_keeps (Some row) from =
      keeps_if c.time c.processor.cells (transfer.call_fits img c row from)
      (Done (transfer.core_after_call c row from) None) (Trapped c trap.Stack) (refl, refl, tt) (refl, refl)

  back_keeps : (caller : Option (List ℕ)) → Own (transfer.back_to c caller)
  back_keeps None = (refl, refl)
  back_keeps (Some slots) = (refl, refl, tt)

  alarm_keeps : (instant irq : ℕ) → Own (transfer.set_alarm c instant irq)
  alarm_keeps instant irq =
      keeps_if c.time c.processor.cells (nat_le instant c.time)
      (Done (record (transfer.core_after_pend c irq) { alarm = None }) (Some what.Alarm))
      (Done (record c { alarm = Some (record { instant = instant; irq = irq }) }) (Some what.AlarmSet))
      (refl, refl, refl) (refl, refl, refl)

  pub answer_keeps : (asked : Request) → Own (stepping.answer img c asked)
  answer_keeps request.Nothing = (refl, refl, tt)
  answer_keeps (request.Emit value) = (refl, refl, refl)
  answer_keeps (request.Post irq) = (refl, refl, refl)
  answer_keeps (request.Clock time) = (refl, refl, refl)
  answer_keeps (request.Alarm instant irq) = alarm_keeps instant irq
  answer_keeps request.NoAlarm = (refl, refl, refl)
  answer_keeps (request.Call number from) =
      let row : Option BodyRow = slice_get img.bodies number in
      keeps_if c.time c.processor.cells (transfer.may_call c) (transfer.call_row img c row from) (Trapped c trap.Stack)
      (call_row_keeps row from) (refl, refl)
  answer_keeps request.Back = back_keeps c.caller
  answer_keeps request.Return = resumed_keeps (interrupted_context c.caller c.below)

-- an item of what may not be there, a trap where it is not
told_keeps : {A : Type 0} (time : ℕ) (cells : List ℕ) (c : Core) (make : A → What) (o : Option A)
    → ((x : A) → event_of (make x) ≡ [])
    → c.time ≡ time → c.processor.cells ≡ cells → Keeps time cells (stepping.outcome_of_note c (option_map make o))
told_keeps time cells c make None own h k = (h, k)
told_keeps time cells c make (Some x) own h k = (h, k, own x)

move_keeps : (time : ℕ) (cells : List ℕ) (c : Core) (t : ℕ) (handle instant : Option ℕ)
    → c.time ≡ time → c.processor.cells ≡ cells
    → Keeps time cells (stepping.outcome_of_note c
    (then_from handle (λ handle. option_map (what.Move t handle) instant)))
move_keeps time cells c t None instant h k = (h, k)
move_keeps time cells c t (Some handle) instant h k =
    told_keeps time cells c (what.Move t handle) instant (λ v. refl) h k

noted_keeps : (time : ℕ) (cells : List ℕ) (img : Image) (c : Core) (n : Note) → c.time ≡ time → c.processor.cells
    ≡ cells
    → Keeps time cells (stepping.outcome_of_note c (item_of_note img c n))
noted_keeps time cells img c (note.Start t from) h k =
    told_keeps time cells c (what.Start t) (slots_from c from (argument_count img t)) (λ args. refl) h k
noted_keeps time cells img c (note.Arm t s) h k =
    told_keeps time cells c (what.Arm t) (slice_get c.processor.slots s) (λ instant. refl) h k
noted_keeps time cells img c (note.Cancel t s) h k =
    told_keeps time cells c (what.Cancel t) (slice_get c.processor.slots s) (λ handle. refl) h k
noted_keeps time cells img c (note.Move t s a) h k =
    move_keeps time cells c t (slice_get c.processor.slots s) (slice_get c.processor.slots a) h k
noted_keeps time cells img c (note.Enter s) h k = (h, k, refl)
noted_keeps time cells img c (note.Leave s) h k = (h, k, refl)
noted_keeps time cells img c (note.Placed t) h k = (h, k, refl)
noted_keeps time cells img c (note.Full t) h k = (h, k, refl)
noted_keeps time cells img c (note.Ready t) h k = (h, k, refl)
noted_keeps time cells img c (note.Free t) h k = (h, k, refl)
noted_keeps time cells img c (note.Fire t) h k = (h, k, refl)
noted_keeps time cells img c (note.End b) h k = (h, k, refl)

with_note_keeps : (time : ℕ) (cells : List ℕ) (img : Image) (n : Option Note) (o : Outcome) → Keeps time cells o
    → Keeps time cells (stepping.with_note img n o)
with_note_keeps time cells img None (Trapped c trap) h = h
with_note_keeps time cells img None (Done c shown) h = h
with_note_keeps time cells img (Some n) (Trapped c trap) h = h
with_note_keeps time cells img (Some n) (Done c (Some w)) h = h
with_note_keeps time cells img (Some n) (Done c None) h = noted_keeps time cells img c n h.0 h.1

go_on_keeps : (img : Image) (c : Core) (n : Option Note) (e : Effect)
    → Keeps c.time (cells_after e c.processor.cells) (stepping.go_on img c n e)
go_on_keeps img c n (Traps trap) = (refl, refl)
go_on_keeps img c n (Leads p asked) =
    let after : Core = record c { processor = p } in
    with_note_keeps c.time p.cells img n (stepping.answer img after asked) (answer_keeps img after asked)

-- the cells after an attempt
abbrev pub cells_by_line : Core → Option (Instr × Option Note) → List ℕ
cells_by_line c None = c.processor.cells
cells_by_line c (Some line) = cells_after (effect line.0 c.time c.processor) c.processor.cells

abbrev pub cells_by : Image → Core → Option IrqRow → List ℕ
cells_by img c (Some row) = c.processor.cells
cells_by img c None = cells_by_line c (slice_get img.code c.processor.address)

run_keeps : (img : Image) (c : Core) (line : Option (Instr × Option Note))
    → Keeps c.time (cells_by_line c line) (stepping.run img c line)
run_keeps img c None = (refl, refl)
run_keeps img c (Some line) = go_on_keeps img c line.1 (effect line.0 c.time c.processor)

pub attempt_keeps : (img : Image) (c : Core) (taken : Option IrqRow)
    → Keeps c.time (cells_by img c taken) (stepping.attempt img c taken)
attempt_keeps img c (Some row) = enter_keeps img c row.number row.handler
attempt_keeps img c None = run_keeps img c (slice_get img.code c.processor.address)

settled_cells : (time : ℕ) (cells : List ℕ) (o : Outcome) → Keeps time cells o → (settle o).0.processor.cells ≡ cells
settled_cells time cells (Trapped c trap) h = h.1
settled_cells time cells (Done c shown) h = h.1

settled_time : (time : ℕ) (cells : List ℕ) (o : Outcome) → Keeps time cells o → (settle o).0.time ≡ time
settled_time time cells (Trapped c trap) h = h.0
settled_time time cells (Done c shown) h = h.0

settled_own : (time : ℕ) (cells : List ℕ) (o : Outcome) → Keeps time cells o → IsOwn (settle o).1
settled_own time cells (Trapped c trap) h = refl
settled_own time cells (Done c shown) h = h.2

pub cells_of_step : (img : Image) (c : Core) → (step_by img c false).0.processor.cells ≡ cells_by img c (pick img c)
cells_of_step img c =
    settled_cells c.time (cells_by img c (pick img c)) (stepping.attempt img c (pick img c))
    (attempt_keeps img c (pick img c))

step_by_keeps_time : (img : Image) (c : Core) (stopped : Bool) → (step_by img c stopped).0.time ≡ c.time
step_by_keeps_time img c true = refl
step_by_keeps_time img c false =
    settled_time c.time (cells_by img c (pick img c)) (stepping.attempt img c (pick img c))
    (attempt_keeps img c (pick img c))

pub step_keeps_time : (img : Image) (c : Core) → (stepping.step img c).0.time ≡ c.time
step_keeps_time img c = ap (λ (s : Core × Option What). s.0.time) (step_is img c) ∙ step_by_keeps_time img c c.stopped

step_by_is_own : (img : Image) (c : Core) (stopped : Bool) → IsOwn (step_by img c stopped).1
step_by_is_own img c true = tt
step_by_is_own img c false =
    settled_own c.time (cells_by img c (pick img c)) (stepping.attempt img c (pick img c))
    (attempt_keeps img c (pick img c))

-- the item of a step is none of an arrival or a tick
pub step_is_own : (img : Image) (c : Core) → IsOwn (stepping.step img c).1
unfolding stepping.step
step_is_own img c = step_by_is_own img c c.stopped

time-ring : (c : Core) (alarm : Option Alarm) → (ring c alarm).0.time ≡ c.time
time-ring c None = refl
time-ring c (Some alarm) =
    let rung : Core × List Label = (record (transfer.core_after_pend c alarm.irq) { alarm = None }, Rang ∷ []) in
    let left : Core × List Label = (c, []) in
    elim (nat_le alarm.instant c.time) as (λ b. (if◌then◌else◌ {A = Core × List Label} b rung left).0.time ≡ c.time)
    [ true ↦ refl | false ↦ refl ]

pub tick_adds_one : (img : Image) (c : Core) → (happen img c Tick).0.time ≡ suc c.time
unfolding happen
tick_adds_one img c = time-ring (record c { time = suc c.time }) c.alarm
