-- What is pending stays so until its take: an instruction makes no interrupt less pending.
use Rattle.std.proofs.Common.{◌≡◌, ℕ, ◌+◌, nat_le, Bool, true, false, if◌then◌else◌, List, slice_get, Option}
use Rattle.std.proofs.Common.{Some, None, sym, ap, subst, ◌∙◌}
use Rattle.rt_trace.specs.declared.item.What.{What}
use Rattle.rt_code.specs.Effect.{effect}
use Rattle.rt_trace.specs.declared.item.What.TheVariants as what
use Rattle.rt_code.specs.Image.{Image, entry_words}
use Rattle.rt_code.specs.Processor.{Effect, Traps, Leads}
use Rattle.rt_code.specs.Stack as stack
use Rattle.rt_code.specs.declared.image.BodyRow.{BodyRow}
use Rattle.rt_code.specs.declared.image.Handler.{Handler}
use Rattle.rt_code.specs.declared.image.IrqRow.{IrqRow}
use Rattle.rt_code.specs.declared.instr.Instr.{Instr}
use Rattle.rt_code.specs.declared.instr.Note.{Note}
use Rattle.rt_code.specs.declared.processor.Request.{Request}
use Rattle.rt_code.specs.declared.processor.Request.TheVariants as request
use Rattle.rt_code.specs.declared.processor.Trap.TheVariants as trap
use Rattle.rt_core.specs.Core.{Context, Core, depth}
use Rattle.rt_core.specs.Note.{item_of_note}
use Rattle.rt_core.specs.Outcome.{Outcome, Trapped, Done, settle}
use Rattle.rt_core.specs.Priority.{pick}
use Rattle.rt_core.specs.Stepping.{answer, outcome_of_note, with_note, go_on, run, attempt, step}
use Rattle.rt_core.specs.Transfer.{has_room, exception_entry, outcome_of_return, may_call, call_fits}
use Rattle.rt_core.specs.Transfer.{call_row, call, back_to, set_alarm, core_after_pend, core_after_call}
use Rattle.rt_core.specs.Transfer.{core_after_entry}
use Rattle.rt_core.proofs.Happening.{going_steps}
use Rattle.rt_laws.proofs.Pending.{still_set, still_beside}
use Rattle.rt_timely.specs.Waiting.{IsPending}

-- the core that an outcome leaves
abbrev pub left_by : Outcome → Core
left_by (Trapped c t) = c
left_by (Done c shown) = c

-- an outcome leaves pending what was pending
abbrev Keeps : Core → Outcome → Type 0
Keeps c o = (irq : ℕ) → IsPending c irq → IsPending (left_by o) irq

settled : (o : Outcome) (irq : ℕ) → IsPending (left_by o) irq → IsPending (settle o).0 irq
settled (Trapped c t) irq is = is
settled (Done c shown) irq is = is

noted : (img : Image) (c : Core) (told : Option Note) (o : Outcome) → Keeps c o → Keeps c (with_note img told o)
noted img c None o keeps = keeps
noted img c (Some n) (Trapped d t) keeps = keeps
noted img c (Some n) (Done d (Some w)) keeps = keeps
noted img c (Some n) (Done d None) keeps = by (item_of_note img d n)
  where
    by : (o : Option What) → Keeps c (outcome_of_note d o)
    by None = keeps
    by (Some w) = keeps

alarmed : (c : Core) (instant irq : ℕ) → Keeps c (set_alarm c instant irq)
alarmed c instant irq = by (nat_le instant c.time)
  where
    by : (b : Bool)
        → Keeps c (if b then Done (record (core_after_pend c irq) { alarm = None }) (Some what.Alarm)
        else Done (record c { alarm = Some (record { instant = instant; irq = irq }) }) (Some what.AlarmSet))
    by true n is = still_set c.pending irq n is
    by false n is = is

called : (img : Image) (c : Core) (row from : ℕ) → Keeps c (call img c row from)
called img c row from = by (may_call c)
  where
    fits : (r : BodyRow) (b : Bool)
        → Keeps c (if b then Done (core_after_call c r from) None else Trapped c trap.Stack)
    fits r true n is = is
    fits r false n is = is

    rows : (o : Option BodyRow) → Keeps c (call_row img c o from)
    rows None n is = is
    rows (Some r) n is = fits r (call_fits img c r from) n is

    by : (b : Bool) → Keeps c (if b then call_row img c (slice_get img.bodies row) from else Trapped c trap.Stack)
    by true n is = rows (slice_get img.bodies row) n is
    by false n is = is

came_back : (c : Core) (o : Option (List ℕ)) → Keeps c (back_to c o)
came_back c None n is = is
came_back c (Some slots) n is = is

returned : (c : Core) (o : Option (Context × List Context)) → Keeps c (outcome_of_return c o)
returned c None n is = is
returned c (Some found) n is = is

answered : (img : Image) (c : Core) (asked : Request) → Keeps c (answer img c asked)
answered img c request.Nothing n is = is
answered img c (request.Emit value) n is = is
answered img c (request.Post irq) n is = still_set c.pending irq n is
answered img c (request.Clock time) n is = is
answered img c (request.Alarm instant irq) n is = alarmed c instant irq n is
answered img c request.NoAlarm n is = is
answered img c (request.Call row from) n is = called img c row from n is
answered img c request.Back n is = came_back c c.caller n is
answered img c request.Return n is = returned c (stack.interrupted_context c.caller c.below) n is

gone_on : (img : Image) (c : Core) (told : Option Note) (e : Effect) → Keeps c (go_on img c told e)
gone_on img c told (Traps t) n is = is
gone_on img c told (Leads p asked) n is =
    noted img c told (answer img (record c { processor = p }) asked)
    (answered img (record c { processor = p }) asked) n is

ran : (img : Image) (c : Core) (line : Option (Instr × Option Note)) → Keeps c (run img c line)
ran img c None n is = is
ran img c (Some line) n is = gone_on img c line.1 (effect line.0 c.time c.processor) n is

entered : (img : Image) (c : Core) (row : IrqRow) (o : Option Handler) (irq : ℕ) → ¬ (row.number ≡ irq)
    → IsPending c irq → IsPending (left_by (exception_entry img c row.number o)) irq
entered img c row None irq other is = is
entered img c row (Some h) irq other is = by (has_room img c (entry_words img + h.frame))
  where
    by : (b : Bool)
        → IsPending (left_by (if b then Done (core_after_entry c row.number h)
        (Some (what.Take row.number (depth img (core_after_entry c row.number h)))) else Trapped c trap.Stack)) irq
    by true = still_beside c.pending row.number irq false other is
    by false = is

module _ (img : Image) (c : Core) (going : c.stopped ≡ false) (irq : ℕ) where
  by_choice : (o : Option IrqRow) → pick img c ≡ o → IsPending (left_by (attempt img c o)) irq
      → IsPending (step img c).0 irq
  by_choice o picked is =
      subst (λ (r : Core × Option What). IsPending r.0 irq)
      (sym (going_steps img c going ∙ ap (λ p. settle (attempt img c p)) picked))
      (settled (attempt img c o) irq is)

  -- where no interrupt is taken
  pub pending_by_line : pick img c ≡ None → IsPending c irq → IsPending (step img c).0 irq
  pending_by_line picked is = by_choice None picked (ran img c (slice_get img.code c.processor.address) irq is)

  -- and where another is
  pub pending_by_take : (row : IrqRow) → pick img c ≡ Some row → ¬ (row.number ≡ irq) → IsPending c irq
      → IsPending (step img c).0 irq
  pending_by_take row picked other is = by_choice (Some row) picked (entered img c row row.handler irq other is)
