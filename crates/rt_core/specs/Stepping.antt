-- What a core step does: exception entry, or one instruction, with exception return (ARMv7-M Architecture Reference
-- Manual, sections B1.5.6 to B1.5.8) and calls of bodies, which are this model's own.
use Rattle.std.specs.Prelude.{if◌then◌else◌, slice_get, Option, Some, None}
use Rattle.rt_code.specs.Image.{Image}
use Rattle.rt_code.specs.Effect.{effect}
use Rattle.rt_code.specs.Processor.{Effect, Traps, Leads}
use Rattle.rt_code.specs.declared.image.IrqRow.{IrqRow}
use Rattle.rt_code.specs.declared.instr.Instr.{Instr}
use Rattle.rt_code.specs.declared.instr.Note.{Note}
use Rattle.rt_code.specs.declared.processor.Request.{Request}
use Rattle.rt_code.specs.declared.processor.Request.TheVariants as request
use Rattle.rt_code.specs.declared.processor.Trap.TheVariants as trap
use Rattle.rt_trace.specs.declared.item.What.{What}
use Rattle.rt_trace.specs.declared.item.What.TheVariants as what
use Rattle.rt_core.specs.Core.{Core}
use Rattle.rt_core.specs.Priority.{pick}
use Rattle.rt_core.specs.Transfer.{core_after_pend, exception_entry, exception_return, call, back, set_alarm}
use Rattle.rt_core.specs.Outcome.{Outcome, Trapped, Done, settle}
use Rattle.rt_core.specs.Note.{item_of_note}

-- what comes of what an instruction asks of the core
abbrev pub answer : Image → Core → Request → Outcome
answer img c request.Nothing = Done c None
answer img c (request.Emit value) = Done c (Some (what.Emit value))
answer img c (request.Post irq) = Done (core_after_pend c irq) (Some (what.Post irq))
answer img c (request.Clock time) = Done c (Some (what.Clock time))
answer img c (request.Alarm instant irq) = set_alarm c instant irq
answer img c request.NoAlarm = Done (record c { alarm = None }) (Some what.AlarmSet)
answer img c (request.Call row from) = call img c row from
answer img c request.Back = back c
answer img c request.Return = exception_return c

-- the item of a note, or a trap where there is none
abbrev pub outcome_of_note : Core → Option What → Outcome
outcome_of_note c None = Trapped c trap.Stack
outcome_of_note c (Some w) = Done c (Some w)

-- a note is read where the instruction gives no item itself
abbrev pub with_note : Image → Option Note → Outcome → Outcome
with_note img (Some n) (Done c None) = outcome_of_note c (item_of_note img c n)
with_note img n outcome = outcome

-- what comes of an instruction with its note, from its effect
abbrev pub go_on : Image → Core → Option Note → Effect → Outcome
go_on img c n (Traps t) = Trapped c t
go_on img c n (Leads p asked) = with_note img n (answer img (record c { processor = p }) asked)

-- what comes of the line at the code address; where there is none, a trap
abbrev pub run : Image → Core → Option (Instr × Option Note) → Outcome
run img c None = Trapped c trap.Jump
run img c (Some line) = go_on img c line.1 (effect line.0 c.time c.processor)

-- what comes of a core step: the entry of this interrupt, or the instruction at the code address where none is taken
abbrev pub attempt : Image → Core → Option IrqRow → Outcome
attempt img c (Some row) = exception_entry img c row.number row.handler
attempt img c None = run img c (slice_get img.code c.processor.address)

-- a core step, and the item that it gives; a stopped core is silent
unfoldable pub step : Image → Core → Core × Option What
step img c = if c.stopped then (c, None) else settle (attempt img c (pick img c))
