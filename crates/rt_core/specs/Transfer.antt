-- Exception entry and return (ARMv7-M Architecture Reference Manual, sections B1.5.6 and B1.5.8), and calls of bodies
-- and the setting of the alarm, which are this model's own.
use Rattle.std.specs.Prelude.{ℕ, suc, ◌+◌, ◌/◌, Bool, true, false, ◌&&◌, nat_le, if◌then◌else◌, List, ◌∷◌, replicate}
use Rattle.std.specs.Prelude.{slice_get, slice_set, Option, Some, None}
use Rattle.rt_code.specs.Image.{Image, entry_words}
use Rattle.rt_code.specs.declared.image.Handler.{Handler}
use Rattle.rt_code.specs.declared.image.BodyRow.{BodyRow}
use Rattle.rt_code.specs.declared.processor.Trap.TheVariants as trap
use Rattle.rt_code.specs.Stack as stack
use Rattle.rt_trace.specs.declared.item.What.TheVariants as what
use Rattle.rt_core.specs.Core.{Core, Context, stack_in_use, depth}
use Rattle.rt_core.specs.Outcome.{Outcome, Trapped, Done}

-- whether so many words more fit into the stack region
abbrev pub has_room : Image → Core → ℕ → Bool
has_room img c n = stack.has_room (img.stack_bytes / 4) (stack_in_use img c) n

-- an interrupt is pending from now on
abbrev pub core_after_pend : Core → ℕ → Core
core_after_pend c irq = record c { pending = slice_set c.pending irq true }

-- the core after a word has been put into a cell from outside, as a device writes a register that a body reads
abbrev pub core_after_word : Core → ℕ → ℕ → Core
core_after_word c cell word = record c {
  processor = record c.processor { cells = slice_set c.processor.cells cell word };
}

-- the core after exception entry (ARMv7-M Architecture Reference Manual, section B1.5.6)
abbrev pub core_after_entry : Core → ℕ → Handler → Core
core_after_entry c irq h = record c {
  pending = slice_set c.pending irq false;
  processor = record c.processor { address = h.entry; slots = replicate h.frame 0 };
  caller = None;
  below =
      record { irq = irq; value = h.value; address = c.processor.address; slots = c.processor.slots; caller = c.caller }
      ∷ c.below;
}

-- exception entry where there is room for what it pushes and for the frame of the handler, and a trap where there is
-- none
abbrev pub exception_entry : Image → Core → ℕ → Option Handler → Outcome
exception_entry img c irq None = Done c None
exception_entry img c irq (Some h) =
    if has_room img c (entry_words img + h.frame)
    then Done (core_after_entry c irq h) (Some (what.Take irq (depth img (core_after_entry c irq h)))) else Trapped c
    trap.Stack

-- what comes of exception return (section B1.5.8): what was interrupted runs on, or a trap where there is nothing
abbrev pub outcome_of_return : Core → Option (Context × List Context) → Outcome
outcome_of_return c None = Trapped c trap.Stack
outcome_of_return c (Some found) =
    let x = found.0 in
    let after = record c.processor { address = x.address; slots = x.slots } in
    Done (record c { processor = after; caller = x.caller; below = found.1 }) (Some (what.Ret x.irq))

-- exception return from the running handler, or a trap where there is nothing to return to
abbrev pub exception_return : Core → Outcome
exception_return c = outcome_of_return c (stack.interrupted_context c.caller c.below)

-- whether what runs may call a body: it is a handler's own code, whose frame has a slot for the return address
abbrev pub may_call : Core → Bool
may_call c = stack.may_call c.caller c.processor.slots c.below

-- whether the arguments of a body are in the frame, from this slot on, and fit into the body's own, for which there is
-- room
abbrev pub call_fits : Image → Core → BodyRow → ℕ → Bool
call_fits img c row from = stack.arguments_fit c.processor.slots row from && has_room img c row.frame

-- the core after a call: the body runs in a frame of its own, and the caller's frame keeps the next address, to which
-- the body returns
abbrev pub core_after_call : Core → BodyRow → ℕ → Core
core_after_call c row from =
    let caller = stack.caller_frame c.processor.slots (suc c.processor.address) in record c {
      processor = record c.processor { address = row.entry; slots = stack.body_frame caller row from };
      caller = Some caller;
    }

-- a call of the body of this row, or a trap where there is no row or it does not fit
abbrev pub call_row : Image → Core → Option BodyRow → ℕ → Outcome
call_row img c None from = Trapped c trap.Jump
call_row img c (Some row) from =
    if call_fits img c row from then Done (core_after_call c row from) None else Trapped c trap.Stack

-- a call of a body by the number of its row, with its arguments in the slots from one on
abbrev pub call : Image → Core → ℕ → ℕ → Outcome
call img c row from = if may_call c then call_row img c (slice_get img.bodies row) from else Trapped c trap.Stack

-- what comes of a body's return to the frame of its handler; a trap where there is no such frame
abbrev pub back_to : Core → Option (List ℕ) → Outcome
back_to c None = Trapped c trap.Stack
back_to c (Some slots) =
    let after = record c.processor { address = stack.return_address slots; slots = slots } in
    Done (record c { processor = after; caller = None }) None

-- what comes of the end of a called body
abbrev pub back : Core → Outcome
back c = back_to c c.caller

-- setting the alarm to an instant: one that is not later than the time comes at once
abbrev pub set_alarm : Core → ℕ → ℕ → Outcome
set_alarm c instant irq =
    if nat_le instant c.time then Done (record (core_after_pend c irq) { alarm = None }) (Some what.Alarm)
    else Done (record c { alarm = Some (record { instant = instant; irq = irq }) }) (Some what.AlarmSet)
