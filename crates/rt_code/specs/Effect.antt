-- What one instruction does. The instructions are this model's own; `raise`, `restore`, `mask`, `unmask` and `serve` do
-- what MSR and CPS do to BASEPRI and PRIMASK (ARMv7-M Architecture Reference Manual, sections B5.2.1 and B5.2.3),
-- effective as the instruction ends. Two differences: BASEPRI takes the whole word, where MSR keeps the implemented
-- bits of its lowest byte; and `unmask` traps at a word above 1, where MSR takes its lowest bit. A table of cells and
-- slots that are touched, and a table of effects; the code tests slot by slot.
use Rattle.std.specs.Prelude.{ℕ, suc, ◌+◌, ◌==◌, true, false, not, nat_le, if◌then◌else◌, slice_index, slice_set}
use Rattle.rt_ids.specs.Operation.{operate, number_of}
use Rattle.rt_code.specs.Access.{cells_of}
use Rattle.rt_code.specs.Operands.{slots_of, are_there}
use Rattle.rt_code.specs.Processor.{Processor, Effect, Traps, Leads}
use Rattle.rt_code.specs.declared.instr.Instr.{Instr}
use Rattle.rt_code.specs.declared.instr.Instr.TheVariants as instr
use Rattle.rt_code.specs.declared.processor.Request.TheVariants as request
use Rattle.rt_code.specs.declared.processor.Trap.TheVariants as trap

-- what a slot of the frame holds
abbrev pub slot : Processor → ℕ → ℕ
slot p s = slice_index p.slots s

-- on to the next address
abbrev pub next : Processor → Processor
next p = record p { address = suc p.address }

-- on to the next address, with a slot written
abbrev pub next_with_slot : Processor → ℕ → ℕ → Processor
next_with_slot p d v = record (next p) { slots = slice_set p.slots d v }

-- on to the next address, with a cell written
abbrev pub next_with_cell : Processor → ℕ → ℕ → Processor
next_with_cell p c v = record (next p) { cells = slice_set p.cells c v }

-- the effect of `unmask`: PRIMASK becomes 0 or 1; any other value traps
abbrev pub unmask : Processor → ℕ → Effect
unmask p value =
    if nat_le value 1 then Leads (record (next p) { primask = value == 1 }) request.Nothing else Traps trap.Stack

-- What an instruction does at a time, where its cells and slots are there. A computed cell, C + slot S, has a number
-- that is a sum and does not wrap.
abbrev pub unchecked_effect : Instr → ℕ → Processor → Effect
unchecked_effect (instr.Set d v) time p = Leads (next_with_slot p d v) request.Nothing
unchecked_effect (instr.Copy d s) time p = Leads (next_with_slot p d (slot p s)) request.Nothing
unchecked_effect (instr.Calc op d a b) time p = Leads (next_with_slot p d (operate op (slot p a) (slot p b)))
    request.Nothing
unchecked_effect (instr.Load d c) time p = Leads (next_with_slot p d (slice_index p.cells c)) request.Nothing
unchecked_effect (instr.Store c s) time p = Leads (next_with_cell p c (slot p s)) request.Nothing
unchecked_effect (instr.LoadAt d c s) time p = Leads (next_with_slot p d (slice_index p.cells (c + slot p s)))
    request.Nothing
unchecked_effect (instr.StoreAt c s a) time p = Leads (next_with_cell p (c + slot p s) (slot p a)) request.Nothing
unchecked_effect (instr.Jump l) time p = Leads (record p { address = l }) request.Nothing
unchecked_effect (instr.JumpZ s l) time p = Leads (if slot p s == 0 then record p { address = l } else next p)
    request.Nothing
unchecked_effect (instr.Emit s) time p = Leads (next p) (request.Emit (slot p s))
unchecked_effect (instr.Post irq) time p = Leads (next p) (request.Post irq)
unchecked_effect (instr.Clock d) time p = Leads (next_with_slot p d time) (request.Clock time)
unchecked_effect (instr.Alarm s irq) time p = Leads (next p) (request.Alarm (slot p s) irq)
unchecked_effect instr.NoAlarm time p = Leads (next p) request.NoAlarm
unchecked_effect (instr.Raise d v) time p = Leads (record (next_with_slot p d p.basepri) { basepri = v })
    request.Nothing
unchecked_effect (instr.Restore s) time p = Leads (record (next p) { basepri = slot p s }) request.Nothing
unchecked_effect (instr.Mask d) time p = Leads (record (next_with_slot p d (number_of p.primask)) { primask = true })
    request.Nothing
unchecked_effect (instr.Unmask s) time p = unmask p (slot p s)
unchecked_effect instr.Mark time p = Leads (next p) request.Nothing
unchecked_effect instr.Serve time p = Leads (record (next p) { primask = false }) request.Nothing
unchecked_effect instr.Wait time p = Leads p request.Nothing
unchecked_effect (instr.Call row s) time p = Leads p (request.Call row s)
unchecked_effect instr.Back time p = Leads p request.Back
unchecked_effect instr.Ret time p = Leads p request.Return

-- the effect of one instruction: of several traps the lowest number
abbrev pub effect : Instr → ℕ → Processor → Effect
effect i time p =
    if not (are_there (cells_of i p) p.cells) then Traps trap.Address
    else if not (are_there (slots_of i) p.slots) then Traps trap.Stack
    else unchecked_effect i time p
