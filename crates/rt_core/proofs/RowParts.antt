-- Short forms for the worked examples.
use Rattle.std.proofs.Common.{ℕ, List, Option, Some, None, replicate}
use Rattle.rt_ids.specs.Event.{Event, Step}
use Rattle.rt_code.specs.declared.image.IrqRow.{IrqRow}
use Rattle.rt_code.specs.declared.instr.Instr.{Instr}
use Rattle.rt_code.specs.declared.instr.Note.{Note}
use Rattle.rt_trace.specs.declared.item.Item.{Item}
use Rattle.rt_trace.specs.declared.item.What.{What}

-- a declared interrupt that is enabled: its name and number, and of its handler the priority value, the entry and the
-- frame
abbrev pub enabled : List ℕ → ℕ → ℕ → ℕ → ℕ → IrqRow
enabled name number value entry frame =
    record { name = name; number = number; handler = Some (record { value = value; entry = entry; frame = frame }) }

-- an instruction without a note, and one with a note
abbrev pub plain : Instr → Instr × Option Note
plain i = (i, None)

abbrev pub noted : Instr → Note → Instr × Option Note
noted i n = (i, Some n)

-- so many core steps
abbrev pub core_steps : ℕ → List Event
core_steps n = replicate n Step

-- an item after so many core steps
abbrev pub at : ℕ → What → Item
at n w = record { step = n; what = w }
