-- What the next core step touches of memory.
use Rattle.std.specs.Prelude.{if◌then◌else◌, slice_get, Option, Some, None}
use Rattle.rt_code.specs.Image.{Image}
use Rattle.rt_code.specs.Access.{Access, access_of, access_with}
use Rattle.rt_code.specs.Effect.{effect}
use Rattle.rt_code.specs.declared.image.IrqRow.{IrqRow}
use Rattle.rt_code.specs.declared.instr.Instr.{Instr}
use Rattle.rt_code.specs.declared.instr.Note.{Note}
use Rattle.rt_core.specs.Core.{Core}
use Rattle.rt_core.specs.Priority.{pick}

-- the access of the instruction at the code address
abbrev pub access_by_line : Core → Option (Instr × Option Note) → Option Access
access_by_line c None = None
access_by_line c (Some line) = access_with (effect line.0 c.time c.processor) (access_of line.0 c.processor)

-- the access of a core step: none where an interrupt is taken, else that of the instruction at the code address
abbrev pub access_by : Image → Core → Option IrqRow → Option Access
access_by img c (Some row) = None
access_by img c None = access_by_line c (slice_get img.code c.processor.address)

-- The access that the next core step makes: none where the core is stopped, an interrupt is taken, there is no
-- instruction, or it traps.
abbrev pub access : Image → Core → Option Access
access img c = if c.stopped then None else access_by img c (pick img c)
