-- What the code says of the outcome of a step.
use Rattle.std.specs.Prelude.{◌≡◌, ℕ, Result, Ok, Err, Option, Some, None, slice_get}
use Rattle.rt_code.specs.Image.{Image}
use Rattle.rt_code.specs.Processor.{Processor, Effect, Traps, Leads}
use Rattle.rt_code.specs.declared.instr.Instr.{Instr}
use Rattle.rt_code.specs.declared.instr.Note.{Note}
use Rattle.rt_code.specs.declared.processor.Request.{Request}
use Rattle.rt_code.specs.declared.processor.Trap.{Trap}
use Rattle.rt_trace.specs.declared.item.What.{What}
use Rattle.rt_core.specs.Core.{Core}
use Rattle.rt_core.specs.Outcome.{Outcome, Trapped, Done}

-- what the code answers, with the core that it leaves, is this outcome
abbrev pub IsOutcome : Result (Option What) Trap → Core → Outcome → Type 0
IsOutcome (Ok shown) after outcome = outcome ≡ Done after shown
IsOutcome (Err trap) after outcome = outcome ≡ Trapped after trap

-- the effect of an instruction that answered this, and left the processor so
abbrev pub effect_of : Processor → Result Request Trap → Effect
effect_of after (Ok asked) = Leads after asked
effect_of after (Err trap) = Traps trap

-- the note of a line
abbrev pub note_of : Option (Instr × Option Note) → Option Note
note_of None = None
note_of (Some line) = line.1

-- the note on the instruction at a code address
abbrev pub note_at : Image → ℕ → Option Note
note_at img address = note_of (slice_get img.code address)
