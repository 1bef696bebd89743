-- Which notes are on instructions of their own, and what an instruction leads to from where a job is. Notes are this
-- project's own.
use Rattle.std.specs.Prelude.{◌≡◌, ℕ, ◌^◌, ◌<◌, Bool, true, false, Option, Some}
use Rattle.rt_code.specs.Effect.{effect}
use Rattle.rt_code.specs.Owning.{Configuration}
use Rattle.rt_code.specs.Processor.{Processor, Leads}
use Rattle.rt_code.specs.Standing.{processor_of}
use Rattle.rt_code.specs.declared.instr.Instr.{Instr}
use Rattle.rt_code.specs.declared.instr.Note.{Note}
use Rattle.rt_code.specs.declared.instr.Note.TheVariants as note
use Rattle.rt_code.specs.declared.processor.Request.{Request}

-- whether a note is a section's
abbrev pub is_of_section : Option Note → Bool
is_of_section (Some (note.Enter x)) = true
is_of_section (Some (note.Leave x)) = true
is_of_section told = false

-- whether an instruction has no note, or one that is neither a section's nor an end's
abbrev pub is_plain : Option Note → Bool
is_plain (Some (note.Enter x)) = false
is_plain (Some (note.Leave x)) = false
is_plain (Some (note.End b)) = false
is_plain told = true

-- with these masks, at a time below 2^31, an instruction leads from where a job is to this processor, and asks this of
-- the core
abbrev pub LeadsTo : Configuration → Instr → ℕ → ℕ → Bool → Processor → Request → Type 0
LeadsTo s i time basepri primask p asked =
    (time < 2 ^ 31) × (effect i time (processor_of s basepri primask) ≡ Leads p asked)
