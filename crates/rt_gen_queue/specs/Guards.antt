-- How code goes into a section and comes out of it, by the section's ceiling and by the preemption threshold of what
-- runs already (Baker, Stack-Based Scheduling of Realtime Processes, 1991; the RTIC 1 book, critical sections). What
-- each kind of section masks is in `Masking` of rt_code; here the kind is chosen, and the line has its note.
use Rattle.std.specs.Prelude.{ℕ, ◌==◌, nat_le, if◌then◌else◌}
use Rattle.rt_ids.specs.Priority.{hardware}
use Rattle.rt_ids.specs.declared.ids.Section.{Section}
use Rattle.rt_app.specs.Tree.{App}
use Rattle.rt_app.specs.Ceiling.{ceiling}
use Rattle.rt_code.specs.Masking.{opening_instr, closing_instr}
use Rattle.rt_code.specs.Owning.{SectionKind, Marked, Raised, Masked}
use Rattle.rt_code.specs.declared.instr.Note.TheVariants as note
use Rattle.rt_gen_queue.specs.Line.{Line, line_with_note}
use Rattle.rt_gen_queue.specs.declared.guard.Guard.{Guard}

-- the guard of a ceiling, where so many bits of priorities are implemented
abbrev pub guard_of_ceiling : ℕ → ℕ → Guard
guard_of_ceiling bits top = record { ceiling = top; value = hardware bits top }

-- the kind of a section at a preemption threshold, with a slot for what the mask was
abbrev pub kind_of : Guard → ℕ → ℕ → SectionKind
kind_of g threshold slot =
    if nat_le g.ceiling threshold then Marked else if g.value == 0 then Masked slot else Raised slot

-- the line that opens a section with this guard at a preemption threshold
abbrev pub enter_line : Section → Guard → ℕ → ℕ → Line
enter_line x g threshold slot = line_with_note (opening_instr g.value (kind_of g threshold slot)) (note.Enter x)

-- the line that closes a section with this guard at a preemption threshold
abbrev pub leave_line : Section → Guard → ℕ → ℕ → Line
leave_line x g threshold slot = line_with_note (closing_instr (kind_of g threshold slot)) (note.Leave x)

module _ (app : App) where
  -- the priority value of a section's ceiling
  abbrev pub ceiling_value : Section → ℕ
  ceiling_value x = hardware app.bits (ceiling app x)

  -- the guard of a section: the priority ceiling and its priority value
  abbrev pub guard_of : Section → Guard
  guard_of x = guard_of_ceiling app.bits (ceiling app x)

  -- the kind of a section of the application at a preemption threshold, with a slot for what the mask was
  abbrev pub kind_at : Section → ℕ → ℕ → SectionKind
  kind_at x threshold slot = kind_of (guard_of x) threshold slot

  -- the line that opens a section of the application at a preemption threshold
  abbrev pub enter : Section → ℕ → ℕ → Line
  enter x threshold slot = enter_line x (guard_of x) threshold slot

  -- the line that closes a section of the application at a preemption threshold
  abbrev pub leave : Section → ℕ → ℕ → Line
  leave x threshold slot = leave_line x (guard_of x) threshold slot
