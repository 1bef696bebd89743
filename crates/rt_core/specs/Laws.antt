-- What holds of every run of a core.
use Rattle.std.specs.Prelude.{◌≡◌, ℕ, ◌≤◌, List, [], ◌∷◌, ◌++◌, slice_get, true, false, Option, Some, None}
use Rattle.rt_ids.specs.Event.{Event, Arrive, Tick, Step, steps}
use Rattle.rt_code.specs.Effect.{effect}
use Rattle.rt_code.specs.Image.{Image}
use Rattle.rt_code.specs.Runnable.{IsRunnable}
use Rattle.rt_code.specs.declared.image.IrqRow.{IrqRow}
use Rattle.rt_code.specs.declared.instr.Instr.{Instr}
use Rattle.rt_code.specs.declared.instr.Note.{Note}
use Rattle.rt_code.specs.declared.processor.Trap.TheVariants as trap
use Rattle.rt_trace.specs.Label.{Arrived, Ticked, Stepped}
use Rattle.rt_trace.specs.Shown.{shown_events}
use Rattle.rt_core.specs.Core.{Core}
use Rattle.rt_core.specs.Outcome.{Trapped, settle}
use Rattle.rt_core.specs.Priority.{pick}
use Rattle.rt_core.specs.Stepping.{go_on, step}
use Rattle.rt_core.specs.Trace.{tick, happen, core_after, labels, trace, depth_after}
use Rattle.rt_core.specs.Transfer.{core_after_pend, exception_entry}

-- the trace of a list of events shows just these events
abbrev pub ShowsItsEvents : Type 0
ShowsItsEvents = (img : Image) (events : List Event) → shown_events 0 (trace img events) (steps events) ≡ events

-- the stack keeps within its region
abbrev pub KeepsWithinTheRegion : Type 0
KeepsWithinTheRegion = (img : Image) (events : List Event) → IsRunnable img → depth_after img events ≤ img.stack_bytes

-- Events come one after another: what happens at each, the core after them, and what they show.
pub record HappensByEvent : Type 0 where
  pub arrive : (img : Image) (c : Core) (irq : ℕ) → happen img c (Arrive irq)
      ≡ (core_after_pend c irq, Arrived irq ∷ [])
  pub tick : (img : Image) (c : Core) → happen img c Tick ≡ ((tick c).0, Ticked ∷ (tick c).1)
  pub step : (img : Image) (c : Core) → happen img c Step ≡ ((step img c).0, Stepped (step img c).1 ∷ [])
  pub core_none : (img : Image) (c : Core) → core_after img c [] ≡ c
  pub core_more : (img : Image) (c : Core) (e : Event) (events : List Event)
      → core_after img c (e ∷ events) ≡ core_after img (happen img c e).0 events
  pub labels_none : (img : Image) (c : Core) → labels img c [] ≡ []
  pub labels_more : (img : Image) (c : Core) (e : Event) (events : List Event)
      → labels img c (e ∷ events) ≡ (happen img c e).1 ++ labels img (happen img c e).0 events

-- A step by its cause: a stopped core stays; else exception entry, where an interrupt is to be taken; else the line at
-- the code address is done; else there is none, which traps.
pub record StepsByCause : Type 0 where
  pub stopped : (img : Image) (c : Core) → c.stopped ≡ true → step img c ≡ (c, None)
  pub entry : (img : Image) (c : Core) (row : IrqRow) → c.stopped ≡ false → pick img c ≡ Some row
      → step img c ≡ settle (exception_entry img c row.number row.handler)
  pub line : (img : Image) (c : Core) (line : Instr × Option Note) → c.stopped ≡ false → pick img c ≡ None
      → slice_get img.code c.processor.address ≡ Some line
      → step img c ≡ settle (go_on img c line.1 (effect line.0 c.time c.processor))
  pub none : (img : Image) (c : Core) → c.stopped ≡ false → pick img c ≡ None
      → slice_get img.code c.processor.address ≡ None → step img c ≡ settle (Trapped c trap.Jump)
