-- What an image does at each moment of its runs that its machine code stands on, where the model has no rule for it, or
-- a trap. Every image of `build` does it. It is said of the model alone: of cores, and of no processor.
use Rattle.std.specs.Prelude.{◌≡◌, ℕ, ◌+◌, ◌%◌, ◌^◌, ◌<◌, ◌≤◌, Bool, true, false, List, [], ◌∷◌, length, Option, Some}
use Rattle.std.specs.Prelude.{None}
use Rattle.std.specs.Prelude.{slice_get, IfSome, ⊤}
use Rattle.std.specs.List.{AllByRecursion}
use Rattle.rt_ids.specs.declared.limits.TheConstants.{IRQ_NUMBERS}
use Rattle.rt_code.specs.Image.{Image}
use Rattle.rt_code.specs.Stack.{words_of}
use Rattle.rt_code.specs.declared.image.BodyRow.{BodyRow}
use Rattle.rt_code.specs.declared.image.IrqRow.{IrqRow}
use Rattle.rt_code.specs.declared.instr.Instr.{Instr}
use Rattle.rt_code.specs.declared.instr.Instr.TheVariants as instr
use Rattle.rt_code.specs.declared.instr.Note.{Note}
use Rattle.rt_core.specs.Core.{Core}
use Rattle.rt_core.specs.Priority.{execution, running_value, pick, base_value}
use Rattle.rt_core.specs.Stepping.{step}
use Rattle.rt_native.specs.Frames.{handler_words, body_words}
use Rattle.rt_native.specs.Sequences.{RETURN_SLOT}
use Rattle.rt_native.specs.Service.{timer_irq}
use Rattle.rt_native.specs.declared.target.Input.{Input}
use Rattle.rt_native_laws.specs.Moments.{Moment, Taking, Happening, at_reset, moment_after_all, AllCanHappen}

-- The alarm is touched at a priority that holds off all others who touch it, and its own interrupt: they have ceilings
-- in common, as the sections of one resource do (Baker, Stack-Based Scheduling of Realtime Processes, 1991). A ceiling
-- is a priority value; whoever touches the alarm has no higher priority of its own.
pub record IsAtCeiling (ceiling : ℕ) (c : Core) : Type 0 where
  pub holds_off : execution c ≤ ceiling
  pub own : ceiling ≤ running_value c.below

-- the interrupt that alarms pend has one row at most that is enabled, whose priority is no higher than the ceiling
abbrev pub IsHeldOff : ℕ → ℕ → List IrqRow → Type 0
IsHeldOff ceiling irq rows =
    AllByRecursion (λ row. row.number ≡ irq → IfSome row.handler (λ h. ceiling ≤ h.value)) rows

-- an alarm pends the one interrupt that ticks pend too
pub record SetsTheAlarm (img : Image) (ceiling irq : ℕ) (c : Core) : Type 0 where
  pub timer : timer_irq img.code ≡ Some irq
  pub number : irq < IRQ_NUMBERS
  pub held_off : IsHeldOff ceiling irq img.irqs
  pub at_ceiling : IsAtCeiling ceiling c

-- A body is called from a frame of sixteen words, the last of which takes the return address, with the arguments before
-- it.
pub record CallsWell (body : BodyRow) (from : ℕ) (c : Core) : Type 0 where
  pub frame : length c.processor.slots ≡ RETURN_SLOT + 1
  pub few : body.args ≤ 4
  pub arguments : (k : ℕ) → k < body.args → from + k < RETURN_SLOT
  pub slot : from + 4 < 2 ^ 32

-- A body ends where its part of the code does, in the frame of its row, and goes back to one of sixteen words.
pub record ComesBackWell (img : Image) (c : Core) : Type 0 where
  pub frame : body_words img.bodies c.processor.address ≡ length c.processor.slots
  pub caller : length (words_of c.caller) ≡ RETURN_SLOT + 1

-- BASEPRI is as at the last taking
abbrev pub IsAsTaken : ℕ → List Taking → Type 0
IsAsTaken base_priority [] = ⊥
IsAsTaken base_priority (x ∷ takings) = base_priority ≡ x.base_priority

-- A handler ends where its part of the code does, in the frame of its row, with the masks as it found them: PRIMASK was
-- 0 then, else it had not been taken.
pub record ReturnsWell (img : Image) (s : Moment) : Type 0 where
  pub frame : handler_words img.irqs s.core.processor.address ≡ length s.core.processor.slots
  pub base_priority : IsAsTaken s.core.processor.basepri s.takings
  pub primask : s.core.processor.primask ≡ false

-- an instruction, where it is what is executed next
module _ (img : Image) (ceiling : ℕ) (s : Moment) where
  -- by its kind
  abbrev pub GoesWell : Instr → Type 0
  -- BASEPRI is raised to a priority that is no lower; as a value, no greater, where 0 stands for none
  GoesWell (instr.Raise d v) = base_value v ≤ base_value s.core.processor.basepri
  GoesWell (instr.Post irq) = irq < 2 ^ 9
  GoesWell (instr.Alarm slot irq) = SetsTheAlarm img ceiling irq s.core
  GoesWell instr.NoAlarm = IsAtCeiling ceiling s.core
  GoesWell (instr.Call row from) =
      (body : BodyRow) → slice_get img.bodies row ≡ Some body → CallsWell body from s.core
  GoesWell instr.Back = ComesBackWell img s.core
  GoesWell instr.Ret = ReturnsWell img s
  GoesWell i = ⊤

  -- At a moment no trap has come, and the next step is none; BASEPRI has eight bits then; frames have an even number of
  -- words; and where no interrupt is taken next the instruction that is executed goes well.
  pub record IsGood : Type 0 where
    pub goes : s.core.stopped ≡ false
    pub no_trap : (step img s.core).0.stopped ≡ false
    pub base_priority : (step img s.core).0.processor.basepri < 2 ^ 8
    pub frames : (length s.core.processor.slots + length (words_of s.core.caller)) % 2 ≡ 0
    pub instruction : (i : Instr) (note : Option Note)
        → slice_get img.code s.core.processor.address ≡ Some (i, note) → pick img s.core ≡ None → GoesWell i

-- each frame has an even number of words, so that SP is a multiple of 8 (ARMv7-M Architecture Reference Manual, section
-- B1.5.7)
pub record HasEvenFrames (img : Image) : Type 0 where
  pub thread : img.thread_words % 2 ≡ 0
  pub handlers : AllByRecursion (λ row. IfSome row.handler (λ h. h.frame % 2 ≡ 0)) img.irqs
  pub bodies : AllByRecursion (λ body. body.frame % 2 ≡ 0) img.bodies

-- From a moment on each moment is good, as long as what happens fits, as the counts of the image's monotonic have to.
abbrev pub StaysGood : Image → List Input → ℕ → (List Happening → Bool) → Moment → Type 0
StaysGood img inputs ceiling fits s =
    (happened : List Happening) → AllCanHappen img inputs s happened → fits happened ≡ true
    → IsGood img ceiling (moment_after_all img s happened)

-- An image behaves well beside devices with these inputs: from reset on each moment is good.
pub record BehavesWell (img : Image) (inputs : List Input) (fits : List Happening → Bool) : Type 0 where
  pub frames : HasEvenFrames img
  pub ceiling : ℕ
  pub moments : StaysGood img inputs ceiling fits (at_reset img)
