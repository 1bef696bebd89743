-- When the processor is where a moment of the image is: what runs is in a phase, the jobs that it interrupted wait in
-- theirs, and both have the same interrupts and priorities. It is the invariant of the simulation: at each event of the
-- processor something happens to the image, or nothing, after which it is so again.
use Rattle.std.specs.Prelude.{◌≡◌, ◌≢◌, ℕ, ◌+◌, ◌-◌, ◌*◌, ◌%◌, ◌^◌, ◌<◌, ◌≤◌, ◌⊎◌, Bool, true, List, [], ◌++◌, length}
use Rattle.std.specs.Prelude.{reverse}
use Rattle.std.specs.Prelude.{flat_map, slice_index, Option, Some, None, IfSome, ⊤}
use Rattle.std.specs.List.{AllByRecursion}
use Rattle.rt_ids.specs.Event.{Arrive}
use Rattle.rt_ids.specs.declared.limits.TheConstants.{IRQ_NUMBERS}
use Rattle.rt_code.specs.Image.{Image}
use Rattle.rt_code.specs.Stack.{words_of}
use Rattle.rt_code.specs.declared.image.Handler.{Handler}
use Rattle.rt_code.specs.declared.image.IrqRow.{IrqRow}
use Rattle.rt_code.specs.declared.instr.Instr.TheVariants as instr
use Rattle.rt_core.specs.Core.{Context, Core}
use Rattle.rt_core.specs.Priority.{pick}
use Rattle.rt_core.specs.declared.alarm.Alarm.{Alarm}
use Rattle.rt_native.specs.Layout.{TICK_BYTES, flash_end, outside, places, stack_top, stub_places}
use Rattle.rt_native.specs.Program.{vectors}
use Rattle.rt_native.specs.Service.{timer_irq}
use Rattle.rt_native.specs.Target.{Target}
use Rattle.rt_native.specs.declared.target.Region.{Region}
use Rattle.rt_native_laws.specs.Behaving.{HasEvenFrames, IsHeldOff, StaysGood}
use Rattle.rt_native_laws.specs.Devices.{CanChange}
use Rattle.rt_native_laws.specs.Functions.{FlashIsApart}
use Rattle.rt_native_laws.specs.Going.{HasCode}
use Rattle.rt_native_laws.specs.InTail.{Debt, paid}
use Rattle.rt_native_laws.specs.Moments.{AllCanHappen, Comes, Happening, Moment, instruction_at, moment_after}
use Rattle.rt_native_laws.specs.Moments.{moment_after_all, shown}
use Rattle.rt_native_laws.specs.Phases.{AlreadyDone, Phase, tail_of, FunctionCall, call_of, viewed}
use Rattle.rt_native_laws.specs.Simulating.{AreFromRegisters, arrivals_of, compared, seen_of_label, stack_bottom}
use Rattle.rt_native_laws.specs.Simulating.{IsFitFor}
use Rattle.rt_native_laws.specs.InCall.{AtBranch, Within}
use Rattle.rt_native_laws.specs.Linked.{LiesLinked}
use Rattle.rt_native_laws.specs.Standing.{HoldsWords, IsLaidOut}
use Rattle.rt_native_laws.specs.Waiting.{FunctionCalls, IsFresh, Waiting, others_tail}
use Rattle.rt_priorities.specs.Agreeing.{AgreesWith}
use Rattle.rt_thumb.specs.Exceptions.{entered, external, priority_of, systick}
use Rattle.rt_thumb.specs.Machine.{Machine, with_word}
use Rattle.rt_thumb.specs.Step.{Program, executed, pended}
use Rattle.rt_thumb.specs.declared.instruction.Instruction.TheVariants as instruction

-- a frame, with that of a handler that called, has an even number of words
abbrev pub IsEvenFrame : Option (List ℕ) → List ℕ → Type 0
IsEvenFrame caller slots = (length slots + length (words_of caller)) % 2 ≡ 0

-- an alarm's instant is a word, and it is of the interrupt that ticks pend
abbrev pub IsAlarmOf : Image → Option Alarm → Type 0
IsAlarmOf img alarm =
    IfSome alarm (λ a. (a.instant < 2 ^ 32) × (timer_irq img.code ≡ Some a.irq) × (a.irq < IRQ_NUMBERS))

-- an alarm is of that interrupt, and a ceiling holds it off
abbrev pub IsOfTimer : Image → ℕ → Debt → Type 0
IsOfTimer img ceiling t =
    IsHeldOff ceiling t.irq img.irqs × (timer_irq img.code ≡ Some t.irq) × (t.irq < IRQ_NUMBERS)

-- the frames of jobs that were interrupted have an even number of words
abbrev pub AreEvenBelow : List Context → Type 0
AreEvenBelow below = AllByRecursion (λ x. IsEvenFrame x.caller x.slots) below

-- the calls of functions: of which interrupts, and the state at which that of each exception was called, where it is
-- under way
abbrev pub calls_of : Target → (ℕ → Option Machine) → FunctionCalls
calls_of target called = record { irqs = target.calls; under_way = called }

module _ (img : Image) (target : Target) (p : Program) where
  -- the lowest address of the image's own stack
  abbrev pub lowest : ℕ
  lowest = stack_bottom img target p

  -- the part of flash that the program takes
  abbrev pub program_flash : Region
  program_flash =
      record { address = target.flash.address; size = flash_end img target - target.flash.address }

  -- what no event changes: the program's code is there, and memory is laid out
  pub record IsInPlace : Type 0 where
    pub image : IsFitFor img target p
    pub has : HasCode (outside img target) img (places img target) p
    pub laid : IsLaidOut (outside img target) lowest (length img.cells)
    pub reach : stack_top img target ≡ lowest + img.stack_bytes
    pub entrances : (k : ℕ) → slice_index (stub_places img target) k < 0xE0000000
    pub apart : (k : ℕ) → k < length (vectors img target)
        → (target.flash.address + 4 * k + 4 + TICK_BYTES ≤ lowest)
        ⊎ ((outside img target).time + 8 ≤ target.flash.address + 4 * k)
    pub table : (k : ℕ) → k < length (vectors img target)
        → target.flash.address + 4 * k + 4 ≤ target.flash.address + program_flash.size
    pub flash : FlashIsApart (outside img target) lowest program_flash

  -- The processor is where a moment of the image is. It stands for the moment's core; or, while a job is in the tail of
  -- an alarm, for one before what is owed is paid. That alarm's interrupt is the one that alarms pend, and its ceiling
  -- holds it off. The function of C that is under way for an exception was called
  -- at a state.
  pub record IsWhere (ceiling : ℕ) (called : ℕ → Option Machine) (s : Moment) (m : Machine) : Type 0 where
    pub tail : Option Debt
    pub of_timer : IfSome tail (IsOfTimer img ceiling)
    pub unpaid : Core
    pub owed : s.core ≡ paid tail unpaid
    pub top : ℕ
    pub phase : Phase (outside img target) lowest img (places img target) p unpaid top m
    pub fresh : IsFresh (outside img target) lowest (stack_top img target) ceiling target.inputs
        (calls_of target called) img
        (places img target) p tail s.last unpaid top m phase
    pub waiting : Waiting (outside img target) lowest (stack_top img target) ceiling target.inputs
        (calls_of target called) img
        (places img target) p
        (others_tail (tail_of (outside img target) lowest img (places img target) p unpaid top m phase) tail) s.takings
        unpaid.below unpaid top (viewed (outside img target) lowest img (places img target) p unpaid top m phase)
    pub agrees : AgreesWith img unpaid m
    pub words : HoldsWords m
    pub placed : (m.address % 2 ≡ 0) × (m.address < 2 ^ 32)
    pub loaded : LiesLinked img target p m
    pub tick : priority_of m systick ≡ 0
    pub requests : length unpaid.pending ≡ IRQ_NUMBERS
    pub alarm : IsAlarmOf img unpaid.alarm
    pub cells : length unpaid.processor.cells ≡ length img.cells
    pub frames : AreEvenBelow unpaid.below

  -- Marks have no code, so none is next where the code of the instruction before it is done: the image does a mark as
  -- soon as it comes to it, but for an interrupt that is taken first.
  abbrev pub IsPastMarks : (c : Core) (top : ℕ) (m : Machine)
      → Phase (outside img target) lowest img (places img target) p c top m → Type 0
  IsPastMarks c top m (AlreadyDone x) = pick img c ≡ None → instruction_at img c ≡ Some instr.Mark → ⊥
  IsPastMarks c top m phase = ⊤

  -- the processor is where a moment of the image is, and the image has done its marks
  pub record Related (ceiling : ℕ) (called : ℕ → Option Machine) (s : Moment) (m : Machine) : Type 0 where
    pub here : IsWhere ceiling called s m
    pub marks : IsPastMarks here.unpaid here.top m here.phase

  -- Things happen to the image, none of which a device asks for: what others see of it the processor has shown, and
  -- then it is where the image is, with its marks done.
  pub record LeadsOn (ceiling : ℕ) (called : ℕ → Option Machine) (fits : List Happening
      → Bool) (s : Moment) (m n : Machine)
      : Type 0 where
    pub happened : List Happening
    pub can : AllCanHappen img target.inputs s happened
    pub arrivals : flat_map arrivals_of happened ≡ []
    pub few : length happened ≤ length img.code + 2
    pub words : AreFromRegisters img p m s happened
    pub seen : compared (timer_irq img.code) n.seen
        ≡ compared (timer_irq img.code) (reverse (flat_map seen_of_label (shown img s happened)) ++ m.seen)
    pub ticks : n.is_pending systick ≡ m.is_pending systick
    pub time : (moment_after_all img s happened).core.time ≡ s.core.time
    pub here : IsWhere ceiling called (moment_after_all img s happened) n
    pub marks : fits happened ≡ true → IsPastMarks here.unpaid here.top n here.phase

-- The next instruction is one of the program's that calls no function: the job that runs is in none, nor at its call.
abbrev pub IsOwnInstruction : Option FunctionCall → Type 0
IsOwnInstruction None = ⊤
IsOwnInstruction (Some call) = (call.stage ≢ AtBranch) × (call.stage ≢ Within)

-- the call in which the job that runs is, where it is in one
abbrev pub call_here : (img : Image) (target : Target) (p : Program) (ceiling : ℕ)
    (called : ℕ → Option Machine) (s : Moment)
    (m : Machine) → IsWhere img target p ceiling called s m → Option FunctionCall
call_here img target p ceiling called s m w =
    call_of (outside img target) (lowest img target p) img (places img target) p w.unpaid w.top m w.phase

-- The instruction at a state, in a handler, is no BL: it calls no function.
abbrev pub CallsNone : Program → Machine → Type 0
CallsNone p m =
    (displacement : ℕ) → p.code m.address ≡ Some (instruction.Call displacement) → m.exception ≡ 0

-- A machine instruction, where no exception is taken before it, is no fault, and it leads on; where it calls no
-- function.
abbrev pub InstructionsLeadOn : Type 0
InstructionsLeadOn =
    (img : Image) (target : Target) (p : Program) (ceiling : ℕ)
    (called : ℕ → Option Machine) (fits : List Happening → Bool) (s : Moment)
    (m : Machine) → IsInPlace img target p → StaysGood img target.inputs ceiling fits s → fits [] ≡ true
    → (r : Related img target p ceiling called s m)
    → IsOwnInstruction (call_here img target p ceiling called s m r.here) → pick img s.core ≡ None
    → (n : Machine) × (executed p m ≡ Some n) × LeadsOn img target p ceiling called fits s m n × CallsNone p m

-- An interrupt is taken: it leads on.
abbrev pub EntriesLeadOn : Type 0
EntriesLeadOn =
    (img : Image) (target : Target) (p : Program) (ceiling : ℕ)
    (called : ℕ → Option Machine) (fits : List Happening → Bool) (s : Moment)
    (m : Machine) (row : IrqRow) (h : Handler) → IsInPlace img target p → HasEvenFrames img
    → StaysGood img target.inputs ceiling fits s → fits [] ≡ true
    → Related img target p ceiling called s m → pick img s.core ≡ Some row → row.handler ≡ Some h
    → LeadsOn img target p ceiling called fits s m (entered (external row.number) m)

-- An instruction that is executed late leads on.
abbrev pub LateInstructionsLeadOn : Type 0
LateInstructionsLeadOn =
    (img : Image) (target : Target) (p : Program) (ceiling : ℕ)
    (called : ℕ → Option Machine) (fits : List Happening → Bool) (s : Moment)
    (m : Machine) → IsInPlace img target p → StaysGood img target.inputs ceiling fits s → fits [] ≡ true
    → Related img target p ceiling called s m → m.is_unsettled ≡ true
    → (n : Machine) × (executed p m ≡ Some n) × LeadsOn img target p ceiling called fits s m n × CallsNone p m

-- A request that a device makes comes to both.
abbrev pub RequestsLeadOn : Type 0
RequestsLeadOn =
    (img : Image) (target : Target) (p : Program) (ceiling : ℕ)
    (called : ℕ → Option Machine) (s : Moment) (m : Machine) (irq : ℕ)
    → IsInPlace img target p → Related img target p ceiling called s m → irq < IRQ_NUMBERS
    → Related img target p ceiling called (moment_after img s (Comes (Arrive irq))) (pended (external irq) m)

-- A tick that becomes pending is nothing to the image yet.
abbrev pub PendingTicksLeadOn : Type 0
PendingTicksLeadOn =
    (img : Image) (target : Target) (p : Program) (ceiling : ℕ)
    (called : ℕ → Option Machine) (s : Moment) (m : Machine) → IsInPlace img target p
    → Related img target p ceiling called s m → Related img target p ceiling called s (pended systick m)

-- A device that changes a word of its own is nothing to the image yet.
abbrev pub ChangesLeadOn : Type 0
ChangesLeadOn =
    (img : Image) (target : Target) (p : Program) (ceiling : ℕ) (called : ℕ → Option Machine) (s : Moment)
    (m : Machine) (address value : ℕ) → IsInPlace img target p → Related img target p ceiling called s m
    → CanChange target address value → Related img target p ceiling called s (with_word address value m)
