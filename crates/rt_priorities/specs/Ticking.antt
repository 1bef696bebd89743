-- A tick (ARMv7-M Architecture Reference Manual, sections B1.5.6, B1.5.8 and B3.3). From SysTick's entry to its return
-- the processor executes the code of a tick and nothing else, whatever comes in between. To whom it interrupts all of
-- it is one event, that of the core's model: the time rises by one, and an alarm that is due comes. The model has no
-- code for it.
use Rattle.std.specs.Prelude.{◌≡◌, ◌≢◌, ℕ, suc, ◌+◌, ◌-◌, ◌*◌, ◌/◌, ◌%◌, ◌^◌, ◌<◌, ◌≤◌, ◌⊎◌, Bool, true, false, nat_le}
use Rattle.std.specs.Prelude.{if◌then◌else◌}
use Rattle.std.specs.Prelude.{List, [], ◌∷◌, ◌++◌, length, Option, Some, None, IfSome, ⊤}
use Rattle.std.specs.List.{AllByRecursion}
use Rattle.rt_ids.specs.declared.limits.TheConstants.{IRQ_NUMBERS}
use Rattle.rt_code.specs.Image.{Image}
use Rattle.rt_core.specs.Core.{Core, exception_number}
use Rattle.rt_core.specs.Trace.{tick as model_tick}
use Rattle.rt_core.specs.declared.alarm.Alarm.{Alarm}
use Rattle.rt_native.specs.Pieces.{bytes_of}
use Rattle.rt_native.specs.Sequences.{STIR}
use Rattle.rt_native.specs.Service.{tick}
use Rattle.rt_native.specs.declared.outside.Outside.{Outside}
use Rattle.rt_thumb.specs.Exceptions.{entered, systick, priority_of, taken, even}
use Rattle.rt_thumb.specs.Machine.{Machine, Seen, Posted, Entered, Returned, word_at}
use Rattle.rt_thumb.specs.Step.{Program, Event, Goes, after}
use Rattle.rt_thumb.specs.declared.instruction.Instruction.{Instruction}
use Rattle.rt_thumb.specs.declared.instruction.Instruction.TheVariants as instruction
use Rattle.rt_thumb_laws.specs.Undisturbed.{ChangeOnly, RunAtTop, goings, with_arrivals}
use Rattle.rt_priorities.specs.Agreeing.{AgreesWith}
use Rattle.rt_priorities.specs.Lying.{LieFrom}
use Rattle.rt_priorities.specs.Setting.{IsOutsideSystem}

-- the word of an alarm: its instant, and 2 ^ 32 - 1 where there is none
abbrev pub alarm_word : Option Alarm → ℕ
alarm_word None = 2 ^ 32 - 1
alarm_word (Some alarm) = alarm.instant

-- two words in memory are the time and the alarm of a core
pub record TellsTheTime (at : Outside) (c : Core) (m : Machine) : Type 0 where
  pub time : word_at m at.time ≡ c.time
  pub alarm : word_at m (at.time + 4) ≡ alarm_word c.alarm

-- The time after the next tick is a word, and less than the one that stands for no alarm; an alarm's instant is a word,
-- and it is of the interrupt that ticks pend.
pub record HasInstants (irq : Option ℕ) (c : Core) : Type 0 where
  pub time : c.time + 2 < 2 ^ 32
  pub alarm : IfSome c.alarm (λ a. (a.instant < 2 ^ 32) × (irq ≡ Some a.irq) × (a.irq < IRQ_NUMBERS))

-- the time and the alarm lie in memory, above the stack, and the port lies elsewhere
pub record LieApart (at : Outside) (port : ℕ) (m : Machine) : Type 0 where
  pub aligned : at.time % 4 ≡ 0
  pub in_memory : at.time + 8 ≤ 0xE0000000
  pub above_stack : m.register 13 ≤ at.time
  pub port_is_elsewhere : (port < at.time) ⊎ (at.time + 8 ≤ port)
  pub port_is_no_request : port ≢ STIR

-- the vector of SysTick leads to the code of a tick (section B1.5.3)
pub record ServesTicks (p : Program) (at : Outside) (irq : Option ℕ) (m : Machine) : Type 0 where
  pub place : ℕ
  pub vector : even (word_at m (word_at m 0xE000ED08 + 4 * systick)) ≡ place
  pub code : LieFrom p place (tick at irq)
  pub ends : place + bytes_of (tick at irq) < 2 ^ 32

-- A tick is taken next, at the highest priority. What runs has the core's exception number, is at an even address as
-- every instruction is, and has room on the stack for a frame of 32 bytes and its alignment.
pub record TickIsNext (c : Core) (m : Machine) : Type 0 where
  pub taken : taken m ≡ Some systick
  pub highest : priority_of m systick ≡ 0
  pub exception : m.exception ≡ exception_number c.below
  pub address : m.address % 2 ≡ 0
  pub aligned : m.register 13 % 4 ≡ 0
  pub room : 36 ≤ m.register 13

-- what others see of an alarm at a time: where it is due, that its interrupt is pended
abbrev pub requested : ℕ → Option Alarm → List Seen
requested time None = []
requested time (Some a) = if nat_le a.instant time then Posted a.irq ∷ [] else []

-- an instruction leaves the stack pointer where it is, and is no branch to an address in a register
abbrev pub LeavesStack : Instruction → Type 0
LeavesStack (instruction.AddStack n) = ⊥
LeavesStack (instruction.SubtractStack n) = ⊥
LeavesStack (instruction.AddStackWide n) = ⊥
LeavesStack (instruction.SubtractStackWide n) = ⊥
LeavesStack (instruction.BranchExchange r) = ⊥
LeavesStack i = ⊤

-- A tick has been: what was interrupted goes on as it was, the tick is not pending, and the processor agrees with the
-- core after its tick. Memory above the stack pointer is as it was but for the time and the alarm, and elsewhere as the
-- entry left it.
pub record HasTicked (img : Image) (at : Outside) (c : Core) (m last : Machine) : Type 0 where
  pub agrees : AgreesWith img (model_tick c).0 last
  pub tells : TellsTheTime at (model_tick c).0 last
  pub registers : (k : ℕ) → last.register k ≡ m.register k
  pub address : last.address ≡ m.address
  pub flags : last.flags ≡ m.flags
  pub exception : last.exception ≡ m.exception
  pub memory : (address : ℕ) → m.register 13 ≤ address → (address < at.time) ⊎ (at.time + 8 ≤ address)
      → word_at last address ≡ word_at m address
  pub others : (k : ℕ) → (k < at.time / 4) ⊎ ((at.time + 8) / 4 ≤ k) → last.memory k ≡ (entered systick m).memory k
  pub settled : last.is_unsettled ≡ false
  pub is_over : last.is_pending systick ≡ false
  pub seen : last.seen ≡ Returned systick ∷ (requested (suc c.time) c.alarm ++ Entered systick ∷ m.seen)

-- Words of memory that devices change lie apart from the frame that a tick's entry pushes, from what is above it up to
-- the alarm, and from the System Control Space.
pub record LieAside (foreign : ℕ → Bool) (at : Outside) (m : Machine) : Type 0 where
  pub apart : (k : ℕ) → foreign k ≡ true → (4 * k + 4 ≤ (entered systick m).register 13) ⊎ (at.time + 8 ≤ 4 * k)
  pub system : IsOutsideSystem foreign

-- After its entry the processor goes on so many times, whatever comes in between, and then the tick has been. What it
-- executes leaves the stack pointer alone, up to the exception return.
pub record TicksAtOnce (p : Program) (foreign : ℕ → Bool) (img : Image) (at : Outside) (c : Core) (m : Machine)
    : Type 0 where
  pub steps : ℕ
  pub last : Machine
  pub leads : (events : List Event) → ChangeOnly foreign events → goings events ≡ steps
      → after p (Goes ∷ events) (Some m) ≡ Some (with_arrivals events last)
  pub executed : List Instruction
  pub calm : AllByRecursion LeavesStack executed
  pub run : RunAtTop p foreign (executed ++ instruction.BranchExchange 14 ∷ []) (entered systick m) last
  pub has_ticked : HasTicked img at c m last

abbrev pub TicksAreOneEvent : Type 0
TicksAreOneEvent = (p : Program) (foreign : ℕ → Bool) (img : Image) (at : Outside) (irq : Option ℕ) (c : Core)
    (m : Machine)
    → AgreesWith img c m → length c.pending ≡ IRQ_NUMBERS → TickIsNext c m → ServesTicks p at irq m
    → LieApart at p.port m → LieAside foreign at m → TellsTheTime at c m → HasInstants irq c
    → TicksAtOnce p foreign img at c m
