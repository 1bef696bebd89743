-- A job that calls a function of C first, as its interrupt is taken, goes on in its call: at each instruction of the
-- program before and behind the function, at the function's own, and whatever others do in between, who may interrupt
-- it anywhere. Code and layout are this project's own, the call is as AAPCS has it (Functions.antt).
use Rattle.std.specs.Prelude.{◌≡◌, ◌≢◌, ℕ, ◌+◌, ◌*◌, ◌%◌, ◌^◌, ◌<◌, ◌≤◌, ◌==◌, false, List, ◌++◌, length}
use Rattle.std.specs.Prelude.{slice_index_or, Some, ⊤}
use Rattle.std.specs.List.{AllByRecursion, filter}
use Rattle.rt_code.specs.Image.{Image}
use Rattle.rt_code.specs.declared.image.Handler.{Handler}
use Rattle.rt_core.specs.Core.{Core}
use Rattle.rt_core.specs.Transfer.{core_after_entry}
use Rattle.rt_native.specs.Service.{stub}
use Rattle.rt_native.specs.declared.outside.Outside.{Outside}
use Rattle.rt_native.specs.declared.target.Input.{Input}
use Rattle.rt_native.specs.declared.target.Region.{Region}
use Rattle.rt_native_laws.specs.Functions.{FlashIsApart, HasComeBack, IsCalled, IsHarmless, LeavesOurs, cells_with}
use Rattle.rt_native_laws.specs.Functions.{core_with_cells}
use Rattle.rt_native_laws.specs.Going.{HasCode}
use Rattle.rt_native_laws.specs.InCall.{AtBranch, AtFall, AtKeep, AtRise, AtTake, CallStage, IsInCall, IsOwnCode}
use Rattle.rt_native_laws.specs.InCall.{PreservesRegisters, Within, linked_call}
use Rattle.rt_native_laws.specs.Inputs.{IsAtInputs}
use Rattle.rt_native_laws.specs.Own.{Executes, Spans}
use Rattle.rt_native_laws.specs.Phases.{OthersRan, Phase}
use Rattle.rt_native_laws.specs.Reading.{IsInput}
use Rattle.rt_native_laws.specs.Saving.{CanBeInterrupted}
use Rattle.rt_native_laws.specs.Standing.{IsLaidOut, LieFrom, HoldsWords}
use Rattle.rt_priorities.specs.Ticking.{alarm_word}
use Rattle.rt_thumb.specs.Effect.{effect}
use Rattle.rt_thumb.specs.Exceptions.{external, entered}
use Rattle.rt_thumb.specs.Machine.{Machine, word_at}
use Rattle.rt_thumb.specs.Step.{Program}
use Rattle.rt_thumb.specs.declared.instruction.Instruction.{Instruction}
use Rattle.rt_thumb.specs.declared.instruction.Instruction.TheVariants as instruction
use Rattle.rt_thumb_laws.specs.Interrupting.{CanBeEntered, IsAtItsEnd, is_given_back}

-- A job is in the call that it was in: of the same function, with the same inputs behind it.
pub record GoesOnIn (at : Outside) (bottom : ℕ) (img : Image) (places : List ℕ) (p : Program) (top : ℕ) (c d : Core)
    (m n : Machine) (x : IsInCall at bottom img places p c top m) (stage : CallStage) (called : Machine) : Type 0 where
  pub call : IsInCall at bottom img places p d top n
  pub at_stage : call.stage ≡ stage
  pub called_at : call.called ≡ called
  pub irq : call.irq ≡ x.irq
  pub handler : call.handler ≡ x.handler
  pub declared : call.declared ≡ x.declared
  pub function : call.function ≡ x.function
  pub room : call.room ≡ x.room
  pub registers : call.registers ≡ x.registers

-- An interrupt is taken, and its entry leads to where a function of C is called, behind which its inputs are read:
-- there the call begins. There is room for what entry pushes, for the handler's frame, and for eight bytes and the
-- function's part of the stack.
abbrev pub EntryBeginsCall : Type 0
EntryBeginsCall =
    (at : Outside) (bottom : ℕ) (img : Image) (places : List ℕ) (p : Program) (inputs : List Input)
    (room function to irq : ℕ) (h : Handler) (c : Core) (top : ℕ) (m : Machine)
    → HasCode at img places p
    → IsLaidOut at bottom (length c.processor.cells) → CanBeInterrupted m → m.address < 2 ^ 32
    → AllByRecursion (λ e. e ≢ external irq) m.active → c.processor.primask ≡ false → HoldsWords m
    → m.register 13 ≤ top → top ≤ at.cells → Phase at bottom img places p c top m → to < 0xE0000000
    → AllByRecursion (IsInput (length c.processor.cells)) (filter (λ i. i.irq == irq) inputs) → function < 2 ^ 32
    → Spans p (entered (external irq) m).address
    (linked_call (entered (external irq) m).address function ++ stub at inputs places to irq (Some h)) to
    → bottom + 4 * h.frame + 32 + m.register 13 % 8 ≤ m.register 13
    → bottom + room + 40 + m.register 13 % 8 ≤ m.register 13
    → (x : IsInCall at bottom img places p (core_after_entry c irq h) ((entered (external irq) m).register 13)
    (entered (external irq) m)) × (x.stage ≡ AtFall) × (x.irq ≡ irq) × (x.handler ≡ h) × (x.declared ≡ inputs)
    × (x.function ≡ function) × (x.room ≡ room) × (x.registers ≡ (entered (external irq) m).register)

-- what lies outside, the lowest address of the stack, an image, the places of its code, and a program; flash, and the
-- cells that the function may write; a core at a job, where the job's frames end, and the processor before and behind
-- one machine instruction of the job, which is in its call before it
module _ (at : Outside) (bottom : ℕ) (img : Image) (places : List ℕ) (p : Program) (flash : Region) (written : List ℕ)
    (c : Core) (top : ℕ) (m n : Machine) (x : IsInCall at bottom img places p c top m) where
  -- Each instruction leads to the next stage: the BL calls the function as is agreed, and the last leads to where
  -- inputs are read, or the handler's frame comes into being. The function's are of another kind.
  abbrev pub LeadsOnFrom : CallStage → Type 0
  LeadsOnFrom AtFall = GoesOnIn at bottom img places p top c c m n x AtKeep x.called
  LeadsOnFrom AtKeep = GoesOnIn at bottom img places p top c c m n x AtBranch x.called
  LeadsOnFrom AtBranch = GoesOnIn at bottom img places p top c c m n x Within n × IsCalled bottom x.room x.function n
  LeadsOnFrom Within = ⊤
  LeadsOnFrom AtTake = GoesOnIn at bottom img places p top c c m n x AtRise x.called
  LeadsOnFrom AtRise =
      IsAtInputs at bottom img places p x.declared c top n × PreservesRegisters x.registers n
      × (n.register 14 ≡ x.registers 14)

  -- what waits finds all as it was
  pub record CallGoes : Type 0 where
    pub leads : LeadsOnFrom x.stage
    pub ours : LeavesOurs at flash written top m n

-- A machine instruction before or behind the function leads on.
abbrev pub CallGoesOn : Type 0
CallGoesOn =
    (at : Outside) (bottom : ℕ) (img : Image) (places : List ℕ) (p : Program) (flash : Region) (written : List ℕ)
    (c : Core) (top : ℕ) (m n : Machine) (executed : Instruction) → HasCode at img places p
    → FlashIsApart at bottom flash → (x : IsInCall at bottom img places p c top m) → IsOwnCode x.stage
    → Executes p executed m n → CallGoes at bottom img places p flash written c top m n x

-- And there is one.
abbrev pub CallIsNoFault : Type 0
CallIsNoFault =
    (at : Outside) (bottom : ℕ) (img : Image) (places : List ℕ) (p : Program) (c : Core) (top : ℕ) (m : Machine)
    → HasCode at img places p → (x : IsInCall at bottom img places p c top m) → IsOwnCode x.stage
    → (executed : Instruction) × (n : Machine) × Executes p executed m n

-- A harmless machine instruction of the function leads on within it, at the core into whose cells the words have come
-- that it may have written; and where it comes back, to behind it.
pub record FunctionGoes (at : Outside) (bottom : ℕ) (img : Image) (places : List ℕ) (p : Program) (flash : Region)
    (written : List ℕ) (c d : Core) (top : ℕ) (m n : Machine) (x : IsInCall at bottom img places p c top m)
    : Type 0 where
  pub within : GoesOnIn at bottom img places p top c d m n x Within x.called
  pub back : HasComeBack x.called n → GoesOnIn at bottom img places p top c d m n x AtTake x.called
  pub ours : LeavesOurs at flash written top m n

-- A harmless instruction of the function leaves the job within its call, at the core with the words that it has
-- written.
abbrev pub FunctionGoesOn : Type 0
FunctionGoesOn =
    (at : Outside) (bottom : ℕ) (img : Image) (places : List ℕ) (p : Program) (flash : Region) (written : List ℕ)
    (c : Core) (top : ℕ) (m n : Machine) (x : IsInCall at bottom img places p c top m) → x.stage ≡ Within
    → IsHarmless at flash written x.room x.called m n
    → FunctionGoes at bottom img places p flash written c
    (core_with_cells (cells_with at n written c.processor.cells) c) top m n x

-- What others do leaves a job where it is in its call.
abbrev pub CallIsKept : Type 0
CallIsKept =
    (at : Outside) (bottom : ℕ) (img : Image) (places : List ℕ) (p : Program) (c d : Core) (top : ℕ) (m n : Machine)
    → (x : IsInCall at bottom img places p c top m) → OthersRan at (m.register 13) top c d m n
    → GoesOnIn at bottom img places p top c d m n x x.stage x.called

-- What ran while a job was interrupted has left it what is its own, up to where its frames end: the registers that
-- exception return does not give back, its part of the stack, and masks. The core is another in its time, alarm,
-- requests and cells, as the processor is.
pub record LeftItsOwn (at : Outside) (top : ℕ) (c d : Core) (before late : Machine) : Type 0 where
  pub core : d ≡ record c {
    time = d.time;
    alarm = d.alarm;
    pending = d.pending;
    processor = record c.processor { cells = d.processor.cells };
  }
  pub as_many : length d.processor.cells ≡ length c.processor.cells
  pub registers : (k : ℕ) → is_given_back k ≡ false → late.register k ≡ before.register k
  pub memory : (k : ℕ) → before.register 13 ≤ 4 * k → 4 * k < top → late.memory k ≡ before.memory k
  pub base_priority : late.base_priority ≡ before.base_priority
  pub is_masked : late.is_masked ≡ before.is_masked
  pub cells : LieFrom late at.cells d.processor.cells
  pub time : word_at late at.time ≡ d.time
  pub alarm : word_at late (at.time + 4) ≡ alarm_word d.alarm
  pub pending : (irq : ℕ) → irq < length d.pending
      → late.is_pending (external irq) ≡ slice_index_or d.pending irq false
  pub words : HoldsWords late

-- So a job in its call may be interrupted at any instruction, the function's too, at whatever multiple of 4 SP is:
-- where the handler that did so returns, at its end, the call goes on where it was.
abbrev pub ReturnsToCall : Type 0
ReturnsToCall =
    (at : Outside) (bottom : ℕ) (img : Image) (places : List ℕ) (p : Program) (c d : Core) (top e r : ℕ)
    (before late : Machine) → (x : IsInCall at bottom img places p c top before) → CanBeEntered e before
    → IsAtItsEnd e before late → late.register r ≡ (entered e before).register 14
    → LeftItsOwn at top c d before late
    → (after : Machine) × (effect p.port (instruction.BranchExchange r) late ≡ Some after)
    × GoesOnIn at bottom img places p top c d before after x x.stage x.called
