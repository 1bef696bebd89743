-- Where a job is in the code of an instruction, as it sees the processor: the instruction is still to come, or it is
-- done but for what nobody else sees. Both hold whatever others did in between: to come is said from the instruction's
-- first place with memory as it is now, done from the end of its code. A job that is interrupted sees the processor as
-- it will be once it runs on, with the registers that exception entry saved (ARMv7-M Architecture Reference Manual,
-- sections B1.5.6 and B1.5.8), which Saving.antt says are what they were. Below its stack pointer a job has nothing:
-- there others push. So while a frame comes or goes it is said from the code's first place.
use Rattle.std.specs.Prelude.{◌≡◌, ℕ, ◌+◌, ◌*◌, ◌%◌, ◌<◌, ◌≤◌, ◌⊎◌, false, List, ◌∷◌, ◌++◌, length}
use Rattle.std.specs.Prelude.{slice_get, slice_index, slice_index_or, true, [], Option, Some, None, ◌^◌, ⊤}
use Rattle.rt_code.specs.Image.{Image}
use Rattle.rt_code.specs.declared.image.BodyRow.{BodyRow}
use Rattle.rt_code.specs.declared.image.Handler.{Handler}
use Rattle.rt_code.specs.declared.image.IrqRow.{IrqRow}
use Rattle.rt_code.specs.declared.instr.Instr.{Instr}
use Rattle.rt_code.specs.declared.instr.Instr.TheVariants as instr
use Rattle.rt_code.specs.declared.instr.Note.{Note}
use Rattle.rt_core.specs.Core.{Core}
use Rattle.rt_core.specs.Transfer.{core_after_call, may_call, call_fits}
use Rattle.rt_native.specs.Service.{stub}
use Rattle.rt_native.specs.declared.outside.Outside.{Outside}
use Rattle.rt_native.specs.declared.target.Input.{Input}
use Rattle.rt_native_laws.specs.Doing.{IsAt, CanCall, machine_code}
use Rattle.rt_native_laws.specs.InCall.{CallStage, IsInCall}
use Rattle.rt_native_laws.specs.InTail.{Debt, IsInTail}
use Rattle.rt_native_laws.specs.Opening.{IsAtOpening}
use Rattle.rt_native_laws.specs.Own.{IsDisturbed, RunsPrivately, AreSteady}
use Rattle.rt_priorities.specs.Ticking.{alarm_word}
use Rattle.rt_native_laws.specs.Reading.{IsReading, reads_of}
use Rattle.rt_native_laws.specs.Standing.{IsLaidOut, StandsFor, LieFrom, HoldsWords, frames_end}
use Rattle.rt_thumb.specs.Exceptions.{external}
use Rattle.rt_thumb.specs.Machine.{Machine, word_at}
use Rattle.rt_thumb.specs.Step.{Program}
use Rattle.rt_thumb.specs.declared.instruction.Instruction.{Instruction}

-- A state is another but for words below its stack pointer, down to an address.
pub record IsSameAbove (floor : ℕ) (before after : Machine) : Type 0 where
  pub rest : after ≡ record before { memory = after.memory }
  pub memory : (k : ℕ) → (4 * k + 4 ≤ floor) ⊎ (after.register 13 ≤ 4 * k) → after.memory k ≡ before.memory k

-- Others have run, and the job runs again. The core is other than it was in its time, alarm, requests and cells, and
-- the processor beside the job's part of the stack, which goes from an address to another: there it is as the core.
pub record OthersRan (at : Outside) (floor top : ℕ) (c d : Core) (m n : Machine) : Type 0 where
  pub core : d ≡ record c {
    time = d.time;
    alarm = d.alarm;
    pending = d.pending;
    processor = record c.processor { cells = d.processor.cells };
  }
  pub as_many : length d.processor.cells ≡ length c.processor.cells
  pub processor : IsDisturbed floor top m n
  pub settled : n.is_unsettled ≡ false
  pub cells : LieFrom n at.cells d.processor.cells
  pub time : word_at n at.time ≡ d.time
  pub alarm : word_at n (at.time + 4) ≡ alarm_word d.alarm
  pub pending : (irq : ℕ) → irq < length d.pending
      → n.is_pending (external irq) ≡ slice_index_or d.pending irq false
  pub words : HoldsWords n

-- From a state at the first place of some code the job has executed some of it, privately, and there is more. The stack
-- pointer has only fallen.
pub record HasBegun (p : Program) (top : ℕ) (code : List Instruction) (first m : Machine) : Type 0 where
  pub passed : List Instruction
  pub next : Instruction
  pub left : List Instruction
  pub parts : code ≡ passed ++ next ∷ left
  pub fallen : m.register 13 ≤ first.register 13
  pub aligned : m.register 13 % 4 ≡ 0
  pub prepares : RunsPrivately p (m.register 13) top passed first m

-- A core is another but for words of its frame, of which the first are as there.
pub record IsButForWords (kept : ℕ) (c d : Core) : Type 0 where
  pub core : d ≡ record c { processor = record c.processor { slots = d.processor.slots } }
  pub long : length d.processor.slots ≡ length c.processor.slots
  pub words : (k : ℕ) → k < kept → slice_index d.processor.slots k ≡ slice_index c.processor.slots k

-- `call` is done at its first machine instruction, so it is never under way and still to come.
abbrev pub IsNoCall : Instr → Type 0
IsNoCall (instr.Call row s) = ⊥
IsNoCall i = ⊤

-- The call of a function: of the function of which interrupt, where the job is in it, and the state at which the
-- function was called, where it was.
pub record FunctionCall : Type 0 where
  pub irq : ℕ
  pub stage : CallStage
  pub called : Machine

-- what lies outside, the lowest address of the stack, an image, the places of its code, and a program; a core at a job,
-- where the job's frames end, and the processor as the job sees it
module _ (at : Outside) (bottom : ℕ) (img : Image) (places : List ℕ) (p : Program) (c : Core) (top : ℕ)
    (m : Machine) where
  -- The instruction at the core's address is still to come. From a state at the first place of its code, which stands
  -- for the core as it is now, what was executed so far is private to the job, and there is more. A commit that is not
  -- private was not executed.
  pub record IsToCome : Type 0 where
    pub instruction : Instr
    pub kind : IsNoCall instruction
    pub note : Option Note
    pub line : slice_get img.code c.processor.address ≡ Some (instruction, note)
    pub first : Machine
    pub stands : IsAt at bottom img places p instruction c first
    pub ends : frames_end c first ≡ top
    pub settled : first.is_unsettled ≡ false
    pub passed : List Instruction
    pub next : Instruction
    pub left : List Instruction
    pub parts : machine_code at bottom img places p instruction c ≡ passed ++ next ∷ left
    pub reached : Machine
    pub prepares : RunsPrivately p (first.register 13) top passed first reached
    pub now : IsSameAbove (first.register 13) reached m

  -- What the job did last is done, but for code that is private to it and leaves the stack pointer alone, which leads
  -- to a state that stands for the core. It is the end of an instruction's code behind its commit. With no code left
  -- the job is between two instructions.
  pub record IsDone : Type 0 where
    pub left : List Instruction
    pub steady : AreSteady left
    pub last : Machine
    pub stack : m.register 13 ≡ last.register 13
    pub completes : RunsPrivately p (last.register 13) top left m last
    pub stands : StandsFor at bottom places c last
    pub ends : frames_end c last ≡ top
    pub settled : last.is_unsettled ≡ false
    pub words : HoldsWords last

  -- The job is a handler that was just entered, as the core has seen: from where its entry led it has begun to make
  -- room for its frame, in which the core may have any words.
  pub record IsEntering : Type 0 where
    pub to : ℕ
    pub irq : ℕ
    pub handler : Handler
    pub first : Machine
    pub opens : IsAtOpening at bottom img places p to irq handler c first
    pub ends : first.register 13 ≡ top
    pub settled : first.is_unsettled ≡ false
    pub words : HoldsWords first
    pub begun : HasBegun p top (stub at [] places to irq (Some handler)) first m
    pub deep : top ≤ m.register 13 + 4 * handler.frame

  -- The job has begun to call a body, and the core has done it: but for words of the body's frame behind its arguments,
  -- which may be any, it is the core after the call.
  pub record IsCalling : Type 0 where
    pub row : ℕ
    pub slot : ℕ
    pub body : BodyRow
    pub found : slice_get img.bodies row ≡ Some body
    pub before : Core
    pub may : may_call before ≡ true
    pub fits : call_fits img before body slot ≡ true
    pub called : IsButForWords body.args (core_after_call before body slot) c
    pub frame : length c.processor.slots ≡ body.frame
    pub first : Machine
    pub stands : IsAt at bottom img places p (instr.Call row slot) before first
    pub can : CanCall at bottom img places p body slot before first
    pub ends : frames_end before first ≡ top
    pub settled : first.is_unsettled ≡ false
    pub begun : HasBegun p top (machine_code at bottom img places p (instr.Call row slot) before) first m
    pub deep : first.register 13 ≤ m.register 13 + 4 * body.frame

  -- A call of a function is in its handler's frame: what of the stack it takes lies where that frame comes into being,
  -- so that the stack is no deeper for it. The handler is that of its interrupt's row. SP is a multiple of 4, as the
  -- architecture keeps it (ARMv7-M Architecture Reference Manual, section B1.4.1), and registers were words at the
  -- entry. The function does not begin within the program.
  pub record IsInFrame (x : IsInCall at bottom img places p c top m) : Type 0 where
    pub room : x.room + 8 ≡ 4 * x.handler.frame
    pub place : ℕ
    pub row : IrqRow
    pub found : slice_get img.irqs place ≡ Some row
    pub number : row.number ≡ x.irq
    pub handled : row.handler ≡ Some x.handler
    pub aligned : m.register 13 % 4 ≡ 0
    pub given : (k : ℕ) → x.registers k < 2 ^ 32
    pub elsewhere : p.code x.function ≡ None

  -- The phases. In the tail of an `alarm` the core is the one for which the processor stands, before what is owed is
  -- paid.
  pub data Phase : Type 0 where
    ToCome : IsToCome → Phase
    AlreadyDone : IsDone → Phase
    Entering : IsEntering → Phase
    Calling : IsCalling → Phase
    Reads : IsReading at bottom img places p c top m → Phase
    Calls : (x : IsInCall at bottom img places p c top m) → IsInFrame x → Phase
    Tails : (core : Core) → (x : IsInTail at bottom img places p core top m) → x.unpaid ≡ c → Phase

  -- how many words of the frame are the core's, whatever the processor has there
  abbrev pub kept_words : Phase → ℕ
  kept_words (Entering x) = 0
  kept_words (Calling x) = x.body.args
  kept_words (Reads x) = 0
  kept_words (Calls x f) = 0
  kept_words phase = length c.processor.slots

  -- the declared inputs, where it reads some, and what it has read; or where it will behind a function
  abbrev pub reads_from : Phase → Option (List Input × Option (Input × ℕ))
  reads_from (Reads x) = Some (reads_of at bottom img places p c top m x)
  reads_from (Calls x f) = Some (x.declared, None)
  reads_from phase = None

  -- the alarm in whose tail it is, where it is in one
  abbrev pub tail_of : Phase → Option Debt
  tail_of (Tails core x same) = Some (record { irq = x.irq; instant = x.instant; owes = x.owes })
  tail_of phase = None

  -- the call in which it is, where it is in one
  abbrev pub call_of : Phase → Option FunctionCall
  call_of (Calls x f) = Some (record { irq = x.irq; stage = x.stage; called = x.called })
  call_of phase = None

  -- The processor as those who wait will find it: a function gives back r4 to r11 and LR as they were at the entry.
  abbrev pub viewed : Phase → Machine
  viewed (Calls x f) = record m { register = x.registers }
  viewed phase = m

  -- it reads no input, calls no function, and is in no tail
  abbrev pub IsOrdinary : Phase → Type 0
  IsOrdinary (Reads x) = ⊥
  IsOrdinary (Calls x f) = ⊥
  IsOrdinary (Tails core x same) = ⊥
  IsOrdinary phase = ⊤

  -- so many words are the core's, and it is ordinary
  abbrev pub IsNew : ℕ → Phase → Type 0
  IsNew kept (Reads x) = ⊥
  IsNew kept (Calls x f) = ⊥
  IsNew kept (Tails core x same) = ⊥
  IsNew kept phase = kept ≤ kept_words phase

-- An instruction that was still to come is so after others have run.
abbrev pub ToComeIsKept : Type 0
ToComeIsKept =
    (at : Outside) (bottom : ℕ) (img : Image) (places : List ℕ) (p : Program) (c d : Core) (top : ℕ) (m n : Machine)
    → IsToCome at bottom img places p c top m → OthersRan at (m.register 13) top c d m n
    → IsToCome at bottom img places p d top n

-- An instruction that was done but for what is private is so after others have run.
abbrev pub DoneIsKept : Type 0
DoneIsKept =
    (at : Outside) (bottom : ℕ) (img : Image) (places : List ℕ) (p : Program) (c d : Core) (top : ℕ) (m n : Machine)
    → IsLaidOut at bottom (length c.processor.cells) → p.port ≡ at.port
    → IsDone at bottom img places p c top m → OthersRan at (m.register 13) top c d m n
    → IsDone at bottom img places p d top n

-- A frame that was coming into being is so after others have run.
abbrev pub EnteringIsKept : Type 0
EnteringIsKept =
    (at : Outside) (bottom : ℕ) (img : Image) (places : List ℕ) (p : Program) (c d : Core) (top : ℕ) (m n : Machine)
    → p.port ≡ at.port → IsEntering at bottom img places p c top m → OthersRan at (m.register 13) top c d m n
    → IsEntering at bottom img places p d top n

-- What others do leaves a job where it is in a call of a body.
abbrev pub CallingIsKept : Type 0
CallingIsKept =
    (at : Outside) (bottom : ℕ) (img : Image) (places : List ℕ) (p : Program) (c d : Core) (top : ℕ) (m n : Machine)
    → IsCalling at bottom img places p c top m → OthersRan at (m.register 13) top c d m n
    → IsCalling at bottom img places p d top n
