-- What one machine instruction of the job that runs is to the core, where no exception is taken before it: nothing, and
-- nobody else sees it; or one step of the core, the instruction of the image whose commit it is. Which job runs, and
-- what others do in between, is no matter of this file.
use Rattle.std.specs.Prelude.{◌≡◌, ◌≢◌, ℕ, suc, ◌%◌, ◌^◌, ◌<◌, ◌≤◌, true, false, List, [], ◌++◌, length, ⊤}
use Rattle.std.specs.Prelude.{slice_get, slice_index, Option, Some, None}
use Rattle.rt_code.specs.Image.{Image}
use Rattle.rt_code.specs.declared.instr.Instr.{Instr}
use Rattle.rt_code.specs.declared.instr.Instr.TheVariants as instr
use Rattle.rt_code.specs.declared.instr.Note.{Note}
use Rattle.rt_core.specs.Core.{Core}
use Rattle.rt_core.specs.Priority.{pick}
use Rattle.rt_core.specs.Stepping.{step}
use Rattle.rt_native.specs.Sequences.{sequence}
use Rattle.rt_native.specs.declared.outside.Outside.{Outside}
use Rattle.rt_native_laws.specs.Doing.{RaisesOnly, seen_of}
use Rattle.rt_native_laws.specs.Moments.{instruction_at, last_after, settled_words}
use Rattle.rt_native_laws.specs.Own.{ChangesItsOwn, Executes, Spans}
use Rattle.rt_native_laws.specs.Phases.{Phase, IsDone, IsButForWords, IsNew, IsOrdinary, kept_words}
use Rattle.rt_native_laws.specs.Standing.{IsLaidOut, IsBeside}
use Rattle.rt_thumb.specs.Exceptions.{systick}
use Rattle.rt_thumb.specs.Instruction.{IsEncodable}
use Rattle.rt_thumb.specs.Machine.{Machine}
use Rattle.rt_thumb.specs.Step.{Program}
use Rattle.rt_thumb.specs.declared.instruction.Instruction.{Instruction}
use Rattle.rt_trace.specs.declared.item.What.{What}

-- Instructions whose frame stays, and of which others see one machine instruction at most: all but `call`, `back` and
-- `ret`, and `alarm`, whose tail others see; and `mark` has no code. STIR takes 9 bits of a number.
abbrev pub IsPlain : Instr → Type 0
IsPlain (instr.Post irq) = irq < 2 ^ 9
IsPlain (instr.Alarm s irq) = ⊥
IsPlain instr.Mark = ⊥
IsPlain (instr.Call row s) = ⊥
IsPlain instr.Back = ⊥
IsPlain instr.Ret = ⊥
IsPlain i = ⊤

-- A program has an image's code at its places, and the port that it is told; and what it has at an address can be
-- encoded, and lies in memory (ARMv7-M Architecture Reference Manual, section B3.1).
pub record HasCode (at : Outside) (img : Image) (places : List ℕ) (p : Program) : Type 0 where
  pub port : p.port ≡ at.port
  pub encodable : (a : ℕ) (i : Instruction) → p.code a ≡ Some i → IsEncodable i
  pub low : (a : ℕ) (i : Instruction) → p.code a ≡ Some i → a < 0xE0000000
  pub addresses : (k : ℕ) → slice_index places k < 0xE0000000
  pub halfwords : (k : ℕ) → slice_index places k % 2 ≡ 0
  pub code : (n : ℕ) (i : Instr) (note : Option Note) → slice_get img.code n ≡ Some (i, note)
      → Spans p (slice_index places n) (sequence at img places n i) (slice_index places (suc n))

-- The core takes a step: it takes no interrupt, and its instruction, at its address, is no trap and leads to another
-- core, with an item. BASEPRI has eight bits, and `raise` lowers no priority.
pub record StepsBy (img : Image) (i : Instr) (c d : Core) (said : Option What) : Type 0 where
  pub note : Option Note
  pub line : slice_get img.code c.processor.address ≡ Some (i, note)
  pub goes : c.stopped ≡ false
  pub takes_none : pick img c ≡ None
  pub steps : step img c ≡ (d, said)
  pub no_trap : d.stopped ≡ false
  pub base_priority : d.processor.basepri < 2 ^ 8
  pub raises : RaisesOnly i c

-- What a machine instruction of a job leaves as it was, the job's frames ending at an address: registers from r4 on,
-- memory beside all that the core is about, the exception that runs and those that are active, and whether a tick is
-- pending. Others see this item of it and no more.
pub record LeavesOthers (at : Outside) (top : ℕ) (said : Option What) (m n : Machine) : Type 0 where
  pub registers : (k : ℕ) → 4 ≤ k → k ≢ 13 → n.register k ≡ m.register k
  pub memory : (k : ℕ) → IsBeside at (m.register 13) (n.register 13) top k → n.memory k ≡ m.memory k
  pub exception : n.exception ≡ m.exception
  pub active : n.active ≡ m.active
  pub tick : n.is_pending systick ≡ m.is_pending systick
  pub seen : n.seen ≡ seen_of said ++ m.seen

-- what lies outside, the lowest address of the stack, an image, the places of its code, and a program; a core at a job,
-- where the job's frames end, and the processor before and behind one machine instruction of it
module _ (at : Outside) (bottom : ℕ) (img : Image) (places : List ℕ) (p : Program) (c : Core) (top : ℕ)
    (m n : Machine) where
  -- Nothing to the core, which nobody else sees: it is private to the job, whose part of the stack goes down to
  -- `floor`. But where a frame is coming into being, its words, behind some that the core has, are from now on those
  -- that the processor has there.
  pub record IsNothing (kept : ℕ) : Type 0 where
    pub core : Core
    pub words : IsButForWords kept c core
    pub phase : Phase at bottom img places p core top n
    pub fresh : IsNew at bottom img places p core top n kept phase
    pub floor : ℕ
    pub deep : bottom ≤ floor
    pub unseen : ChangesItsOwn floor top m n

  -- One step of the core, to another, with an item. Of the frame of what runs then so many words are the core's as are
  -- settled.
  pub record IsOneStep (d : Core) (said : Option What) : Type 0 where
    pub phase : Phase at bottom img places p d top n
    pub fresh : IsNew at bottom img places p d top n
        (settled_words (last_after img (instruction_at img c)) (length d.processor.slots)) phase
    pub others : LeavesOthers at top said m n

  -- it is nothing to the core, or one step
  pub data IsOneStepOrNone (kept : ℕ) (d : Core) (said : Option What) : Type 0 where
    Nothing : IsNothing kept → IsOneStepOrNone kept d said
    OneStep : IsOneStep d said → IsOneStepOrNone kept d said

-- A machine instruction of a job, in whatever phase the job is, is nothing to the core or the step that it takes; but
-- where a handler reads inputs a word comes into a cell, of which Inputs.antt tells, and of tails Tail.antt does.
abbrev pub OneEventIsOneStepOrNone : Type 0
OneEventIsOneStepOrNone =
    (at : Outside) (bottom : ℕ) (img : Image) (places : List ℕ) (p : Program) (i : Instr) (c d : Core)
    (said : Option What) (top : ℕ) (m n : Machine) (executed : Instruction)
    → HasCode at img places p → IsLaidOut at bottom (length c.processor.cells) → IsPlain i
    → StepsBy img i c d said → (phase : Phase at bottom img places p c top m)
    → IsOrdinary at bottom img places p c top m phase → Executes p executed m n
    → IsOneStepOrNone at bottom img places p c top m n (kept_words at bottom img places p c top m phase) d said

-- `mark` has no code: where the core steps over one, the job is at its phase as before.
abbrev pub MarkIsNoEvent : Type 0
MarkIsNoEvent =
    (at : Outside) (bottom : ℕ) (img : Image) (places : List ℕ) (p : Program) (c d : Core) (said : Option What)
    (top : ℕ) (m : Machine) → HasCode at img places p → StepsBy img instr.Mark c d said
    → IsDone at bottom img places p c top m → IsDone at bottom img places p d top m × (seen_of said ≡ [])

-- An exception may be recognized late only where the job's instruction is done but for what is private: so what is
-- executed late is nothing to the core, whatever it is about to do.
abbrev pub WhatIsLateIsNothing : Type 0
WhatIsLateIsNothing =
    (at : Outside) (bottom : ℕ) (img : Image) (places : List ℕ) (p : Program) (c : Core) (top : ℕ) (m n : Machine)
    (executed : Instruction) → HasCode at img places p → IsLaidOut at bottom (length c.processor.cells)
    → (phase : Phase at bottom img places p c top m) → m.is_unsettled ≡ true → Executes p executed m n
    → IsNothing at bottom img places p c top m n (kept_words at bottom img places p c top m phase)
