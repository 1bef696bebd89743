-- Where a job is that is in the tail of an `alarm`, behind the store of its instant, which the core has done already.
-- The processor stands for a core that differs in what the tail has still to do. Code and layout are this project's
-- own.
use Rattle.std.specs.Prelude.{◌≡◌, ℕ, ◌%◌, ◌^◌, ◌-◌, ◌<◌, ◌≤◌, ◌⊎◌, Bool, true, false, if◌then◌else◌, List}
use Rattle.std.specs.Prelude.{◌∷◌, drop, length, slice_index, slice_index_or, Option, Some, None}
use Rattle.rt_code.specs.Image.{Image}
use Rattle.rt_core.specs.Core.{Core}
use Rattle.rt_core.specs.Transfer.{core_after_pend}
use Rattle.rt_native.specs.Pieces.{bytes_of}
use Rattle.rt_native.specs.Sequences.{STIR, due}
use Rattle.rt_native.specs.declared.outside.Outside.{Outside}
use Rattle.rt_native_laws.specs.Own.{Spans}
use Rattle.rt_native_laws.specs.Standing.{IsLaidOut, StandsFor, HoldsWords, frames_end}
use Rattle.rt_thumb.specs.Effect.{holds}
use Rattle.rt_thumb.specs.Machine.{Machine}
use Rattle.rt_thumb.specs.Step.{Program}
use Rattle.rt_thumb.specs.declared.instruction.Condition.TheVariants as condition
use Rattle.rt_thumb.specs.declared.instruction.Instruction.{Instruction}
use Rattle.rt_thumb.specs.declared.instruction.Instruction.TheVariants as instruction
use Rattle.rt_thumb.specs.declared.instruction.Operation.TheVariants as operation

-- the code behind the store
abbrev pub alarm_tail : ℕ → List Instruction
alarm_tail irq =
    instruction.Load 2 1 0 ∷ instruction.Operate operation.Compare 0 2
    ∷ instruction.BranchIf condition.Higher (bytes_of (due irq)) ∷ due irq

-- an alarm has come: there is none, and its interrupt is pending
abbrev pub rung : ℕ → Core → Core
rung irq c = record (core_after_pend c irq) { alarm = None }

-- the alarm in whose tail a job is
pub record Debt : Type 0 where
  -- the interrupt that it pends
  pub irq : ℕ
  -- when it is due, in ticks since reset
  pub instant : ℕ
  -- whether the processor owes its coming: it was due at the store
  pub owes : Bool

-- the core with its alarm come, where a tail owes that
abbrev pub paid : Option Debt → Core → Core
paid None u = u
paid (Some t) u = if t.owes then rung t.irq u else u

-- which instruction of the tail is next: the time is read; it is compared with the instant; a branch leads past the
-- rest, where the instant is later; a register becomes none; the alarm's word does; the number of the interrupt and the
-- two halves of the address of STIR; and the request
pub data Stage : Type 0 where
  AtTime : Stage
  AtCompare : Stage
  AtBranch : Stage
  AtNone : Stage
  AtStore : Stage
  AtNumber : Stage
  AtLow : Stage
  AtTop : Stage
  AtRequest : Stage

-- how many instructions of the tail are behind
abbrev pub passed : Stage → ℕ
passed AtTime = 0
passed AtCompare = 1
passed AtBranch = 2
passed AtNone = 3
passed AtStore = 4
passed AtNumber = 5
passed AtLow = 6
passed AtTop = 7
passed AtRequest = 8

-- What the job has in registers and flags at a stage, of an alarm for an instant, at a time: the instant in r0, the
-- address of the time in r1, a time that was read, which is no later than now, in r2. Behind the branch the alarm is
-- due. What was due at the store is so at each time that is read later.
module _ (at : Outside) (irq instant : ℕ) (owes : Bool) (c : Core) (m : Machine) where
  -- by the stage
  abbrev pub Knows : Stage → Type 0
  Knows AtTime = (m.register 0 ≡ instant) × (m.register 1 ≡ at.time) × (owes ≡ true → instant ≤ c.time)
  Knows AtCompare =
      (m.register 0 ≡ instant) × (m.register 1 ≡ at.time) × (m.register 2 ≤ c.time)
      × (owes ≡ true → instant ≤ m.register 2)
  Knows AtBranch =
      (m.register 1 ≡ at.time) × (holds condition.Higher m.flags ≡ false → instant ≤ c.time)
      × (owes ≡ true → holds condition.Higher m.flags ≡ false)
  Knows AtNone = (m.register 1 ≡ at.time) × (instant ≤ c.time)
  Knows AtStore = (m.register 1 ≡ at.time) × (m.register 2 ≡ 2 ^ 32 - 1) × (instant ≤ c.time)
  Knows AtNumber = (instant ≤ c.time) × (c.alarm ≡ None)
  Knows AtLow = (m.register 0 ≡ irq) × (instant ≤ c.time) × (c.alarm ≡ None)
  Knows AtTop = (m.register 0 ≡ irq) × (m.register 1 ≡ STIR % 2 ^ 16) × (instant ≤ c.time) × (c.alarm ≡ None)
  Knows AtRequest = (m.register 0 ≡ irq) × (m.register 1 ≡ STIR) × (instant ≤ c.time) × (c.alarm ≡ None)

-- what lies outside, the lowest address of the stack, an image, the places of its code, and a program; a core at a job,
-- where the job's frames end, and the processor as the job sees it
module _ (at : Outside) (bottom : ℕ) (img : Image) (places : List ℕ) (p : Program) (c : Core) (top : ℕ)
    (m : Machine) where
  -- The job is in the tail of an `alarm`, which the core has done. But for its address the processor stands for a core,
  -- and the core is that one; or that one with its alarm come, which the processor owes. Where nothing is owed, and
  -- the instant is not in the future, the alarm has come already.
  pub record IsInTail : Type 0 where
    pub irq : ℕ
    pub small : irq < 2 ^ 9
    pub instant : ℕ
    pub stage : Stage
    pub code : Spans p m.address (drop (passed stage) (alarm_tail irq)) (slice_index places c.processor.address)
    pub unpaid : Core
    pub owes : Bool
    pub debt : c ≡ (if owes then rung irq unpaid else unpaid)
    pub has_come : owes ≡ false → instant ≤ unpaid.time
        → (unpaid.alarm ≡ None) × (slice_index_or unpaid.pending irq false ≡ true)
    -- the alarm is set still; or its word is none, and it has come or is owed
    pub set : (unpaid.alarm ≡ Some (record { instant = instant; irq = irq }))
        ⊎ ((unpaid.alarm ≡ None) × (owes ≡ false → slice_index_or unpaid.pending irq false ≡ true))
    pub knows : Knows at irq instant owes unpaid m stage
    pub laid : IsLaidOut at bottom (length unpaid.processor.cells)
    pub stands : StandsFor at bottom places unpaid (record m { address = slice_index places c.processor.address })
    pub ends : frames_end unpaid m ≡ top
    pub settled : m.is_unsettled ≡ false
    pub words : HoldsWords m
