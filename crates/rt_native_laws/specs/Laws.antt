-- The laws, by kinds of instructions: each holds wherever a program lies. What a machine instruction does is the
-- ARMv7-M Architecture Reference Manual's (section A7.7), and what an instruction of an image does the model's; that
-- the one does the other is this project's own.
use Rattle.std.specs.Prelude.{◌≡◌, ℕ, ◌+◌, ◌^◌, ◌<◌, ◌≤◌, ◌⊎◌, List, Some, ⊤}
use Rattle.rt_code.specs.Image.{Image}
use Rattle.rt_code.specs.declared.instr.Instr.{Instr}
use Rattle.rt_code.specs.declared.instr.Instr.TheVariants as instr
use Rattle.rt_ids.specs.declared.op.Op.{Op}
use Rattle.rt_native.specs.declared.outside.Outside.{Outside}
use Rattle.rt_native_laws.specs.Doing.{DoesPrivately, DoesInOne, DoesReturn, DoesComeBack, DoesAlarm, DoesCall}
use Rattle.rt_native_laws.specs.Own.{ChangesItsOwn, IsDisturbed, RunsPrivately}
use Rattle.rt_native_laws.specs.Standing.{HoldsWords}
use Rattle.rt_thumb.specs.Effect.{effect}
use Rattle.rt_thumb.specs.Instruction.{IsEncodable}
use Rattle.rt_thumb.specs.Machine.{Machine}
use Rattle.rt_thumb.specs.Step.{Program}
use Rattle.rt_thumb.specs.declared.instruction.Instruction.{Instruction}
use Rattle.rt_thumb.specs.declared.instruction.Instruction.TheVariants as instruction

-- the job's part of the stack lies in memory, and the port apart from it
pub record IsApart (p : Program) (floor top : ℕ) : Type 0 where
  pub memory : top ≤ 0xE0000000
  pub port : (p.port < floor) ⊎ (top ≤ p.port)

-- What is executed privately changes the job's own and nothing else: so nobody else sees it.
abbrev pub PrivateIsUnseen : Type 0
PrivateIsUnseen =
    (p : Program) (floor top : ℕ) (code : List Instruction) (before after : Machine) → IsApart p floor top
    → floor ≤ before.register 13 → before.register 13 ≤ top → RunsPrivately p floor top code before after
    → ChangesItsOwn floor top before after

-- What others do beside the job's own does not disturb what is executed privately: it leads to the same, beside what
-- they did.
abbrev pub PrivateIsUndisturbed : Type 0
PrivateIsUndisturbed =
    (p : Program) (floor top : ℕ) (code : List Instruction) (before after other : Machine) → IsApart p floor top
    → floor ≤ before.register 13 → before.register 13 ≤ top → RunsPrivately p floor top code before after
    → IsDisturbed floor top before other
    → (last : Machine) × RunsPrivately p floor top code other last × IsDisturbed floor top after last

-- an instruction is no exception return
abbrev pub IsNoReturn : Instruction → Machine → Type 0
IsNoReturn (instruction.BranchExchange r) m = m.register r < 0xF0000000
IsNoReturn i m = ⊤

-- An instruction that can be encoded, and is no exception return, leaves words in registers and memory.
abbrev pub WordsAreKept : Type 0
WordsAreKept =
    (port : ℕ) (i : Instruction) (before after : Machine) → IsEncodable i → IsNoReturn i before
    → before.address + 5 < 2 ^ 32 → HoldsWords before → effect port i before ≡ Some after → HoldsWords after

-- wherever a program lies, nobody sees anything of the instruction but the job itself
abbrev pub IsPrivate : Instr → Type 0
IsPrivate i =
    (at : Outside) (bottom : ℕ) (img : Image) (places : List ℕ) (p : Program) → DoesPrivately at bottom img places p i

-- wherever a program lies, others see one machine instruction of it
abbrev pub IsOneAccess : Instr → Type 0
IsOneAccess i =
    (at : Outside) (bottom : ℕ) (img : Image) (places : List ℕ) (p : Program) → DoesInOne at bottom img places p i

-- `set`
abbrev pub SetIsDone : Type 0
SetIsDone = (d v : ℕ) → IsPrivate (instr.Set d v)

-- `copy`
abbrev pub CopyIsDone : Type 0
CopyIsDone = (d s : ℕ) → IsPrivate (instr.Copy d s)

-- the operations on two slots
abbrev pub CalculationIsDone : Type 0
CalculationIsDone = (o : Op) (d a b : ℕ) → IsPrivate (instr.Calc o d a b)

-- `jump`
abbrev pub JumpIsDone : Type 0
JumpIsDone = (l : ℕ) → IsPrivate (instr.Jump l)

-- `jumpz`
abbrev pub JumpIfZeroIsDone : Type 0
JumpIfZeroIsDone = (s l : ℕ) → IsPrivate (instr.JumpZ s l)

-- `mark`, which has no code
abbrev pub MarkIsDone : Type 0
MarkIsDone = IsPrivate instr.Mark

-- `wait`
abbrev pub WaitIsDone : Type 0
WaitIsDone = IsPrivate instr.Wait

-- `load`, `store`, and the same at a computed cell
abbrev pub LoadIsDone : Type 0
LoadIsDone = (d k : ℕ) → IsOneAccess (instr.Load d k)

abbrev pub StoreIsDone : Type 0
StoreIsDone = (k s : ℕ) → IsOneAccess (instr.Store k s)

abbrev pub LoadAtIsDone : Type 0
LoadAtIsDone = (d k s : ℕ) → IsOneAccess (instr.LoadAt d k s)

abbrev pub StoreAtIsDone : Type 0
StoreAtIsDone = (k s from : ℕ) → IsOneAccess (instr.StoreAt k s from)

-- `emit`
abbrev pub EmitIsDone : Type 0
EmitIsDone = (s : ℕ) → IsOneAccess (instr.Emit s)

-- `clock`
abbrev pub ClockIsDone : Type 0
ClockIsDone = (d : ℕ) → IsOneAccess (instr.Clock d)

-- `raise`, to a priority value of eight bits, and `restore`, likewise
abbrev pub RaiseIsDone : Type 0
RaiseIsDone = (d v : ℕ) → IsOneAccess (instr.Raise d v)

abbrev pub RestoreIsDone : Type 0
RestoreIsDone = (s : ℕ) → IsOneAccess (instr.Restore s)

-- `mask`, `unmask` and `serve`
abbrev pub MaskIsDone : Type 0
MaskIsDone = (d : ℕ) → IsOneAccess (instr.Mask d)

abbrev pub UnmaskIsDone : Type 0
UnmaskIsDone = (s : ℕ) → IsOneAccess (instr.Unmask s)

abbrev pub ServeIsDone : Type 0
ServeIsDone = IsOneAccess instr.Serve

-- `post`, of a number that STIR takes
abbrev pub PostIsDone : Type 0
PostIsDone = (irq : ℕ) → irq < 2 ^ 9 → IsOneAccess (instr.Post irq)

-- `noalarm`
abbrev pub NoAlarmIsDone : Type 0
NoAlarmIsDone = IsOneAccess instr.NoAlarm

-- `ret`
abbrev pub RetIsDone : Type 0
RetIsDone =
    (at : Outside) (bottom : ℕ) (img : Image) (places : List ℕ) (p : Program) → DoesReturn at bottom img places p

-- `back`
abbrev pub BackIsDone : Type 0
BackIsDone =
    (at : Outside) (bottom : ℕ) (img : Image) (places : List ℕ) (p : Program) → DoesComeBack at bottom img places p

-- `alarm`, run with no exception taken in its tail
abbrev pub AlarmIsDone : Type 0
AlarmIsDone =
    (s irq : ℕ) → irq < 2 ^ 9 → (at : Outside) (bottom : ℕ) (img : Image) (places : List ℕ) (p : Program)
    → DoesAlarm at bottom img places p s irq

-- `call`
abbrev pub CallIsDone : Type 0
CallIsDone =
    (at : Outside) (bottom : ℕ) (img : Image) (places : List ℕ) (p : Program) → DoesCall at bottom img places p
