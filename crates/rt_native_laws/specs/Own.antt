-- What a job has of its own on the processor: registers r0 to r3 and the flags, which exception entry saves and
-- exception return gives back (ARMv7-M Architecture Reference Manual, sections B1.5.6 and B1.5.8), the address of its
-- next instruction, and its part of the stack, from the stack pointer up to where its frames end. Whatever else an
-- instruction touches can be seen or changed by those who interrupt the job: memory, requests, the depth of the stack.
-- Masks a job may read for itself, since whoever interrupts it leaves them as they were; writing one is seen.
use Rattle.std.specs.Prelude.{◌≡◌, ◌≢◌, ℕ, ◌+◌, ◌-◌, ◌*◌, ◌^◌, ◌<◌, ◌≤◌, ◌⊎◌, Bool, true, false, ◌&&◌, nat_lt, nat_le}
use Rattle.std.specs.Prelude.{List, [], ◌∷◌, Some}
use Rattle.std.specs.List.{AllByRecursion}
use Rattle.rt_ids.specs.Operation.{wrapped_number as word}
use Rattle.rt_thumb.specs.Effect.{effect}
use Rattle.rt_thumb.specs.Encoding.{encode, size}
use Rattle.rt_thumb.specs.Machine.{Machine}
use Rattle.rt_thumb.specs.Step.{Program}
use Rattle.rt_thumb.specs.declared.instruction.Instruction.{Instruction}
use Rattle.rt_thumb.specs.declared.instruction.Instruction.TheVariants as instruction

-- r0 to r3
abbrev pub is_scratch : ℕ → Bool
is_scratch r = nat_lt r 4

-- an address lies in the job's part of the stack, which ends at `top`
abbrev pub is_in_frames : ℕ → Machine → ℕ → Bool
is_in_frames top m address = nat_le (m.register 13) address && nat_lt address top

-- the stack pointer stays within the part of the stack that the job has already
abbrev pub stays_within : ℕ → ℕ → ℕ → Bool
stays_within floor top sp = nat_le floor sp && nat_le sp top

-- a register gets a word from an address
abbrev pub reads_own : ℕ → Machine → ℕ → ℕ → Bool
reads_own top m t address = is_scratch t && is_in_frames top m address

-- Whether an instruction leaves alone all but the job's own. The job's part of the stack goes from `floor` to `top`;
-- below the stack pointer it is nobody's, since an exception may come at any time.
abbrev pub is_private : ℕ → ℕ → Instruction → Machine → Bool
is_private floor top (instruction.Move d n) m = is_scratch d
is_private floor top (instruction.CompareNumber a n) m = true
is_private floor top (instruction.AddNumber d n) m = is_scratch d
is_private floor top (instruction.SubtractNumber d a n) m = is_scratch d
is_private floor top (instruction.Add d a b) m = is_scratch d
is_private floor top (instruction.Subtract d a b) m = is_scratch d
is_private floor top (instruction.Operate op d b) m = is_scratch d
is_private floor top (instruction.AddStackPointer d) m = is_scratch d
is_private floor top (instruction.BranchExchange r) m = nat_lt (m.register r) 0xF0000000
is_private floor top (instruction.Load t a n) m = reads_own top m t (word (m.register a + n))
is_private floor top (instruction.Store t a n) m = is_in_frames top m (word (m.register a + n))
is_private floor top (instruction.StoreByte t a n) m = false
is_private floor top (instruction.LoadStack t n) m = reads_own top m t (word (m.register 13 + n))
is_private floor top (instruction.StoreStack t n) m = is_in_frames top m (word (m.register 13 + n))
is_private floor top (instruction.AddStack n) m = stays_within floor top (word (m.register 13 + n))
is_private floor top (instruction.SubtractStack n) m = stays_within floor top (word (m.register 13 + (2 ^ 32 - n)))
is_private floor top instruction.EnableInterrupts m = false
is_private floor top instruction.DisableInterrupts m = false
is_private floor top instruction.WaitForInterrupt m = true
is_private floor top instruction.NoOperation m = true
is_private floor top (instruction.MoveWide d n) m = is_scratch d
is_private floor top (instruction.MoveTop d n) m = is_scratch d
is_private floor top (instruction.MoveNot d n) m = is_scratch d
is_private floor top (instruction.AddStackWide n) m = stays_within floor top (word (m.register 13 + n))
is_private floor top (instruction.SubtractStackWide n) m =
    stays_within floor top (word (m.register 13 + (2 ^ 32 - n)))
is_private floor top (instruction.LoadWide t a n) m = reads_own top m t (word (m.register a + n))
is_private floor top (instruction.StoreWide t a n) m = is_in_frames top m (word (m.register a + n))
is_private floor top (instruction.LoadIndexed t a x) m = reads_own top m t (word (m.register a + m.register x * 4))
is_private floor top (instruction.StoreIndexed t a x) m = is_in_frames top m (word (m.register a + m.register x * 4))
is_private floor top (instruction.Divide d a b) m = is_scratch d
is_private floor top (instruction.MultiplySubtract d a b c) m = is_scratch d
is_private floor top (instruction.ReadSpecial d s) m = is_scratch d
is_private floor top (instruction.WriteSpecial s a) m = false
is_private floor top instruction.SynchronizeData m = true
is_private floor top instruction.SynchronizeInstructions m = true
is_private floor top (instruction.Branch x) m = true
is_private floor top (instruction.BranchIf c x) m = true
is_private floor top (instruction.Call x) m = false

-- Whether an instruction leaves the stack pointer where it is and is no branch by a register, which may be an exception
-- return. No other that can be encoded writes the stack pointer.
abbrev pub is_steady : Instruction → Bool
is_steady (instruction.BranchExchange r) = false
is_steady (instruction.AddStack n) = false
is_steady (instruction.SubtractStack n) = false
is_steady (instruction.AddStackWide n) = false
is_steady (instruction.SubtractStackWide n) = false
is_steady i = true

-- each of some does
abbrev pub AreSteady : List Instruction → Type 0
AreSteady code = AllByRecursion (λ i. is_steady i ≡ true) code

-- The processor executes an instruction: the one at its address, and no exception is taken before it.
pub record Executes (p : Program) (i : Instruction) (before after : Machine) : Type 0 where
  pub found : p.code before.address ≡ Some i
  pub does : effect p.port i before ≡ Some after

-- It executes one that is private.
pub record StepsPrivately (p : Program) (floor top : ℕ) (i : Instruction) (before after : Machine) : Type 0 where
  pub executes : Executes p i before after
  pub is_private : is_private floor top i before ≡ true

-- it executes some, one after the other
abbrev pub Runs : Program → List Instruction → Machine → Machine → Type 0
Runs p [] before after = after ≡ before
Runs p (i ∷ is) before after = (next : Machine) × Executes p i before next × Runs p is next after

-- it executes some, one after the other, each of which is private
abbrev pub RunsPrivately : Program → ℕ → ℕ → List Instruction → Machine → Machine → Type 0
RunsPrivately p floor top [] before after = after ≡ before
RunsPrivately p floor top (i ∷ is) before after =
    (next : Machine) × StepsPrivately p floor top i before next × RunsPrivately p floor top is next after

-- instructions lie one after the other from an address to another
abbrev pub Spans : Program → ℕ → List Instruction → ℕ → Type 0
Spans p from [] to = to ≡ from
Spans p from (i ∷ is) to = (p.code from ≡ Some i) × Spans p (from + size (encode i)) is to

-- Of a run from one state to another others see nothing: r0 to r3, the flags, the address and words of the job's part
-- of the stack may have changed, the stack pointer within it, and it may be settled which exception is taken.
pub record ChangesItsOwn (floor top : ℕ) (before after : Machine) : Type 0 where
  pub rest : after ≡ record before {
    register = after.register;
    address = after.address;
    flags = after.flags;
    memory = after.memory;
    is_unsettled = after.is_unsettled;
  }
  pub registers : (k : ℕ) → 4 ≤ k → k ≢ 13 → after.register k ≡ before.register k
  pub stack : (floor ≤ after.register 13) × (after.register 13 ≤ top)
  pub memory : (k : ℕ) → (4 * k + 4 ≤ floor) ⊎ (top ≤ 4 * k) → after.memory k ≡ before.memory k
  pub settled : after.is_unsettled ≡ true → before.is_unsettled ≡ true

-- Others have done something beside the job's own, and the job runs again: memory outside its part of the stack, what
-- is pending, and what others have seen may be other than it was.
pub record IsDisturbed (floor top : ℕ) (before after : Machine) : Type 0 where
  pub rest : after ≡ record before {
    memory = after.memory;
    is_pending = after.is_pending;
    is_unsettled = after.is_unsettled;
    seen = after.seen;
  }
  pub memory : (k : ℕ) → floor ≤ 4 * k → 4 * k < top → after.memory k ≡ before.memory k
