-- Where a job is that calls a function of C first, as its interrupt is taken: at an instruction before the function or
-- behind it, or within the function. So it is whatever others do in between, who may interrupt it anywhere; the core
-- has seen the entry. Code and layout are this project's own, the call is as AAPCS has it (Functions.antt).
use Rattle.std.specs.Prelude.{◌≡◌, ◌≢◌, ℕ, ◌+◌, ◌-◌, ◌*◌, ◌%◌, ◌^◌, ◌<◌, ◌≤◌, ◌==◌, false, List, [], ◌∷◌, ◌++◌, length}
use Rattle.std.specs.Prelude.{None, Some, ⊤}
use Rattle.std.specs.List.{AllByRecursion, filter}
use Rattle.rt_code.specs.declared.image.Handler.{Handler}
use Rattle.rt_core.specs.Core.{Core}
use Rattle.rt_native.specs.Pieces.{leap}
use Rattle.rt_native.specs.Service.{call_offset, keep_return, stub, take_return}
use Rattle.rt_native.specs.declared.outside.Outside.{Outside}
use Rattle.rt_native.specs.declared.target.Input.{Input}
use Rattle.rt_native_laws.specs.Own.{Spans}
use Rattle.rt_native_laws.specs.Reading.{IsInput}
use Rattle.rt_native_laws.specs.Standing.{HoldsWords, IsLaidOut, Shows}
use Rattle.rt_code.specs.Image.{Image}
use Rattle.rt_thumb.specs.Exceptions.{external}
use Rattle.rt_thumb.specs.Machine.{Machine, word_at}
use Rattle.rt_thumb.specs.Step.{Program}
use Rattle.rt_thumb.specs.declared.instruction.Instruction.{Instruction}
use Rattle.rt_thumb.specs.declared.instruction.Instruction.TheVariants as instruction

-- what stands before a BL and the BL, with a displacement
abbrev pub to_function : ℕ → List Instruction
to_function displacement = keep_return ++ instruction.Call displacement ∷ []

-- The displacement of a BL to a function, of a call that begins at an address. A linker writes it (R_ARM_THM_CALL, ELF
-- for the Arm architecture, section 5.6.1).
abbrev pub displacement_to : ℕ → ℕ → ℕ
displacement_to begins function = leap (begins + call_offset + 4) function

-- a call that begins at an address, as a linker has written it
abbrev pub linked_call : ℕ → ℕ → List Instruction
linked_call begins function = to_function (displacement_to begins function) ++ take_return

-- Registers that a function gives back are as they were: r4 to r11, and SP apart (AAPCS, section 6.1.1).
abbrev pub PreservesRegisters : (ℕ → ℕ) → Machine → Type 0
PreservesRegisters were m = (k : ℕ) → 4 ≤ k → k ≢ 12 → k ≢ 13 → k ≢ 14 → m.register k ≡ were k

-- which instruction is next: SP falls, LR is kept, and BL; one of the function's; LR comes back, and SP rises
pub data CallStage : Type 0 where
  AtFall : CallStage
  AtKeep : CallStage
  AtBranch : CallStage
  Within : CallStage
  AtTake : CallStage
  AtRise : CallStage

-- Where SP, LR and the address are then, in a call that begins at an address, as a job sees it whose frames end at
-- another: LR was EXC_RETURN, which is kept at the frames' end. The function was called at a state, with so many bytes
-- of the stack.
module _ (begins top link room : ℕ) (called m : Machine) where
  -- by the stage
  abbrev pub IsAtStage : CallStage → Type 0
  IsAtStage AtFall = (m.address ≡ begins) × (m.register 13 ≡ top) × (m.register 14 ≡ link)
  IsAtStage AtKeep = (m.address ≡ begins + 2) × (m.register 13 ≡ top - 8) × (m.register 14 ≡ link)
  IsAtStage AtBranch = (m.address ≡ begins + 6) × (m.register 13 ≡ top - 8) × (word_at m (top - 8) ≡ link)
  IsAtStage Within =
      (called.register 14 ≡ begins + 11) × (called.register 13 ≡ top - 8) × (word_at m (top - 8) ≡ link)
      × (m.register 13 ≤ top - 8) × (top - 8 ≤ m.register 13 + room)
  IsAtStage AtTake = (m.address ≡ begins + 10) × (m.register 13 ≡ top - 8) × (word_at m (top - 8) ≡ link)
  IsAtStage AtRise = (m.address ≡ begins + 14) × (m.register 13 ≡ top - 8) × (m.register 14 ≡ link)

  -- the state whose r4 to r11 are those of the entry: within the function the one at which it was called
  abbrev pub keeper : CallStage → Machine
  keeper Within = called
  keeper stage = m

-- the function does not run
abbrev pub IsOwnCode : CallStage → Type 0
IsOwnCode Within = ⊥
IsOwnCode stage = ⊤

-- what lies outside, the lowest address of the stack, an image, the places of its code, and a program; a core at a job,
-- where the job's frames end, and the processor as the job sees it
module _ (at : Outside) (bottom : ℕ) (img : Image) (places : List ℕ) (p : Program) (c : Core) (top : ℕ)
    (m : Machine) where
  -- The job is a handler that was just entered, as the core has seen, and calls its function. But for its frame, which
  -- has still to come into being, and its address the processor shows the core. There is room for the frame, and for
  -- the function.
  pub record IsInCall : Type 0 where
    pub to : ℕ
    pub irq : ℕ
    pub handler : Handler
    pub declared : List Input
    pub inputs : AllByRecursion (IsInput (length c.processor.cells)) (filter (λ i. i.irq == irq) declared)
    pub function : ℕ
    pub reached : function < 2 ^ 32
    pub room : ℕ
    pub begins : ℕ
    pub halfword : begins % 2 ≡ 0
    pub code : Spans p begins (linked_call begins function ++ stub at declared places to irq (Some handler)) to
    pub low : to < 0xE0000000
    pub registers : ℕ → ℕ
    pub called : Machine
    pub stage : CallStage
    pub there : IsAtStage begins top (registers 14) room called m stage
    pub keeps : PreservesRegisters registers (keeper begins top (registers 14) room called m stage)
    pub exception : m.exception ≡ external irq
    pub laid : IsLaidOut at bottom (length c.processor.cells)
    pub entry : c.processor.address ≡ handler.entry
    pub frame : length c.processor.slots ≡ handler.frame
    pub free : c.caller ≡ None
    pub eights : top % 8 ≡ 0
    pub for_frame : bottom + 4 * handler.frame ≤ top
    pub for_function : bottom + room + 8 ≤ top
    pub below_cells : top ≤ at.cells
    pub shows : Shows at c m
    pub settled : m.is_unsettled ≡ false
    pub words : HoldsWords m
