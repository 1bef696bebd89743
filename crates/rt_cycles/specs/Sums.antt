-- What an image costs: of each of its instructions the sum over the sequence that `rt_native` defines for it, on every
-- path through it. Where code and memory lie changes no sum, so all addresses are 0 here. What a device's registers add
-- at a `take` is left out, since an application alone names none.
use Rattle.std.specs.Prelude.{ℕ, ◌+◌, List, [], ◌∷◌, map, sum_by, Option, Some, None}
use Rattle.rt_ids.specs.Lists.{greatest}
use Rattle.rt_code.specs.Image.{Image}
use Rattle.rt_code.specs.declared.image.Handler.{Handler}
use Rattle.rt_code.specs.declared.instr.Instr.{Instr}
use Rattle.rt_code.specs.declared.instr.Instr.TheVariants as instr
use Rattle.rt_code.specs.declared.instr.Note.{Note}
use Rattle.rt_thumb.specs.declared.instruction.Instruction.{Instruction}
use Rattle.rt_native.specs.Sequences.{sequence}
use Rattle.rt_native.specs.Service.{stub, tick, timer_irq}
use Rattle.rt_native.specs.declared.outside.Outside.{Outside}
use Rattle.rt_cycles.specs.Table.{cycles, table_row, ENTRY, RETURN}

-- the cycles of instructions, one after the other; a branch counts as taken
abbrev pub cycles_of : List Instruction → ℕ
cycles_of code = sum_by (λ i. cycles (table_row i)) code

-- all addresses are 0
abbrev pub nowhere : Outside
nowhere = record { cells = 0; time = 0; port = 0 }

-- the exception return of an instruction that ends a handler
abbrev pub leaving : Instr → ℕ
leaving instr.Ret = RETURN
leaving i = 0

-- an exception entry, and what runs before the handler's code; nothing where the interrupt is not enabled
abbrev pub entering : ℕ → Option Handler → ℕ
entering irq None = 0
entering irq (Some h) = ENTRY + cycles_of (stub nowhere [] [] 0 irq (Some h))

module _ (img : Image) where
  -- the instruction at an address of the image
  abbrev pub instr_cycles : ℕ → Instr → ℕ
  instr_cycles n i = cycles_of (sequence nowhere img [] n i) + leaving i

  -- each of some instructions of the image, the first of which is at this address
  abbrev pub code_cycles : ℕ → List (Instr × Option Note) → List ℕ
  code_cycles n [] = []
  code_cycles n (line ∷ more) = instr_cycles n line.0 ∷ code_cycles (n + 1) more

  -- a `take` of any interrupt, at most
  abbrev pub take_cycles : ℕ
  take_cycles = greatest (map (λ row. entering row.number row.handler) img.irqs)

  -- a step of the core, at most: a `take`, or any instruction
  abbrev pub step_cycles : ℕ
  step_cycles = greatest (take_cycles ∷ code_cycles 0 img.code)

  -- a tick, which is no step, with its entry and its return
  abbrev pub tick_cycles : ℕ
  tick_cycles = ENTRY + cycles_of (tick nowhere (timer_irq img.code)) + RETURN
