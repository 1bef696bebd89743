-- What a program has beside the image's code: what runs at reset, at a fault and at a tick, and what runs first as an
-- interrupt is taken. Register addresses are those of the ARMv7-M Architecture Reference Manual (sections B3.2 to
-- B3.4).
use Rattle.std.specs.Prelude.{ℕ, ◌+◌, ◌-◌, ◌*◌, ◌/◌, ◌%◌, ◌^◌, ◌==◌, List, [], ◌∷◌, ◌++◌, filter, flat_map, Option}
use Rattle.std.specs.Prelude.{Some, None, slice_index, Bool, false, if◌then◌else◌}
use Rattle.std.specs.List.{list_any}
use Rattle.rt_ids.specs.Operation.{wrapped_number as word}
use Rattle.rt_code.specs.Image.{Image}
use Rattle.rt_code.specs.declared.image.Handler.{Handler}
use Rattle.rt_code.specs.declared.image.IrqRow.{IrqRow}
use Rattle.rt_code.specs.declared.instr.Instr.{Instr}
use Rattle.rt_code.specs.declared.instr.Instr.TheVariants as instr
use Rattle.rt_code.specs.declared.instr.Note.{Note}
use Rattle.rt_thumb.specs.declared.instruction.Condition.TheVariants as condition
use Rattle.rt_thumb.specs.declared.instruction.Instruction.{Instruction}
use Rattle.rt_thumb.specs.declared.instruction.Instruction.TheVariants as instruction
use Rattle.rt_thumb.specs.declared.instruction.Operation.TheVariants as operation
use Rattle.rt_native.specs.Pieces.{bytes_of, address, number, open_frame}
use Rattle.rt_native.specs.Sequences.{STIR, branch, cell}
use Rattle.rt_native.specs.Target.{Target}
use Rattle.rt_native.specs.declared.outside.Outside.{Outside}
use Rattle.rt_native.specs.declared.target.Input.{Input}

-- NVIC_ISER0, whose bits enable interrupts 0 to 31 (section B3.4.4)
abbrev pub ISER : ℕ
ISER = 0xE000_E100

-- NVIC_IPR0, whose bytes are the priority values of interrupts (section B3.4.9)
abbrev pub IPR : ℕ
IPR = 0xE000_E400

-- SYST_CSR, before SYST_RVR and SYST_CVR (section B3.3.2)
abbrev pub SYSTICK : ℕ
SYSTICK = 0xE000_E010

-- a fault: it stays here, B to itself
unfoldable pub fault : List Instruction
fault = instruction.Branch (2 ^ 32 - 4) ∷ []

-- the interrupt that an `alarm` pends
abbrev pub alarm_irq : Instr → Option ℕ
alarm_irq (instr.Alarm s irq) = Some irq
alarm_irq i = None

-- the first of two that is there
abbrev pub first_of : Option ℕ → Option ℕ → Option ℕ
first_of None other = other
first_of (Some irq) other = Some irq

-- the interrupt that the first `alarm` of some code pends
abbrev pub timer_irq : List (Instr × Option Note) → Option ℕ
timer_irq [] = None
timer_irq (line ∷ more) = first_of (alarm_irq line.0) (timer_irq more)

-- an interrupt becomes pending; at a tick's end no barrier is needed, since exception return is one
unfoldable pub pend_timer : Option ℕ → List Instruction
pend_timer None = []
pend_timer (Some irq) = instruction.MoveWide 1 irq ∷ address 0 STIR ++ instruction.Store 1 0 0 ∷ []

-- an alarm that is due at a tick is none, and its interrupt becomes pending; r0 has the address of the time's word
unfoldable pub due_at_tick : Option ℕ → List Instruction
due_at_tick irq = instruction.MoveNot 2 0 ∷ instruction.Store 2 0 4 ∷ pend_timer irq

-- how many bytes that takes
unfoldable pub due_size_at_tick : Option ℕ → ℕ
due_size_at_tick irq = bytes_of (due_at_tick irq)

-- A tick, the handler of SysTick at priority value 0, above all code of the image: the time grows by 1, and an alarm
-- that is not in the future is due. It has no frame.
unfoldable pub tick : Outside → Option ℕ → List Instruction
tick at irq =
    address 0 at.time
    ++ instruction.Load 1 0 0 ∷ instruction.AddNumber 1 1 ∷ instruction.Store 1 0 0 ∷ instruction.Load 2 0 4
    ∷ instruction.Operate operation.Compare 2 1
    ∷ instruction.BranchIf condition.Higher (due_size_at_tick irq) ∷ due_at_tick irq
    ++ instruction.BranchExchange 14 ∷ []

-- a cell is read from a device: one LDR of its register
unfoldable pub read_input : Outside → Input → List Instruction
read_input at input =
    address 1 input.address ++ instruction.Load 0 1 0 ∷ address 1 (cell at input.cell)
    ++ instruction.Store 0 1 0 ∷ []

-- what runs first as an interrupt is taken, before its handler's code: its cells are read, and its frame comes into
-- being; LR, EXC_RETURN, stays as it is
unfoldable pub opening : Outside → List Input → ℕ → Handler → List Instruction
opening at inputs irq h = flat_map (read_input at) (filter (λ i. i.irq == irq) inputs) ++ open_frame h.frame

-- how many bytes that takes, with the branch to the handler's code; nothing where the interrupt is not enabled
abbrev pub handler_size : Outside → List Input → ℕ → Option Handler → ℕ
handler_size at inputs irq None = 0
handler_size at inputs irq (Some h) = bytes_of (opening at inputs irq h) + 4

-- that, and the branch to the handler's code, before an address; the image's instructions have their code at places
unfoldable pub stub : Outside → List Input → List ℕ → ℕ → ℕ → Option Handler → List Instruction
stub at inputs places behind irq None = []
stub at inputs places behind irq (Some h) =
    opening at inputs irq h ++ branch behind (slice_index places h.entry)

-- LR is kept in eight bytes of the stack, so that SP stays a multiple of 8, as it is to be where functions of others
-- are called (Procedure Call Standard for the Arm Architecture, section 6.2.1.2); and it comes back
unfoldable pub keep_return : List Instruction
keep_return = instruction.SubtractStack 8 ∷ instruction.StoreWide 14 13 0 ∷ []

-- LR comes back from the stack, and its 8 bytes are given back
unfoldable pub take_return : List Instruction
take_return = instruction.LoadWide 14 13 0 ∷ instruction.AddStack 8 ∷ []

-- A function of C is called. The processor has saved r0 to r3 and r12, the function keeps the others, and LR, which is
-- EXC_RETURN, is kept here. A linker writes the displacement of BL: before it does, that is -4, to which the address of
-- the function less that of the BL is added (ELF for the Arm architecture, section 5.6.1).
unfoldable pub call_function : List Instruction
call_function = keep_return ++ (instruction.Call (2 ^ 32 - 4) ∷ take_return)

-- what stands before the BL
abbrev pub call_offset : ℕ
call_offset = bytes_of keep_return

-- a function is called first as this interrupt is taken
abbrev pub is_called : List ℕ → ℕ → Bool
is_called calls irq = list_any (λ c. c == irq) calls

-- and it is enabled
abbrev pub calls_first : List ℕ → ℕ → Option Handler → Bool
calls_first calls irq None = false
calls_first calls irq (Some h) = is_called calls irq

-- what an entry begins with: the call of a function, where its interrupt has a handler and one was asked for
abbrev pub first_call : List ℕ → ℕ → Option Handler → List Instruction
first_call calls irq handler = if calls_first calls irq handler then call_function else []

-- what runs first as the interrupt of a row is taken, before an address: a function is called, and then what is above
unfoldable pub entrance : Outside → Target → List ℕ → ℕ → IrqRow → List Instruction
entrance at target places behind row =
    first_call target.calls row.number row.handler ++ stub at target.inputs places behind row.number row.handler

-- its bytes, which no place changes
abbrev pub entrance_size : Outside → Target → IrqRow → ℕ
entrance_size at target row =
    bytes_of (first_call target.calls row.number row.handler) + handler_size at target.inputs row.number row.handler

-- those of rows, the first of which has this index; places are those of what is made here, for each row of the image,
-- and where they end
abbrev pub entrances_from : Outside → Target → List ℕ → List ℕ → ℕ → List IrqRow → List Instruction
entrances_from at target places stub_places k [] = []
entrances_from at target places stub_places k (row ∷ rows) =
    entrance at target places (slice_index stub_places (k + 1)) row
    ++ entrances_from at target places stub_places (k + 1) rows

-- the priority value of an enabled interrupt is written, and it is enabled
unfoldable pub enable : ℕ → Option Handler → List Instruction
enable irq None = []
enable irq (Some h) =
    number 0 h.value ++ address 1 (IPR + irq) ++ instruction.StoreByte 0 1 0 ∷ []
    ++ (number 0 (2 ^ (irq % 32)) ++ address 1 (ISER + 4 * (irq / 32)) ++ instruction.Store 0 1 0 ∷ [])

-- SysTick begins to count, from the core's clock, and to interrupt (CLKSOURCE, TICKINT and ENABLE of SYST_CSR)
unfoldable pub start_tick : Option ℕ → List Instruction
start_tick None = []
start_tick (Some reload) =
    address 1 SYSTICK ++ number 0 reload
    ++ instruction.Store 0 1 4 ∷ instruction.Store 0 1 8 ∷ instruction.Move 0 7 ∷ instruction.Store 0 1 0 ∷ []

-- words from one address on are copied to others, of which `behind` is the first that is not one of them
unfoldable pub copy_words : ℕ → ℕ → ℕ → List Instruction
copy_words from to behind =
    address 0 from ++ address 1 to ++ address 2 behind
    ++ instruction.Operate operation.Compare 1 2 ∷ instruction.BranchIf condition.Equal 12
    ∷ instruction.Load 3 0 0 ∷ instruction.Store 3 1 0 ∷ instruction.AddNumber 0 4 ∷ instruction.AddNumber 1 4
    ∷ instruction.Branch (2 ^ 32 - 18) ∷ []

-- At reset, whose state is privileged, with the main stack and all masks clear (section B1.5.5): interrupts are masked,
-- those of the image are enabled, cells get their first values, ticks begin, and the thread's frame comes into being.
-- The image's code follows.
unfoldable pub reset : Outside → Option ℕ → Image → ℕ → List Instruction
reset at reload img load =
    instruction.DisableInterrupts ∷ flat_map (λ row. enable row.number row.handler) img.irqs
    ++ copy_words load at.cells (word (at.time + 8)) ++ start_tick reload ++ open_frame img.thread_words
    ++ instruction.SynchronizeData ∷ instruction.SynchronizeInstructions ∷ []
