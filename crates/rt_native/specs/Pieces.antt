-- Pieces that sequences of instructions are made of. Only r0 to r3 are used, which exception entry saves (ARMv7-M
-- Architecture Reference Manual, section B1.5.6), so that no handler has to save a register; LR keeps EXC_RETURN to the
-- end of a handler. The frame of a job is at SP, slot k at SP + 4 * k, and nothing is written below SP.
use Rattle.std.specs.Prelude.{ℕ, ◌+◌, ◌-◌, ◌*◌, ◌/◌, ◌%◌, ◌^◌, ◌==◌, nat_lt, if◌then◌else◌, List, [], ◌∷◌, ◌++◌}
use Rattle.std.specs.Prelude.{replicate, sum_by}
use Rattle.rt_ids.specs.Operation.{wrapped_number as word}
use Rattle.rt_thumb.specs.declared.instruction.Instruction.{Instruction}
use Rattle.rt_thumb.specs.declared.instruction.Instruction.TheVariants as instruction
use Rattle.rt_thumb.specs.Encoding.{encode, size}

-- how many bytes instructions take
abbrev pub bytes_of : List Instruction → ℕ
bytes_of instructions = sum_by (λ i. size (encode i)) instructions

-- a number of 32 bits in a register, always by two instructions, so that places do not depend on it: MOVW, MOVT
unfoldable pub address : ℕ → ℕ → List Instruction
address r n = instruction.MoveWide r (n % 2 ^ 16) ∷ instruction.MoveTop r (n / 2 ^ 16) ∷ []

-- a number of 32 bits in a register: MOVS, MOVW, or both halves
unfoldable pub number : ℕ → ℕ → List Instruction
number r n =
    if nat_lt n (2 ^ 8) then instruction.Move r n ∷ []
    else if nat_lt n (2 ^ 16) then instruction.MoveWide r n ∷ []
    else address r n

-- the address of a slot that is too far for an offset, in r3: its offset, and ADD r3, SP
unfoldable pub far_slot : ℕ → List Instruction
far_slot s = number 3 (word (4 * s)) ++ instruction.AddStackPointer 3 ∷ []

-- a register becomes a slot: LDR of the offsets that 16 bits and 32 bits encode, else by r3
unfoldable pub read_slot : ℕ → ℕ → List Instruction
read_slot r s =
    if nat_lt s (2 ^ 8) then instruction.LoadStack r (4 * s) ∷ []
    else if nat_lt s (2 ^ 10) then instruction.LoadWide r 13 (4 * s) ∷ []
    else far_slot s ++ instruction.Load r 3 0 ∷ []

-- a slot becomes a register: STR, likewise
unfoldable pub write_slot : ℕ → ℕ → List Instruction
write_slot r s =
    if nat_lt s (2 ^ 8) then instruction.StoreStack r (4 * s) ∷ []
    else if nat_lt s (2 ^ 10) then instruction.StoreWide r 13 (4 * s) ∷ []
    else far_slot s ++ instruction.Store r 3 0 ∷ []

-- the greatest step of SP in one instruction that keeps it a multiple of 8
abbrev pub STEP : ℕ
STEP = 4088

-- SP falls by less than a step: SUB or SUBW
unfoldable pub fall : ℕ → List Instruction
fall n =
    if n == 0 then []
    else if nat_lt n (2 ^ 9) then instruction.SubtractStack n ∷ [] else instruction.SubtractStackWide n ∷ []

-- SP rises by less than a step: ADD or ADDW
unfoldable pub rise : ℕ → List Instruction
rise n =
    if n == 0 then []
    else if nat_lt n (2 ^ 9) then instruction.AddStack n ∷ [] else instruction.AddStackWide n ∷ []

-- a frame of so many words comes into being
unfoldable pub open_frame : ℕ → List Instruction
open_frame words =
    let n = word (4 * words) in replicate (n / STEP) (instruction.SubtractStackWide STEP) ++ fall (n % STEP)

-- a frame of so many words goes
unfoldable pub close_frame : ℕ → List Instruction
close_frame words =
    let n = word (4 * words) in replicate (n / STEP) (instruction.AddStackWide STEP) ++ rise (n % STEP)

-- the displacement of a branch of four bytes that ends at an address: its target's distance from there
unfoldable pub leap : ℕ → ℕ → ℕ
leap behind target = word (target + (2 ^ 32 - behind))
