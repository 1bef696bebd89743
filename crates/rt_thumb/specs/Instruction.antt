-- Which instructions can be encoded: the ranges of registers and numbers in the encodings that Encoding.antt names
-- (ARMv7-M Architecture Reference Manual, section A7.7). Registers that the manual calls UNPREDICTABLE are left out,
-- and so is register 15 as a base, which has another meaning. Some forms take fewer than the manual's: the link
-- register is left out where code has no need of it, and the stack pointer moves by whole words.
use Rattle.std.specs.Prelude.{◌≡◌, ℕ, ◌+◌, ◌-◌, ◌%◌, ◌^◌, ◌<◌, ◌≤◌, ◌⊎◌, ⊤}
use Rattle.rt_thumb.specs.declared.instruction.Instruction.{Instruction}
use Rattle.rt_thumb.specs.declared.instruction.Instruction.TheVariants as instruction

-- a register that encodings of 16 bits reach, r0 to r7
abbrev pub IsLow : ℕ → Type 0
IsLow register = register < 8

-- a register that every encoding of 32 bits takes, r0 to r12
abbrev pub IsGeneral : ℕ → Type 0
IsGeneral register = register < 13

-- a register that wide loads and stores take: those, and the link register
abbrev pub IsTransferred : ℕ → Type 0
IsTransferred register = IsGeneral register ⊎ (register ≡ 14)

-- a multiple of 4 below a limit: an offset of a word
abbrev pub IsWordOffset : ℕ → ℕ → Type 0
IsWordOffset limit offset = (offset % 4 ≡ 0) × (offset < limit)

-- an even displacement of so many bits in two's complement, extended to a word
abbrev pub IsDisplacement : ℕ → ℕ → Type 0
IsDisplacement bits displacement =
    (displacement % 2 ≡ 0) × (displacement < 2 ^ 32)
    × ((displacement < 2 ^ (bits - 1)) ⊎ (2 ^ 32 ≤ displacement + 2 ^ (bits - 1)))

abbrev pub IsEncodable : Instruction → Type 0
IsEncodable (instruction.Move d n) = IsLow d × (n < 2 ^ 8)
IsEncodable (instruction.CompareNumber a n) = IsLow a × (n < 2 ^ 8)
IsEncodable (instruction.AddNumber d n) = IsLow d × (n < 2 ^ 8)
IsEncodable (instruction.SubtractNumber d a n) = IsLow d × IsLow a × (n < 2 ^ 3)
IsEncodable (instruction.Add d a b) = IsLow d × IsLow a × IsLow b
IsEncodable (instruction.Subtract d a b) = IsLow d × IsLow a × IsLow b
IsEncodable (instruction.Operate op d b) = IsLow d × IsLow b
IsEncodable (instruction.AddStackPointer d) = IsLow d
IsEncodable (instruction.BranchExchange m) = m < 15
IsEncodable (instruction.Load t a n) = IsLow t × IsLow a × IsWordOffset (2 ^ 7) n
IsEncodable (instruction.Store t a n) = IsLow t × IsLow a × IsWordOffset (2 ^ 7) n
IsEncodable (instruction.StoreByte t a n) = IsLow t × IsLow a × (n < 2 ^ 5)
IsEncodable (instruction.LoadStack t n) = IsLow t × IsWordOffset (2 ^ 10) n
IsEncodable (instruction.StoreStack t n) = IsLow t × IsWordOffset (2 ^ 10) n
IsEncodable (instruction.AddStack n) = IsWordOffset (2 ^ 9) n
IsEncodable (instruction.SubtractStack n) = IsWordOffset (2 ^ 9) n
IsEncodable instruction.EnableInterrupts = ⊤
IsEncodable instruction.DisableInterrupts = ⊤
IsEncodable instruction.WaitForInterrupt = ⊤
IsEncodable instruction.NoOperation = ⊤
IsEncodable (instruction.MoveWide d n) = IsGeneral d × (n < 2 ^ 16)
IsEncodable (instruction.MoveTop d n) = IsGeneral d × (n < 2 ^ 16)
IsEncodable (instruction.MoveNot d n) = IsGeneral d × (n < 2 ^ 8)
IsEncodable (instruction.AddStackWide n) = IsWordOffset (2 ^ 12) n
IsEncodable (instruction.SubtractStackWide n) = IsWordOffset (2 ^ 12) n
IsEncodable (instruction.LoadWide t a n) = IsTransferred t × (a < 14) × (n < 2 ^ 12)
IsEncodable (instruction.StoreWide t a n) = IsTransferred t × (a < 14) × (n < 2 ^ 12)
IsEncodable (instruction.LoadIndexed t a m) = IsGeneral t × (a < 14) × IsGeneral m
IsEncodable (instruction.StoreIndexed t a m) = IsGeneral t × (a < 14) × IsGeneral m
IsEncodable (instruction.Divide d a b) = IsGeneral d × IsGeneral a × IsGeneral b
IsEncodable (instruction.MultiplySubtract d a b c) = IsGeneral d × IsGeneral a × IsGeneral b × IsGeneral c
IsEncodable (instruction.ReadSpecial d special) = IsGeneral d
IsEncodable (instruction.WriteSpecial special a) = IsGeneral a
IsEncodable instruction.SynchronizeData = ⊤
IsEncodable instruction.SynchronizeInstructions = ⊤
IsEncodable (instruction.Branch displacement) = IsDisplacement 25 displacement
IsEncodable (instruction.BranchIf condition displacement) = IsDisplacement 21 displacement
IsEncodable (instruction.Call displacement) = IsDisplacement 25 displacement
