-- What halfwords are decoded to: the instruction whose encoding they are. The manual gives tables of opcodes in place
-- of this (ARMv7-M Architecture Reference Manual, chapter A5); halfwords that it gives another instruction, or calls
-- UNPREDICTABLE, are no encoding of ours.
use Rattle.std.specs.Prelude.{◌≡◌, ◌↔◌, Option, Some}
use Rattle.rt_thumb.specs.Encoding.{encode}
use Rattle.rt_thumb.specs.Instruction.{IsEncodable}
use Rattle.rt_thumb.specs.declared.instruction.Instruction.{Instruction}
use Rattle.rt_thumb.specs.declared.instruction.Halfwords.{Halfwords}

-- an answer is an instruction exactly where it can be encoded, and these halfwords are its encoding
abbrev pub IsDecoding : Halfwords → Option Instruction → Type 0
IsDecoding w answer = (i : Instruction) → (answer ≡ Some i) ↔ (IsEncodable i × (encode i ≡ w))
