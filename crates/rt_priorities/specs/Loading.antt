-- A program as bytes in memory (ARMv7-M Architecture Reference Manual, section A3.3: the lowest byte of a word or a
-- halfword has the lowest address; section A5.1: an instruction is one halfword, or two). The processor finds at an
-- address the instruction whose halfwords lie there. What is written to flash is the text of rt_native's file.
use Rattle.std.specs.Prelude.{◌≡◌, ◌↔◌, ℕ, ◌+◌, ◌^◌, ◌<◌, List, length, Some, slice_index}
use Rattle.rt_code.specs.Image.{Image}
use Rattle.rt_native.specs.Fitting.{Fits, IsRegion}
use Rattle.rt_native.specs.Program.{bytes_of_halfwords, text}
use Rattle.rt_native.specs.Target.{Target}
use Rattle.rt_thumb.specs.Encoding.{encode}
use Rattle.rt_thumb.specs.Instruction.{IsEncodable}
use Rattle.rt_thumb.specs.Machine.{Machine, byte_at, word_at}
use Rattle.rt_thumb.specs.Step.{Program}
use Rattle.rt_thumb.specs.declared.instruction.Instruction.{Instruction}
use Rattle.rt_priorities.specs.Vectors.{IsLoaded}

-- bytes lie in memory, one behind the other, from an address on
abbrev pub BytesLie : Machine → ℕ → List ℕ → Type 0
BytesLie m a bytes = (k : ℕ) → k < length bytes → byte_at m (a + k) ≡ slice_index bytes k

-- a program is what memory has: an instruction is at an address exactly where its halfwords lie
abbrev pub ReadsMemory : Program → Machine → Type 0
ReadsMemory p m = (a : ℕ) (i : Instruction)
    → (p.code a ≡ Some i) ↔ (IsEncodable i × BytesLie m a (bytes_of_halfwords (encode i)))

-- The text of an image's program lies in flash, and VTOR has the address of flash; memory holds words.
pub record HasText (img : Image) (target : Target) (m : Machine) : Type 0 where
  pub words : (k : ℕ) → m.memory k < 2 ^ 32
  pub table : word_at m 0xE000ED08 ≡ target.flash.address
  pub bytes : BytesLie m target.flash.address (text img target)

-- Where an image has a program, and its text lies in flash, the program that memory has is the image's.
abbrev pub TextIsLoaded : Type 0
TextIsLoaded = (img : Image) (target : Target) (p : Program) (m : Machine) → IsRegion target.flash
    → IsRegion target.ram → Fits img target → HasText img target m → ReadsMemory p m → IsLoaded img target p m
