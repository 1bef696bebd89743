-- The file of an image in a chip's memory. A loader puts the bytes of an executable file where its program headers say
-- (ELF specification, TIS 1.2, book I: the file's header, figure 1-3; segments, figures 2-1 and 2-2); the processor
-- finds words and halfwords there with the lowest byte first (ARMv7-M Architecture Reference Manual, section A3.3), and
-- at an address the instruction whose halfwords lie there (section A5.1). A program of rt_thumb stands beside memory:
-- here it is what flash has.
use Rattle.std.specs.Prelude.{◌≡◌, ◌↔◌, ℕ, ◌+◌, ◌*◌, ◌^◌, ◌<◌, ◌≤◌, List, [], Some, slice_index}
use Rattle.std.specs.List.{AllByRecursion}
use Rattle.rt_code.specs.Image.{Image}
use Rattle.rt_native.specs.File.{file}
use Rattle.rt_native.specs.Fitting.{Fits, IsRegion}
use Rattle.rt_native.specs.Program.{bytes_of_halfwords, first_values}
use Rattle.rt_native.specs.Target.{Target}
use Rattle.rt_native_laws.specs.FromReset.{IsAtReset, IsJustReset, table}
use Rattle.rt_priorities.specs.Loading.{BytesLie}
use Rattle.rt_thumb.specs.Encoding.{encode, size}
use Rattle.rt_thumb.specs.Instruction.{IsEncodable}
use Rattle.rt_thumb.specs.Machine.{Machine, byte_at}
use Rattle.rt_thumb.specs.Step.{Program}
use Rattle.rt_thumb.specs.declared.instruction.Instruction.{Instruction}

-- Elf32_Half and Elf32_Word at an offset in a file, the lowest byte first (figure 1-2; ELFDATA2LSB in figure 1-7)
abbrev pub elf_half : List ℕ → ℕ → ℕ
elf_half bytes at = slice_index bytes at + 2 ^ 8 * slice_index bytes (at + 1)

-- two halfwords, the lower first
abbrev pub elf_word : List ℕ → ℕ → ℕ
elf_word bytes at = elf_half bytes at + 2 ^ 16 * elf_half bytes (at + 2)

-- where the header of a segment begins: at e_phoff, and e_phentsize for each one before it (figure 1-3)
abbrev pub header_at : List ℕ → ℕ → ℕ
header_at bytes n = elf_word bytes 28 + n * elf_half bytes 42

-- Memory holds the segment of a header, where p_type is PT_LOAD, which is 1: its p_filesz bytes, in the file from
-- p_offset on, lie from p_paddr on (figure 2-1).
abbrev pub HoldsSegment : List ℕ → Machine → ℕ → Type 0
HoldsSegment bytes m header =
    elf_word bytes header ≡ 1 → (k : ℕ) → k < elf_word bytes (header + 16)
    → byte_at m (elf_word bytes (header + 12) + k) ≡ slice_index bytes (elf_word bytes (header + 4) + k)

-- memory holds all segments of an executable file, e_phnum of them
abbrev pub HoldsFile : List ℕ → Machine → Type 0
HoldsFile bytes m = (n : ℕ) → n < elf_half bytes 44 → HoldsSegment bytes m (header_at bytes n)

module _ (target : Target) where
  -- an instruction at an address lies in flash
  abbrev pub IsInFlash : ℕ → Instruction → Type 0
  IsInFlash a i =
      (target.flash.address ≤ a) × (a + size (encode i) ≤ target.flash.address + target.flash.size)

  -- A program is what flash has, which stores do not change: an instruction is at an address exactly where its
  -- halfwords lie in flash. Stores to the target's port are told to others.
  pub record IsWhatFlashHas (p : Program) (m : Machine) : Type 0 where
    pub port : p.port ≡ target.port
    pub code : (a : ℕ) (i : Instruction)
        → (p.code a ≡ Some i) ↔ (IsInFlash a i × IsEncodable i × BytesLie m a (bytes_of_halfwords (encode i)))

  -- The processor as reset leaves it, with the address of flash in VTOR (ARMv7-M Architecture Reference Manual, section
  -- B3.2.5).
  pub record IsFreshFromReset (m : Machine) : Type 0 where
    pub vectors : table m ≡ target.flash.address
    pub reset : IsJustReset m

-- Whatever lies in flash, there is a program that is that.
abbrev pub FlashHasAProgram : Type 0
FlashHasAProgram = (target : Target) (m : Machine) → (p : Program) × IsWhatFlashHas target p m

-- Where an image has a program, its first values are words, and flash lies below the system's part of the address
-- space, a processor whose memory holds the image's file begins, after reset, with the program of the image.
abbrev pub FilesArePrograms : Type 0
FilesArePrograms =
    (img : Image) (target : Target) (p : Program) (m : Machine) → IsRegion target.flash → IsRegion target.ram
    → target.flash.address + target.flash.size ≤ 0xE0000000 → target.calls ≡ [] → Fits img target
    → AllByRecursion (λ word. word < 2 ^ 32) (first_values img) → HoldsFile (file img target) m
    → IsFreshFromReset target m → IsWhatFlashHas target p m → IsAtReset img target p m
