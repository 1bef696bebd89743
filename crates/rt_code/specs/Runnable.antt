-- Which images a core runs. The stack of the architecture is kept 8-byte aligned (ARMv7-M Architecture Reference
-- Manual, section B1.5.7), and only the high-order bits of a priority value are implemented (section B1.5.4).
use Rattle.std.specs.Prelude.{◌≡◌, ℕ, ◌*◌, ◌-◌, ◌%◌, ◌^◌, ◌<◌, ◌≤◌, List, Some, slice_get, length}
use Rattle.rt_code.specs.Image.{Image}
use Rattle.rt_code.specs.declared.image.BodyRow.{BodyRow}
use Rattle.rt_code.specs.declared.image.IrqRow.{IrqRow}
use Rattle.rt_code.specs.declared.image.Handler.{Handler}

-- the numbers of an image are within what a core has: its priority bits, its stack, its code and its memory
pub record HasRightSizes (img : Image) : Type 0 where
  pub few_bits : 3 ≤ img.bits
  pub many_bits : img.bits ≤ 7
  -- the stack region is whole pairs of words, is small, and holds the thread's frame
  pub stack_pairs : img.stack_bytes % 8 ≡ 0
  pub stack_small : img.stack_bytes ≤ 2 ^ 20
  pub thread_fits : 4 * img.thread_words ≤ img.stack_bytes
  pub code_short : length img.code < 2 ^ 31
  pub cells_few : length img.cells < 2 ^ 31

-- a body takes at most four arguments
abbrev pub TakeFewArguments : List BodyRow → Type 0
TakeFewArguments bodies = (i : ℕ) (row : BodyRow) → slice_get bodies i ≡ Some row → row.args ≤ 4

-- each priority value has only implemented bits
abbrev pub HaveImplementedValues : ℕ → List IrqRow → Type 0
HaveImplementedValues bits irqs =
    (i : ℕ) (row : IrqRow) (h : Handler) → slice_get irqs i ≡ Some row → row.handler ≡ Some h
    → h.value % 2 ^ (8 - bits) ≡ 0

-- no two rows have one number
abbrev pub HaveNumbersApart : List IrqRow → Type 0
HaveNumbersApart irqs =
    (i j : ℕ) (row other : IrqRow) → slice_get irqs i ≡ Some row → slice_get irqs j ≡ Some other
    → row.number ≡ other.number → i ≡ j

-- the rows of an image are such as a core has: few arguments, priority values of implemented bits, numbers that differ
pub record HasRightRows (bits : ℕ) (bodies : List BodyRow) (irqs : List IrqRow) : Type 0 where
  pub arguments : TakeFewArguments bodies
  pub values : HaveImplementedValues bits irqs
  pub numbers : HaveNumbersApart irqs

-- an image that a core runs
pub record IsRunnable (img : Image) : Type 0 where
  pub sizes : HasRightSizes img
  pub rows : HasRightRows img.bits img.bodies img.irqs
