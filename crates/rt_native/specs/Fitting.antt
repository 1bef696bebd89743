-- Which images have a program for a target, and why others have none: of several causes the first is told. Lines,
-- memory and the reach of branches are the core's; the order in which causes are told is this project's own.
use Rattle.std.specs.Prelude.{◌≡◌, ◌+◌, ◌%◌, ◌<◌, ◌≤◌, ◌^◌, All, ⊤}
use Rattle.rt_code.specs.Image.{Image}
use Rattle.rt_thumb.specs.Instruction.{IsEncodable}
use Rattle.rt_native.specs.File.{FitsFile}
use Rattle.rt_native.specs.Layout.{LINES, line_count, stack_room, values_size, flash_end}
use Rattle.rt_native.specs.Program.{instructions}
use Rattle.rt_native.specs.Target.{Target}
use Rattle.rt_native.specs.declared.target.Region.{Region}
use Rattle.rt_native.specs.declared.target.Unfit.{Unfit}
use Rattle.rt_native.specs.declared.target.Unfit.TheVariants as unfit

-- a part of the address space that ends in it, and begins at a multiple of 8, as the stack has to (ARMv7-M Architecture
-- Reference Manual, section B1.5.7)
abbrev pub IsRegion : Region → Type 0
IsRegion region = (region.address % 8 ≡ 0) × (region.address + region.size < 2 ^ 32)

module _ (img : Image) (target : Target) where
  -- each enabled interrupt has a line
  abbrev pub HasLines : Type 0
  HasLines = line_count img.irqs ≤ LINES

  -- the stack, the cells, the time and the alarm fit into RAM
  abbrev pub FitsRam : Type 0
  FitsRam = stack_room img target + values_size img target ≤ target.ram.size

  -- the vector table, the code and first values fit into flash
  abbrev pub FitsFlash : Type 0
  FitsFlash = flash_end img target ≤ target.flash.address + target.flash.size

  -- each instruction can be encoded, so each branch reaches its target (the ranges of B and B<cond>, section A7.7.12)
  abbrev pub Reaches : Type 0
  Reaches = All IsEncodable (instructions img target)

  -- the image has a program
  abbrev pub Fits : Type 0
  Fits = HasLines × FitsRam × FitsFlash × Reaches × FitsFile img target

  -- why it has none; want of memory has no cause in it
  abbrev pub IsUnfit : Unfit → Type 0
  IsUnfit unfit.Line = ¬ HasLines
  IsUnfit unfit.Ram = HasLines × ¬ FitsRam
  IsUnfit unfit.Flash = HasLines × FitsRam × ¬ FitsFlash
  IsUnfit unfit.Reach = HasLines × FitsRam × FitsFlash × ¬ Reaches
  IsUnfit unfit.File = HasLines × FitsRam × FitsFlash × Reaches × ¬ FitsFile img target
  IsUnfit unfit.NoMemory = ⊤
