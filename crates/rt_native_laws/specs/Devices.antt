-- Words of memory that devices change: what a load of a device's register gives may be another at any time (ARMv7-M
-- Architecture Reference Manual, section A3.5: Device memory). Where flash and RAM lie a target says; the registers of
-- the core are in the System Control Space (sections B3.1 and B3.2.1).
use Rattle.std.specs.Prelude.{◌≡◌, ℕ, ◌+◌, ◌*◌, ◌%◌, ◌^◌, ◌<◌, ◌≤◌, ◌⊎◌, Bool, not, ◌&&◌, nat_le, nat_lt}
use Rattle.std.specs.Prelude.{List, [], ◌∷◌, Some, ⊤}
use Rattle.rt_ids.specs.Operation.{wrapped_number as word}
use Rattle.rt_native.specs.Target.{Target}
use Rattle.rt_thumb.specs.Machine.{Machine}
use Rattle.rt_thumb.specs.Step.{Program, Event, Changes}
use Rattle.rt_thumb.specs.declared.instruction.Instruction.TheVariants as instruction

-- a word at an address is a device's: it lies neither in flash nor in RAM nor in the System Control Space
pub record IsOfDevice (target : Target) (address : ℕ) : Type 0 where
  pub aligned : address % 4 ≡ 0
  pub flash : (address < target.flash.address) ⊎ (target.flash.address + target.flash.size ≤ address)
  pub ram : (address < target.ram.address) ⊎ (target.ram.address + target.ram.size ≤ address)
  pub core : (address < 0xE000E000) ⊎ (0xE000F000 ≤ address)

-- an address lies in a part of the address space
abbrev pub is_in_part : ℕ → ℕ → ℕ → Bool
is_in_part from size address = nat_le from address && nat_lt address (from + size)

-- whether the word of memory of a number is so
abbrev pub is_devices : Target → ℕ → Bool
is_devices target k =
    not (is_in_part target.flash.address target.flash.size (4 * k))
    && (not (is_in_part target.ram.address target.ram.size (4 * k)) && not (is_in_part 0xE000E000 0x1000 (4 * k)))

-- a device can change a register to a word: it is the device's, and the word has 32 bits
abbrev pub CanChange : Target → ℕ → ℕ → Type 0
CanChange target address value = IsOfDevice target address × (value < 2 ^ 32)

-- at some events devices change words of their own alone
abbrev pub ChangeDevices : Target → List Event → Type 0
ChangeDevices target [] = ⊤
ChangeDevices target (Changes address value ∷ events) = CanChange target address value × ChangeDevices target events
ChangeDevices target (event ∷ events) = ChangeDevices target events

-- the instruction that is executed next loads the word at an address
pub record LoadsNext (p : Program) (m : Machine) (address : ℕ) : Type 0 where
  pub into : ℕ
  pub base : ℕ
  pub offset : ℕ
  pub found : p.code m.address ≡ Some (instruction.Load into base offset)
  pub from : word (m.register base + offset) ≡ address
