-- Words of devices lie apart from flash, RAM and the registers of the core.
use Rattle.std.proofs.Common.{◌≡◌, ◌∙◌, ℕ, ◌+◌, ◌*◌, ◌/◌, ◌%◌, ◌<◌, ◌≤◌, ◌⊎◌, inl, inr, Bool, true, false, not}
use Rattle.std.proofs.Common.{List, [], ◌∷◌, sym, ap, arith, ⊎_elim}
use Rattle.std.proofs.lemmas.Bool.{cases_lt, false≢true, lt-ltb, le-leb}
use Rattle.std.specs.Prelude.{◌&&◌, nat_le, nat_lt}
use Rattle.rt_lemmas.proofs.Bools.{and_both, and_parts, not_so}
use Rattle.rt_code.specs.Image.{Image}
use Rattle.rt_native.specs.Fitting.{Fits, IsRegion}
use Rattle.rt_native.specs.Layout.{TICK_BYTES, outside}
use Rattle.rt_native.specs.Target.{Target}
use Rattle.rt_priorities.specs.Setting.{IsOutsideSystem}
use Rattle.rt_thumb.specs.Step.{Program, Event, Arrives, Changes, Ticks, Goes, GoesLate}
use Rattle.rt_thumb_laws.specs.Undisturbed.{ChangeOnly}
use Rattle.rt_native_laws.specs.Arriving.{IsAside}
use Rattle.rt_native_laws.specs.Devices.{ChangeDevices, IsOfDevice, is_devices, is_in_part}
use Rattle.rt_native_laws.specs.Simulating.{stack_bottom}
use Rattle.rt_native_laws.proofs.Tests.{at_most, is_less}

-- what is below a part, or behind it, is not within
not_within : (from size a : ℕ) → (a < from) ⊎ (from + size ≤ a) → is_in_part from size a ≡ false
not_within from size a apart =
    not_so (is_in_part from size a) (λ e.
    let two = and_parts (nat_le from a) (nat_lt a (from + size)) e in
    let low = at_most from a two.0 in
    let high = is_less a (from + size) two.1 in
    ⊎_elim (λ (y : a < from). absurd (omega (arith, y, low)))
    (λ (y : from + size ≤ a). absurd (omega (arith, y, high))) apart)

within_is : (from size a : ℕ) → from ≤ a → a < from + size → is_in_part from size a ≡ true
within_is from size a low high =
    and_both (nat_le from a) (nat_lt a (from + size)) (le-leb from a low) (lt-ltb a (from + size) high)

outside_of : (from size a : ℕ) → not (is_in_part from size a) ≡ true → (a < from) ⊎ (from + size ≤ a)
outside_of from size a h = by_start (cases_lt a from)
  where
    by_end : from ≤ a → (a < from + size) ⊎ (from + size ≤ a) → (a < from) ⊎ (from + size ≤ a)
    by_end low (inl high) = absurd (false≢true (sym (ap not (within_is from size a low high)) ∙ h))
    by_end low (inr high) = inr high

    by_start : (a < from) ⊎ (from ≤ a) → (a < from) ⊎ (from + size ≤ a)
    by_start (inl low) = inl low
    by_start (inr low) = by_end low (cases_lt a (from + size))

module _ (target : Target) where
  abbrev in_flash : ℕ → Bool
  in_flash a = is_in_part target.flash.address target.flash.size a

  abbrev in_ram : ℕ → Bool
  in_ram a = is_in_part target.ram.address target.ram.size a

  abbrev in_core : ℕ → Bool
  in_core a = is_in_part 0xE000E000 0x1000 a

  pub devices_word : (address : ℕ) → IsOfDevice target address → is_devices target (address / 4) ≡ true
  devices_word address x =
      let exact : 4 * (address / 4) ≡ address = omega (arith, x.aligned) in
      let core : (address < 0xE000E000) ⊎ (0xE000E000 + 0x1000 ≤ address) =
      ⊎_elim (λ (y : address < 0xE000E000). inl y) (λ (y : 0xE000F000 ≤ address). inr (omega (arith, y))) x.core in
      ap (λ (a : ℕ). not (in_flash a) && (not (in_ram a) && not (in_core a))) exact
      ∙ and_both (not (in_flash address)) (not (in_ram address) && not (in_core address))
      (ap not (not_within target.flash.address target.flash.size address x.flash))
      (and_both (not (in_ram address)) (not (in_core address))
      (ap not (not_within target.ram.address target.ram.size address x.ram))
      (ap not (not_within 0xE000E000 0x1000 address core)))

  module _ (k : ℕ) (h : is_devices target k ≡ true) where
    device_parts : (not (in_flash (4 * k)) ≡ true) × ((not (in_ram (4 * k)) && not (in_core (4 * k))) ≡ true)
    device_parts = and_parts (not (in_flash (4 * k))) (not (in_ram (4 * k)) && not (in_core (4 * k))) h

    pub not_in_flash : (4 * k < target.flash.address) ⊎ (target.flash.address + target.flash.size ≤ 4 * k)
    not_in_flash = outside_of target.flash.address target.flash.size (4 * k) device_parts.0

    pub not_in_ram : (4 * k < target.ram.address) ⊎ (target.ram.address + target.ram.size ≤ 4 * k)
    not_in_ram =
        outside_of target.ram.address target.ram.size (4 * k)
        (and_parts (not (in_ram (4 * k))) (not (in_core (4 * k))) device_parts.1).0

    pub not_in_core : (4 * k < 0xE000E000) ⊎ (0xE000E000 + 0x1000 ≤ 4 * k)
    not_in_core =
        outside_of 0xE000E000 0x1000 (4 * k) (and_parts (not (in_ram (4 * k))) (not (in_core (4 * k))) device_parts.1).1

  pub devices_outside : IsOutsideSystem (is_devices target)
  devices_outside k h =
      ⊎_elim (λ (y : 4 * k < 0xE000E000). inl (omega (arith, y)))
      (λ (y : 0xE000E000 + 0x1000 ≤ 4 * k). inr (omega (arith, y))) (not_in_core k h)

  -- registers of the core and words of flash are no device's
  pub core_is_no_device : (k : ℕ) → 0xE000E000 ≤ 4 * k → 4 * k < 0xE000F000 → is_devices target k ≡ false
  core_is_no_device k low high =
      not_so (is_devices target k) (λ h. ⊎_elim (λ (y : 4 * k < 0xE000E000). absurd (omega (arith, y, low)))
      (λ (y : 0xE000E000 + 0x1000 ≤ 4 * k). absurd (omega (arith, y, high))) (not_in_core k h))

  pub flash_is_no_device : (k : ℕ) → target.flash.address ≤ 4 * k → 4 * k < target.flash.address + target.flash.size
      → is_devices target k ≡ false
  flash_is_no_device k low high =
      not_so (is_devices target k) (λ h. ⊎_elim (λ (y : 4 * k < target.flash.address). absurd (omega (arith, y, low)))
      (λ (y : target.flash.address + target.flash.size ≤ 4 * k). absurd (omega (arith, y, high))) (not_in_flash k h))

  pub devices_change_only : (events : List Event) → ChangeDevices target events → ChangeOnly (is_devices target) events
  devices_change_only [] h = tt
  devices_change_only (Arrives irq ∷ events) h = devices_change_only events h
  devices_change_only (Ticks ∷ events) h = devices_change_only events h
  devices_change_only (Changes address value ∷ events) h =
      (devices_word address h.0.0, devices_change_only events h.1)
  devices_change_only (Goes ∷ events) h = devices_change_only events h
  devices_change_only (GoesLate ∷ events) h = devices_change_only events h

module _ (img : Image) (target : Target) (p : Program) (fits : Fits img target) (ram : IsRegion target.ram) where
  abbrev time : ℕ
  time = (outside img target).time

  abbrev lowest : ℕ
  lowest = stack_bottom img target p

  -- they lie apart from the stack, with a tick's frame, and from what is above it
  pub aside_of : (a : ℕ) → a % 4 ≡ 0 → (a < target.ram.address) ⊎ (target.ram.address + target.ram.size ≤ a)
      → (a + 4 + TICK_BYTES ≤ lowest) ⊎ (time + 8 ≤ a)
  aside_of a aligned apart =
      ⊎_elim (λ (y : a < target.ram.address). inl (omega (arith, y, aligned, ram.0)))
      (λ (y : target.ram.address + target.ram.size ≤ a). inr (omega (arith, y, fits.1))) apart

  pub devices_aside : (k : ℕ) → is_devices target k ≡ true
      → (4 * k + 4 + TICK_BYTES ≤ lowest) ⊎ (time + 8 ≤ 4 * k)
  devices_aside k h = aside_of (4 * k) (omega arith) (not_in_ram target k h)

  pub device_is_aside : (address : ℕ) → IsOfDevice target address → IsAside (outside img target) lowest address
  device_is_aside address x = record {
    aligned = x.aligned;
    apart = ⊎_elim (λ (y : address + 4 + TICK_BYTES ≤ lowest). inl (omega (arith, y)))
        (λ (y : time + 8 ≤ address). inr y) (aside_of address x.aligned x.ram);
  }
