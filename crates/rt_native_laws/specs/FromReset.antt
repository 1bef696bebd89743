-- From reset on: the processor as reset leaves it, with an image's program in flash, comes by the code of reset to
-- where native code does what its image does, whatever interrupts arrive meanwhile. Those are pending until the image
-- lets them in, as in the image's own first part.
use Rattle.std.specs.Prelude.{◌≡◌, ℕ, ◌+◌, ◌-◌, ◌%◌, ◌^◌, ◌<◌, ◌≤◌, ◌⊎◌, Bool, false, List, [], ◌∷◌, ◌++◌}
use Rattle.std.specs.Prelude.{length, flat_map, Some, ⊤}
use Rattle.rt_ids.specs.declared.limits.TheConstants.{IRQ_NUMBERS}
use Rattle.rt_code.specs.Image.{Image}
use Rattle.rt_native.specs.Layout.{flash_end, load_at, outside}
use Rattle.rt_native.specs.Program.{first_values}
use Rattle.rt_native.specs.Target.{Target}
use Rattle.rt_native_laws.specs.Behaving.{BehavesWell}
use Rattle.rt_native_laws.specs.Devices.{ChangeDevices}
use Rattle.rt_native_laws.specs.InReset.{IsInReset}
use Rattle.rt_native_laws.specs.Loading.{IsExecuted}
use Rattle.rt_native_laws.specs.Linked.{LiesLinked}
use Rattle.rt_native_laws.specs.Moments.{AllCanHappen, Happening, at_reset, moment_after_all, shown}
use Rattle.rt_native_laws.specs.Simulating.{IsFitFor, IsImageFor, StandsBehindReset, StaysBeside, arrivals_at}
use Rattle.rt_native_laws.specs.Simulating.{arrivals_of, seen_of_label, stack_bottom, ticks}
use Rattle.rt_native_laws.specs.Standing.{HoldsWords, IsLaidOut, LieFrom}
use Rattle.rt_priorities.specs.Setting.{IsReset}
use Rattle.rt_priorities.specs.Vectors.{IsLoaded}
use Rattle.rt_thumb.specs.Exceptions.{even, priority_of, systick}
use Rattle.rt_thumb.specs.Machine.{Machine, word_at}
use Rattle.rt_thumb.specs.Step.{Program, Event, Arrives, Changes, Ticks, Goes, GoesLate, after}
use Rattle.rt_thumb_laws.specs.Undisturbed.{goings, with_arrivals}

-- the address of the vector table, which VTOR has (ARMv7-M Architecture Reference Manual, section B3.2)
abbrev pub table : Machine → ℕ
table m = word_at m 0xE000ED08

-- Before the first instruction no tick comes, since SysTick does not count yet.
abbrev pub HasNoTickAtFirst : List Event → Type 0
HasNoTickAtFirst [] = ⊤
HasNoTickAtFirst (Arrives irq ∷ events) = HasNoTickAtFirst events
HasNoTickAtFirst (Changes address value ∷ events) = HasNoTickAtFirst events
HasNoTickAtFirst (Ticks ∷ events) = ⊥
HasNoTickAtFirst (Goes ∷ events) = ⊤
HasNoTickAtFirst (GoesLate ∷ events) = ⊤

-- each interrupt that arrives has a number that a device can have
abbrev pub AreNumbered : List Event → Type 0
AreNumbered [] = ⊤
AreNumbered (Arrives irq ∷ events) = (irq < IRQ_NUMBERS) × AreNumbered events
AreNumbered (event ∷ events) = AreNumbered events

-- The processor as reset leaves it, whatever lies in flash (ARMv7-M Architecture Reference Manual, section B1.5.5): in
-- Thread mode, with SP and the address of the first instruction from the first two words of the vector table, without
-- the bits that stand for no address; masks are clear; no interrupt is enabled, none is pending or active, and SysTick
-- does not count and is of the highest priority (sections B3.2 to B3.4). Other registers and RAM hold any words.
pub record IsJustReset (m : Machine) : Type 0 where
  pub stack : m.register 13 ≡ word_at m (table m) - word_at m (table m) % 4
  pub address : m.address ≡ even (word_at m (table m + 4))
  pub exception : m.exception ≡ 0
  pub interrupts : IsReset m
  pub is_masked : m.is_masked ≡ false
  pub is_unsettled : m.is_unsettled ≡ false
  pub tick : priority_of m systick ≡ 0
  pub words : HoldsWords m

module _ (img : Image) (target : Target) (p : Program) where
  -- The processor as reset leaves it, with first values in flash behind the code.
  pub record StandsAtReset (m : Machine) : Type 0 where
    pub executed : IsExecuted target p
    pub values : LieFrom m (load_at img target) (first_values img)
    pub reset : IsJustReset m

  -- and the image's program lies in flash
  pub record IsAtReset (m : Machine) : Type 0 where
    pub loaded : IsLoaded img target p m
    pub stands : StandsAtReset m

  -- Memory of a target has room for what native code touches: flash and RAM are apart, and the port is none of the
  -- registers of the core (section B3.2.1: the system control space).
  pub record IsMapped : Type 0 where
    pub laid : IsLaidOut (outside img target) (stack_bottom img target p) (length img.cells)
    pub apart : (flash_end img target ≤ target.ram.address)
        ⊎ ((outside img target).time + 8 ≤ target.flash.address)
    pub port : (target.port < 0xE000E000) ⊎ (0xE000F000 ≤ target.port)

  -- By so many instructions the processor comes to a state behind reset, in which what came meanwhile is pending, or in
  -- a device's register, and what lay in flash does. Others have seen nothing of it.
  pub record ComesBehindReset (m : Machine) : Type 0 where
    pub count : ℕ
    pub last : Machine
    pub leads : (events : List Event) → goings events ≡ count → HasNoTickAtFirst events → ChangeDevices target events
        → after p events (Some m) ≡ Some (with_arrivals events last)
    pub words : List ℕ
    pub stands : StandsBehindReset img target p words last
    pub still : (object : Program) → IsLoaded img target object m → IsLoaded img target object last
    pub no_tick : last.is_pending systick ≡ false
    pub seen : last.seen ≡ m.seen
    -- and so it is up to there
    pub meanwhile : (events : List Event) → goings events ≤ count → HasNoTickAtFirst events
        → ChangeDevices target events → IsInReset img target p m events

  -- Some events lead from reset to a state, without a fault, and others see nothing of them; to the image the same
  -- interrupts arrive; and from there on native code does what the image does, event after event.
  pub record IsFollowed (fits : List Happening → Bool) (m : Machine) (before events : List Event) : Type 0 where
    pub next : Machine
    pub no_fault : after p before (Some m) ≡ Some next
    pub seen : next.seen ≡ m.seen
    pub first : List Happening
    pub can : AllCanHappen img target.inputs (at_reset img) first
    pub arrivals : flat_map arrivals_of first ≡ flat_map arrivals_at before
    pub unseen : flat_map seen_of_label (shown img (at_reset img) first) ≡ []
    pub follows : StaysBeside img target p (λ more. fits (first ++ more)) (moment_after_all img (at_reset img) first)
        next events

  -- The code of reset takes so many instructions, and then it is so, whatever came meanwhile and comes then. Events
  -- that end sooner lead to a state within it.
  pub record SimulatesFromReset (fits : List Happening → Bool) (m : Machine) : Type 0 where
    pub count : ℕ
    pub meanwhile : (events : List Event) → goings events ≤ count → HasNoTickAtFirst events
        → ChangeDevices target events → IsInReset img target p m events
    pub follows : (before events : List Event) → goings before ≡ count → HasNoTickAtFirst before → AreNumbered before
        → ChangeDevices target before → ticks events + 3 < 2 ^ 32 → IsFollowed fits m before events

-- The code of reset leads to the state behind it, that of a program that is linked with functions of C too.
abbrev pub ResetLeadsBehind : Type 0
ResetLeadsBehind =
    (img : Image) (target : Target) (p : Program) (m : Machine) → IsFitFor img target p → IsMapped img target p
    → LiesLinked img target p m → StandsAtReset img target p m → ComesBehindReset img target p m

-- From reset on native code does what its image does, whatever comes, where the image behaves well.
abbrev pub NativeSimulatesFromReset : Type 0
NativeSimulatesFromReset =
    (img : Image) (target : Target) (p : Program) (fits : List Happening → Bool) (m : Machine)
    → IsImageFor img target p → IsMapped img target p → BehavesWell img target.inputs fits
    → IsAtReset img target p m → SimulatesFromReset img target p fits m
