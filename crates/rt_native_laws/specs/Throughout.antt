-- From reset on, every list of events: they end within the code of reset, or some lead behind it, and those that come
-- then are followed.
use Rattle.std.specs.Prelude.{◌≡◌, ◌+◌, ◌^◌, ◌<◌, Bool, List, ◌++◌}
use Rattle.rt_code.specs.Image.{Image}
use Rattle.rt_native.specs.Target.{Target}
use Rattle.rt_native_laws.specs.Devices.{ChangeDevices}
use Rattle.rt_native_laws.specs.FromReset.{AreNumbered, HasNoTickAtFirst, IsFollowed, SimulatesFromReset}
use Rattle.rt_native_laws.specs.InReset.{IsInReset}
use Rattle.rt_native_laws.specs.Moments.{Happening}
use Rattle.rt_native_laws.specs.Simulating.{ticks}
use Rattle.rt_thumb.specs.Machine.{Machine}
use Rattle.rt_thumb.specs.Step.{Program, Event}

module _ (img : Image) (target : Target) (p : Program) where
  -- At some events from reset on native code does what its image does: at those within the code of reset the image has
  -- nothing but arrivals, and from there on event after event.
  pub data IsSimulated (fits : List Happening → Bool) (m : Machine) (events : List Event) : Type 0 where
    EndsInReset : IsInReset img target p m events → IsSimulated fits m events
    LeadsBehindReset : (before more : List Event) → events ≡ before ++ more → IsInReset img target p m before
        → IsFollowed img target p fits m before more → IsSimulated fits m events

-- Whatever the events are, it is so.
abbrev pub EveryListIsSimulated : Type 0
EveryListIsSimulated =
    (img : Image) (target : Target) (p : Program) (fits : List Happening → Bool) (m : Machine)
    → SimulatesFromReset img target p fits m → (events : List Event) → HasNoTickAtFirst events → AreNumbered events
    → ChangeDevices target events → ticks events + 3 < 2 ^ 32 → IsSimulated img target p fits m events
