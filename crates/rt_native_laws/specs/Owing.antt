-- While the tail of an `alarm` owes its coming, the processor stands for a core without it. What happens meanwhile
-- leads the image's moment and one with that core on alike, and a tick pays. For the job in the tail holds others off:
-- they run above the alarm's ceiling, set none, and do not take its interrupt (Baker, Stack-Based Scheduling of
-- Realtime Processes, 1991).
use Rattle.std.specs.Prelude.{◌≡◌, ℕ, suc, ◌<◌, ◌≤◌, Bool, if◌then◌else◌, List, length, Some, None, ⊤}
use Rattle.rt_ids.specs.Event.{Tick}
use Rattle.rt_code.specs.Image.{Image}
use Rattle.rt_core.specs.Core.{Core}
use Rattle.rt_core.specs.Priority.{execution, pick, running_value}
use Rattle.rt_core.specs.Trace.{tick}
use Rattle.rt_core.specs.declared.alarm.Alarm.{Alarm}
use Rattle.rt_native.specs.declared.outside.Outside.{Outside}
use Rattle.rt_thumb.specs.Machine.{Machine}
use Rattle.rt_thumb.specs.Step.{Program}
use Rattle.rt_native_laws.specs.Alike.{IsNotTaken, SetsNoAlarm}
use Rattle.rt_native_laws.specs.Behaving.{IsGood, IsHeldOff}
use Rattle.rt_native_laws.specs.Moments.{Comes, Happening, Moment, instruction_at, moment_after, shown_of, with_core}
use Rattle.rt_native_laws.specs.InTail.{IsInTail, rung}
use Rattle.rt_native_laws.specs.Tail.{IsOwing, Meanwhile}

-- the moment with its alarm come
abbrev pub rung_moment : ℕ → Moment → Moment
rung_moment irq s = with_core s (rung irq s.core)

-- what happens is no tick
abbrev pub IsNoTick : Happening → Type 0
IsNoTick (Comes Tick) = ⊥
IsNoTick happening = ⊤

-- An interrupt is not taken where its priority is no higher than a ceiling at which something runs.
abbrev pub CeilingsHoldOff : Type 0
CeilingsHoldOff =
    (img : Image) (ceiling irq : ℕ) (c : Core) → IsHeldOff ceiling irq img.irqs → execution c ≤ ceiling
    → IsNotTaken img irq c

-- Who has a priority of its own above the ceiling touches no alarm, at a good moment.
abbrev pub NoneAboveSetsAlarms : Type 0
NoneAboveSetsAlarms =
    (img : Image) (ceiling : ℕ) (s : Moment) → IsGood img ceiling s → running_value s.core.below < ceiling
    → pick img s.core ≡ None → SetsNoAlarm (instruction_at img s.core)

-- Whatever happens but a tick leads a moment on alike, with the alarm come or not, and shows the same.
abbrev pub HappeningsAreAlike : Type 0
HappeningsAreAlike =
    (img : Image) (irq : ℕ) (s : Moment) (happening : Happening) → IsNoTick happening → IsNotTaken img irq s.core
    → (pick img s.core ≡ None → SetsNoAlarm (instruction_at img s.core))
    → (moment_after img (rung_moment irq s) happening ≡ rung_moment irq (moment_after img s happening))
    × (shown_of img (rung_moment irq s) happening ≡ shown_of img s happening)

-- A tick at which the alarm is due pays: both cores are the same then.
abbrev pub TicksPay : Type 0
TicksPay =
    (c : Core) (a : Alarm) → c.alarm ≡ Some a → a.instant ≤ suc c.time → (tick (rung a.irq c)).0 ≡ (tick c).0

-- Where the alarm's word is none already, it is owed still.
abbrev pub TicksLeaveOwed : Type 0
TicksLeaveOwed = (irq : ℕ) (c : Core) → c.alarm ≡ None → (tick (rung irq c)).0 ≡ rung irq (tick c).0

-- What a tail says of the core for which the processor stands.
abbrev pub TailsOweSo : Type 0
TailsOweSo =
    (at : Outside) (bottom : ℕ) (img : Image) (places : List ℕ) (p : Program) (c : Core) (top : ℕ) (m : Machine)
    (x : IsInTail at bottom img places p c top m) → IsOwing x.irq x.instant x.owes x.unpaid

-- A tick while a job is in a tail: it pays, or what was owed is so still; and the core is as before that for which the
-- processor stands, or that one with its alarm come.
abbrev pub TicksInTails : Type 0
TicksInTails =
    (irq instant : ℕ) (owed : Bool) (u : Core) → IsOwing irq instant owed u → irq < length u.pending
    → (owes : Bool) × Meanwhile irq instant owed owes u (tick u).0
    × ((tick (if owed then rung irq u else u)).0 ≡ (if owes then rung irq (tick u).0 else (tick u).0))
