-- What can be written on stays so, whatever happens, and how the time rises.
use Rattle.std.proofs.Common.{◌≡◌, ℕ, zero, suc, ◌+◌, ◌-◌, ◌<◌, ◌≤◌, ◌^◌, List, [], ◌∷◌, length, replicate, Option}
use Rattle.std.proofs.Common.{Some}
use Rattle.std.proofs.Common.{None, Bool, true, false, if◌then◌else◌, nat_le, ap, sym, subst, ◌∙◌, arith}
use Rattle.std.proofs.lemmas.List.{length-map, length-replicate}
use Rattle.rt_ids.specs.Event.{Event, Arrive, Tick, Step, steps}
use Rattle.rt_code.specs.Image.{Image}
use Rattle.rt_code.specs.Lines.{HasLines}
use Rattle.rt_core.specs.Core.{Core}
use Rattle.rt_core.specs.Machine.{Machine, IsFresh}
use Rattle.rt_core.specs.Stepping.{step}
use Rattle.rt_core.specs.Trace.{ring, happen, core_after}
use Rattle.rt_core.specs.Transfer.{core_after_pend}
use Rattle.rt_core.specs.declared.alarm.Alarm.{Alarm}
use Rattle.rt_core.proofs.Keeping.{step_keeps_time, tick_adds_one}
use Rattle.rt_trace.specs.Label.{Label, Rang}
use Rattle.rt_run.specs.Done.{Leads}
use Rattle.rt_run.specs.Writable.{IsKnown, IsWritable}
use Rattle.rt_run.proofs.Worded.{step_known}

-- how many events are ticks
abbrev pub ticks : List Event → ℕ
ticks [] = zero
ticks (Tick ∷ events) = suc (ticks events)
ticks (Step ∷ events) = ticks events
ticks (Arrive irq ∷ events) = ticks events

pub steps_below : (es : List Event) → steps es ≤ length es
steps_below [] = omega arith
steps_below (Step ∷ es) = omega (arith, steps_below es)
steps_below (Tick ∷ es) = omega (arith, steps_below es)
steps_below (Arrive irq ∷ es) = omega (arith, steps_below es)

pub ticks_below : (es : List Event) → ticks es ≤ length es
ticks_below [] = omega arith
ticks_below (Step ∷ es) = omega (arith, ticks_below es)
ticks_below (Tick ∷ es) = omega (arith, ticks_below es)
ticks_below (Arrive irq ∷ es) = omega (arith, ticks_below es)

ring_known : (img : Image) (c : Core) (alarm : Option Alarm) → IsKnown img c → IsKnown img (ring c alarm).0
ring_known img c None h = h
ring_known img c (Some alarm) h = one (nat_le alarm.instant c.time)
  where
    one : (due : Bool) → IsKnown img
        (if◌then◌else◌ {A = Core × List Label} due (record (core_after_pend c alarm.irq) { alarm = None }, Rang ∷ [])
        (c, [])).0
    one true = record { cells = h.cells; below = h.below }
    one false = h

-- the core of a later moment can be written on
pub happen_known : (img : Image) (c : Core) (e : Event) → HasLines img → IsKnown img c → IsKnown img (happen img c e).0
unfolding happen
happen_known img c (Arrive irq) lines h = record { cells = h.cells; below = h.below }
happen_known img c Tick lines h =
    ring_known img (record c { time = suc c.time }) c.alarm (record { cells = h.cells; below = h.below })
happen_known img c Step lines h = (step_known img lines c h).0

known_after : (img : Image) (c : Core) (es : List Event) → HasLines img → IsKnown img c
    → IsKnown img (core_after img c es)
unfolding core_after
known_after img c [] lines h = h
known_after img c (e ∷ es) lines h = known_after img (happen img c e).0 es lines (happen_known img c e lines h)

pub still_writable : (es : List Event) (a b : Machine) → Leads es a b → IsWritable a → IsWritable b
still_writable es a b run h = record {
  lines = subst HasLines (sym run.image) h.lines;
  known =
      subst (λ img. IsKnown img b.core) (sym run.image)
      (subst (IsKnown a.image) (sym run.core) (known_after a.image a.core es h.lines h.known));
}

-- the time rises by one at a tick, and never else
time_after : (img : Image) (c : Core) (es : List Event) → (core_after img c es).time ≡ c.time + ticks es
unfolding core_after happen
time_after img c [] = let e : c.time ≡ c.time + 0 = omega arith in e
time_after img c (Arrive irq ∷ es) = time_after img (core_after_pend c irq) es
time_after img c (Tick ∷ es) = omega (arith, time_after img (happen img c Tick).0 es, tick_adds_one img c)
time_after img c (Step ∷ es) = omega (arith, time_after img (step img c).0 es, step_keeps_time img c)

pub time_led : (es : List Event) (a b : Machine) → Leads es a b → b.core.time ≡ a.core.time + ticks es
time_led es a b run = ap (λ (c : Core). c.time) run.core ∙ time_after a.image a.core es

-- before the last of so many equal events the steps are few
pub few_after : (n count : ℕ) (e : Event) (a b : Machine) → Leads (replicate n e) a b → n < count
    → a.steps + count < 2 ^ 31 → b.steps < 2 ^ 31
few_after n count e a b run within few =
    omega (arith, run.steps, steps_below (replicate n e), length-replicate n e, within, few)

-- with those that are left the steps stay few
pub room_for_left : (count left : ℕ) (e : Event) (a b : Machine) → Leads (replicate (count - left) e) a b → left ≤ count
    → a.steps + count < 2 ^ 31
    → b.steps + left < 2 ^ 31
room_for_left count left e a b run within few =
    omega (arith, run.steps, steps_below (replicate (count - left) e), length-replicate (count - left) e, within, few)

-- and it is early
pub early_after : (n count : ℕ) (e : Event) (a b : Machine) → Leads (replicate n e) a b → n < count
    → a.core.time + count < 2 ^ 31 → b.core.time < 2 ^ 31
early_after n count e a b run within early =
    omega (arith, time_led (replicate n e) a b run, ticks_below (replicate n e), length-replicate n e, within, early)

-- a fresh core is known
pub fresh_known : (m : Machine) → IsFresh m → IsKnown m.image m.core
fresh_known m fresh =
    subst (λ (c : Core). IsKnown m.image c) (sym fresh.core)
    (record { cells = length-map m.image.cells (λ cell. cell.first); below = tt })
