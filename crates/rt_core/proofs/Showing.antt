-- The trace of events shows just these events.
use Rattle.std.proofs.Common.{◌≡◌, suc, Bool, true, false, if◌then◌else◌, nat_le, List, [], ◌∷◌, ◌++◌, Option, Some}
use Rattle.std.proofs.Common.{None, refl, sym, ap, ◌∙◌}
use Rattle.rt_ids.specs.Event.{Event, Arrive, Tick, Step, steps}
use Rattle.rt_code.specs.Image.{Image}
use Rattle.rt_trace.specs.Label.{Label, Rang, Stepped, items_of, steps_of}
use Rattle.rt_trace.specs.Shown.{shown_events, events_of, ShowsNoEvent}
use Rattle.rt_trace.specs.declared.item.What.{What}
use Rattle.rt_trace.proofs.LabelsShown.{show_their_events}
use Rattle.rt_core.specs.declared.alarm.Alarm.{Alarm}
use Rattle.rt_core.specs.Core.{Core, reset}
use Rattle.rt_core.specs.Laws.{ShowsItsEvents}
use Rattle.rt_core.specs.Stepping.{step}
use Rattle.rt_core.specs.Trace.{ring, tick, happen, labels}
use Rattle.rt_core.specs.Transfer.{core_after_pend}
use Rattle.rt_core.proofs.Keeping.{IsOwn, step_is_own}

-- labels that show no event, and are no steps
record IsNone (own : List Label) : Type 0 where
  events_are : (rest : List Label) → events_of (own ++ rest) ≡ events_of rest
  pub steps_are : (rest : List Label) → steps_of (own ++ rest) ≡ steps_of rest
  silent : (rest : List Label) → ShowsNoEvent rest → ShowsNoEvent (own ++ rest)

-- those of a tick's alarm
rung : (c : Core) (alarm : Option Alarm) → IsNone (ring c alarm).1
rung c None = record { events_are = λ rest. refl; steps_are = λ rest. refl; silent = λ rest h. h }
rung c (Some alarm) = one (nat_le alarm.instant c.time) (record (core_after_pend c alarm.irq) { alarm = None }) c
  where
    one : (due : Bool) (x y : Core) → IsNone (if◌then◌else◌ {A = Core × List Label} due (x, Rang ∷ []) (y, [])).1
    one true x y = record { events_are = λ rest. refl; steps_are = λ rest. refl; silent = λ rest h. h }
    one false x y = record { events_are = λ rest. refl; steps_are = λ rest. refl; silent = λ rest h. h }

ticked : (c : Core) → IsNone (tick c).1
ticked c = rung (record c { time = suc c.time }) c.alarm

events_are : (img : Image) (c : Core) (events : List Event) → events_of (labels img c events) ≡ events
unfolding labels happen
events_are img c [] = refl
events_are img c (Arrive irq ∷ events) = ap (λ es. Arrive irq ∷ es) (events_are img (core_after_pend c irq) events)
events_are img c (Tick ∷ events) =
    ap (λ es. Tick ∷ es) ((ticked c).events_are (labels img (tick c).0 events) ∙ events_are img (tick c).0 events)
events_are img c (Step ∷ events) = ap (λ es. Step ∷ es) (events_are img (step img c).0 events)

pub steps_are : (img : Image) (c : Core) (events : List Event) → steps_of (labels img c events) ≡ steps events
unfolding labels happen
steps_are img c [] = refl
steps_are img c (Arrive irq ∷ events) = steps_are img (core_after_pend c irq) events
steps_are img c (Tick ∷ events) =
    (ticked c).steps_are (labels img (tick c).0 events) ∙ steps_are img (tick c).0 events
steps_are img c (Step ∷ events) = ap suc (steps_are img (step img c).0 events)

own_before : (w : Option What) (rest : List Label) → IsOwn w → ShowsNoEvent rest → ShowsNoEvent (Stepped w ∷ rest)
own_before None rest h k = k
own_before (Some w) rest h k = (h, k)

silent : (img : Image) (c : Core) (events : List Event) → ShowsNoEvent (labels img c events)
unfolding labels happen
silent img c [] = tt
silent img c (Arrive irq ∷ events) = silent img (core_after_pend c irq) events
silent img c (Tick ∷ events) = (ticked c).silent (labels img (tick c).0 events) (silent img (tick c).0 events)
silent img c (Step ∷ events) =
    own_before (step img c).1 (labels img (step img c).0 events) (step_is_own img c) (silent img (step img c).0 events)

pub shows_its_events : ShowsItsEvents
shows_its_events img events =
    let own : List Label = labels img (reset img) events in
    ap (λ n. shown_events 0 (items_of 0 own) n) (sym (steps_are img (reset img) events))
    ∙ show_their_events own (silent img (reset img) events) ∙ events_are img (reset img) events
