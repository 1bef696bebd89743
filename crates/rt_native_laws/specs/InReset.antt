-- Within the code of reset, at each of its instructions (ARMv7-M Architecture Reference Manual, section B1.5.5). The
-- image has no code for it: there nothing but arrivals happens meanwhile.
use Rattle.std.specs.Prelude.{◌≡◌, ◌+◌, ◌*◌, ◌≤◌, List, [], flat_map, map, Some}
use Rattle.rt_ids.specs.Event.{Arrive}
use Rattle.rt_code.specs.Image.{Image}
use Rattle.rt_core.specs.Core.{depth}
use Rattle.rt_native.specs.Layout.{stack_top}
use Rattle.rt_native.specs.Target.{Target}
use Rattle.rt_native_laws.specs.Moments.{AllCanHappen, Comes, Happening, Moment, at_reset, moment_after_all, shown}
use Rattle.rt_native_laws.specs.Simulating.{arrivals_at, arrivals_of, seen_of_label, stack_bottom}
use Rattle.rt_thumb.specs.Machine.{Machine}
use Rattle.rt_thumb.specs.Step.{Program, Event, after}

-- what devices requested at some events, as it comes to an image
abbrev pub arrived : List Event → List Happening
arrived events = map (λ irq. Comes (Arrive irq)) (flat_map arrivals_at events)

module _ (img : Image) (target : Target) (p : Program) where
  -- the moment of the image after reset, with the requests so far
  abbrev pub moment_in_reset : List Event → Moment
  moment_in_reset events = moment_after_all img (at_reset img) (arrived events)

  -- Some events lead from reset to a state, without a fault. Others see nothing of them, as they see nothing of the
  -- image after reset, to which the same interrupts arrive. The stack pointer is within the stack, and the stack is no
  -- deeper than the image's, which has the thread's frame alone.
  pub record IsInReset (m : Machine) (events : List Event) : Type 0 where
    pub next : Machine
    pub no_fault : after p events (Some m) ≡ Some next
    pub seen : next.seen ≡ m.seen
    pub can : AllCanHappen img target.inputs (at_reset img) (arrived events)
    pub arrivals : flat_map arrivals_of (arrived events) ≡ flat_map arrivals_at events
    pub unseen : flat_map seen_of_label (shown img (at_reset img) (arrived events)) ≡ []
    pub low : stack_bottom img target p ≤ next.register 13
    pub high : next.register 13 ≤ stack_top img target
    pub deep : stack_top img target ≤ next.register 13 + depth img (moment_in_reset events).core
    pub frame : depth img (moment_in_reset events).core ≡ 4 * img.thread_words
