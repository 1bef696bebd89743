-- A good image of an application: whatever happens, what the core shows is a run of Baker's machine (Stack-Based
-- Scheduling of Realtime Processes, 1991) with its three properties, messages are kept, the stack stays within the
-- printed bound, nothing traps, a shared resource is touched inside its section, by `init`, or where RTIC allows it
-- without one (`Guarded`), and no two jobs race for any cell of memory (`Owned`). No frame, mask or address is named
-- here.
use Rattle.std.specs.Prelude.{◌≡◌, ℕ, ◌+◌, ◌^◌, ◌<◌, ◌≤◌, Bool, true, false, List, [], ◌∷◌, length, take, count_by}
use Rattle.std.specs.Prelude.{Some}
use Rattle.std.specs.List.{AllByRecursion}
use Rattle.rt_ids.specs.Event.{Event, Arrive, Tick, steps}
use Rattle.rt_trace.specs.Label.{IsNoTrap, steps_of}
use Rattle.rt_trace.specs.Shown.{shown_events}
use Rattle.rt_trace.specs.declared.item.What.{What}
use Rattle.rt_trace.specs.declared.item.What.TheVariants as what
use Rattle.rt_app.specs.declared.app.Mono.{Mono}
use Rattle.rt_app.specs.Tree.{App}
use Rattle.rt_app.specs.Accepted.{IsAccepted}
use Rattle.rt_app.specs.Stack.{stack_bytes}
use Rattle.rt_build.specs.Image.{IsImageOf}
use Rattle.rt_code.specs.Image.{Image}
use Rattle.rt_core.specs.Core.{reset}
use Rattle.rt_core.specs.Trace.{labels, trace, depth_after}
use Rattle.rt_laws.specs.Services.{is_declared}
use Rattle.rt_laws.specs.State.{first}
use Rattle.rt_laws.specs.Run.{RunsOn}
use Rattle.rt_laws.specs.Properties.{KeepsLaws}
use Rattle.rt_laws.specs.Messages.{KeepsMessages}
use Rattle.rt_laws.specs.Unspent.{NoneIsSpent}
use Rattle.rt_sim.specs.Guarded.{AccessesAreGuarded}
use Rattle.rt_sim.specs.Owned.{AccessesAreOwned}

-- each interrupt that arrives is declared
abbrev pub AreDeclared : App → List Event → Type 0
AreDeclared app [] = Unit {0}
AreDeclared app (Arrive irq ∷ events) = (is_declared app irq ≡ true) × AreDeclared app events
AreDeclared app (e ∷ events) = AreDeclared app events

-- the system timer ticks
abbrev pub is_tick_event : Event → Bool
is_tick_event Tick = true
is_tick_event e = false

-- a message is armed, or is moved to another instant, which counts as an arming
abbrev pub is_arming : What → Bool
is_arming (what.Arm task instant) = true
is_arming (what.Move task handle instant) = true
is_arming w = false

-- The counts of the monotonic, time and armings, fit their words of memory: there are fewer than 2 ^ 31 of both
-- together, of ticks among the events and of armings in their trace. Core steps and requests are not counted, and
-- nothing is asked of an application without a monotonic.
abbrev pub CountsFit : App → Image → List Event → Type 0
CountsFit app img events = (mono : Mono) → app.mono ≡ Some mono
    → count_by is_tick_event events + count_by (λ item. is_arming item.what) (trace img events) < 2 ^ 31

-- The counts of fewer than 2 ^ 31 events fit: each of them is one tick or shows one arming at most.
abbrev pub CountsOfFewFit : Type 0
CountsOfFewFit = (app : App) (img : Image) (events : List Event) → length events < 2 ^ 31 → CountsFit app img events

-- what holds of one list of events
pub record RunsWell (app : App) (img : Image) (events : List Event) : Type 0 where
  -- What the core does, label by label, is a run of Baker's machine on the application, with as many core steps as the
  -- events have. The trace is the items of these labels, so it is a run too (`Run`), and it shows exactly these events.
  pub runs : RunsOn app (first app) (labels img (reset img) events)
  pub counts : steps_of (labels img (reset img) events) ≡ steps events
  pub shows : shown_events 0 (trace img events) (steps events) ≡ events
  -- Sections are exclusive and nest, no job finds one taken, and none returns inside one. None waits for more than one
  -- section of one lower job, and the steps that it waits are within the waiting bound.
  pub laws : KeepsLaws app (labels img (reset img) events)
  -- At every moment: a spawn finds its task full exactly where all places of the task are out, and the places that are
  -- out are accounted for; messages start first in, first out, and fire in order and not early; a handle is of one
  -- message; the items of the trace show it by themselves; and ready and due messages are served.
  pub messages : KeepsMessages app (labels img (reset img) events)
  -- No job's cost is spent before the job has ended. A run of Baker's machine may let a job spend its whole cost in
  -- silence and stay, and `audit` says yes to such a trace; no image shows one.
  pub unspent : NoneIsSpent app (labels img (reset img) events)
  -- the stack bytes in use are within the bound at every moment
  pub stack_within : (n : ℕ) → depth_after img (take n events) ≤ stack_bytes app
  pub no_trap : AllByRecursion (λ item. IsNoTrap item.what) (trace img events)
  -- each load or store on a shared resource's cell is made where it may be
  pub guarded : (n : ℕ) → AccessesAreGuarded app img (take n events)
  -- each load or store of any cell is made by a job that owns the cell then: data-race freedom for all memory
  pub owned : (n : ℕ) → AccessesAreOwned app img (take n events)

-- The image is good: its stack region is as large as the stack bound, and all this holds of every list of events: core
-- steps, ticks, and arrivals of declared interrupts, in any order, as many as the counts of the monotonic allow, and
-- without a monotonic of any length. That a text of a trace numbers its steps below 2 ^ 31 is the text's limit.
pub record Good (app : App) (img : Image) : Type 0 where
  pub size : img.stack_bytes ≡ stack_bytes app
  pub each : (events : List Event) → CountsFit app img events → AreDeclared app events → RunsWell app img events

-- Every image of an accepted application is good.
abbrev pub ImagesAreGood : Type 0
ImagesAreGood = (app : App) (img : Image) → IsAccepted app → IsImageOf app img → Good app img
