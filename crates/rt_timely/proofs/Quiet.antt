-- An arrival and a tick leave a core that fits where it is.
use Rattle.std.proofs.Common.{◌≡◌, ℕ, suc, List, None, ap, ◌∙◌}
use Rattle.rt_ids.specs.Event.{Arrive, Tick, Step}
use Rattle.rt_trace.specs.Label.{Label}
use Rattle.rt_code.specs.Image.{Image}
use Rattle.rt_core.specs.Core.{Core}
use Rattle.rt_core.specs.Stepping.{step}
use Rattle.rt_core.specs.Trace.{happen, ring}
use Rattle.rt_core.specs.Transfer.{core_after_pend}
use Rattle.rt_core.proofs.Happening.{happens_by_event}
use Rattle.rt_points.specs.Point.{Point}
use Rattle.rt_safe.specs.Inside.RunsAtPoints.{RunsAtPoints}

module _ (img : Image) (c : Core) where
  -- the core after an arrival
  pub arrived : (irq : ℕ) → (happen img c (Arrive irq)).0 ≡ core_after_pend c irq
  arrived irq = ap (λ (r : Core × List Label). r.0) (happens_by_event.arrive img c irq)

  abbrev pub later : Core
  later = record c { time = suc c.time }

  -- the core after a tick, where no alarm is set
  pub ticked : c.alarm ≡ None → (happen img c Tick).0 ≡ later
  ticked none =
      ap (λ (r : Core × List Label). r.0) (happens_by_event.tick img c) ∙ ap (λ a. (ring later a).0) none

  -- the core after a step
  pub stepped_to : (happen img c Step).0 ≡ (step img c).0
  stepped_to = ap (λ (r : Core × List Label). r.0) (happens_by_event.step img c)

  module _ (p : Point) (qs : List Point) (fits : RunsAtPoints img c p qs) where
    pub arrival_fits : (irq : ℕ) → RunsAtPoints img (core_after_pend c irq) p qs
    arrival_fits irq = record {
      running = fits.running;
      stack = fits.stack;
      address = fits.address;
      basepri = fits.basepri;
      primask = fits.primask;
      memory = fits.memory;
      caller = fits.caller;
      alarm = fits.alarm;
      stopped = fits.stopped;
    }

    pub tick_fits : RunsAtPoints img later p qs
    tick_fits = record {
      running = fits.running;
      stack = fits.stack;
      address = fits.address;
      basepri = fits.basepri;
      primask = fits.primask;
      memory = fits.memory;
      caller = fits.caller;
      alarm = fits.alarm;
      stopped = fits.stopped;
    }
