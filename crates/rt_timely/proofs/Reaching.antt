-- Over all events: a core that fits comes to one that fits, and what one knows of the jobs stays tied to the points.
use Rattle.std.proofs.Common.{List, [], ◌∷◌, Option, refl, sym, subst}
use Rattle.std.proofs.lemmas.List.{length-map, length-replicate}
use Rattle.rt_ids.specs.Event.{Event, Arrive, Tick, Step}
use Rattle.rt_trace.specs.declared.item.What.{What}
use Rattle.rt_code.specs.Image.{Image}
use Rattle.rt_core.specs.Core.{Core, reset}
use Rattle.rt_core.specs.Stepping.{step}
use Rattle.rt_core.specs.Trace.{happen, core_after}
use Rattle.rt_points.specs.Checked.{IsChecked}
use Rattle.rt_points.specs.Leading.{Begins, starts_at}
use Rattle.rt_points.specs.Point.{Point}
use Rattle.rt_points.specs.declared.point.Owner.TheVariants.{Starting}
use Rattle.rt_bounds.specs.CountedWays.{all_left}
use Rattle.rt_safe.specs.Inside.RunsAtPoints.{RunsAtPoints}
use Rattle.rt_timely.specs.Watching.{Watch, after_event, after_events, after_step, first_watch, watched}
use Rattle.rt_timely.proofs.Came.{Starts}
use Rattle.rt_timely.proofs.Counted.{counted_first}
use Rattle.rt_timely.proofs.Frames.{frames_of}
use Rattle.rt_timely.proofs.Keeping.{step_kept}
use Rattle.rt_safe.specs.Inside.Steps.{Steps as Moves}
use Rattle.rt_safe.proofs.Stepping.{steps as moves}
use Rattle.rt_timely.proofs.Quiet.{arrived, ticked, stepped_to, arrival_fits, tick_fits}
use Rattle.rt_timely.proofs.Tied.{IsTied}

-- after reset the core is where `init` begins
pub reset_fits : (img : Image) → RunsAtPoints img (reset img) (starts_at 0 Starting) []
reset_fits img = record {
  running = record { point = Begins; frame = length-replicate img.thread_words 0; saves = tt };
  stack = tt;
  address = refl;
  basepri = refl;
  primask = refl;
  memory = length-map img.cells (λ cell. cell.first);
  caller = refl;
  alarm = refl;
  stopped = refl;
}

pub reset_tied : (img : Image) → IsTied img (first_watch img) (starts_at 0 Starting ∷ []) (frames_of (reset img))
reset_tied img = record {
  running = (
    record {
      at = record {
        start = starts_at 0 Starting;
        begins = refl;
        now = all_left;
        came = Starts;
        value = refl;
        stays = tt;
      };
      counted = counted_first img Starting (starts_at 0 Starting) (reset img).processor.slots refl;
    },
    tt,
  );
  ended = tt;
  left = tt;
}

module _ (img : Image) where
  -- a core that fits, with what one knows
  pub record IsAt (c : Core) (w : Watch) : Type 0 where
    pub point : Point
    pub below : List Point
    pub fits : RunsAtPoints img c point below
    pub tied : IsTied img w (point ∷ below) (frames_of c)

module _ (img : Image) (checked : IsChecked img) where
  -- one event
  pub next : (c : Core) (w : Watch) → IsAt img c w → (e : Event) → IsAt img (happen img c e).0 (after_event img c w e)
  next c w at (Arrive irq) =
      subst (λ (d : Core). IsAt img d w) (sym (arrived img c irq)) (record {
        point = at.point;
        below = at.below;
        fits = arrival_fits img c at.point at.below at.fits irq;
        tied = at.tied;
      })
  next c w at Tick =
      subst (λ (d : Core). IsAt img d w) (sym (ticked img c at.fits.alarm)) (record {
        point = at.point;
        below = at.below;
        fits = tick_fits img c at.point at.below at.fits;
        tied = at.tied;
      })
  next c w at Step =
      let one : Moves img c at.point at.below = moves img checked c at.point at.below at.fits in
      let kept = step_kept img checked c at.point at.below at.fits w at.tied one.core one.point one.below one.fits
      one.shown one.is one.how in
      let here : IsAt img one.core (after_step c w (one.core, one.shown)) =
      record { point = one.point; below = one.below; fits = one.fits; tied = kept } in
      let steps : IsAt img (step img c).0 (after_step c w (step img c)) =
      subst (λ (r : Core × Option What). IsAt img r.0 (after_step c w r)) (sym one.is) here in
      subst (λ (d : Core). IsAt img d (after_step c w (step img c))) (sym (stepped_to img c)) steps

  pub reaches : (events : List Event) (c : Core) (w : Watch) → IsAt img c w
      → IsAt img (core_after img c events) (after_events img c w events)
  unfolding core_after after_events
  reaches [] c w at = at
  reaches (e ∷ events) c w at = reaches events (happen img c e).0 (after_event img c w e) (next c w at e)

  -- from reset on
  pub reached : (events : List Event) → IsAt img (core_after img (reset img) events) (watched img events)
  reached events =
      reaches events (reset img) (first_watch img) (record {
        point = starts_at 0 Starting;
        below = [];
        fits = reset_fits img;
        tied = reset_tied img;
      })
