-- The moments of a run by its labels: a core that fits, with what one knows of its jobs.
use Rattle.std.proofs.Common.{◌≡◌, ℕ, List, [], ◌∷◌, ◌++◌, Option, refl, sym, ap, subst, ◌∙◌}
use Rattle.rt_ids.specs.Event.{Event, Arrive, Tick, Step}
use Rattle.rt_trace.specs.Label.{Label, Arrived, Ticked, Rang, Stepped}
use Rattle.rt_trace.specs.declared.item.What.{What}
use Rattle.rt_code.specs.Image.{Image}
use Rattle.rt_core.specs.Core.{Core, reset}
use Rattle.rt_core.specs.Trace.{labels, ring}
use Rattle.rt_core.specs.Transfer.{core_after_pend}
use Rattle.rt_core.proofs.Happening.{happens_by_event}
use Rattle.rt_points.specs.Checked.{IsChecked}
use Rattle.rt_points.specs.Leading.{starts_at}
use Rattle.rt_points.specs.Point.{Point}
use Rattle.rt_points.specs.declared.point.Owner.TheVariants as owner
use Rattle.rt_safe.specs.Inside.RunsAtPoints.{RunsAtPoints}
use Rattle.rt_safe.specs.Inside.Steps.{Steps as Moves}
use Rattle.rt_safe.proofs.Stepping.{steps as moves}
use Rattle.rt_timely.specs.Watching.{Watch, after_step, first_watch}
use Rattle.rt_timely.proofs.Frames.{frames_of}
use Rattle.rt_timely.proofs.Keeping.{step_kept}
use Rattle.rt_timely.proofs.Quiet.{later, arrival_fits, tick_fits}
use Rattle.rt_timely.proofs.Reaching.{reset_fits, reset_tied}
use Rattle.rt_timely.proofs.Tied.{AreJobsAt, IsTied, jobs_of}

-- a moment
pub record Now (img : Image) : Type 0 where
  pub core : Core
  pub watch : Watch
  pub point : Point
  pub below : List Point
  pub fits : RunsAtPoints img core point below
  pub tied : IsTied img watch (point ∷ below) (frames_of core)

module _ (img : Image) where
  abbrev pub jobs_are : (s : Now img) → AreJobsAt img s.watch.jobs (s.point ∷ s.below)
  jobs_are s = jobs_of img s.watch (s.point ∷ s.below) (frames_of s.core) s.tied

  abbrev pub on_arrival : Now img → ℕ → Now img
  on_arrival s irq = record {
    core = core_after_pend s.core irq;
    watch = s.watch;
    point = s.point;
    below = s.below;
    fits = arrival_fits img s.core s.point s.below s.fits irq;
    tied = s.tied;
  }

  abbrev pub on_tick : Now img → Now img
  on_tick s = record {
    core = later img s.core;
    watch = s.watch;
    point = s.point;
    below = s.below;
    fits = tick_fits img s.core s.point s.below s.fits;
    tied = s.tied;
  }

  abbrev pub first_moment : Now img
  first_moment = record {
    core = reset img;
    watch = first_watch img;
    point = starts_at 0 owner.Starting;
    below = [];
    fits = reset_fits img;
    tied = reset_tied img;
  }

module _ (img : Image) (checked : IsChecked img) where
  abbrev pub move : (s : Now img) → Moves img s.core s.point s.below
  move s = moves img checked s.core s.point s.below s.fits

  abbrev pub on_step : Now img → Now img
  on_step s = record {
    core = (move s).core;
    watch = after_step s.core s.watch ((move s).core, (move s).shown);
    point = (move s).point;
    below = (move s).below;
    fits = (move s).fits;
    tied = step_kept img checked s.core s.point s.below s.fits s.watch s.tied (move s).core (move s).point
        (move s).below (move s).fits (move s).shown (move s).is (move s).how;
  }

  -- from a moment on a run shows these labels
  abbrev pub Follows : Now img → List Label → Type 0
  Follows s [] = Unit {0}
  Follows s (Arrived irq ∷ ls) = Follows (on_arrival img s irq) ls
  Follows s (Ticked ∷ ls) = Follows (on_tick img s) ls
  Follows s (Rang ∷ ls) = ⊥
  Follows s (Stepped shown ∷ ls) = (shown ≡ (move s).shown) × Follows (on_step s) ls

  pub follows : (events : List Event) (s : Now img) → Follows s (labels img s.core events)
  follows [] s = subst (Follows s) (sym (happens_by_event.labels_none img s.core)) tt
  follows (Arrive irq ∷ events) s =
      subst (Follows s)
      (sym (happens_by_event.labels_more img s.core (Arrive irq) events
      ∙ ap (λ (r : Core × List Label). r.1 ++ labels img r.0 events) (happens_by_event.arrive img s.core irq)))
      (follows events (on_arrival img s irq))
  follows (Tick ∷ events) s =
      subst (Follows s)
      (sym (happens_by_event.labels_more img s.core Tick events
      ∙ ap (λ (r : Core × List Label). r.1 ++ labels img r.0 events)
      (happens_by_event.tick img s.core
      ∙ ap (λ a. ((ring (later img s.core) a).0, Ticked ∷ (ring (later img s.core) a).1)) s.fits.alarm)))
      (follows events (on_tick img s))
  follows (Step ∷ events) s =
      subst (Follows s)
      (sym (happens_by_event.labels_more img s.core Step events
      ∙ ap (λ (r : Core × List Label). r.1 ++ labels img r.0 events)
      (happens_by_event.step img s.core ∙ ap (λ (r : Core × Option What). (r.0, Stepped r.1 ∷ [])) (move s).is)))
      (refl, follows events (on_step s))
