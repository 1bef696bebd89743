-- An image that keeps the rules is safe.
use Rattle.std.proofs.Common.{◌≡◌, ◌≢◌, inl, inr, ℕ, if◌then◌else◌, List, [], ◌∷◌, take}
use Rattle.std.proofs.Common.{slice_get, Option, Some, None, refl, sym, ap, subst, ◌∙◌}
use Rattle.std.proofs.lemmas.Bool.{false≢true}
use Rattle.std.proofs.lemmas.List.{length-map, length-replicate}
use Rattle.std.proofs.lemmas.Option.{none-some}
use Rattle.rt_ids.specs.Event.{Event}
use Rattle.rt_ids.specs.declared.ids.Section.{Section}
use Rattle.rt_trace.specs.Label.{Label}
use Rattle.rt_app.specs.Tree.{App}
use Rattle.rt_code.specs.Access.{Access, cell_of, access_of, access_with}
use Rattle.rt_code.specs.Effect.{effect}
use Rattle.rt_code.specs.Image.{Image}
use Rattle.rt_code.specs.Processor.{Effect, Traps, Leads}
use Rattle.rt_code.specs.declared.image.IrqRow.{IrqRow}
use Rattle.rt_core.specs.Access.{access, access_by, access_by_line}
use Rattle.rt_core.specs.Core.{Core, reset}
use Rattle.rt_core.specs.Priority.{pick}
use Rattle.rt_core.specs.Trace.{core_after, labels}
use Rattle.rt_laws.specs.Observer.{Seen, first_sight, sees_all}
use Rattle.rt_points.specs.declared.point.Owner.{Owner}
use Rattle.rt_points.specs.declared.point.Owner.TheVariants.{Starting, Thread, Handling}
use Rattle.rt_points.specs.declared.rule.Rule.TheVariants as rule
use Rattle.rt_points.specs.Checked.{IsChecked}
use Rattle.rt_points.specs.Leading.{Begins, starts_at}
use Rattle.rt_points.specs.Point.{Point, sections}
use Rattle.rt_points.specs.Rules.{Touches, IsGuardedBy}
use Rattle.rt_safe.specs.Inside.RunsAtPoints.{is_starting, RunsAtPoints}
use Rattle.rt_safe.specs.Inside.Steps.{insides_of}
use Rattle.rt_safe.specs.Laws.{CheckedImagesAreSafe}
use Rattle.rt_safe.specs.Safe.{IsTouchedBy, TouchesInside, RunsSafely}
use Rattle.rt_safe.proofs.Apart.{alone_in_init}
use Rattle.rt_safe.proofs.Depth.{depth_within}
use Rattle.rt_safe.proofs.Lines.{HasLine, line_at, access_is}
use Rattle.rt_safe.proofs.Running.{Reaches, reaches}
use Rattle.rt_safe.proofs.Seeing.{seen_insides, inside_of, init_of}

-- after reset the core is where `init` begins
reset_fits : (img : Image) → RunsAtPoints img (reset img) (starts_at 0 Starting) []
reset_fits img = record {
  running = record { point = Begins; frame = length-replicate img.thread_words 0; saves = tt };
  stack = tt;
  address = refl;
  basepri = refl;
  primask = refl;
  memory = length-map img.cells (λ cell. cell.first);
  caller = refl;
  alarm = refl;
  stopped = refl;
}

accessed : (e : Effect) (o : Option Access) (a : Access) → access_with e o ≡ Some a → o ≡ Some a
accessed (Traps trap) o a is = absurd (none-some a is)
accessed (Leads after request) o a is = is

module _ (img : Image) (checked : IsChecked img) where
  -- what the next step of a core that fits touches is touched at its point
  touches_at : (c : Core) (p : Point) (qs : List Point) → RunsAtPoints img c p qs → p.owner ≢ Starting → (a : Access)
      → access img c ≡ Some a → Touches img (cell_of a) p
  touches_at c p qs fits outside a is =
      by (pick img c)
      (sym (ap (λ b. if◌then◌else◌ {A = Option Access} b None (access_by img c (pick img c))) fits.stopped) ∙ is)
    where
      line : HasLine img p
      line = line_at img checked p fits.running.point

      by : (o : Option IrqRow) → access_by img c o ≡ Some a → Touches img (cell_of a) p
      by (Some row) is = absurd (none-some a is)
      by None is = record {
        outside = outside;
        instr = line.instr;
        told = line.told;
        stands = line.stands;
        access = a;
        by = sym (access_is line.instr c.processor line.operable.supported)
            ∙ accessed (effect line.instr c.time c.processor) (access_of line.instr c.processor) a
            (sym (ap (access_by_line c) (ap (slice_get img.code) fits.address ∙ line.stands.1)) ∙ is);
        touches = refl;
      }

  reached : (events : List Event) → Reaches img (reset img) (starts_at 0 Starting) [] events
  reached events = reaches img checked events (reset img) (starts_at 0 Starting) [] (reset_fits img)

  runs_safely : (events : List Event) → RunsSafely img events
  runs_safely events =
      let whole = reached events in
      record {
        no_trap = whole.no_trap 0;
        stack_within = λ n.
            let part = reached (take n events) in
            depth_within img (checked rule.Numbers).stack_enough (core_after img (reset img) (take n events)) part.point
            part.below part.fits;
        exclusive = λ app. whole.exclusive app (first_sight app) refl;
        never_waits = λ app. whole.never_waits app (first_sight app) refl;
        nested = λ app. whole.nested app (first_sight app) refl;
        returns = λ app. whole.returns app (first_sight app) refl;
      }

  touches_inside : (cell : ℕ) (x : Section) → IsGuardedBy img cell x → (app : App) (events : List Event)
      → TouchesInside app img cell x events
  touches_inside cell x guarded app events a is at = by whole.point.owner refl
    where
      whole : Reaches img (reset img) (starts_at 0 Starting) [] events
      whole = reached events

      shown : List Label
      shown = labels img (reset img) events

      jobs : List Seen
      jobs = (sees_all app (first_sight app) shown).jobs

      seen : seen_insides jobs ≡ insides_of (whole.point ∷ whole.below)
      seen = whole.seen app (first_sight app) refl

      outside : whole.point.owner ≢ Starting → IsTouchedBy shown jobs x
      outside other =
          let touches = touches_at (core_after img (reset img) events) whole.point whole.below whole.fits other a is in
          inl (inside_of jobs (sections whole.point.inside) (insides_of whole.below) x seen
          (guarded whole.point (subst (λ n. Touches img n whole.point) at touches)))

      by : (owner : Owner) → whole.point.owner ≡ owner → IsTouchedBy shown jobs x
      by Starting same =
          let alone : whole.below ≡ [] =
          alone_in_init img whole.point whole.below (core_after img (reset img) events).below same whole.fits.stack in
          inr (init_of shown jobs (sections whole.point.inside) (seen ∙ ap (λ qs. insides_of (whole.point ∷ qs)) alone)
          (λ ended. whole.ended ended same))
      by Thread same = outside (λ starting. false≢true (ap is_starting (sym same ∙ starting)))
      by (Handling index) same = outside (λ starting. false≢true (ap is_starting (sym same ∙ starting)))

pub checked_images_are_safe : CheckedImagesAreSafe
checked_images_are_safe img checked = record {
  runs = runs_safely img checked;
  guarded = λ cell contended.
      let guard = checked rule.Guards cell contended in
      (guard.0, λ app events. touches_inside img checked cell guard.0 guard.1 app events);
}
