-- Over all events: a core that fits comes to one that fits, and what it shows keeps the properties.
use Rattle.std.proofs.Common.{◌≡◌, ◌≢◌, ◌⊎◌, inl, inr, ℕ, suc, List, [], ◌∷◌, ◌++◌, Option, Some, refl, sym, ap, subst}
use Rattle.std.proofs.Common.{◌∙◌}
use Rattle.std.specs.List.{AllByRecursion, Contains}
use Rattle.std.proofs.lemmas.Option.{none-some}
use Rattle.rt_lemmas.proofs.Membership.{contains_none, contains_cases}
use Rattle.rt_ids.specs.Event.{Event, Arrive, Tick, Step}
use Rattle.rt_ids.specs.declared.ids.BodyId.TheVariants as body
use Rattle.rt_trace.specs.Label.{Label, Arrived, Ticked, Stepped, items_of, IsNoTrap}
use Rattle.rt_trace.specs.declared.item.What.{What}
use Rattle.rt_trace.specs.declared.item.What.TheVariants as what
use Rattle.rt_app.specs.Tree.{App}
use Rattle.rt_code.specs.Image.{Image}
use Rattle.rt_core.specs.Core.{Core}
use Rattle.rt_core.specs.Trace.{ring, happen, core_after, labels}
use Rattle.rt_core.specs.Transfer.{core_after_pend}
use Rattle.rt_core.proofs.Happening.{happens_by_event}
use Rattle.rt_laws.specs.Properties.{AtEach, AreExclusive, FindsFree, LeavesInnermost, IsOutsideAtReturn}
use Rattle.rt_laws.specs.Observer.{Observer, sees, sees_all}
use Rattle.rt_points.specs.declared.point.Owner.TheVariants.{Starting}
use Rattle.rt_points.specs.Checked.{IsChecked}
use Rattle.rt_points.specs.Point.{Point}
use Rattle.rt_safe.specs.Inside.RunsAtPoints.{RunsAtPoints}
use Rattle.rt_safe.specs.Inside.Steps.{insides_of, insides_after, FindsNone, LeavesLastEntered, ReturnsInNone}
use Rattle.rt_safe.specs.Inside.Steps.{IsNoTrapShown}
use Rattle.rt_safe.proofs.Apart.{apart_of}
use Rattle.rt_safe.proofs.Seeing.{shown_of, seen_insides, sees_insides, exclusive_of, free_of, nested_of, returns_of}
use Rattle.rt_safe.proofs.Seeing.{untrapped}
use Rattle.rt_safe.proofs.Stepping.{steps}

module _ (img : Image) where
  -- what one event leads to; no alarm is set, so a tick shows one label too
  record Happens (c : Core) (p : Point) (qs : List Point) (e : Event) : Type 0 where
    core : Core
    label : Label
    is : happen img c e ≡ (core, label ∷ [])
    point : Point
    below : List Point
    fits : RunsAtPoints img core point below
    insides : insides_after (shown_of label) (insides_of (p ∷ qs)) ≡ insides_of (point ∷ below)
    free : FindsNone (shown_of label) (insides_of (p ∷ qs))
    nested : LeavesLastEntered (shown_of label) (insides_of (p ∷ qs))
    returns : ReturnsInNone (shown_of label) (insides_of (p ∷ qs))
    no_trap : IsNoTrapShown (shown_of label)
    started : p.owner ≢ Starting → point.owner ≢ Starting
    ended : shown_of label ≡ Some (what.End body.Init) → point.owner ≢ Starting

  -- what events lead to, and what holds of what they show, for whoever sees the jobs as they are
  pub record Reaches (c : Core) (p : Point) (qs : List Point) (events : List Event) : Type 0 where
    pub point : Point
    pub below : List Point
    pub fits : RunsAtPoints img (core_after img c events) point below
    pub started : p.owner ≢ Starting → point.owner ≢ Starting
    pub ended : Contains (labels img c events) (Stepped (Some (what.End body.Init))) → point.owner ≢ Starting
    pub seen : (app : App) (v : Observer) → seen_insides v.jobs ≡ insides_of (p ∷ qs)
        → seen_insides (sees_all app v (labels img c events)).jobs ≡ insides_of (point ∷ below)
    pub exclusive : (app : App) (v : Observer) → seen_insides v.jobs ≡ insides_of (p ∷ qs)
        → AtEach (λ v label behind. AreExclusive (sees app v label).jobs) app v (labels img c events)
    pub never_waits : (app : App) (v : Observer) → seen_insides v.jobs ≡ insides_of (p ∷ qs)
        → AtEach (λ v label behind. FindsFree v label) app v (labels img c events)
    pub nested : (app : App) (v : Observer) → seen_insides v.jobs ≡ insides_of (p ∷ qs)
        → AtEach (λ v label behind. LeavesInnermost v label) app v (labels img c events)
    pub returns : (app : App) (v : Observer) → seen_insides v.jobs ≡ insides_of (p ∷ qs)
        → AtEach (λ v label behind. IsOutsideAtReturn v label) app v (labels img c events)
    pub no_trap : (n : ℕ) → AllByRecursion (λ item. IsNoTrap item.what) (items_of n (labels img c events))

module _ (img : Image) (checked : IsChecked img) where
  happens : (c : Core) (p : Point) (qs : List Point) → RunsAtPoints img c p qs → (e : Event) → Happens img c p qs e
  happens c p qs fits (Arrive irq) = record {
    core = core_after_pend c irq;
    label = Arrived irq;
    is = happens_by_event.arrive img c irq;
    point = p;
    below = qs;
    fits = record {
      running = fits.running;
      stack = fits.stack;
      address = fits.address;
      basepri = fits.basepri;
      primask = fits.primask;
      memory = fits.memory;
      caller = fits.caller;
      alarm = fits.alarm;
      stopped = fits.stopped;
    };
    insides = refl;
    free = tt;
    nested = tt;
    returns = tt;
    no_trap = tt;
    started = λ before. before;
    ended = λ end. absurd (none-some (what.End body.Init) end);
  }
  happens c p qs fits Tick =
      let later : Core = record c { time = suc c.time } in
      record {
        core = later;
        label = Ticked;
        is = happens_by_event.tick img c ∙ ap (λ a. ((ring later a).0, Ticked ∷ (ring later a).1)) fits.alarm;
        point = p;
        below = qs;
        fits = record {
          running = fits.running;
          stack = fits.stack;
          address = fits.address;
          basepri = fits.basepri;
          primask = fits.primask;
          memory = fits.memory;
          caller = fits.caller;
          alarm = fits.alarm;
          stopped = fits.stopped;
        };
        insides = refl;
        free = tt;
        nested = tt;
        returns = tt;
        no_trap = tt;
        started = λ before. before;
        ended = λ end. absurd (none-some (what.End body.Init) end);
      }
  happens c p qs fits Step =
      let one = steps img checked c p qs fits in
      record {
        core = one.core;
        label = Stepped one.shown;
        is = happens_by_event.step img c ∙ ap (λ (r : Core × Option What). (r.0, Stepped r.1 ∷ [])) one.is;
        point = one.point;
        below = one.below;
        fits = one.fits;
        insides = one.insides;
        free = one.free;
        nested = one.nested;
        returns = one.returns;
        no_trap = one.no_trap;
        started = one.started;
        ended = one.ended;
      }

  none : (c : Core) (p : Point) (qs : List Point) → RunsAtPoints img c p qs → Reaches img c p qs []
  none c p qs fits =
      let same = happens_by_event.core_none img c in
      let shown = happens_by_event.labels_none img c in
      record {
        point = p;
        below = qs;
        fits = subst (λ d. RunsAtPoints img d p qs) (sym same) fits;
        started = λ before. before;
        ended = λ is. absurd (contains_none (Stepped (Some (what.End body.Init)))
            (subst (λ ls. Contains ls (Stepped (Some (what.End body.Init)))) shown is));
        seen = λ app v sight. ap (λ ls. seen_insides (sees_all app v ls).jobs) shown ∙ sight;
        exclusive = λ app v sight.
            subst (AtEach (λ v label behind. AreExclusive (sees app v label).jobs) app v) (sym shown) tt;
        never_waits = λ app v sight. subst (AtEach (λ v label behind. FindsFree v label) app v) (sym shown) tt;
        nested = λ app v sight. subst (AtEach (λ v label behind. LeavesInnermost v label) app v) (sym shown) tt;
        returns = λ app v sight. subst (AtEach (λ v label behind. IsOutsideAtReturn v label) app v) (sym shown) tt;
        no_trap = λ n. subst (λ ls. AllByRecursion (λ item. IsNoTrap item.what) (items_of n ls)) (sym shown) tt;
      }

  module _ (c : Core) (p : Point) (qs : List Point) (e : Event) (events : List Event) (first : Happens img c p qs e)
      (rest : Reaches img first.core first.point first.below events) where
    core_is : core_after img c (e ∷ events) ≡ core_after img first.core events
    core_is = happens_by_event.core_more img c e events
        ∙ ap (λ (r : Core × List Label). core_after img r.0 events) first.is

    labels_are : labels img c (e ∷ events) ≡ first.label ∷ labels img first.core events
    labels_are = happens_by_event.labels_more img c e events
        ∙ ap (λ (r : Core × List Label). r.1 ++ labels img r.0 events) first.is

    -- what is seen behind the first label
    seen_first : (app : App) (v : Observer) → seen_insides v.jobs ≡ insides_of (p ∷ qs)
        → seen_insides (sees app v first.label).jobs ≡ insides_of (first.point ∷ first.below)
    seen_first app v sight =
        sees_insides app v first.label ∙ ap (insides_after (shown_of first.label)) sight ∙ first.insides

    ended_more : Contains (first.label ∷ labels img first.core events) (Stepped (Some (what.End body.Init)))
        → rest.point.owner ≢ Starting
    ended_more is =
        by (contains_cases first.label (labels img first.core events) (Stepped (Some (what.End body.Init))) is)
      where
        by : (first.label ≡ Stepped (Some (what.End body.Init)))
            ⊎ Contains (labels img first.core events) (Stepped (Some (what.End body.Init)))
            → rest.point.owner ≢ Starting
        by (inl here) = rest.started (first.ended (ap shown_of here))
        by (inr behind) = rest.ended behind

    more : Reaches img c p qs (e ∷ events)
    more = record {
      point = rest.point;
      below = rest.below;
      fits = subst (λ d. RunsAtPoints img d rest.point rest.below) (sym core_is) rest.fits;
      started = λ before. rest.started (first.started before);
      ended = λ is. ended_more (subst (λ ls. Contains ls (Stepped (Some (what.End body.Init)))) labels_are is);
      seen = λ app v sight.
          ap (λ ls. seen_insides (sees_all app v ls).jobs) labels_are
          ∙ rest.seen app (sees app v first.label) (seen_first app v sight);
      exclusive = λ app v sight.
          subst (AtEach (λ v label behind. AreExclusive (sees app v label).jobs) app v) (sym labels_are) (
            exclusive_of (sees app v first.label).jobs (insides_of (first.point ∷ first.below)) (seen_first app v sight)
                (apart_of img checked first.point first.below first.core.below first.fits.running.point
                first.fits.stack),
            rest.exclusive app (sees app v first.label) (seen_first app v sight),
          );
      never_waits = λ app v sight.
          subst (AtEach (λ v label behind. FindsFree v label) app v) (sym labels_are) (
            free_of v first.label (subst (FindsNone (shown_of first.label)) (sym sight) first.free),
            rest.never_waits app (sees app v first.label) (seen_first app v sight),
          );
      nested = λ app v sight.
          subst (AtEach (λ v label behind. LeavesInnermost v label) app v) (sym labels_are) (
            nested_of v first.label (subst (LeavesLastEntered (shown_of first.label)) (sym sight) first.nested),
            rest.nested app (sees app v first.label) (seen_first app v sight),
          );
      returns = λ app v sight.
          subst (AtEach (λ v label behind. IsOutsideAtReturn v label) app v) (sym labels_are) (
            returns_of v first.label (subst (ReturnsInNone (shown_of first.label)) (sym sight) first.returns),
            rest.returns app (sees app v first.label) (seen_first app v sight),
          );
      no_trap = λ n.
          subst (λ ls. AllByRecursion (λ item. IsNoTrap item.what) (items_of n ls)) (sym labels_are)
          (untrapped first.label (labels img first.core events) n first.no_trap rest.no_trap);
    }

  pub reaches : (events : List Event) (c : Core) (p : Point) (qs : List Point) → RunsAtPoints img c p qs
      → Reaches img c p qs events
  reaches [] c p qs fits = none c p qs fits
  reaches (e ∷ events) c p qs fits =
      let first : Happens img c p qs e = happens c p qs fits e in
      more c p qs e events first (reaches events first.core first.point first.below first.fits)
