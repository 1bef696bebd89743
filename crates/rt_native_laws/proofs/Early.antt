-- What came by reset's end comes to the image too, and then native code does what the image does.
use Rattle.std.proofs.Common.{◌≡◌, ◌∙◌, ℕ, Bool, true, List, [], ◌∷◌, ◌++◌}
use Rattle.std.proofs.Common.{sym, refl, ap, arith, flat_map, length, None, Option}
use Rattle.std.proofs.lemmas.List.{append-nil}
use Rattle.rt_ids.specs.Event.{Arrive}
use Rattle.rt_code.specs.Image.{Image}
use Rattle.rt_core.specs.Trace.{happen}
use Rattle.rt_native.specs.Target.{Target}
use Rattle.rt_thumb.specs.Exceptions.{external, systick}
use Rattle.rt_thumb.specs.Machine.{Machine, with_word}
use Rattle.rt_thumb.specs.Step.{Program, Event, Arrives, Changes, Ticks, Goes, GoesLate, pended}
use Rattle.rt_thumb_laws.specs.Undisturbed.{with_arrivals}
use Rattle.rt_native_laws.specs.Behaving.{StaysGood, BehavesWell}
use Rattle.rt_native_laws.specs.Devices.{ChangeDevices}
use Rattle.rt_native_laws.specs.FromReset.{AreNumbered, NativeSimulatesFromReset, ComesBehindReset}
use Rattle.rt_native_laws.specs.Moments.{AllCanHappen, Comes, Fills, Happening, Moment, at_reset, moment_after}
use Rattle.rt_native_laws.specs.Moments.{AreFillings}
use Rattle.rt_native_laws.specs.Linked.{LiesLinked}
use Rattle.rt_native_laws.specs.Moments.{moment_after_all, shown}
use Rattle.rt_native_laws.specs.Relating.{IsInPlace, IsPastMarks, IsWhere}
use Rattle.rt_native_laws.specs.Simulating.{arrivals_at, arrivals_of, seen_of_label, IsFitFor}
use Rattle.rt_native_laws.proofs.Changing.{changed_where}
use Rattle.rt_native_laws.proofs.Following.{at_most_one, filled, follow, start, there_is, where_is, lies_alone}
use Rattle.rt_native_laws.specs.WithFunctions.{LinkedSimulatesFromReset, inputs_beside}
use Rattle.rt_native_laws.proofs.Events.{At, Stands, stays_behind}
use Rattle.rt_native_laws.proofs.Fewer.{can_beside_more, well_beside_fewer}
use Rattle.rt_native_laws.proofs.FollowingMoves.{follow_moves}
use Rattle.rt_native_laws.proofs.FromReset.{reset_leads_behind}
use Rattle.rt_native_laws.proofs.Marking.{HasMarked, marks_are_done}
use Rattle.rt_native_laws.proofs.Requesting.{arrives, ticks_come}

module _ (img : Image) (target : Target) (p : Program) (there : IsInPlace img target p) (ceiling : ℕ)
    (called : ℕ → Option Machine) where
  -- what came comes to the image, and then marks are done
  pub record HasCome (fits : List Happening → Bool) (s : Moment) (m : Machine) (events : List Event) : Type 0 where
    pub happened : List Happening
    pub can : AllCanHappen img target.inputs s happened
    pub arrivals : flat_map arrivals_of happened ≡ flat_map arrivals_at events
    pub seen : flat_map seen_of_label (shown img s happened) ≡ []
    pub time : (moment_after_all img s happened).core.time ≡ s.core.time
    pub here : IsWhere img target p ceiling called (moment_after_all img s happened) (with_arrivals events m)
    pub marks : fits happened ≡ true
        → IsPastMarks img target p here.unpaid here.top (with_arrivals events m) here.phase

  marked : (fits : List Happening → Bool) (s : Moment) (m : Machine)
      → HasMarked img target p there ceiling called (length img.code) fits s m
      → HasCome fits s m []
  marked fits s m x = record {
    happened = x.happened;
    can = x.can;
    arrivals = x.arrivals;
    seen = x.seen;
    time = x.time;
    here = x.here;
    marks = x.marks;
  }

  one_more : (fits : List Happening → Bool) (s : Moment) (m : Machine) (irq : ℕ) (events : List Event)
      → HasCome (λ more. fits (Comes (Arrive irq) ∷ more)) (moment_after img s (Comes (Arrive irq)))
      (pended (external irq) m) events
      → HasCome fits s m (Arrives irq ∷ events)
  unfolding happen
  one_more fits s m irq events x = record {
    happened = Comes (Arrive irq) ∷ x.happened;
    can = (tt, x.can);
    arrivals = ap (λ (xs : List ℕ). irq ∷ xs) x.arrivals;
    seen = x.seen;
    time = x.time;
    here = x.here;
    marks = x.marks;
  }

  all_come : (events : List Event) (fits : List Happening → Bool) (s : Moment) (m : Machine) → AreNumbered events
      → ChangeDevices target events → StaysGood img target.inputs ceiling fits s → IsWhere img target p ceiling called s m
      → HasCome fits s m events
  all_come [] fits s m numbered changes stays w =
      marked fits s m (marks_are_done img target p there ceiling called fits s m stays w)
  all_come (Arrives irq ∷ events) fits s m numbered changes stays w =
      one_more fits s m irq events
      (all_come events (λ more. fits (Comes (Arrive irq) ∷ more)) (moment_after img s (Comes (Arrive irq)))
      (pended (external irq) m) numbered.1 changes
      (λ more ok f. stays (Comes (Arrive irq) ∷ more) (tt, ok) f) (arrives img target p ceiling called there s m w irq))
  all_come (Ticks ∷ events) fits s m numbered changes stays w =
      let x = all_come events fits s (pended systick m) numbered changes stays
      (ticks_come img target p ceiling called there s m w) in
      record {
        happened = x.happened;
        can = x.can;
        arrivals = x.arrivals;
        seen = x.seen;
        time = x.time;
        here = x.here;
        marks = x.marks;
      }
  all_come (Changes address value ∷ events) fits s m numbered changes stays w =
      let x = all_come events fits s (with_word address value m) numbered changes.1 stays
      (changed_where img target p ceiling called there s m address value changes.0 w) in
      record {
        happened = x.happened;
        can = x.can;
        arrivals = x.arrivals;
        seen = x.seen;
        time = x.time;
        here = x.here;
        marks = x.marks;
      }
  all_come (Goes ∷ events) fits s m numbered changes stays w =
      let x = all_come events fits s m numbered changes stays w in record {
        happened = x.happened;
        can = x.can;
        arrivals = x.arrivals;
        seen = x.seen;
        time = x.time;
        here = x.here;
        marks = x.marks;
      }
  all_come (GoesLate ∷ events) fits s m numbered changes stays w =
      let x = all_come events fits s m numbered changes stays w in record {
        happened = x.happened;
        can = x.can;
        arrivals = x.arrivals;
        seen = x.seen;
        time = x.time;
        here = x.here;
        marks = x.marks;
      }

-- others see nothing of what is pending
arrivals_unseen : (events : List Event) (m : Machine) → (with_arrivals events m).seen ≡ m.seen
arrivals_unseen [] m = refl
arrivals_unseen (Arrives irq ∷ events) m = arrivals_unseen events (pended (external irq) m)
arrivals_unseen (Ticks ∷ events) m = arrivals_unseen events (pended systick m)
arrivals_unseen (Changes address value ∷ events) m = arrivals_unseen events (with_word address value m)
arrivals_unseen (Goes ∷ events) m = arrivals_unseen events m
arrivals_unseen (GoesLate ∷ events) m = arrivals_unseen events m

-- what lies in flash behind reset
pub linked_behind : (img : Image) (target : Target) (p : Program) (m : Machine)
    → (x : ComesBehindReset img target p m) → LiesLinked img target p m → LiesLinked img target p x.last
linked_behind img target p m x linked = record {
  object = linked.object;
  addresses = linked.addresses;
  loaded = x.still linked.object linked.loaded;
  executed = linked.executed;
  linked = linked.linked;
  reached = linked.reached;
  elsewhere = linked.elsewhere;
  frames = linked.frames;
}

-- some events lead behind reset
module _ (img : Image) (target : Target) (p : Program) (fits : List Happening → Bool) (m : Machine)
    (image : IsFitFor img target p) (well : BehavesWell img target.inputs fits) (x : ComesBehindReset img target p m)
    (linked : LiesLinked img target p x.last) (before : List Event) (numbered : AreNumbered before)
    (changes : ChangeDevices target before) where
  pub there_behind : IsInPlace img target p
  there_behind = there_is img target p x.words x.last image linked x.stands

  abbrev pub next_behind : Machine
  next_behind = with_arrivals before x.last

  abbrev pub called_behind : ℕ → Option Machine
  called_behind e = None

  fill : AreFillings (at_reset img) x.words
  fill = filled img target p x.words x.last image linked x.stands

  pub come : HasCome img target p there_behind well.ceiling called_behind (λ more. fits (Fills x.words ∷ more))
      (start img target p x.words x.last image linked x.stands) x.last before
  come =
      all_come img target p there_behind well.ceiling called_behind before (λ more. fits (Fills x.words ∷ more))
      (start img target p x.words x.last image linked x.stands) x.last numbered changes
      (λ more ok f. well.moments (Fills x.words ∷ more) (fill, ok) f)
      (where_is img target p x.words x.last image linked x.stands well.ceiling called_behind)

  abbrev pub first_behind : List Happening
  first_behind = Fills x.words ∷ come.happened

  pub can_behind : AllCanHappen img target.inputs (at_reset img) first_behind
  can_behind = (fill, come.can)

  pub stays_then : StaysGood img target.inputs well.ceiling (λ more. fits (first_behind ++ more))
      (moment_after_all img (at_reset img) first_behind)
  stays_then = stays_behind img target.inputs well.ceiling fits (at_reset img) first_behind can_behind well.moments

  abbrev pub stands_then : Stands img target p there_behind well.ceiling called_behind well.frames
      (λ more. fits (first_behind ++ more)) (moment_after_all img (at_reset img) first_behind) next_behind
  stands_then = At (come.here, λ f. come.marks (ap fits (sym (append-nil first_behind)) ∙ f))

pub native_simulates_from_reset : NativeSimulatesFromReset
native_simulates_from_reset img target p fits m image mapped well at_start =
    let alone = lies_alone img target p m image.no_functions at_start.loaded at_start.stands.executed in
    let x = reset_leads_behind img target p m image.fit mapped alone at_start.stands in
    let linked = linked_behind img target p m x alone in
    record {
      count = x.count;
      meanwhile = x.meanwhile;
      follows = λ before events many early numbered changes few.
          let come = come img target p fits m image.fit well x linked before numbered changes in
          let next = next_behind img target p fits m image.fit well x linked before numbered changes in
          record {
            next = next;
            no_fault = x.leads before many early changes;
            seen = arrivals_unseen before x.last ∙ x.seen;
            first = first_behind img target p fits m image.fit well x linked before numbered changes;
            can = can_behind img target p fits m image.fit well x linked before numbered changes;
            arrivals = come.arrivals;
            unseen = come.seen;
            follows = follow img target p (there_behind img target p fits m image.fit well x linked before numbered changes)
                image.no_functions well.ceiling
                (λ e. None) well.frames events
                (λ more. fits (first_behind img target p fits m image.fit well x linked before numbered changes ++ more))
                (moment_after_all img (at_reset img)
                (first_behind img target p fits m image.fit well x linked before numbered changes)) next
                (stays_then img target p fits m image.fit well x linked before numbered changes)
                (stands_then img target p fits m image.fit well x linked before numbered changes)
                (omega (arith, few, come.time, at_most_one (next.is_pending systick)));
          };
    }

pub linked_simulates_from_reset : LinkedSimulatesFromReset
linked_simulates_from_reset img target functions p fits m image mapped well lies at_start keep =
    let x = reset_leads_behind img target p m image mapped lies at_start in
    let linked = linked_behind img target p m x lies in
    let fewer = well_beside_fewer img target.inputs functions.inputs fits well in
    record {
      count = x.count;
      meanwhile = x.meanwhile;
      follows = λ before moves many early numbered changes few.
          let come = come img target p fits m image fewer x linked before numbered changes in
          let next = next_behind img target p fits m image fewer x linked before numbered changes in
          record {
            next = next;
            no_fault = x.leads before many early changes;
            seen = arrivals_unseen before x.last ∙ x.seen;
            first = first_behind img target p fits m image fewer x linked before numbered changes;
            can = can_behind img target p fits m image fewer x linked before numbered changes;
            arrivals = come.arrivals;
            unseen = come.seen;
            follows = follow_moves img target functions p
                (there_behind img target p fits m image fewer x linked before numbered changes) keep well.ceiling
                well.frames moves (λ e. None)
                (λ more. fits (first_behind img target p fits m image fewer x linked before numbered changes ++ more))
                (moment_after_all img (at_reset img)
                (first_behind img target p fits m image fewer x linked before numbered changes)) next
                (stays_behind img (inputs_beside target functions) well.ceiling fits (at_reset img)
                (first_behind img target p fits m image fewer x linked before numbered changes)
                (can_beside_more img target.inputs functions.inputs (at_reset img)
                (first_behind img target p fits m image fewer x linked before numbered changes)
                (can_behind img target p fits m image fewer x linked before numbered changes)) well.moments)
                (stands_then img target p fits m image fewer x linked before numbered changes)
                (omega (arith, few, come.time, at_most_one (next.is_pending systick)));
          };
    }
