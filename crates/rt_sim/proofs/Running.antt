-- Over all events, and words between them: what the core shows is a run of Baker's machine beside devices, and the two
-- agree at the end.
use Rattle.std.proofs.Common.{◌≡◌, ℕ, ◌+◌, ◌^◌, ◌<◌, ◌≤◌, true, cond, List, [], ◌∷◌, ◌++◌, length, slice_set, Option}
use Rattle.std.proofs.Common.{refl, sym, ap, subst, ◌∙◌, arith, length-set}
use Rattle.rt_ids.specs.Event.{Event, Arrive, Tick, Step}
use Rattle.rt_ids.specs.Event.{steps as steps_in}
use Rattle.rt_trace.specs.Label.{Label, Ticked, Stepped, steps_of}
use Rattle.rt_trace.specs.declared.item.What.{What}
use Rattle.rt_app.specs.Tree.{App}
use Rattle.rt_app.specs.Accepted.{IsAccepted}
use Rattle.rt_code.specs.Image.{Image}
use Rattle.rt_core.specs.Core.{Core}
use Rattle.rt_core.specs.Trace.{happen}
use Rattle.rt_core.proofs.Happening.{happens_by_event}
use Rattle.rt_core.proofs.Keeping.{step_keeps_time}
use Rattle.rt_laws.specs.State.{State}
use Rattle.rt_laws.specs.Allowed.{after}
use Rattle.rt_laws.specs.Run.{RunsOn}
use Rattle.rt_laws.specs.ByItems.{after_all}
use Rattle.rt_laws.specs.Observer.{Observer, sees_all}
use Rattle.rt_laws.specs.DeviceWords.{WithWords, One, Puts, ones, things, IsUnused, MayPut, state_after_put}
use Rattle.rt_laws.specs.DeviceWords.{RunsBeside, after_moves}
use Rattle.rt_laws.proofs.Armings.{armings}
use Rattle.rt_laws.proofs.Beside.{things_ones, things_behind, put_well, runs_ones, after_ones, moves_behind_ones}
use Rattle.rt_laws.proofs.Beside.{runs_behind_ones}
use Rattle.rt_laws.proofs.Fine.{Queued}
use Rattle.rt_laws.proofs.Keeping.{well_after}
use Rattle.rt_laws.proofs.Well.{StateWell}
use Rattle.rt_sim.specs.Good.{AreDeclared, is_tick_event}
use Rattle.rt_sim.specs.Beside.{core_after_put, core_beside, labels_beside}
use Rattle.rt_sim.specs.Whereabouts.{Whereabouts, AreMoved}
use Rattle.rt_sim.specs.Inside.Coupling.{Coupling, whereabouts_of}
use Rattle.rt_sim.specs.Inside.States.{core_of, state_of}
use Rattle.rt_sim.specs.Inside.CouplingInvariant.{CouplingInvariant}
use Rattle.rt_sim.specs.Inside.Agrees.{Agrees, StepsBoth}
use Rattle.rt_sim.proofs.Acts.{pending_invariant}
use Rattle.rt_sim.proofs.Alarms.{ticks}
use Rattle.rt_sim.proofs.Armed.{armed, counted, counted_more, armings_shown}
use Rattle.rt_sim.proofs.Fitting.{Fits, FitIn}
use Rattle.rt_sim.proofs.Putting.{coupling_after_put, put_invariant}

-- what is seen of the jobs is so behind labels
labels_keep_well : (app : App) → IsAccepted app → (labels : List Label) (s : State) (v : Observer) → StateWell app s v
    → RunsOn app s labels → StateWell app (after_all app s labels) (sees_all app v labels)
labels_keep_well app accepted labels s v well runs =
    subst (λ t. StateWell app t (sees_all app v labels)) (after_ones app labels s)
    (subst (λ ls. StateWell app (after_moves app s (ones labels)) (sees_all app v ls)) (things_ones labels)
    (well_after app accepted (ones labels) s v well (runs_ones app labels s runs)))

-- places are moved by labels, and then by more
moved_append : (labels more : List Label) (w u v : Whereabouts) → AreMoved labels w u → AreMoved more u v
    → AreMoved (labels ++ more) w v
moved_append [] more w u v none rest = subst (λ k. AreMoved more k v) none rest
moved_append (label ∷ labels) more w u v moved rest =
    (moved.0, moved.1, moved_append labels more moved.0 u v moved.2 rest)

module _ (app : App) (accepted : IsAccepted app) (img : Image) (thread : ℕ)
    (steps : (m : Coupling) → CouplingInvariant app img thread m → Queued app m.values → FitIn app m
    → StepsBoth app img thread (core_of app.bits m) (state_of m) (whereabouts_of m)) where
  -- What one event leads to, where places are so. It may show the alarm of a tick behind that tick. Time rises by a
  -- tick, and armings by what is shown.
  pub record Leads (c : Core) (s : State) (w : Whereabouts) (e : Event) (behind : Core × List Label) : Type 0 where
    pub runs : RunsOn app s behind.1
    pub agrees : Agrees app img thread behind.0 (after_all app s behind.1) (AreMoved behind.1 w)
    pub time : behind.0.time + armings (after_all app s behind.1).values ≤ c.time + armings s.values
        + (cond (is_tick_event e) 1 0 + armed behind.1)
    pub counts : (ls : List Label) → steps_of (behind.1 ++ ls) ≡ steps_in (e ∷ []) + steps_of ls

  abbrev pub Happens : Core → State → Whereabouts → Event → Type 0
  Happens c s w e = Leads c s w e (happen img c e)

  happens : (m : Coupling) → CouplingInvariant app img thread m → (v : Observer) → StateWell app (state_of m) v
      → FitIn app m → (e : Event) → AreDeclared app (e ∷ [])
      → Happens (core_of app.bits m) (state_of m) (whereabouts_of m) e
  happens m invariant v well fit (Arrive irq) declared =
      let now : Coupling = record m { pending = slice_set m.pending irq true } in
      subst (Leads (core_of app.bits m) (state_of m) (whereabouts_of m) (Arrive irq))
      (sym (happens_by_event.arrive img (core_of app.bits m) irq))
      (record {
        runs = ((refl, declared.0), tt);
        agrees = record {
          coupling = now;
          core = refl;
          state = refl;
          invariant = pending_invariant app img thread m (slice_set m.pending irq true) (length-set m.pending irq true)
              invariant;
          places = (whereabouts_of m, refl, refl);
        };
        time = omega arith;
        counts = λ ls. omega arith;
      })
  happens m invariant v well fit Tick declared =
      let one = ticks app img thread m invariant in
      let values_same : armings (after_all app (after app (state_of m) Ticked) one.shown).values ≡ armings m.values =
      ap (λ (s : State). armings s.values) one.state ∙ ap armings one.values in
      let is : happen img (core_of app.bits m) Tick ≡ (core_of app.bits one.coupling, Ticked ∷ one.shown) =
      happens_by_event.tick img (core_of app.bits m)
      ∙ ap (λ (r : Core × List Label). (r.0, Ticked ∷ r.1)) one.is in
      subst (Leads (core_of app.bits m) (state_of m) (whereabouts_of m) Tick) (sym is)
      (record {
        runs = (refl, one.runs);
        agrees = record {
          coupling = one.coupling;
          core = refl;
          state = one.state;
          invariant = one.invariant;
          places = (whereabouts_of m, refl, one.places);
        };
        time = omega (arith, one.time, values_same);
        counts = λ ls. omega (arith, one.silent ls);
      })
  happens m invariant v well fit Step declared =
      let both = steps m invariant well.queued fit in
      let kept : both.core.time ≡ m.time = ap (λ (r : Core × Option What). r.0.time) (sym both.is)
      ∙ step_keeps_time img (core_of app.bits m) in
      let is : happen img (core_of app.bits m) Step ≡ (both.core, Stepped both.shown ∷ []) =
      happens_by_event.step img (core_of app.bits m)
      ∙ ap (λ (r : Core × Option What). (r.0, Stepped r.1 ∷ [])) both.is in
      subst (Leads (core_of app.bits m) (state_of m) (whereabouts_of m) Step) (sym is)
      (record {
        runs = (both.may, tt);
        agrees = record {
          coupling = both.agrees.coupling;
          core = both.agrees.core;
          state = both.agrees.state;
          invariant = both.agrees.invariant;
          places = (whereabouts_of both.agrees.coupling, both.agrees.places, refl);
        };
        time = omega (arith, kept, armings_shown app accepted (state_of m) v well (Stepped both.shown) both.may);
        counts = λ ls. omega arith;
      })

  steps_more : (e : Event) (events : List Event) → steps_in (e ∷ events) ≡ steps_in (e ∷ []) + steps_in events
  steps_more (Arrive irq) events = omega arith
  steps_more Tick events = omega arith
  steps_more Step events = omega arith

  -- after events and words, where places were so before
  pub record Reaches (c : Core) (s : State) (w : Whereabouts) (moves : List (WithWords Event)) : Type 0 where
    pub time : (core_beside app img c moves).time + armings (after_moves app s (labels_beside app img c moves)).values
        ≤ c.time + armings s.values + counted app img c moves
    pub counts : steps_of (things (labels_beside app img c moves)) ≡ steps_in (things moves)
    pub runs : RunsBeside app s (labels_beside app img c moves)
    pub agrees : Agrees app img thread (core_beside app img c moves)
        (after_moves app s (labels_beside app img c moves)) (AreMoved (things (labels_beside app img c moves)) w)

  -- each word is put where no job may use it that has started, from here on
  abbrev pub FreeFrom : Core → State → List (WithWords Event) → Type 0
  FreeFrom c s moves =
      (front behind : List (WithWords Event)) (n word : ℕ) → moves ≡ front ++ Puts n word ∷ behind
      → (n < length app.locals) × (word < 2 ^ 32)
      × IsUnused app (after_moves app s (labels_beside app img c front)).jobs n

  -- an event of two that agree
  happens_next : (c : Core) (s : State) (w : Whereabouts) (v : Observer) → Agrees app img thread c s (λ u. u ≡ w)
      → StateWell app s v
      → Fits app (c.time + armings s.values) → (e : Event) → AreDeclared app (e ∷ []) → Happens c s w e
  happens_next c s w v agrees well fit e declared =
      let same : c.time ≡ agrees.coupling.time = ap (λ (d : Core). d.time) agrees.core in
      let alike : armings s.values
      ≡ armings agrees.coupling.values = ap (λ (t : State). armings t.values) agrees.state in
      subst (λ d. Happens d s w e) (sym agrees.core)
      (subst (λ t. Happens (core_of app.bits agrees.coupling) t w e) (sym agrees.state)
      (subst (λ u. Happens (core_of app.bits agrees.coupling) (state_of agrees.coupling) u e) agrees.places
      (happens agrees.coupling agrees.invariant v (subst (λ t. StateWell app t v) agrees.state well)
      (λ mono is. let few = fit mono is in omega (arith, same, alike, few)) e declared)))

  -- one event more in front
  module _ (c : Core) (s : State) (w : Whereabouts) (e : Event) (moves : List (WithWords Event))
      (first : Happens c s w e) where
    abbrev next : Core
    next = (happen img c e).0

    abbrev shown : List Label
    shown = (happen img c e).1

    free_next : FreeFrom c s (One e ∷ moves) → FreeFrom next (after_all app s shown) moves
    free_next free front behind n word is =
        let here = free (One e ∷ front) behind n word (ap (λ ms. One e ∷ ms) is) in (
          here.0,
          here.1,
          subst (λ (t : State). IsUnused app t.jobs n)
              (moves_behind_ones app shown (labels_beside app img next front) s) here.2,
        )

    reaches_more : Reaches next (after_all app s shown) (whereabouts_of first.agrees.coupling) moves
        → Reaches c s w (One e ∷ moves)
    reaches_more rest =
        let more : List (WithWords Label) = labels_beside app img next moves in
        let state_is = moves_behind_ones app shown more s in
        let things_are = things_behind shown more in
        let alike = ap (λ (t : State). armings t.values) state_is in
        let count = counted_more app img c e moves in
        record {
          time = omega (arith, alike, first.time, rest.time, count);
          counts = ap steps_of things_are
              ∙ omega (arith, first.counts (things more), rest.counts, steps_more e (things moves));
          runs = runs_behind_ones app shown more s first.runs rest.runs;
          agrees = record {
            coupling = rest.agrees.coupling;
            core = rest.agrees.core;
            state = state_is ∙ rest.agrees.state;
            invariant = rest.agrees.invariant;
            places = subst (λ ls. AreMoved ls w (whereabouts_of rest.agrees.coupling)) (sym things_are)
                (moved_append shown (things more) w (whereabouts_of first.agrees.coupling)
                (whereabouts_of rest.agrees.coupling) first.agrees.places rest.agrees.places);
          };
        }

  -- none
  reaches_none : (c : Core) (s : State) (w : Whereabouts) → Agrees app img thread c s (λ u. u ≡ w) → Reaches c s w []
  reaches_none c s w agrees = record { time = omega arith; counts = refl; runs = tt; agrees = agrees }

  -- two that agree do so behind a word
  agrees_put : (c : Core) (s : State) (w : Whereabouts) (n word : ℕ) → n < length app.locals
      → IsUnused app s.jobs n → Agrees app img thread c s (λ u. u ≡ w)
      → Agrees app img thread (core_after_put app n word c) (state_after_put n word s) (λ u. u ≡ w)
  agrees_put c s w n word declared unused agrees = record {
    coupling = coupling_after_put app n word agrees.coupling;
    core = ap (core_after_put app n word) agrees.core;
    state = ap (state_after_put n word) agrees.state;
    invariant = put_invariant app img thread n word declared agrees.coupling
        (subst (λ (t : State). IsUnused app t.jobs n) agrees.state unused) agrees.invariant;
    places = agrees.places;
  }

  one_declared : (e : Event) (events : List Event) → AreDeclared app (e ∷ events) → AreDeclared app (e ∷ [])
  one_declared (Arrive irq) events d = (d.0, tt)
  one_declared Tick events d = tt
  one_declared Step events d = tt

  rest_declared : (e : Event) (events : List Event) → AreDeclared app (e ∷ events) → AreDeclared app events
  rest_declared (Arrive irq) events d = d.1
  rest_declared Tick events d = d
  rest_declared Step events d = d

  pub reaches : (moves : List (WithWords Event)) (c : Core) (s : State) (w : Whereabouts) (v : Observer)
      → Agrees app img thread c s (λ u. u ≡ w)
      → StateWell app s v → Fits app (c.time + armings s.values + counted app img c moves)
      → AreDeclared app (things moves) → FreeFrom c s moves → Reaches c s w moves
  reaches [] c s w v agrees well fit declared free = reaches_none c s w agrees
  reaches (Puts n word ∷ moves) c s w v agrees well fit declared free =
      let here = free [] moves n word refl in
      let rest = reaches moves (core_after_put app n word c) (state_after_put n word s) w v
      (agrees_put c s w n word here.0 here.2 agrees) (put_well app s v n word well) fit declared
      (λ front behind k other is. free (Puts n word ∷ front) behind k other (ap (λ ms. Puts n word ∷ ms) is)) in
      let may : MayPut app s n word = record {
        declared = here.0;
        short = here.1;
        not_owing = ap (λ (t : State). t.owing) agrees.state;
        unused = here.2;
      } in
      record { time = rest.time; counts = rest.counts; runs = (may, rest.runs); agrees = rest.agrees }
  reaches (One e ∷ moves) c s w v agrees well fit declared free =
      let count = counted_more app img c e moves in
      let first : Happens c s w e =
      happens_next c s w v agrees well (λ mono is. let few = fit mono is in omega (arith, few)) e
      (one_declared e (things moves) declared) in
      reaches_more c s w e moves first
      (reaches moves (happen img c e).0 (after_all app s (happen img c e).1) (whereabouts_of first.agrees.coupling)
      (sees_all app v (happen img c e).1) (record {
        coupling = first.agrees.coupling;
        core = first.agrees.core;
        state = first.agrees.state;
        invariant = first.agrees.invariant;
        places = refl;
      })
      (labels_keep_well app accepted (happen img c e).1 s v well first.runs)
      (λ mono is. let few = fit mono is in omega (arith, first.time, few, count))
      (rest_declared e (things moves) declared) (free_next c s w e moves first free))
