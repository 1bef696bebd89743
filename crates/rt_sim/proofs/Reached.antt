-- What an image reaches behind events whose counts fit, with words between them or without, and behind their fronts.
use Rattle.std.proofs.Common.{◌≡◌, ℕ, zero, suc, List, [], ◌∷◌, ◌++◌, take, drop, append_assoc, sym, ap, subst, ◌∙◌}
use Rattle.std.proofs.Common.{arith}
use Rattle.std.proofs.lemmas.List.{take-append-drop}
use Rattle.rt_ids.specs.Event.{Event, Arrive, Tick, Step, steps}
use Rattle.rt_trace.specs.Label.{Label, steps_of}
use Rattle.rt_app.specs.Tree.{App}
use Rattle.rt_app.specs.Accepted.{IsAccepted}
use Rattle.rt_app.specs.Acceptance.{IsSound}
use Rattle.rt_app.proofs.Sound.{accepted_are_sound}
use Rattle.rt_build.specs.Image.{IsImageOf}
use Rattle.rt_build.proofs.ImageCells.{resource_numbers}
use Rattle.rt_code.specs.Image.{Image}
use Rattle.rt_core.specs.Core.{Core, reset}
use Rattle.rt_core.specs.Trace.{core_after, labels}
use Rattle.rt_laws.specs.State.{State, first}
use Rattle.rt_laws.specs.Run.{RunsOn}
use Rattle.rt_laws.specs.ByItems.{after_all}
use Rattle.rt_laws.specs.Observer.{first_sight}
use Rattle.rt_laws.specs.DeviceWords.{WithWords, One, Puts, ones, things, RunsBeside, after_moves}
use Rattle.rt_laws.proofs.Armings.{armings, first_armings}
use Rattle.rt_laws.proofs.Beside.{things_ones, ones_run, after_ones}
use Rattle.rt_laws.proofs.Fine.{Queued}
use Rattle.rt_laws.proofs.Happens.{first_well}
use Rattle.rt_sim.specs.Good.{AreDeclared, CountsFit}
use Rattle.rt_sim.specs.Beside.{core_beside, labels_beside, CountsFitBeside, WordsAreFree}
use Rattle.rt_sim.specs.Whereabouts.{Whereabouts, AreMoved}
use Rattle.rt_sim.specs.Inside.Coupling.{Coupling, whereabouts_of}
use Rattle.rt_sim.specs.Inside.States.{core_of, state_of}
use Rattle.rt_sim.specs.Inside.CouplingInvariant.{CouplingInvariant}
use Rattle.rt_sim.specs.Inside.Agrees.{Agrees, StepsBoth}
use Rattle.rt_sim.proofs.Armed.{counts_fit, fits_ones}
use Rattle.rt_sim.proofs.Bodies.{init_respects, idle_respects, task_respects, dispatcher_respects, timer_respects}
use Rattle.rt_sim.proofs.Fitting.{FitIn}
use Rattle.rt_sim.proofs.Running.{Reaches, reaches}
use Rattle.rt_sim.proofs.Starting.{agrees_first, places_first}
use Rattle.rt_sim.proofs.Stepping.{step_both}
use Rattle.rt_sim.proofs.Wordless.{labels_ones, shown_ones, core_ones, none_put}

module _ (app : App) where
  -- a front of events is declared
  pub front_declared : (moves : List (WithWords Event)) (n : ℕ) → AreDeclared app (things moves)
      → AreDeclared app (things (take n moves))
  front_declared moves zero declared = tt
  front_declared [] (suc n) declared = tt
  front_declared (One (Arrive irq) ∷ moves) (suc n) declared = (declared.0, front_declared moves n declared.1)
  front_declared (One Tick ∷ moves) (suc n) declared = front_declared moves n declared
  front_declared (One Step ∷ moves) (suc n) declared = front_declared moves n declared
  front_declared (Puts local word ∷ moves) (suc n) declared = front_declared moves n declared

  -- what stands in a front stands in the whole
  in_front : (moves front behind : List (WithWords Event)) (n local word : ℕ)
      → take n moves ≡ front ++ Puts local word ∷ behind
      → moves ≡ front ++ Puts local word ∷ (behind ++ drop n moves)
  in_front moves front behind n local word is =
      sym (take-append-drop n moves) ∙ ap (λ ms. ms ++ drop n moves) is
      ∙ append_assoc front (Puts local word ∷ behind) (drop n moves)

  -- and its words are free
  pub front_free : (img : Image) (moves : List (WithWords Event)) (n : ℕ) → WordsAreFree app img moves
      → WordsAreFree app img (take n moves)
  front_free img moves n free front behind local word is =
      free front (behind ++ drop n moves) local word (in_front moves front behind n local word is)

module _ (app : App) (img : Image) (accepted : IsAccepted app) (is_image : IsImageOf app img) where
  abbrev pub sound : IsSound app
  sound = accepted_are_sound app accepted

  pub steps_both : (m : Coupling) → CouplingInvariant app img is_image.at.idle m → Queued app m.values
      → FitIn app m → StepsBoth app img is_image.at.idle (core_of app.bits m) (state_of m) (whereabouts_of m)
  steps_both = step_both app img accepted sound is_image
      (resource_numbers app is_image.at img is_image.tables sound) (idle_respects app accepted sound)
      (task_respects app accepted sound) (dispatcher_respects app accepted sound) (timer_respects app accepted sound)

  -- where places are at reset
  abbrev pub places_at_reset : Whereabouts
  places_at_reset = places_first app img accepted sound is_image (init_respects app accepted sound)

  abbrev pub ReachedBeside : List (WithWords Event) → Type 0
  ReachedBeside moves =
      Reaches app accepted img is_image.at.idle steps_both (reset img) (first app) places_at_reset moves

  module _ (moves : List (WithWords Event)) (fit : CountsFitBeside app img moves)
      (declared : AreDeclared app (things moves)) (free : WordsAreFree app img moves) where
    pub reached_beside : ReachedBeside moves
    reached_beside =
        let none = first_armings app accepted in
        reaches app accepted img is_image.at.idle steps_both moves (reset img) (first app) places_at_reset
        (first_sight app)
        (agrees_first app img accepted sound is_image (init_respects app accepted sound)) (first_well app accepted)
        (λ mono is. let few = counts_fit app img moves fit mono is in omega (arith, none, few)) declared free

    -- time and armings fit there
    pub reached_fits : FitIn app reached_beside.agrees.coupling
    reached_fits mono is =
        let there = reached_beside in
        let none = first_armings app accepted in
        let few = counts_fit app img moves fit mono is in
        let same : (core_beside app img (reset img) moves).time ≡ there.agrees.coupling.time =
        ap (λ (c : Core). c.time) there.agrees.core in
        let alike = ap (λ (s : State). armings s.values) there.agrees.state in
        omega (arith, same, alike, there.time, none, few)

  -- what events alone lead to
  pub record ReachedBy (events : List Event) : Type 0 where
    pub counts : steps_of (labels img (reset img) events) ≡ steps events
    pub runs : RunsOn app (first app) (labels img (reset img) events)
    pub agrees : Agrees app img is_image.at.idle (core_after img (reset img) events)
        (after_all app (first app) (labels img (reset img) events))
        (AreMoved (labels img (reset img) events) places_at_reset)

  pub reached_by : (events : List Event) → CountsFit app img events → AreDeclared app events → ReachedBy events
  reached_by events fit declared =
      let whole = reached_beside (ones events) (fits_ones app img events fit)
      (subst (AreDeclared app) (sym (things_ones events)) declared) (none_put app img events) in
      let shown : List Label = labels img (reset img) events in
      let shown_is : labels_beside app img (reset img) (ones events) ≡ ones shown =
      labels_ones app img events (reset img) in
      record {
        counts = ap steps_of (sym (shown_ones app img events (reset img))) ∙ whole.counts
            ∙ ap steps (things_ones events);
        runs = ones_run app shown (first app) (subst (RunsBeside app (first app)) shown_is whole.runs);
        agrees = record {
          coupling = whole.agrees.coupling;
          core = sym (core_ones app img events (reset img)) ∙ whole.agrees.core;
          state = sym (after_ones app shown (first app)) ∙ ap (after_moves app (first app)) (sym shown_is)
              ∙ whole.agrees.state;
          invariant = whole.agrees.invariant;
          places = subst (λ ls. AreMoved ls places_at_reset (whereabouts_of whole.agrees.coupling))
              (shown_ones app img events (reset img)) whole.agrees.places;
        };
      }

-- the events of two lists, one behind the other, are declared where those of each are
pub declared_append : (app : App) (xs ys : List Event) → AreDeclared app xs → AreDeclared app ys
    → AreDeclared app (xs ++ ys)
declared_append app [] ys front back = back
declared_append app (Arrive irq ∷ xs) ys front back = (front.0, declared_append app xs ys front.1 back)
declared_append app (Tick ∷ xs) ys front back = declared_append app xs ys front back
declared_append app (Step ∷ xs) ys front back = declared_append app xs ys front back
