-- A note on a plain instruction that moves a place of a message is a step of Baker's machine: a place is taken, a
-- message made ready or started, a place given back; a message is armed, fires, is taken back or put to another
-- instant.
use Rattle.std.proofs.Common.{◌≡◌, ℕ, ◌+◌, ◌++◌, Bool, true, false, List, [], ◌∷◌, map, Some, None, refl}
use Rattle.std.proofs.Common.{ap, subst, ◌∙◌, if◌then◌else◌, arith}
use Rattle.rt_lemmas.proofs.Bools.{true_and_false}
use Rattle.rt_actions.specs.Location.{Location, Guarded, is_same_location}
use Rattle.rt_actions.specs.Content.{Values}
use Rattle.rt_actions.specs.Entry.{Entry, count}
use Rattle.rt_actions.specs.Action.{Action, Places, Readies, Starts, Frees, Arms, Fires, Cancels, Moves, effect}
use Rattle.rt_ids.specs.declared.ids.Section.{Section}
use Rattle.rt_ids.specs.declared.ids.Section.TheVariants as section
use Rattle.rt_app.specs.Tree.{App}
use Rattle.rt_app.specs.Holding.{storage}
use Rattle.rt_code.specs.Acting.{PlacesMessage, ReadiesMessage, StartsMessage, FreesPlace, ArmsMessage, FiresMessage}
use Rattle.rt_code.specs.Acting.{CancelsMessage, MovesMessage, with_queue}
use Rattle.rt_code.specs.Image.{Image}
use Rattle.rt_code.specs.Owning.{is_open, MayAccess}
use Rattle.rt_code.specs.Processor.{Processor}
use Rattle.rt_code.specs.Standing.{Stands, HaveLeft, configuration_after, spend_step}
use Rattle.rt_code.proofs.Mine.{owns_open}
use Rattle.rt_core.specs.Access.{access}
use Rattle.rt_core.specs.Leading.{GoesPlainly, with_processor}
use Rattle.rt_core.specs.Stepping.{step}
use Rattle.rt_trace.specs.declared.item.What.TheVariants as what
use Rattle.rt_laws.specs.Preemption.{candidate}
use Rattle.rt_laws.specs.State.{reached_values}
use Rattle.rt_sim.specs.Inside.Coupling.{Coupling, configuration_of, whereabouts_of}
use Rattle.rt_sim.specs.Inside.States.{core_of, state_of}
use Rattle.rt_sim.specs.Inside.Counts.{hands, IsOnce}
use Rattle.rt_sim.specs.Inside.PartInvariant.{who, Owns}
use Rattle.rt_sim.specs.Inside.CouplingInvariant.{CouplingInvariant}
use Rattle.rt_sim.specs.Inside.Agrees.{StepsBoth}
use Rattle.rt_sim.proofs.Counting.{same_location, took, put_behind, put_before, taken_out, put_last, moved_once}
use Rattle.rt_sim.proofs.Plain.{IsWorking, coupling_after, may_turn}
use Rattle.rt_sim.proofs.Acts.{changes_by, gives_item, acts_as, acts_fit}

module _ (app : App) (img : Image) (thread : ℕ) (m : Coupling) (invariant : CouplingInvariant app img thread m)
    (works : IsWorking m.running.role) where
  -- what is put at an open section is not at what the running job does not own
  beside : {X : Type 0} (x : Section) (put before : X) → is_open m.running.held x ≡ true → (h : Location)
      → Owns app img thread m.running h ≡ false → (if is_same_location (Guarded x) h then put else before) ≡ before
  beside x put before inside h away = by (is_same_location (Guarded x) h) refl
    where
      by : (b : Bool) → is_same_location (Guarded x) h ≡ b → (if b then put else before) ≡ before
      by true same = absurd (true_and_false (Owns app img thread m.running h)
          (subst (λ k. Owns app img thread m.running k ≡ true) (same_location (Guarded x) h same)
          (owns_open (storage app) (who m.running) m.running.held x inside)) away)
      by false other = refl

  module _ (n : ℕ) (none : candidate app (state_of m) ≡ None) (left : HaveLeft (m.running.lefts ++ m.running.left ∷ []))
      (may : MayAccess (storage app) (who m.running) (configuration_of m.cells m.queues m.running)
      (access img (core_of app.bits m))) (q : Processor)
      (plain : GoesPlainly (configuration_of m.cells m.queues m.running) (core_of app.bits m).processor q) where
    abbrev Both : Type 0
    Both = StepsBoth app img thread (core_of app.bits m) (state_of m) (whereabouts_of m)

    once_behind : (x : Section) (places entries : List Entry)
        → ((e : Entry) → count e places + count e entries ≡ count e m.running.places + count e (m.queues (Guarded x)))
        → IsOnce (with_queue m.queues x entries) (λ e. count e places + hands m.below e)
    once_behind x places entries alike =
        moved_once m.queues x entries (hands (m.running ∷ m.below)) (λ e. count e places + hands m.below e)
        (λ e. omega (arith, alike e)) invariant.once

    pub places_message : (t : ℕ) → step img (core_of app.bits m) ≡
        (with_processor (core_of app.bits m) q, Some (what.Placed t))
        → PlacesMessage (storage app) m.running.rows (who m.running) t
        (configuration_after (spend_step (configuration_of m.cells m.queues m.running)) q)
        (λ t. Stands (storage app) img.code m.running.rows thread (who m.running) n t) → Both
    places_message t is noted =
        let acts = noted.acts in
        let x : Section = section.Free t in
        let places : List Entry = noted.entry ∷ m.running.places in
        let queues : Location → List Entry = with_queue m.queues x noted.others in
        let vs : Values = effect (Places t) m.values in
        record {
          core = with_processor (core_of app.bits m) q;
          shown = Some (what.Placed t);
          is = is;
          may = (
            may_turn app img thread m invariant works none left,
            gives_item app img thread m invariant works (Places t) acts.values acts.follows acts.is,
          );
          agrees = record {
            coupling = coupling_after app img thread m q n (acts.follows 0 vs) (reached_values (acts.follows 0 vs) vs)
                places queues;
            core = refl;
            state = acts_as app img thread m invariant works (Places t) acts.values acts.follows acts.is;
            invariant = acts_fit app img thread m invariant works q n (Places t) 0 places queues plain
                (changes_by app img thread m invariant works _ _ is may) acts
                (λ h away. beside x _ (m.values h) noted.inside h away)
                (λ h away. beside x noted.others (m.queues h) noted.inside h away)
                (once_behind x places noted.others
                (λ e. took e noted.entry m.running.places noted.others (m.queues (Guarded x)) noted.first))
                (λ held. refl) tt;
            places = record {
              entry = noted.entry;
              behind = noted.others;
              mine = m.running.places;
              others = map (λ p. p.places) m.below;
              of_task = noted.of_task;
              queue = noted.first;
              hands = refl;
              after = refl;
            };
          };
        }

    pub readies_message : (t : ℕ) → step img (core_of app.bits m) ≡
        (with_processor (core_of app.bits m) q, Some (what.Ready t))
        → ReadiesMessage (storage app) m.running.rows (who m.running) t
        (configuration_after (spend_step (configuration_of m.cells m.queues m.running)) q)
        (λ t. Stands (storage app) img.code m.running.rows thread (who m.running) n t) → Both
    readies_message t is noted =
        let acts = noted.acts in
        let x : Section = section.Ready noted.level in
        let action : Action = Readies noted.level noted.message in
        let entries : List Entry = m.queues (Guarded x) ++ noted.entry ∷ [] in
        let queues : Location → List Entry = with_queue m.queues x entries in
        let vs : Values = effect action m.values in
        record {
          core = with_processor (core_of app.bits m) q;
          shown = Some (what.Ready t);
          is = is;
          may = (
            may_turn app img thread m invariant works none left,
            gives_item app img thread m invariant works action acts.values acts.follows acts.is
                ∙ ap (λ k. Some (what.Ready k)) noted.of_task.1,
          );
          agrees = record {
            coupling = coupling_after app img thread m q n (acts.follows 0 vs) (reached_values (acts.follows 0 vs) vs)
                noted.others queues;
            core = refl;
            state = acts_as app img thread m invariant works action acts.values acts.follows acts.is;
            invariant = acts_fit app img thread m invariant works q n action 0 noted.others queues plain
                (changes_by app img thread m invariant works _ _ is may) acts
                (λ h away. beside x _ (m.values h) noted.inside h away)
                (λ h away. beside x entries (m.queues h) noted.inside h away)
                (once_behind x noted.others entries
                (λ e. put_behind e noted.entry m.running.places noted.others (m.queues (Guarded x)) noted.in_hands))
                (λ held. refl) tt;
            places = (
              noted.level,
              record {
                entry = noted.entry;
                mine = noted.others;
                others = map (λ p. p.places) m.below;
                of_task = noted.of_task.0;
                hands = ap (λ es. es ∷ map (λ p. p.places) m.below) noted.in_hands;
                after = refl;
              },
            );
          };
        }

    pub starts_message : (t from : ℕ)
        → (noted : StartsMessage (storage app) m.running.rows (who m.running) t from
        (configuration_after (spend_step (configuration_of m.cells m.queues m.running)) q)
        (λ t. Stands (storage app) img.code m.running.rows thread (who m.running) n t))
        → step img (core_of app.bits m) ≡
        (with_processor (core_of app.bits m) q, Some (what.Start t noted.message.args)) → Both
    starts_message t from noted is =
        let acts = noted.acts in
        let x : Section = section.Ready noted.level in
        let action : Action = Starts noted.level noted.message in
        let places : List Entry = noted.entry ∷ m.running.places in
        let queues : Location → List Entry = with_queue m.queues x noted.others in
        let vs : Values = effect action m.values in
        record {
          core = with_processor (core_of app.bits m) q;
          shown = Some (what.Start t noted.message.args);
          is = is;
          may = (
            may_turn app img thread m invariant works none left,
            gives_item app img thread m invariant works action acts.values acts.follows acts.is
                ∙ ap (λ k. Some (what.Start k noted.message.args)) noted.of_task.1,
          );
          agrees = record {
            coupling = coupling_after app img thread m q n (acts.follows 0 vs) (reached_values (acts.follows 0 vs) vs)
                places queues;
            core = refl;
            state = acts_as app img thread m invariant works action acts.values acts.follows acts.is;
            invariant = acts_fit app img thread m invariant works q n action 0 places queues plain
                (changes_by app img thread m invariant works _ _ is may) acts
                (λ h away. beside x _ (m.values h) noted.inside h away)
                (λ h away. beside x noted.others (m.queues h) noted.inside h away)
                (once_behind x places noted.others
                (λ e. took e noted.entry m.running.places noted.others (m.queues (Guarded x)) noted.first))
                (λ held. refl) tt;
            places = (
              noted.level,
              record {
                entry = noted.entry;
                behind = noted.others;
                mine = m.running.places;
                others = map (λ p. p.places) m.below;
                of_task = noted.of_task.0;
                queue = noted.first;
                hands = refl;
                after = refl;
              },
            );
          };
        }

    pub frees_place : (t : ℕ) → step img (core_of app.bits m) ≡
        (with_processor (core_of app.bits m) q, Some (what.Free t))
        → FreesPlace (storage app) m.running.rows (who m.running) t
        (configuration_after (spend_step (configuration_of m.cells m.queues m.running)) q)
        (λ t. Stands (storage app) img.code m.running.rows thread (who m.running) n t) → Both
    frees_place t is noted =
        let acts = noted.acts in
        let x : Section = section.Free t in
        let entries : List Entry = noted.entry ∷ m.queues (Guarded x) in
        let queues : Location → List Entry = with_queue m.queues x entries in
        let vs : Values = effect (Frees t) m.values in
        record {
          core = with_processor (core_of app.bits m) q;
          shown = Some (what.Free t);
          is = is;
          may = (
            may_turn app img thread m invariant works none left,
            gives_item app img thread m invariant works (Frees t) acts.values acts.follows acts.is,
          );
          agrees = record {
            coupling = coupling_after app img thread m q n (acts.follows 0 vs) (reached_values (acts.follows 0 vs) vs)
                noted.others queues;
            core = refl;
            state = acts_as app img thread m invariant works (Frees t) acts.values acts.follows acts.is;
            invariant = acts_fit app img thread m invariant works q n (Frees t) 0 noted.others queues plain
                (changes_by app img thread m invariant works _ _ is may) acts
                (λ h away. beside x _ (m.values h) noted.inside h away)
                (λ h away. beside x entries (m.queues h) noted.inside h away)
                (once_behind x noted.others entries
                (λ e. put_before e noted.entry m.running.places noted.others (m.queues (Guarded x)) noted.in_hands))
                (λ held. refl) tt;
            places = record {
              entry = noted.entry;
              mine = noted.others;
              others = map (λ p. p.places) m.below;
              of_task = noted.of_task;
              hands = ap (λ es. es ∷ map (λ p. p.places) m.below) noted.in_hands;
              after = refl;
            };
          };
        }

    pub arms_message : (t slot : ℕ)
        → (noted : ArmsMessage (storage app) m.running.rows (who m.running) t slot
        (configuration_after (spend_step (configuration_of m.cells m.queues m.running)) q)
        (λ t. Stands (storage app) img.code m.running.rows thread (who m.running) n t))
        → step img (core_of app.bits m) ≡
        (with_processor (core_of app.bits m) q, Some (what.Arm t noted.instant)) → Both
    arms_message t slot noted is =
        let acts = noted.acts in
        let x : Section = section.Timer in
        let action : Action = Arms noted.instant noted.message in
        let entries : List Entry = m.queues (Guarded x) ++ noted.entry ∷ [] in
        let queues : Location → List Entry = with_queue m.queues x entries in
        let vs : Values = effect action m.values in
        record {
          core = with_processor (core_of app.bits m) q;
          shown = Some (what.Arm t noted.instant);
          is = is;
          may = (
            may_turn app img thread m invariant works none left,
            gives_item app img thread m invariant works action acts.values acts.follows acts.is
                ∙ ap (λ k. Some (what.Arm k noted.instant)) noted.of_task.1,
          );
          agrees = record {
            coupling = coupling_after app img thread m q n (acts.follows 0 vs) (reached_values (acts.follows 0 vs) vs)
                noted.others queues;
            core = refl;
            state = acts_as app img thread m invariant works action acts.values acts.follows acts.is;
            invariant = acts_fit app img thread m invariant works q n action 0 noted.others queues plain
                (changes_by app img thread m invariant works _ _ is may) acts
                (λ h away. beside x _ (m.values h) noted.inside h away)
                (λ h away. beside x entries (m.queues h) noted.inside h away)
                (once_behind x noted.others entries
                (λ e. put_behind e noted.entry m.running.places noted.others (m.queues (Guarded x)) noted.in_hands))
                (λ held. refl) tt;
            places = record {
              entry = noted.entry;
              mine = noted.others;
              others = map (λ p. p.places) m.below;
              of_task = noted.of_task.0;
              hands = ap (λ es. es ∷ map (λ p. p.places) m.below) noted.in_hands;
              after = refl;
            };
          };
        }

    pub fires_message : (t : ℕ)
        → (noted : FiresMessage (storage app) m.running.rows (who m.running) t
        (configuration_after (spend_step (configuration_of m.cells m.queues m.running)) q)
        (λ t. Stands (storage app) img.code m.running.rows thread (who m.running) n t))
        → step img (core_of app.bits m) ≡
        (with_processor (core_of app.bits m) q, Some (what.Fire t)) → Both
    fires_message t noted is =
        let acts = noted.acts in
        let x : Section = section.Timer in
        let action : Action = Fires noted.message in
        let places : List Entry = noted.entry ∷ m.running.places in
        let entries : List Entry = noted.before ++ noted.behind in
        let queues : Location → List Entry = with_queue m.queues x entries in
        let vs : Values = effect action m.values in
        record {
          core = with_processor (core_of app.bits m) q;
          shown = Some (what.Fire t);
          is = is;
          may = (
            may_turn app img thread m invariant works none left,
            gives_item app img thread m invariant works action acts.values acts.follows acts.is
                ∙ ap (λ k. Some (what.Fire k)) noted.of_task.1,
          );
          agrees = record {
            coupling = coupling_after app img thread m q n (acts.follows 0 vs) (reached_values (acts.follows 0 vs) vs)
                places queues;
            core = refl;
            state = acts_as app img thread m invariant works action acts.values acts.follows acts.is;
            invariant = acts_fit app img thread m invariant works q n action 0 places queues plain
                (changes_by app img thread m invariant works _ _ is may) acts
                (λ h away. beside x _ (m.values h) noted.inside h away)
                (λ h away. beside x entries (m.queues h) noted.inside h away)
                (once_behind x places entries
                (λ e. taken_out e noted.entry m.running.places noted.before noted.behind (m.queues (Guarded x))
                noted.stands))
                (λ held. refl) tt;
            places = (
              noted.before,
              record {
                entry = noted.entry;
                behind = noted.behind;
                mine = m.running.places;
                others = map (λ p. p.places) m.below;
                of_task = noted.of_task.0;
                queue = noted.stands;
                hands = refl;
                after = refl;
              },
            );
          };
        }

    pub cancels_message : (t slot : ℕ)
        → (noted : CancelsMessage (storage app) m.running.rows (who m.running) t slot
        (configuration_after (spend_step (configuration_of m.cells m.queues m.running)) q)
        (λ t. Stands (storage app) img.code m.running.rows thread (who m.running) n t))
        → step img (core_of app.bits m) ≡
        (with_processor (core_of app.bits m) q, Some (what.Cancel t noted.handle)) → Both
    cancels_message t slot noted is =
        let acts = noted.acts in
        let x : Section = section.Timer in
        let action : Action = Cancels t noted.handle in
        let places : List Entry = noted.entry ∷ m.running.places in
        let entries : List Entry = noted.before ++ noted.behind in
        let queues : Location → List Entry = with_queue m.queues x entries in
        let vs : Values = effect action m.values in
        record {
          core = with_processor (core_of app.bits m) q;
          shown = Some (what.Cancel t noted.handle);
          is = is;
          may = (
            may_turn app img thread m invariant works none left,
            gives_item app img thread m invariant works action acts.values acts.follows acts.is,
          );
          agrees = record {
            coupling = coupling_after app img thread m q n (acts.follows 0 vs) (reached_values (acts.follows 0 vs) vs)
                places queues;
            core = refl;
            state = acts_as app img thread m invariant works action acts.values acts.follows acts.is;
            invariant = acts_fit app img thread m invariant works q n action 0 places queues plain
                (changes_by app img thread m invariant works _ _ is may) acts
                (λ h away. beside x _ (m.values h) noted.inside h away)
                (λ h away. beside x entries (m.queues h) noted.inside h away)
                (once_behind x places entries
                (λ e. taken_out e noted.entry m.running.places noted.before noted.behind (m.queues (Guarded x))
                noted.stands))
                (λ held. refl) tt;
            places = (
              noted.before,
              record {
                entry = noted.entry;
                behind = noted.behind;
                mine = m.running.places;
                others = map (λ p. p.places) m.below;
                of_task = noted.of_task;
                queue = noted.stands;
                hands = refl;
                after = refl;
              },
            );
          };
        }

    pub moves_message : (t slot from : ℕ)
        → (noted : MovesMessage (storage app) m.running.rows (who m.running) t slot from
        (configuration_after (spend_step (configuration_of m.cells m.queues m.running)) q)
        (λ t. Stands (storage app) img.code m.running.rows thread (who m.running) n t))
        → step img (core_of app.bits m) ≡
        (with_processor (core_of app.bits m) q, Some (what.Move t noted.handle noted.instant)) → Both
    moves_message t slot from noted is =
        let acts = noted.acts in
        let x : Section = section.Timer in
        let action : Action = Moves t noted.handle noted.instant in
        let entries : List Entry = noted.before ++ (noted.behind ++ noted.entry ∷ []) in
        let queues : Location → List Entry = with_queue m.queues x entries in
        let vs : Values = effect action m.values in
        record {
          core = with_processor (core_of app.bits m) q;
          shown = Some (what.Move t noted.handle noted.instant);
          is = is;
          may = (
            may_turn app img thread m invariant works none left,
            gives_item app img thread m invariant works action acts.values acts.follows acts.is,
          );
          agrees = record {
            coupling = coupling_after app img thread m q n (acts.follows 0 vs) (reached_values (acts.follows 0 vs) vs)
                m.running.places queues;
            core = refl;
            state = acts_as app img thread m invariant works action acts.values acts.follows acts.is;
            invariant = acts_fit app img thread m invariant works q n action 0 m.running.places queues plain
                (changes_by app img thread m invariant works _ _ is may) acts
                (λ h away. beside x _ (m.values h) noted.inside h away)
                (λ h away. beside x entries (m.queues h) noted.inside h away)
                (once_behind x m.running.places entries
                (λ e. put_last e noted.entry m.running.places noted.before noted.behind (m.queues (Guarded x))
                noted.stands))
                (λ held. refl) tt;
            places = record {
              entry = noted.entry;
              before = noted.before;
              behind = noted.behind;
              of_task = noted.of_task;
              queue = noted.stands;
              after = refl;
            };
          };
        }
