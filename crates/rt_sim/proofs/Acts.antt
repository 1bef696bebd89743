-- A plain instruction that does the running job's next action is a step of Baker's machine.
use Rattle.std.proofs.Common.{◌≡◌, ℕ, ◌+◌, ◌||◌, ◌++◌, Bool, true, List, [], ◌∷◌, length, map, slice_set, Option, Some}
use Rattle.std.proofs.Common.{None, refl, ap, subst, ◌∙◌, length-set}
use Rattle.std.specs.List.{list_any}
use Rattle.rt_actions.specs.Location.{Location, Guarded, Own, is_same_section}
use Rattle.rt_actions.specs.Content.{Values}
use Rattle.rt_actions.specs.Action.{Action, Emits, Posts, Clocks, FindsFull, effect}
use Rattle.rt_actions.specs.Doing.{Doing, over, does}
use Rattle.rt_actions.specs.Entry.{Entry, count}
use Rattle.rt_actions.specs.Storage.{Runner}
use Rattle.rt_ids.specs.declared.ids.Section.{Section}
use Rattle.rt_app.specs.Tree.{App}
use Rattle.rt_app.specs.Holding.{storage, is_kept}
use Rattle.rt_code.specs.Acting.{Acts}
use Rattle.rt_code.specs.Image.{Image}
use Rattle.rt_code.specs.Owning.{OpenSection, owns, is_open, MayAccess, Agree}
use Rattle.rt_code.specs.Processor.{Processor}
use Rattle.rt_code.specs.Standing.{Stands, HaveLeft, configuration_after, spend_step}
use Rattle.rt_core.specs.Access.{access}
use Rattle.rt_core.specs.Core.{Core}
use Rattle.rt_core.specs.Leading.{GoesPlainly, with_processor}
use Rattle.rt_core.specs.Stepping.{step}
use Rattle.rt_core.specs.Transfer.{core_after_pend}
use Rattle.rt_trace.specs.declared.item.What.{What}
use Rattle.rt_trace.specs.declared.item.What.TheVariants as what
use Rattle.rt_laws.specs.State.{reached_values}
use Rattle.rt_laws.specs.Preemption.{candidate}
use Rattle.rt_laws.specs.Giving.{next_item, item_of}
use Rattle.rt_laws.specs.Acting.{state_after_doing}
use Rattle.rt_laws.specs.Allowed.{Turn}
use Rattle.rt_sim.specs.Inside.Coupling.{Coupling, configuration_of, sections_of, job_of, whereabouts_of}
use Rattle.rt_sim.specs.Inside.States.{core_of, state_of}
use Rattle.rt_sim.specs.Inside.Counts.{hands, IsOnce}
use Rattle.rt_sim.specs.Inside.Ownership.{owns_in, sections_after, IsActionOf, IsEntered, ChangesOwn, RespectsOwnership}
use Rattle.rt_sim.specs.Inside.Calling.{handles}
use Rattle.rt_sim.specs.Inside.PartInvariant.{who, AgreesWith}
use Rattle.rt_sim.specs.Inside.CouplingInvariant.{CouplingInvariant}
use Rattle.rt_sim.specs.Inside.Agrees.{StepsBoth}
use Rattle.rt_sim.proofs.Others.{ChangesItsOwn, QueuesItsOwn, ValuesItsOwn, IsLeftOrOwned, touches_its_own}
use Rattle.rt_sim.proofs.Plain.{IsWorking, coupling_after, plain_fits, may_turn}

pub any_mapped : (held : List OpenSection) (x : Section)
    → list_any (λ y. is_same_section y x) (sections_of held) ≡ is_open held x
any_mapped [] x = refl
any_mapped (h ∷ held) x = ap (λ b. is_same_section h.section x || b) (any_mapped held x)

-- what sections and a runner own, said in two ways
pub owns_alike : (app : App) (runner : Runner) (handler : Bool) (held : List OpenSection) (h : Location)
    → owns_in app runner handler (sections_of held) h ≡ owns (storage app) runner held h
unfolding storage
owns_alike app runner handler held (Guarded x) = ap (λ b. b || is_kept app runner (Guarded x)) (any_mapped held x)
owns_alike app runner handler held (Own n) = refl

pub agrees_reached : (app : App) (img : Image) (thread : ℕ) (runner : Runner) (held : List OpenSection)
    (rest : Doing Values)
    (vs : Values)
    → AgreesWith app img thread runner held (reached_values rest vs) rest
agrees_reached app img thread runner held over vs = tt
agrees_reached app img thread runner held (does action made next) vs = λ h r. refl

-- what is pending matters to no other part of the coupling invariant
pub pending_invariant : (app : App) (img : Image) (thread : ℕ) (m : Coupling) (pending : List Bool)
    → length pending ≡ length m.pending
    → CouplingInvariant app img thread m → CouplingInvariant app img thread (record m { pending = pending })
pending_invariant app img thread m pending long invariant = record {
  stack = invariant.stack;
  parts = invariant.parts;
  represented = invariant.represented;
  basepri = invariant.basepri;
  primask = invariant.primask;
  memory = invariant.memory;
  once = invariant.once;
  numbers = long ∙ invariant.numbers;
  alarmed = invariant.alarmed;
}

module _ (app : App) (img : Image) (thread : ℕ) (m : Coupling) (invariant : CouplingInvariant app img thread m)
    (works : IsWorking m.running.role) where
  -- a step that is known changes what the running job owns alone
  pub changes_by : (c : Core) (shown : Option What) → step img (core_of app.bits m) ≡ (c, shown)
      → MayAccess (storage app) (who m.running) (configuration_of m.cells m.queues m.running)
      (access img (core_of app.bits m))
      → ChangesItsOwn app img thread m.running m.cells c.processor.cells
  changes_by c shown is may cell =
      subst (λ (r : Core × Option What). IsLeftOrOwned app
      (who m.running) m.running.held m.running.places m.cells r.0.processor.cells cell) is
      (touches_its_own app img (core_of app.bits m) (who m.running)
      (configuration_of m.cells m.queues m.running) may cell)

  module _ (action : Action) (values : Values) (follows : ℕ → Values → Doing Values)
      (is : m.running.rest ≡ does action values follows) where
    -- the values that the job made are there, in what it reads
    pub agreed : Agree (storage app) (who m.running) m.running.held m.values values
    agreed = subst (λ rest. AgreesWith app img thread
        (who m.running) m.running.held m.values rest) is invariant.parts.0.agrees

    pub respects_next : IsActionOf app (who m.running) (handles m.running.role) action
        × ((n : ℕ) (vs : Values) → IsEntered app action vs
        → ChangesOwn app (who m.running) (handles m.running.role)
        (sections_after app (who m.running) (handles m.running.role) (sections_of m.running.held) action) vs
        (follows n vs)
        × RespectsOwnership app (who m.running) (handles m.running.role)
        (sections_after app (who m.running) (handles m.running.role) (sections_of m.running.held) action)
        (follows n vs))
    respects_next = subst (λ rest. RespectsOwnership app (who m.running) (handles m.running.role)
        (sections_of m.running.held) rest) is invariant.parts.0.respects

    -- the item of the job's next action, and what it changes
    pub gives_item : next_item (state_of m) m.running.role m.running.rest ≡ item_of (state_of m) m.running.role action
    gives_item = ap (next_item (state_of m) m.running.role) is

    pub acts_as : state_after_doing app (state_of m) (job_of m.running) (map job_of m.below) m.running.rest
        ≡ state_after_doing app (state_of m) (job_of m.running) (map job_of m.below) (does action values follows)
    acts_as = ap (state_after_doing app (state_of m) (job_of m.running) (map job_of m.below)) is

  -- where the action opens no section, and these places and queues are behind it
  pub acts_fit : (q : Processor) (n : ℕ) (action : Action) (answer : ℕ) (places : List Entry)
      (queues : Location → List Entry)
      → GoesPlainly (configuration_of m.cells m.queues m.running) (core_of app.bits m).processor q
      → ChangesItsOwn app img thread m.running m.cells q.cells
      → (acts : Acts (storage app) m.running.rows (who m.running) action answer
      (record (configuration_after (spend_step (configuration_of m.cells m.queues m.running)) q)
      { places = places; queues = queues })
      (λ t. Stands (storage app) img.code m.running.rows thread (who m.running) n t))
      → ValuesItsOwn app img thread m.running m.values (effect action m.values)
      → QueuesItsOwn app img thread m.running m.queues queues
      → IsOnce queues (λ e. count e places + hands m.below e)
      → ((held : List Section) → sections_after app (who m.running) (handles m.running.role) held action ≡ held)
      → IsEntered app action (effect action m.values)
      → CouplingInvariant app img thread
      (coupling_after app img thread m q n (acts.follows answer (effect action m.values))
      (reached_values (acts.follows answer (effect action m.values)) (effect action m.values)) places queues)
  acts_fit q n action answer places queues plain changes acts kept moves once closed entered =
      let vs : Values = effect action m.values in
      let rest = acts.follows answer vs in
      let changes_own = subst (λ held. ChangesOwn app (who m.running) (handles m.running.role) held vs rest
      × RespectsOwnership app (who m.running) (handles m.running.role) held rest)
      (closed (sections_of m.running.held))
      ((respects_next action acts.values acts.follows acts.is).1 answer vs entered) in
      plain_fits app img thread m invariant works q n rest (reached_values rest vs) places queues plain changes
      (λ h away. changes_own.0 h (owns_alike app (who m.running) (handles m.running.role) m.running.held h ∙ away)
      ∙ kept h away) moves once
      (acts.on m.values (agreed action acts.values acts.follows acts.is))
      (agrees_reached app img thread (who m.running) m.running.held rest vs) changes_own.1

  -- where no queue changes
  pub acts_plainly : (q : Processor) (n : ℕ) (action : Action) (answer : ℕ)
      → GoesPlainly (configuration_of m.cells m.queues m.running) (core_of app.bits m).processor q
      → ChangesItsOwn app img thread m.running m.cells q.cells
      → (acts : Acts (storage app) m.running.rows (who m.running) action answer
      (configuration_after (spend_step (configuration_of m.cells m.queues m.running)) q)
      (λ t. Stands (storage app) img.code m.running.rows thread (who m.running) n t))
      → ((vs : Values) → effect action vs ≡ vs)
      → ((held : List Section) → sections_after app (who m.running) (handles m.running.role) held action ≡ held)
      → IsEntered app action (effect action m.values)
      → CouplingInvariant app img thread
      (coupling_after app img thread m q n (acts.follows answer (effect action m.values))
      (reached_values (acts.follows answer (effect action m.values)) (effect action m.values)) m.running.places
      m.queues)
  acts_plainly q n action answer plain changes acts same closed entered =
      acts_fit q n action answer m.running.places m.queues plain changes acts
      (λ h away. ap (λ (vs : Values). vs h) (same m.values)) (λ h away. refl) invariant.once closed entered

  module _ (n : ℕ) (none : candidate app (state_of m) ≡ None) (left : HaveLeft (m.running.lefts ++ m.running.left ∷ []))
      (may : MayAccess (storage app) (who m.running) (configuration_of m.cells m.queues m.running)
      (access img (core_of app.bits m))) (q : Processor)
      (plain : GoesPlainly (configuration_of m.cells m.queues m.running) (core_of app.bits m).processor q) where
    turn : Turn app (state_of m)
    turn = may_turn app img thread m invariant works none left

    abbrev ActsBy : Action → ℕ → Type 0
    ActsBy action answer = Acts (storage app) m.running.rows (who m.running) action answer
        (configuration_after (spend_step (configuration_of m.cells m.queues m.running)) q)
        (λ t. Stands (storage app) img.code m.running.rows thread (who m.running) n t)

    abbrev Both : Type 0
    Both = StepsBoth app img thread (core_of app.bits m) (state_of m) (whereabouts_of m)

    abbrev Behind : Doing Values → Values → Coupling
    Behind rest vs = coupling_after app img thread m q n rest (reached_values rest vs) m.running.places m.queues

    pub silent : step img (core_of app.bits m) ≡ (with_processor (core_of app.bits m) q, None)
        → Stands (storage app) img.code m.running.rows thread (who m.running) n
        (configuration_after (spend_step (configuration_of m.cells m.queues m.running)) q) → Both
    silent is stands = record {
      core = with_processor (core_of app.bits m) q;
      shown = None;
      is = is;
      may = turn;
      agrees = record {
        coupling = coupling_after app img thread m q n m.running.rest m.values m.running.places m.queues;
        core = refl;
        state = refl;
        invariant = plain_fits app img thread m invariant works q n m.running.rest m.values m.running.places m.queues
            plain
            (changes_by _ _ is may) (λ h away. refl) (λ h away. refl) invariant.once stands invariant.parts.0.agrees
            invariant.parts.0.respects;
        places = refl;
      };
    }

    pub emits : (value : ℕ) → step img (core_of app.bits m) ≡
        (with_processor (core_of app.bits m) q, Some (what.Emit value)) → ActsBy (Emits value) 0 → Both
    emits value is acts = record {
      core = with_processor (core_of app.bits m) q;
      shown = Some (what.Emit value);
      is = is;
      may = (turn, gives_item (Emits value) acts.values acts.follows acts.is);
      agrees = record {
        coupling = Behind (acts.follows 0 m.values) m.values;
        core = refl;
        state = acts_as (Emits value) acts.values acts.follows acts.is;
        invariant = acts_plainly q n (Emits value) 0 plain (changes_by _ _ is may) acts (λ vs. refl) (λ held. refl) tt;
        places = refl;
      };
    }

    pub clocks : IsEntered app Clocks m.values
        → step img (core_of app.bits m) ≡ (with_processor (core_of app.bits m) q, Some (what.Clock m.time))
        → ActsBy Clocks m.time → Both
    clocks known is acts = record {
      core = with_processor (core_of app.bits m) q;
      shown = Some (what.Clock m.time);
      is = is;
      may = (turn, gives_item Clocks acts.values acts.follows acts.is);
      agrees = record {
        coupling = Behind (acts.follows m.time m.values) m.values;
        core = refl;
        state = acts_as Clocks acts.values acts.follows acts.is;
        invariant = acts_plainly q n Clocks m.time plain (changes_by _ _ is may) acts (λ vs. refl) (λ held. refl) known;
        places = refl;
      };
    }

    pub finds_none : (t : ℕ) → step img (core_of app.bits m) ≡
        (with_processor (core_of app.bits m) q, Some (what.Full t)) → ActsBy (FindsFull t) 0 → Both
    finds_none t is acts = record {
      core = with_processor (core_of app.bits m) q;
      shown = Some (what.Full t);
      is = is;
      may = (turn, gives_item (FindsFull t) acts.values acts.follows acts.is);
      agrees = record {
        coupling = Behind (acts.follows 0 m.values) m.values;
        core = refl;
        state = acts_as (FindsFull t) acts.values acts.follows acts.is;
        invariant = acts_plainly q n (FindsFull t) 0 plain (changes_by _ _ is may) acts (λ vs. refl) (λ held. refl) tt;
        places = refl;
      };
    }

    pub posts : (irq : ℕ) → step img (core_of app.bits m) ≡
        (core_after_pend (with_processor (core_of app.bits m) q) irq, Some (what.Post irq)) → ActsBy (Posts irq) 0
        → Both
    posts irq is acts = record {
      core = core_after_pend (with_processor (core_of app.bits m) q) irq;
      shown = Some (what.Post irq);
      is = is;
      may = (turn, gives_item (Posts irq) acts.values acts.follows acts.is);
      agrees = record {
        coupling = record (Behind (acts.follows 0 m.values) m.values) { pending = slice_set m.pending irq true };
        core = refl;
        state = acts_as (Posts irq) acts.values acts.follows acts.is;
        invariant = pending_invariant app img thread (Behind (acts.follows 0 m.values) m.values)
            (slice_set m.pending irq true)
            (length-set m.pending irq true)
            (acts_plainly q n (Posts irq) 0 plain (changes_by _ _ is may) acts (λ vs. refl) (λ held. refl) tt);
        places = refl;
      };
    }
