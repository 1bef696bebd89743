-- Behind a plain instruction of the running job the coupling invariant holds again, whatever its rest and its values
-- are now.
use Rattle.std.proofs.Common.{◌≡◌, ℕ, suc, ◌+◌, ◌-◌, ◌<◌, Bool, List, [], ◌∷◌, ◌++◌, length, map, slice_index}
use Rattle.std.proofs.Common.{Option, Some, None, refl}
use Rattle.std.proofs.Common.{sym, ap, subst, ◌∙◌, arith}
use Rattle.std.specs.List.{AllByRecursion}
use Rattle.rt_lemmas.proofs.Lists.{all_front, all_behind}
use Rattle.rt_actions.specs.Location.{Location}
use Rattle.rt_actions.specs.Content.{Values}
use Rattle.rt_actions.specs.Entry.{Entry, count}
use Rattle.rt_actions.specs.Doing.{Doing}
use Rattle.rt_app.specs.Tree.{App}
use Rattle.rt_app.specs.Holding.{storage}
use Rattle.rt_code.specs.Image.{Image}
use Rattle.rt_code.specs.Owning.{SectionKind, Marked, Raised, Masked, OpenSection, Configuration, saved_slot}
use Rattle.rt_code.specs.Owning.{saved_slots}
use Rattle.rt_code.specs.Processor.{Processor}
use Rattle.rt_code.specs.Standing.{Stands, HaveLeft, KeepsSaved, configuration_after, spend_step}
use Rattle.rt_core.specs.Leading.{GoesPlainly, IsAt}
use Rattle.rt_laws.specs.State.{Role, Init, Idle, Waiting, Serving}
use Rattle.rt_laws.specs.Preemption.{candidate}
use Rattle.rt_laws.specs.Allowed.{HasStep, Turn}
use Rattle.rt_sim.specs.Inside.Coupling.{Part, Coupling, configuration_of, sections_of}
use Rattle.rt_sim.specs.Inside.States.{core_of, state_of}
use Rattle.rt_sim.specs.Inside.Ownership.{RespectsOwnership}
use Rattle.rt_sim.specs.Inside.Chains.{base_inside, mask_inside, SavesBy, Saves}
use Rattle.rt_sim.specs.Inside.Counts.{hands, IsOnce}
use Rattle.rt_sim.specs.Inside.Calling.{handles, own_slots}
use Rattle.rt_sim.specs.Inside.PartInvariant.{who, AgreesWith, StandsBy, AreApart}
use Rattle.rt_sim.specs.Inside.CouplingInvariant.{IsStacked, CouplingInvariant}
use Rattle.rt_sim.proofs.Others.{ChangesItsOwn, QueuesItsOwn, ValuesItsOwn, all_clear, others_kept, representing_left}

-- a job that runs code
abbrev pub IsWorking : Role → Type 0
IsWorking Waiting = ⊥
IsWorking role = Unit {0}

pub lefts_passed : (lefts : List ℕ) (left : ℕ)
    → map (λ n. n - 1) (lefts ++ left ∷ []) ≡ map (λ n. n - 1) lefts ++ (left - 1) ∷ []
lefts_passed [] left = refl
lefts_passed (n ∷ lefts) left = ap (λ ns. (n - 1) ∷ ns) (lefts_passed lefts left)

pub length-passed : (lefts : List ℕ) → length (map (λ n. n - 1) lefts) ≡ length lefts
length-passed [] = refl
length-passed (n ∷ lefts) = ap suc (length-passed lefts)

module _ (app : App) where
  -- what open sections keep is kept where their slots are
  pub saves_kept : (slots after : List ℕ) (held : List OpenSection) (base : ℕ) (mask : Bool)
      → KeepsSaved held slots after
      → length after ≡ length slots
      → Saves app slots held base mask → Saves app after held base mask
  saves_kept slots after [] base mask kept long saves = tt
  saves_kept slots after (h ∷ outer) base mask kept long saves = (
    one h.kind (all_front _ (saved_slot h.kind) (saved_slots outer) kept) saves.0,
    saves_kept slots after outer base mask (all_behind _ (saved_slot h.kind) (saved_slots outer) kept) long saves.1,
  )
    where
      one : (kind : SectionKind) → AllByRecursion (λ d. slice_index after d ≡ slice_index slots d) (saved_slot kind)
          → SavesBy app slots kind (base_inside app outer base) (mask_inside app outer mask)
          → SavesBy app after kind (base_inside app outer base) (mask_inside app outer mask)
      one Marked kept saves = tt
      one (Raised slot) kept saves = (omega (arith, long, saves.0), kept.0 ∙ saves.1)
      one (Masked slot) kept saves = (omega (arith, long, saves.0), kept.0 ∙ saves.1)

-- the frame of a job's own code is as long while the running one is
pub own_kept : (caller : Option (List ℕ)) (slots after : List ℕ) → length after ≡ length slots
    → length (own_slots caller after) ≡ length (own_slots caller slots)
own_kept None slots after long = long
own_kept (Some frame) slots after long = refl

module _ (app : App) (img : Image) (thread : ℕ) where
  -- the running job a step further, in this frame, with this rest, and these places in its hands
  abbrev pub advanced : Part → Processor → ℕ → Doing Values → List Entry → Part
  advanced p q n rest places = record p {
    rest = rest;
    left = p.left - 1;
    lefts = map (λ n. n - 1) p.lefts;
    places = places;
    address = q.address;
    slots = q.slots;
    steps = n;
  }

  abbrev pub coupling_after : Coupling → Processor → ℕ → Doing Values → Values → List Entry → (Location → List Entry)
      → Coupling
  coupling_after m q n rest values places queues = record m {
    running = advanced m.running q n rest places;
    basepri = q.basepri;
    primask = q.primask;
    cells = q.cells;
    queues = queues;
    values = values;
  }

  pub apart_of : (p : Part) (ps : List Part) → IsStacked app img thread p ps
      → AllByRecursion (AreApart app img thread p) ps
  apart_of p [] stack = tt
  apart_of p (q ∷ ps) stack = stack.0.apart

  pub stack_kept : (p : Part) (ps : List Part) (q : Processor) (n : ℕ) (rest : Doing Values) (places : List Entry)
      → length q.slots ≡ length p.slots → KeepsSaved p.held p.slots q.slots
      → IsStacked app img thread p ps → IsStacked app img thread (advanced p q n rest places) ps
  stack_kept p [] q n rest places long kept is = record {
    frame = long ∙ is.frame;
    own_frame = is.own_frame;
    role = is.role;
    greatest = is.greatest;
    saves = saves_kept app p.slots q.slots p.held 0 _ kept long is.saves;
  }
  stack_kept p (o ∷ ps) q n rest places long kept stack = (
    record {
      irq = stack.0.irq;
      serves = stack.0.serves;
      above = stack.0.above;
      most = stack.0.most;
      apart = stack.0.apart;
      unmasked = stack.0.unmasked;
      handled = stack.0.handled;
      frame = omega (arith, long, stack.0.frame);
      saves = saves_kept app p.slots q.slots p.held _ _ kept long stack.0.saves;
    },
    stack.1,
  )

  pub stands_by : (role : Role) → IsWorking role → (cells : List ℕ) (queues : Location → List Entry) (p : Part)
      → Stands (storage app) img.code p.rows thread (who p) p.steps (configuration_of cells queues p)
      → StandsBy app img thread role cells queues p
  stands_by Init works cells queues p s = s
  stands_by Idle works cells queues p s = s
  stands_by Waiting works cells queues p s = absurd works
  stands_by (Serving irq) works cells queues p s = s

  pub stands_of : (role : Role) → IsWorking role → (cells : List ℕ) (queues : Location → List Entry) (p : Part)
      → StandsBy app img thread role cells queues p
      → Stands (storage app) img.code p.rows thread (who p) p.steps (configuration_of cells queues p)
  stands_of Init works cells queues p s = s
  stands_of Idle works cells queues p s = s
  stands_of Waiting works cells queues p s = absurd works
  stands_of (Serving irq) works cells queues p s = s

  -- what is left is a step less
  pub stands_passed : (p : Part) (n : ℕ) (s : Configuration)
      → Stands (storage app) img.code p.rows thread (who p) n
      (record s { lefts = map (λ n. n - 1) (p.lefts ++ p.left ∷ []) })
      → Stands (storage app) img.code p.rows thread (who p) n
      (record s { lefts = map (λ n. n - 1) p.lefts ++ (p.left - 1) ∷ [] })
  stands_passed p n s stands = subst (λ ls. Stands (storage app) img.code p.rows thread (who p) n
      (record s { lefts = ls })) (lefts_passed p.lefts p.left) stands

  module _ (m : Coupling) (invariant : CouplingInvariant app img thread m) (works : IsWorking m.running.role) where
    -- what a plain instruction leads to, where what is left, the values and the places are these
    pub plain_fits : (q : Processor) (n : ℕ) (rest : Doing Values) (values : Values) (places : List Entry)
        (queues : Location → List Entry)
        → GoesPlainly (configuration_of m.cells m.queues m.running) (core_of app.bits m).processor q
        → ChangesItsOwn app img thread m.running m.cells q.cells
        → ValuesItsOwn app img thread m.running m.values values
        → QueuesItsOwn app img thread m.running m.queues queues
        → IsOnce queues (λ e. count e places + hands m.below e)
        → Stands (storage app) img.code m.running.rows thread (who m.running) n
        (record (configuration_after (spend_step (configuration_of m.cells m.queues m.running)) q) {
          rest = rest;
          places = places;
          queues = queues;
        })
        → AgreesWith app img thread (who m.running) m.running.held values rest
        → RespectsOwnership app (who m.running) (handles m.running.role) (sections_of m.running.held) rest
        → CouplingInvariant app img thread (coupling_after m q n rest values places queues)
    plain_fits q n rest values places queues plain changes kept moves once stands agrees respects = record {
      stack = stack_kept m.running m.below q n rest places plain.frame plain.saved invariant.stack;
      parts = (
        record {
          stands = stands_by m.running.role works q.cells queues (advanced m.running q n rest places)
              (stands_passed m.running n (configuration_of q.cells queues (advanced m.running q n rest places)) stands);
          agrees = agrees;
          counted = length-passed m.running.lefts ∙ invariant.parts.0.counted;
          respects = respects;
          opened = invariant.parts.0.opened;
          kinds = invariant.parts.0.kinds;
          once = invariant.parts.0.once;
          calls = invariant.parts.0.calls;
          own = own_kept m.running.caller m.running.slots q.slots plain.frame ∙ invariant.parts.0.own;
        },
        others_kept app img thread m.running m.running m.cells q.cells m.queues queues m.values values m.below
            (apart_of m.running m.below invariant.stack)
            (apart_of m.running m.below invariant.stack)
            (all_clear app img thread m.queues m.running m.below invariant.once)
            plain.memory changes moves kept invariant.parts.1,
      );
      represented = λ h held away.
          subst (λ content. (storage app).Represents h (slice_index q.cells) (queues h) content) (sym (kept h away.0))
          (subst (λ entries. (storage app).Represents h (slice_index q.cells) entries (m.values h))
          (sym (moves h away.0))
          (representing_left app img thread m.running m.cells q.cells (m.queues h) (m.values h) h
          (λ e. omega (arith, invariant.once.one e h)) changes away.0 (invariant.represented h held away)));
      basepri = plain.basepri ∙ invariant.basepri;
      primask = plain.primask ∙ invariant.primask;
      memory = plain.memory ∙ invariant.memory;
      once = once;
      numbers = invariant.numbers;
      alarmed = invariant.alarmed;
    }

    -- the running job may take a step
    pub may_turn : candidate app (state_of m) ≡ None → HaveLeft (m.running.lefts ++ m.running.left ∷ [])
        → Turn app (state_of m)
    may_turn none left = record {
      not_owing = refl;
      quiet = none;
      step = (
        has m.running.role works (all_behind _ m.running.lefts (m.running.left ∷ []) left).0,
        all_front _ m.running.lefts (m.running.left ∷ []) left,
      );
    }
      where
        has : (role : Role) → IsWorking role → 0 < m.running.left → HasStep role m.running.left
        has Init works some = some
        has Idle works some = some
        has Waiting works some = absurd works
        has (Serving irq) works some = some

    -- the core is where the running job is
    pub is_at : IsAt (core_of app.bits m) (configuration_of m.cells m.queues m.running)
    is_at = record { address = refl; slots = refl; cells = refl; caller = refl }
