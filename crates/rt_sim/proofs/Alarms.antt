-- The alarm of both machines. A step sets it to the least armed instant, or to none where nothing is armed, and one
-- that is due then comes at once; a tick may make it due. It is the monotonic's.
use Rattle.std.proofs.Common.{◌≡◌, ℕ, suc, ◌++◌, nat_le, Bool, true, false, if◌then◌else◌, List, [], ◌∷◌, map}
use Rattle.std.proofs.Common.{slice_set, Option, Some, None, IfSome, refl, sym, ap, ◌∙◌, length-set}
use Rattle.rt_ids.specs.Lists.{or_zero}
use Rattle.rt_actions.specs.Action.{SetsAlarm}
use Rattle.rt_actions.specs.Content.{delays, least_instant}
use Rattle.rt_actions.specs.Location.{Guarded}
use Rattle.rt_ids.specs.declared.ids.Section.TheVariants as section
use Rattle.rt_app.specs.Tree.{App}
use Rattle.rt_app.specs.Holding.{storage}
use Rattle.rt_code.specs.Acting.{SetsTheAlarm}
use Rattle.rt_code.specs.Image.{Image}
use Rattle.rt_code.specs.Owning.{MayAccess}
use Rattle.rt_code.specs.Processor.{Processor}
use Rattle.rt_code.specs.Standing.{Stands, HaveLeft, configuration_after, spend_step}
use Rattle.rt_code.proofs.Mine.{owns_open, owns_reads}
use Rattle.rt_core.specs.declared.alarm.Alarm.{Alarm}
use Rattle.rt_core.specs.Access.{access}
use Rattle.rt_core.specs.Core.{Core}
use Rattle.rt_core.specs.Leading.{GoesPlainly, with_processor}
use Rattle.rt_core.specs.Outcome.{Done, settle}
use Rattle.rt_core.specs.Stepping.{step}
use Rattle.rt_core.specs.Trace.{tick}
use Rattle.rt_core.specs.Transfer.{core_after_pend, set_alarm}
use Rattle.rt_trace.specs.Label.{Label, Ticked, Rang, steps_of}
use Rattle.rt_trace.specs.declared.item.What.TheVariants as what
use Rattle.rt_laws.specs.Services.{timer_number}
use Rattle.rt_laws.specs.State.{reached_values}
use Rattle.rt_laws.specs.Preemption.{candidate}
use Rattle.rt_laws.specs.Giving.{next_item, next_instant, is_due}
use Rattle.rt_laws.specs.Acting as baker
use Rattle.rt_laws.specs.Acting.{state_after_doing, alarm_set}
use Rattle.rt_laws.specs.Allowed.{after}
use Rattle.rt_laws.specs.ByItems.{after_all}
use Rattle.rt_laws.specs.Run.{RunsOn}
use Rattle.rt_sim.specs.Whereabouts.{AreMoved}
use Rattle.rt_sim.specs.Inside.Coupling.{Coupling, configuration_of, job_of, whereabouts_of}
use Rattle.rt_sim.specs.Inside.States.{core_of, state_of}
use Rattle.rt_sim.specs.Inside.PartInvariant.{who}
use Rattle.rt_sim.specs.Inside.CouplingInvariant.{CouplingInvariant}
use Rattle.rt_sim.specs.Inside.Agrees.{StepsBoth}
use Rattle.rt_sim.proofs.Others.{ChangesItsOwn}
use Rattle.rt_sim.proofs.Plain.{IsWorking, coupling_after, may_turn}
use Rattle.rt_sim.proofs.Acts.{pending_invariant, changes_by, agreed, gives_item, acts_as, acts_plainly}

-- the monotonic's interrupt has one number
timer_is : (app : App) (irq : ℕ) → (storage app).timer ≡ Some irq → irq ≡ timer_number app
unfolding storage
timer_is app irq is = ap or_zero (sym is)

module _ (app : App) (img : Image) (thread : ℕ) where
  -- another alarm, which is the monotonic's
  alarmed_invariant : (m : Coupling) (alarm : Option Alarm) → IfSome alarm (λ a. a.irq ≡ timer_number app)
      → CouplingInvariant app img thread m → CouplingInvariant app img thread (record m { alarm = alarm })
  alarmed_invariant m alarm its invariant = record {
    stack = invariant.stack;
    parts = invariant.parts;
    represented = invariant.represented;
    basepri = invariant.basepri;
    primask = invariant.primask;
    memory = invariant.memory;
    once = invariant.once;
    numbers = invariant.numbers;
    alarmed = its;
  }

  -- the time does not matter to the coupling invariant
  time_invariant : (m : Coupling) (time : ℕ) → CouplingInvariant app img thread m
      → CouplingInvariant app img thread (record m { time = time })
  time_invariant m time invariant = record {
    stack = invariant.stack;
    parts = invariant.parts;
    represented = invariant.represented;
    basepri = invariant.basepri;
    primask = invariant.primask;
    memory = invariant.memory;
    once = invariant.once;
    numbers = invariant.numbers;
    alarmed = invariant.alarmed;
  }

  module _ (m : Coupling) (invariant : CouplingInvariant app img thread m) (works : IsWorking m.running.role) (n : ℕ)
      (none : candidate app (state_of m) ≡ None) (left : HaveLeft (m.running.lefts ++ m.running.left ∷ []))
      (may : MayAccess (storage app) (who m.running) (configuration_of m.cells m.queues m.running)
      (access img (core_of app.bits m))) (q : Processor)
      (plain : GoesPlainly (configuration_of m.cells m.queues m.running) (core_of app.bits m).processor q) where
    abbrev Both : Type 0
    Both = StepsBoth app img thread (core_of app.bits m) (state_of m) (whereabouts_of m)

    abbrev Next : Core
    Next = with_processor (core_of app.bits m) q

    abbrev Sets : Option ℕ → Type 0
    Sets instant = SetsTheAlarm (storage app) m.running.rows (who m.running) instant
        (configuration_after (spend_step (configuration_of m.cells m.queues m.running)) q)
        (λ t. Stands (storage app) img.code m.running.rows thread (who m.running) n t)

    module _ (instant : Option ℕ) (sets : Sets instant) where
      -- behind the step, but for the alarm
      abbrev Behind : Coupling
      Behind = coupling_after app img thread m q n (sets.acts.follows 0 m.values)
          (reached_values (sets.acts.follows 0 m.values) m.values) m.running.places m.queues

      invariant_behind : ChangesItsOwn app img thread m.running m.cells q.cells
          → CouplingInvariant app img thread Behind
      invariant_behind changes =
          acts_plainly app img thread m invariant works q n SetsAlarm 0 plain changes sets.acts (λ vs. refl)
          (λ held. refl) tt

      least_is : next_instant (state_of m) ≡ instant
      least_is = ap (λ content. least_instant (delays content))
          (agreed app img thread m invariant works SetsAlarm sets.acts.values sets.acts.follows sets.acts.is
          (Guarded section.Timer) (owns_reads (storage app) (who m.running) m.running.held (Guarded section.Timer)
          (owns_open (storage app) (who m.running) m.running.held section.Timer sets.inside)))
          ∙ sets.least

      -- the item, and the state behind it
      gives_alarm : (due : Bool) → is_due m.time instant ≡ due
          → next_item (state_of m) m.running.role m.running.rest
          ≡ Some (if due then what.Alarm else what.AlarmSet)
      gives_alarm due is =
          gives_item app img thread m invariant works SetsAlarm sets.acts.values sets.acts.follows sets.acts.is
          ∙ ap (λ o. Some (if is_due m.time o then what.Alarm else what.AlarmSet)) least_is
          ∙ ap (λ b. Some (if b then what.Alarm else what.AlarmSet)) is

      acted_alarm : (due : Bool) → is_due m.time instant ≡ due
          → state_after_doing app (state_of m) (job_of m.running) (map job_of m.below) m.running.rest
          ≡ (if due then baker.state_after_pend (timer_number app) (record (state_of Behind) { alarm = None })
          else record (state_of Behind) { alarm = instant })
      acted_alarm due is =
          acts_as app img thread m invariant works SetsAlarm sets.acts.values sets.acts.follows sets.acts.is
          ∙ ap (λ o. alarm_set app o (state_of Behind)) least_is
          ∙ ap (λ b. if b then baker.state_after_pend (timer_number app) (record (state_of Behind) { alarm = None })
          else record (state_of Behind) { alarm = instant }) is

    -- nothing is armed, and so no alarm is set
    pub sets_none : step img (core_of app.bits m) ≡ (record Next { alarm = None }, Some what.AlarmSet)
        → Sets None → Both
    sets_none is sets = record {
      core = record Next { alarm = None };
      shown = Some what.AlarmSet;
      is = is;
      may = (may_turn app img thread m invariant works none left, gives_alarm None sets false refl);
      agrees = record {
        coupling = record (Behind None sets) { alarm = None };
        core = refl;
        state = acted_alarm None sets false refl;
        invariant = alarmed_invariant (Behind None sets) None tt
            (invariant_behind None sets (changes_by app img thread m invariant works _ _ is may));
        places = refl;
      };
    }

    -- the alarm is set, and one that is due comes at once
    pub sets_some : (instant irq : ℕ) → (storage app).timer ≡ Some irq
        → step img (core_of app.bits m) ≡ settle (set_alarm Next instant irq) → Sets (Some instant) → Both
    sets_some instant irq timer is sets = by (nat_le instant m.time) refl
      where
        number : irq ≡ timer_number app
        number = timer_is app irq timer

        gives : (b : Bool) → nat_le instant m.time ≡ b → step img (core_of app.bits m)
            ≡ settle (if b then Done (record (core_after_pend Next irq) { alarm = None }) (Some what.Alarm)
            else Done (record Next { alarm = Some (record { instant = instant; irq = irq }) }) (Some what.AlarmSet))
        gives b due = is
            ∙ ap (λ d. settle (if d then Done (record (core_after_pend Next irq) { alarm = None }) (Some what.Alarm)
            else Done (record Next { alarm = Some (record { instant = instant; irq = irq }) }) (Some what.AlarmSet)))
            due

        by : (b : Bool) → nat_le instant m.time ≡ b → Both
        by true due = record {
          core = record (core_after_pend Next irq) { alarm = None };
          shown = Some what.Alarm;
          is = gives true due;
          may = (may_turn app img thread m invariant works none left, gives_alarm (Some instant) sets true due);
          agrees = record {
            coupling = record (Behind (Some instant) sets) { alarm = None; pending = slice_set m.pending irq true };
            core = refl;
            state = acted_alarm (Some instant) sets true due
                ∙ ap (λ k. baker.state_after_pend k (record (state_of (Behind (Some instant) sets)) { alarm = None }))
                (sym number);
            invariant = pending_invariant app img thread (record (Behind (Some instant) sets) { alarm = None })
                (slice_set m.pending irq true) (length-set m.pending irq true)
                (alarmed_invariant (Behind (Some instant) sets) None tt
                (invariant_behind (Some instant) sets
                (changes_by app img thread m invariant works _ _ (gives true due) may)));
            places = refl;
          };
        }
        by false later = record {
          core = record Next { alarm = Some (record { instant = instant; irq = irq }) };
          shown = Some what.AlarmSet;
          is = gives false later;
          may = (may_turn app img thread m invariant works none left, gives_alarm (Some instant) sets false later);
          agrees = record {
            coupling = record (Behind (Some instant) sets) { alarm = Some (record { instant = instant; irq = irq }) };
            core = refl;
            state = acted_alarm (Some instant) sets false later;
            invariant = alarmed_invariant (Behind (Some instant) sets) (Some (record { instant = instant; irq = irq }))
                number
                (invariant_behind (Some instant) sets
                (changes_by app img thread m invariant works _ _ (gives false later) may));
            places = refl;
          };
        }

  -- what a tick leads to, and what it shows behind itself: an alarm that is due comes
  pub record Ticks (m : Coupling) : Type 0 where
    pub coupling : Coupling
    pub shown : List Label
    pub is : tick (core_of app.bits m) ≡ (core_of app.bits coupling, shown)
    pub runs : RunsOn app (after app (state_of m) Ticked) shown
    pub state : after_all app (after app (state_of m) Ticked) shown ≡ state_of coupling
    pub invariant : CouplingInvariant app img thread coupling
    pub time : coupling.time ≡ suc m.time
    pub values : coupling.values ≡ m.values
    pub places : AreMoved shown (whereabouts_of m) (whereabouts_of coupling)
    pub silent : (ls : List Label) → steps_of (shown ++ ls) ≡ steps_of ls

  -- the coupling with this alarm
  abbrev with_alarm : Coupling → Alarm → Coupling
  with_alarm m a = record m { alarm = Some a }

  pub ticks : (m : Coupling) → CouplingInvariant app img thread m → Ticks m
  ticks m invariant = by m.alarm invariant
    where
      rings : (a : Alarm) → CouplingInvariant app img thread (with_alarm m a) → (b : Bool)
          → nat_le a.instant (suc m.time) ≡ b
          → Ticks (with_alarm m a)
      rings a invariant true due = record {
        coupling = record m { alarm = None; time = suc m.time; pending = slice_set m.pending a.irq true };
        shown = Rang ∷ [];
        is = ap (λ b. if b then (
          record (core_after_pend (core_of app.bits (record (with_alarm m a) { time = suc m.time })) a.irq)
              { alarm = None },
          Rang ∷ [],
        )
            else (core_of app.bits (record (with_alarm m a) { time = suc m.time }), [])) due;
        runs = (due, tt);
        state = ap (λ k. baker.state_after_pend k (state_of (record m { alarm = None; time = suc m.time })))
            (sym invariant.alarmed);
        invariant = pending_invariant app img thread (record m { alarm = None; time = suc m.time })
            (slice_set m.pending a.irq true) (length-set m.pending a.irq true)
            (time_invariant (record m { alarm = None }) (suc m.time)
            (alarmed_invariant (with_alarm m a) None tt invariant));
        time = refl;
        values = refl;
        places = (whereabouts_of m, refl, refl);
        silent = λ ls. refl;
      }
      rings a invariant false later = record {
        coupling = record (with_alarm m a) { time = suc m.time };
        shown = [];
        is = ap (λ b. if b then (
          record (core_after_pend (core_of app.bits (record (with_alarm m a) { time = suc m.time })) a.irq)
              { alarm = None },
          Rang ∷ [],
        )
            else (core_of app.bits (record (with_alarm m a) { time = suc m.time }), [])) later;
        runs = tt;
        state = ap (λ b. record (state_of (record (with_alarm m a) { time = suc m.time })) { owing = b }) later;
        invariant = time_invariant (with_alarm m a) (suc m.time) invariant;
        time = refl;
        values = refl;
        places = refl;
        silent = λ ls. refl;
      }

      by : (o : Option Alarm) → CouplingInvariant app img thread (record m { alarm = o })
          → Ticks (record m { alarm = o })
      by None invariant = record {
        coupling = record m { alarm = None; time = suc m.time };
        shown = [];
        is = refl;
        runs = tt;
        state = refl;
        invariant = time_invariant (record m { alarm = None }) (suc m.time) invariant;
        time = refl;
        values = refl;
        places = refl;
        silent = λ ls. refl;
      }
      by (Some a) invariant = rings a invariant (nat_le a.instant (suc m.time)) refl
