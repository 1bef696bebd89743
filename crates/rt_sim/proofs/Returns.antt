-- A job ends: it gives back what it keeps, what it interrupted runs on, and Baker's machine lets it return.
use Rattle.std.proofs.Common.{◌≡◌, ℕ, Bool, true, false, List, [], ◌∷◌, ◌++◌, slice_index, Some, None, refl, sym, ap}
use Rattle.std.proofs.Common.{subst, ◌∙◌, arith}
use Rattle.std.specs.List.{AllByRecursion}
use Rattle.rt_actions.specs.Location.{Location, Guarded, Own}
use Rattle.rt_actions.specs.Action.{Action, Returns}
use Rattle.rt_actions.specs.Storage.{Runner}
use Rattle.rt_app.specs.Tree.{App}
use Rattle.rt_app.specs.Holding.{storage, IsHeld}
use Rattle.rt_code.specs.Image.{Image}
use Rattle.rt_code.specs.Owning.{OpenSection, owns}
use Rattle.rt_code.specs.Standing.{Finishes, HaveLeft, spend_step}
use Rattle.rt_code.proofs.Mine.{owns_reads}
use Rattle.rt_core.specs.Stepping.{step}
use Rattle.rt_trace.specs.declared.item.What.TheVariants as what
use Rattle.rt_laws.specs.Giving.{return_item}
use Rattle.rt_laws.specs.Preemption.{candidate}
use Rattle.rt_sim.specs.Inside.Coupling.{Part, Coupling, handled_irq, configuration_of, whereabouts_of}
use Rattle.rt_sim.specs.Inside.States.{core_of, state_of}
use Rattle.rt_sim.specs.Inside.Chains.{base_inside, mask_inside, base_under, mask_under}
use Rattle.rt_sim.specs.Inside.Counts.{hands}
use Rattle.rt_sim.specs.Inside.PartInvariant.{who, Owns}
use Rattle.rt_sim.specs.Inside.CouplingInvariant.{CouplingInvariant}
use Rattle.rt_sim.specs.Inside.Agrees.{StepsBoth}
use Rattle.rt_sim.proofs.Counting.{fewer_once}
use Rattle.rt_sim.proofs.Plain.{IsWorking, may_turn}
use Rattle.rt_sim.proofs.Acts.{agreed, gives_item, acts_as}

-- what a runner owns with nothing open it keeps
pub owned_is_kept : (app : App) (runner : Runner) (held : List OpenSection) (h : Location) → held ≡ []
    → owns (storage app) runner held h ≡ true → (storage app).is_kept runner h ≡ true
owned_is_kept app runner held (Guarded x) closed is =
    subst (λ hs. owns (storage app) runner hs (Guarded x) ≡ true) closed is
owned_is_kept app runner held (Own n) closed is = is

module _ (app : App) (img : Image) (thread : ℕ) where
  module _ (m : Coupling) (invariant : CouplingInvariant app img thread m) (works : IsWorking m.running.role)
      (action : Action)
      (ends : Finishes (storage app) img.code m.running.rows thread (who m.running) action
      (spend_step (configuration_of m.cells m.queues m.running))) where
    -- behind the last action of a job what it alone owned is represented
    pub given_back : (h : Location) → IsHeld app h → AllByRecursion (λ o. Owns app img thread o h ≡ false) m.below
        → (storage app).Represents h (slice_index m.cells) (m.queues h) (m.values h)
    given_back h held others = by (Owns app img thread m.running h) refl
      where
        by : (b : Bool) → Owns app img thread m.running h ≡ b
            → (storage app).Represents h (slice_index m.cells) (m.queues h) (m.values h)
        by false away = invariant.represented h held (away, others)
        by true mine =
            subst (λ content. (storage app).Represents h (slice_index m.cells) (m.queues h) content)
            (sym (agreed app img thread m invariant works action ends.values ends.follows ends.is h
            (owns_reads (storage app) (who m.running) m.running.held h mine)))
            (ends.represented h (owned_is_kept app (who m.running) m.running.held h ends.closed mine))

  module _ (m : Coupling) (q : Part) (ps : List Part)
      (invariant : CouplingInvariant app img thread (record m { below = q ∷ ps }))
      (works : IsWorking m.running.role)
      (none : candidate app (state_of (record m { below = q ∷ ps })) ≡ None)
      (left : HaveLeft (m.running.lefts ++ m.running.left ∷ []))
      (ends : Finishes (storage app) img.code m.running.rows thread (who m.running) Returns
      (spend_step (configuration_of m.cells m.queues m.running))) where
    abbrev resumed : Coupling
    resumed = record m { running = q; below = ps }

    invariant_resumed : CouplingInvariant app img thread resumed
    invariant_resumed = record {
      stack = invariant.stack.1;
      parts = invariant.parts.1;
      represented = λ h held away. given_back (record m { below = q ∷ ps }) invariant works Returns ends h held away;
      basepri = invariant.basepri ∙ ap (λ held. base_inside app held (base_under app (q ∷ ps))) ends.closed;
      primask = invariant.primask
          ∙ ap (λ held. mask_inside app held (mask_under app m.running.role (q ∷ ps))) ends.closed;
      memory = invariant.memory;
      once = fewer_once m.queues (hands (m.running ∷ q ∷ ps)) (hands (q ∷ ps))
          (λ e. omega arith) invariant.once;
      numbers = invariant.numbers;
      alarmed = invariant.alarmed;
    }

    pub returns_to : step img (core_of app.bits (record m { below = q ∷ ps })) ≡
        (core_of app.bits resumed, Some (what.Ret (handled_irq m.running.role)))
        → StepsBoth app img thread (core_of app.bits (record m { below = q ∷ ps }))
        (state_of (record m { below = q ∷ ps })) (whereabouts_of (record m { below = q ∷ ps }))
    returns_to is = record {
      core = core_of app.bits resumed;
      shown = Some (what.Ret (handled_irq m.running.role));
      is = is;
      may = (
        may_turn app img thread (record m { below = q ∷ ps }) invariant works none left,
        gives_item app img thread (record m { below = q ∷ ps }) invariant works Returns ends.values ends.follows ends.is
            ∙ ap return_item invariant.stack.0.serves
            ∙ ap (λ r. Some (what.Ret (handled_irq r))) (sym invariant.stack.0.serves),
      );
      agrees = record {
        coupling = resumed;
        core = refl;
        state = acts_as app img thread
            (record m { below = q ∷ ps }) invariant works Returns ends.values ends.follows ends.is;
        invariant = invariant_resumed;
        places = ap (λ es. record
            (whereabouts_of resumed) { in_hands = es ∷ (whereabouts_of resumed).in_hands }) ends.empty;
      };
    }
