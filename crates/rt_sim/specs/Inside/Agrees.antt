-- The simulation relation: a core and a state of Baker's machine agree where both are those of one coupling, and its
-- invariant holds. Where the places of messages are, is told too.
use Rattle.std.specs.Prelude.{◌≡◌, ℕ}
use Rattle.rt_app.specs.Tree.{App}
use Rattle.rt_code.specs.Image.{Image}
use Rattle.rt_core.specs.Core.{Core}
use Rattle.rt_core.specs.Stepping.{step}
use Rattle.rt_trace.specs.Label.{Stepped}
use Rattle.rt_trace.specs.declared.item.What.{What}
use Rattle.std.specs.Prelude.{Option}
use Rattle.rt_laws.specs.State.{State}
use Rattle.rt_laws.specs.Allowed.{May, after}
use Rattle.rt_sim.specs.Whereabouts.{Whereabouts, IsMoved}
use Rattle.rt_sim.specs.Inside.Coupling.{Coupling, whereabouts_of}
use Rattle.rt_sim.specs.Inside.States.{core_of, state_of}
use Rattle.rt_sim.specs.Inside.CouplingInvariant.{CouplingInvariant}

module _ (app : App) (img : Image) (thread : ℕ) where
  -- the coupling, that both are its states, and that its places are so
  pub record Agrees (c : Core) (s : State) (Are : Whereabouts → Type 0) : Type 0 where
    pub coupling : Coupling
    pub core : c ≡ core_of app.bits coupling
    pub state : s ≡ state_of coupling
    pub invariant : CouplingInvariant app img thread coupling
    pub places : Are (whereabouts_of coupling)

  -- a core step is a step of Baker's machine, and they agree again; places were there, and are moved as the step shows
  pub record StepsBoth (c : Core) (s : State) (w : Whereabouts) : Type 0 where
    pub core : Core
    pub shown : Option What
    pub is : step img c ≡ (core, shown)
    pub may : May app s (Stepped shown)
    pub agrees : Agrees core (after app s (Stepped shown)) (IsMoved (Stepped shown) w)
