-- What holds at each moment of a run of an image: jobs own different things, priorities rise, masks and frames are as
-- the open sections and priorities say, and what no started job owns is represented in memory.
use Rattle.std.specs.Prelude.{◌≡◌, ℕ, ◌+◌, ◌^◌, ◌<◌, ◌≤◌, ◌⊎◌, true, false, None, IfSome, List, [], ◌∷◌, length}
use Rattle.std.specs.Prelude.{slice_index}
use Rattle.std.specs.List.{AllByRecursion}
use Rattle.rt_actions.specs.Location.{Location}
use Rattle.rt_actions.specs.Content.{Values}
use Rattle.rt_actions.specs.Entry.{Entry}
use Rattle.rt_ids.specs.declared.limits.TheConstants.{IRQ_NUMBERS}
use Rattle.rt_app.specs.Tree.{App}
use Rattle.rt_app.specs.Holding.{storage, IsHeld}
use Rattle.rt_app.specs.Layout.{memory}
use Rattle.rt_app.specs.Stack.{thread_words, has_handler, need}
use Rattle.rt_code.specs.Image.{Image}
use Rattle.rt_code.specs.Stack.{words_of}
use Rattle.rt_laws.specs.State.{Init, Idle, Waiting, Serving}
use Rattle.rt_laws.specs.Preemption.{system_ceiling}
use Rattle.rt_laws.specs.Services.{timer_number}
use Rattle.rt_sim.specs.Inside.Coupling.{Part, Coupling, jobs_of}
use Rattle.rt_sim.specs.Inside.Counts.{hands, IsOnce}
use Rattle.rt_sim.specs.Inside.Chains.{is_init, base_of, mask_of, Saves}
use Rattle.rt_sim.specs.Inside.PartInvariant.{Owns, AreApart, PartInvariant}

module _ (app : App) (img : Image) (thread : ℕ) where
  -- the thread, which runs `init` at the greatest priority and then `idle` at 0
  pub record IsThread (p : Part) : Type 0 where
    pub frame : length p.slots ≡ thread_words app
    pub own_frame : p.caller ≡ None
    pub role : (p.role ≡ Init) ⊎ (((p.role ≡ Idle) ⊎ (p.role ≡ Waiting)) × (p.priority ≡ 0))
    pub greatest : p.role ≡ Init → p.priority ≡ 2 ^ app.bits
    pub saves : Saves app p.slots p.held 0 (is_init p.role)

  -- a handler on what it interrupted
  pub record IsOn (p q : Part) (ps : List Part) : Type 0 where
    pub irq : ℕ
    pub serves : p.role ≡ Serving irq
    pub above : system_ceiling app (jobs_of q ps) < p.priority
    pub most : p.priority ≤ 2 ^ app.bits
    pub apart : AllByRecursion (AreApart app img thread p) (q ∷ ps)
    pub unmasked : mask_of app q ps ≡ false
    pub handled : has_handler app p.priority ≡ true
    pub frame : length (words_of p.caller) + length p.slots ≤ need app p.priority
    pub saves : Saves app p.slots p.held (base_of app q ps) (mask_of app q ps)

  -- the thread, and each handler on what it interrupted
  abbrev pub IsStacked : Part → List Part → Type 0
  IsStacked p [] = IsThread p
  IsStacked p (q ∷ ps) = IsOn p q ps × IsStacked q ps

  -- memory represents what no started job owns
  abbrev pub IsRepresented : List ℕ → (Location → List Entry) → Values → List Part → Type 0
  IsRepresented cells queues values parts =
      (h : Location) → IsHeld app h → AllByRecursion (λ p. Owns app img thread p h ≡ false) parts
      → (storage app).Represents h (slice_index cells) (queues h) (values h)

  -- The coupling invariant: all that ties the core to the state of Baker's machine
  pub record CouplingInvariant (m : Coupling) : Type 0 where
    pub stack : IsStacked m.running m.below
    pub parts : AllByRecursion (PartInvariant app img thread m.cells m.queues m.values) (m.running ∷ m.below)
    pub represented : IsRepresented m.cells m.queues m.values (m.running ∷ m.below)
    pub basepri : m.basepri ≡ base_of app m.running m.below
    pub primask : m.primask ≡ mask_of app m.running m.below
    pub memory : length m.cells ≡ length (memory app)
    pub once : IsOnce m.queues (hands (m.running ∷ m.below))
    pub numbers : length m.pending ≡ IRQ_NUMBERS
    -- the alarm is the monotonic's
    pub alarmed : IfSome m.alarm (λ a. a.irq ≡ timer_number app)
