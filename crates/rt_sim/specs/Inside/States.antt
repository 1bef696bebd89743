-- The states of both machines at a moment, and the words of the stack that it takes.
use Rattle.std.specs.Prelude.{ℕ, ◌+◌, false, List, [], ◌∷◌, length, option_map}
use Rattle.rt_ids.specs.Priority.{hardware}
use Rattle.rt_code.specs.Stack.{words_of}
use Rattle.rt_core.specs.Core.{Core, Context}
use Rattle.rt_laws.specs.State.{State}
use Rattle.rt_sim.specs.Inside.Coupling.{Part, Coupling, handled_irq, jobs_of}

-- the contexts of the active handlers: the first is of this interrupt and this priority value, and each has what it
-- interrupted
abbrev pub contexts : ℕ → ℕ → ℕ → List Part → List Context
contexts bits irq value [] = []
contexts bits irq value (q ∷ ps) =
    record { irq = irq; value = value; address = q.address; slots = q.slots; caller = q.caller }
    ∷ contexts bits (handled_irq q.role) (hardware bits q.priority) ps

-- the contexts of a running job on others
abbrev pub contexts_of : ℕ → Part → List Part → List Context
contexts_of bits p ps = contexts bits (handled_irq p.role) (hardware bits p.priority) ps

-- the core, with so many priority bits
abbrev pub core_of : ℕ → Coupling → Core
core_of bits m = record {
  time = m.time;
  alarm = m.alarm;
  pending = m.pending;
  processor = record {
    address = m.running.address;
    basepri = m.basepri;
    primask = m.primask;
    slots = m.running.slots;
    cells = m.cells;
  };
  caller = m.running.caller;
  below = contexts_of bits m.running m.below;
  stopped = false;
}

-- Baker's machine; an alarm that a tick makes due comes with that tick
abbrev pub state_of : Coupling → State
state_of m = record {
  jobs = jobs_of m.running m.below;
  pending = m.pending;
  values = m.values;
  time = m.time;
  alarm = option_map (λ a. a.instant) m.alarm;
  owing = false;
}

-- the words of the stack that interrupted parts take, with the so many that each exception entry pushes
abbrev pub words_under : ℕ → List Part → ℕ
words_under entry [] = 0
words_under entry (q ∷ ps) = entry + (length (words_of q.caller) + length q.slots) + words_under entry ps
