-- Jobs that handlers interrupted, one above the other: each is in its phase as it will see the processor once it runs
-- on, which exception entry saved and exception return gives back (ARMv7-M Architecture Reference Manual, sections
-- B1.5.6 and B1.5.8). What the job above them does leaves them so, and so does an entry.
use Rattle.std.specs.Prelude.{◌≡◌, ◌≢◌, ℕ, ◌+◌, ◌*◌, ◌%◌, ◌^◌, ◌<◌, ◌≤◌, ◌==◌, false, if◌then◌else◌, List, [], ◌∷◌}
use Rattle.std.specs.Prelude.{length, true, Option, Some, None, IfSome, ⊤}
use Rattle.std.specs.List.{AllByRecursion}
use Rattle.rt_code.specs.Image.{Image}
use Rattle.rt_code.specs.declared.image.Handler.{Handler}
use Rattle.rt_core.specs.Core.{Core, Context}
use Rattle.rt_core.specs.Leading.{in_context}
use Rattle.rt_core.specs.Priority.{execution}
use Rattle.rt_core.specs.Transfer.{core_after_entry}
use Rattle.rt_native.specs.Service.{is_called, stub}
use Rattle.rt_native.specs.declared.outside.Outside.{Outside}
use Rattle.rt_native.specs.declared.target.Input.{Input}
use Rattle.rt_native_laws.specs.Going.{HasCode}
use Rattle.rt_native_laws.specs.InTail.{Debt}
use Rattle.rt_native_laws.specs.Own.{Spans}
use Rattle.rt_native_laws.specs.Moments.{HasJustRead, Last, Taking, settled_words}
use Rattle.rt_native_laws.specs.Phases.{Phase, kept_words, reads_from, tail_of, call_of, viewed}
use Rattle.rt_native_laws.specs.InCall.{Within}
use Rattle.rt_native_laws.specs.Saving.{CanBeInterrupted}
use Rattle.rt_native_laws.specs.Standing.{HoldsWords, IsLaidOut, Shows, frame_bytes}
use Rattle.rt_native_laws.specs.Tail.{Meanwhile}
use Rattle.rt_thumb.specs.Exceptions.{external, entered, popped, return_to_thread, return_to_handler}
use Rattle.rt_thumb.specs.Machine.{Machine, with_register}
use Rattle.rt_thumb.specs.Step.{Program}

-- The processor as what a handler interrupted will see it, where the handler's frames end at an address: there lies
-- what exception entry pushed. BASEPRI is then as it was, and PRIMASK was 0, else there had been no entry.
abbrev pub resumed : ℕ → ℕ → Machine → Machine
resumed priority top m =
    record (popped (with_register 13 top m)) { base_priority = priority; is_masked = false }

-- the core at what its last handler interrupted, with the masks that were then
abbrev pub interrupted_core : ℕ → Core → Context → List Context → Core
interrupted_core priority c x below =
    let there = in_context c x below in
    record there { processor = record there.processor { basepri = priority; primask = false } }

-- what a handler interrupts, of a core
abbrev pub context_of : Core → ℕ → Handler → Context
context_of c irq h =
    record { irq = irq; value = h.value; address = c.processor.address; slots = c.processor.slots; caller = c.caller }

-- EXC_RETURN for what a handler interrupted: a handler, or the thread, whose exception number is 0
abbrev pub return_value : ℕ → ℕ
return_value exception = if exception == 0 then return_to_thread else return_to_handler

-- From one state to another, what lies above a job is as it was: registers from r4 on, but r12, which entry saves; the
-- stack from an address on; which exception runs, and which are active.
pub record KeepsAbove (at : Outside) (top : ℕ) (m n : Machine) : Type 0 where
  pub registers : (k : ℕ) → 4 ≤ k → k ≢ 12 → k ≢ 13 → n.register k ≡ m.register k
  pub memory : (k : ℕ) → top ≤ 4 * k → 4 * k + 4 ≤ at.cells → n.memory k ≡ m.memory k
  pub exception : n.exception ≡ m.exception
  pub active : n.active ≡ m.active

-- The tail in which others are, where one job at most is in the tail of an alarm: none, where this job is in it.
abbrev pub others_tail : Option Debt → Option Debt → Option Debt
others_tail (Some own) tail = None
others_tail None tail = tail

-- From one core to another what happens leaves a tail its alarm, but that it may come.
abbrev pub KeepsTail : Option Debt → Option Debt → Core → Core → Type 0
KeepsTail None None c d = ⊤
KeepsTail (Some tail) (Some now) c d =
    (now.irq ≡ tail.irq) × (now.instant ≡ tail.instant)
    × Meanwhile tail.irq tail.instant tail.owes now.owes c d
KeepsTail tail now c d = ⊥

-- Of functions of C: the interrupts that call one, and for each exception the state at which its function was called,
-- where that is under way.
pub record FunctionCalls : Type 0 where
  pub irqs : List ℕ
  pub under_way : ℕ → Option Machine

-- what lies outside, the lowest address of the stack and the one behind it, the ceiling of the alarm, inputs and calls
-- of functions, an image, the places of its code, and a program
module _ (at : Outside) (bottom highest ceiling : ℕ) (inputs : List Input) (calls : FunctionCalls) (img : Image)
    (places : List ℕ) (p : Program) where
  -- The frame of a job is as new as what the job did last: no word is settled that is not the core's. A job that reads
  -- inputs was just taken, and reads those that there are. A job that is in the tail of an alarm is at the
  -- ceiling. And one that calls a function is of an interrupt that calls one, and the function was called where it was.
  abbrev pub IsFresh : Option Debt → Last → (c : Core) (top : ℕ) (m : Machine)
      → Phase at bottom img places p c top m → Type 0
  IsFresh tail last c top m phase =
      (settled_words last (length c.processor.slots) ≤ kept_words at bottom img places p c top m phase)
      × IfSome (reads_from at bottom img places p c top m phase) (λ reads. HasJustRead reads.1 last
      × (reads.0 ≡ inputs))
      × IfSome (tail_of at bottom img places p c top m phase) (λ own. (tail ≡ Some own) × (execution c ≤ ceiling))
      × IfSome (call_of at bottom img places p c top m phase) (λ call. (is_called calls.irqs call.irq ≡ true)
      × (call.stage ≡ Within → calls.under_way (external call.irq) ≡ Some call.called))

  -- The jobs that were interrupted, the last one first, each with the taking that interrupted it, whose priority was
  -- higher than theirs. At the end of the frames of what runs lie the eight words that exception entry pushed, with
  -- padding where SP was no multiple of 8 but no lower than the frame of what was interrupted, and LR has EXC_RETURN.
  -- The thread's frames end where the stack ends. Where there is a tail one job is in it.
  abbrev pub Waiting : Option Debt → List Taking → List Context → Core → ℕ → Machine → Type 0
  Waiting tail [] [] c top m = (top ≡ highest) × (m.exception ≡ 0) × (m.active ≡ []) × (tail ≡ None)
  Waiting tail (taking ∷ takings) (x ∷ below) c top m =
      let back = resumed taking.base_priority top m in
      let there = interrupted_core taking.base_priority c x below in
      (top % 8 ≡ 0) × (taking.base_priority < 2 ^ 8) × (m.exception ≡ external x.irq)
      × (m.active ≡ external x.irq ∷ back.active) × (m.register 14 ≡ return_value back.exception)
      × (top + 32 ≤ back.register 13) × (next : ℕ)
      × ((next ≤ at.cells) × (next ≤ top + 32 + frame_bytes there)) × (back.register 13 ≤ next)
      × (x.value < execution there)
      × (phase : Phase at bottom img places p there next back) × IsFresh tail taking.last there next back phase
      × Waiting (others_tail (tail_of at bottom img places p there next back phase) tail) takings below there next
      (viewed at bottom img places p there next back phase)
  Waiting tail takings below c top m = ⊥

-- What runs shows the core's masks, cells, time, alarm and requests, whatever phase it is in.
abbrev pub PhasesShow : Type 0
PhasesShow =
    (at : Outside) (bottom : ℕ) (img : Image) (places : List ℕ) (p : Program) (c : Core) (top : ℕ) (m : Machine)
    → IsLaidOut at bottom (length c.processor.cells) → p.port ≡ at.port
    → Phase at bottom img places p c top m → Shows at c m

-- What runs above interrupted jobs leaves each of them in its phase, whatever the core does meanwhile that keeps a tail
-- in which one of them is.
abbrev pub WaitingIsKept : Type 0
WaitingIsKept =
    (at : Outside) (bottom highest ceiling : ℕ) (inputs : List Input) (calls : FunctionCalls) (img : Image)
    (places : List ℕ) (p : Program) (tail now : Option Debt) (takings : List Taking) (below : List Context)
    (c d : Core) (top : ℕ) (m n : Machine)
    → IsLaidOut at bottom (length c.processor.cells) → p.port ≡ at.port
    → length d.processor.cells ≡ length c.processor.cells → d.stopped ≡ c.stopped
    → KeepsAbove at top m n → Shows at d n → HoldsWords n → KeepsTail tail now c d
    → Waiting at bottom highest ceiling inputs calls img places p tail takings below c top m
    → Waiting at bottom highest ceiling inputs calls img places p now takings below d top n

-- An interrupt is taken, of a higher priority: what it interrupts is a job more that waits, in the phase in which it
-- was, as the core has it after its own entry.
abbrev pub EntryAddsAJob : Type 0
EntryAddsAJob =
    (at : Outside) (bottom highest ceiling : ℕ) (inputs : List Input) (calls : FunctionCalls) (img : Image)
    (places : List ℕ) (p : Program) (tail : Option Debt) (takings : List Taking) (last : Last) (irq : ℕ) (h : Handler)
    (c : Core) (top : ℕ)
    (m : Machine)
    → IsLaidOut at bottom (length c.processor.cells) → p.port ≡ at.port → CanBeInterrupted m → m.address < 2 ^ 32
    → AllByRecursion (λ e. e ≢ external irq) m.active → c.processor.primask ≡ false → HoldsWords m
    → m.register 13 ≤ top → top ≤ at.cells → top + m.register 13 % 8 ≤ m.register 13 + frame_bytes c
    → h.value < execution c → KeepsTail tail tail c (core_after_entry c irq h)
    → (phase : Phase at bottom img places p c top m)
    → IsFresh at bottom highest ceiling inputs calls img places p tail last c top m phase
    → Waiting at bottom highest ceiling inputs calls img places p
    (others_tail (tail_of at bottom img places p c top m phase) tail) takings c.below c top
    (viewed at bottom img places p c top m phase)
    → Waiting at bottom highest ceiling inputs calls img places p tail
    (record { base_priority = c.processor.basepri; last = last } ∷ takings) (context_of c irq h ∷ c.below)
    (core_after_entry c irq h) ((entered (external irq) m).register 13) (entered (external irq) m)

-- And what runs then is a handler whose frame is coming into being, from where its entry led: there lies what runs
-- first as the interrupt is taken, with no input, up to an address. There is room for what entry pushes and for the
-- frame.
abbrev pub EntryBegins : Type 0
EntryBegins =
    (at : Outside) (bottom : ℕ) (img : Image) (places : List ℕ) (p : Program) (to irq : ℕ) (h : Handler) (c : Core)
    (top : ℕ) (m : Machine) → HasCode at img places p → IsLaidOut at bottom (length c.processor.cells)
    → CanBeInterrupted m → m.address < 2 ^ 32 → AllByRecursion (λ e. e ≢ external irq) m.active
    → c.processor.primask ≡ false → HoldsWords m → m.register 13 ≤ top → top ≤ at.cells
    → Phase at bottom img places p c top m → to < 0xE0000000
    → Spans p (entered (external irq) m).address (stub at [] places to irq (Some h)) to
    → bottom + 4 * h.frame + 32 + m.register 13 % 8 ≤ m.register 13
    → Phase at bottom img places p (core_after_entry c irq h) ((entered (external irq) m).register 13)
    (entered (external irq) m)
