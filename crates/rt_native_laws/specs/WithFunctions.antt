-- What native code does, event after event, where functions of C are called as interrupts are taken: as in
-- Simulating.antt, with events beside which functions run. A machine instruction of a function leads to some state, of
-- which it is a premise that it is harmless, and that the function comes back as is agreed (Functions.antt). What a
-- function writes into its inputs' cells comes to the image as words that devices put there. Interrupts may come
-- between any two machine instructions, a function's too.
use Rattle.std.specs.Prelude.{◌≡◌, ◌≢◌, ℕ, suc, ◌+◌, ◌-◌, ◌*◌, ◌%◌, ◌^◌, ◌<◌, ◌≤◌, ◌==◌, Bool, true}
use Rattle.std.specs.Prelude.{if◌then◌else◌, List, [], ◌∷◌, ◌++◌, length, reverse, flat_map, Option, Some}
use Rattle.std.specs.Prelude.{None, IfSome, ⊤}
use Rattle.std.specs.List.{AllByRecursion}
use Rattle.rt_ids.specs.Choice.{IsIn}
use Rattle.rt_code.specs.Image.{Image}
use Rattle.rt_core.specs.Core.{depth}
use Rattle.rt_native.specs.Layout.{TICK_BYTES, outside, stack_top}
use Rattle.rt_native.specs.Service.{is_called, timer_irq}
use Rattle.rt_native.specs.Target.{Target}
use Rattle.rt_native.specs.declared.outside.Outside.{Outside}
use Rattle.rt_native.specs.declared.target.Input.{Input}
use Rattle.rt_native_laws.specs.Behaving.{BehavesWell}
use Rattle.rt_native_laws.specs.Devices.{ChangeDevices}
use Rattle.rt_native_laws.specs.FromReset.{AreNumbered, HasNoTickAtFirst, IsMapped, StandsAtReset}
use Rattle.rt_native_laws.specs.Functions.{HasComeBack, IsCalled, IsHarmless, IsInputOf}
use Rattle.rt_native_laws.specs.InReset.{IsInReset}
use Rattle.rt_native_laws.specs.Linked.{LiesLinked}
use Rattle.rt_native_laws.specs.Moments.{AllCanHappen, Happening, Loads, Moment, Puts, at_reset, moment_after_all}
use Rattle.rt_native_laws.specs.Moments.{shown}
use Rattle.rt_native_laws.specs.Simulating.{CanCome, IsBeside, IsFitFor, StandsBehindReset, arrivals_at, arrivals_of}
use Rattle.rt_native_laws.specs.Simulating.{compared, seen_of_label, stack_bottom}
use Rattle.rt_thumb.specs.Exceptions.{taken}
use Rattle.rt_thumb.specs.Machine.{Machine, word_at}
use Rattle.rt_thumb.specs.Step as processor
use Rattle.rt_thumb.specs.Step.{Program}
use Rattle.rt_thumb.specs.declared.instruction.Instruction.{Instruction}
use Rattle.rt_thumb_laws.specs.Undisturbed.{goings}
use Rattle.rt_thumb.specs.declared.instruction.Instruction.TheVariants as instruction

-- what comes: an event of the processor, or a machine instruction of a function, which leads to a state
pub data Move : Type 0 where
  Own : processor.Event → Move
  Runs : Machine → Move

-- how often SysTick counts down
abbrev pub ticks_of : List Move → ℕ
ticks_of [] = 0
ticks_of (Own processor.Ticks ∷ moves) = suc (ticks_of moves)
ticks_of (move ∷ moves) = ticks_of moves

-- Functions of C, by the numbers of interrupts: so many bytes of the stack one takes at most, and it may write the
-- cells of these numbers. They bring words, each for an interrupt and a cell, as inputs do; but no register's address
-- is told of them, as the program does not read them.
pub record Functions : Type 0 where
  pub room : ℕ → ℕ
  pub written : ℕ → List ℕ
  pub inputs : List Input

-- what brings words into cells: registers, which the program reads, and functions
abbrev pub inputs_beside : Target → Functions → List Input
inputs_beside target functions = target.inputs ++ functions.inputs

-- the number of the interrupt of an exception (ARMv7-M Architecture Reference Manual, section B1.5.2)
abbrev pub interrupt_of : ℕ → ℕ
interrupt_of exception = exception - 16

-- An instruction is executed at an event: no exception is taken.
abbrev pub ExecutesAt : Program → Machine → processor.Event → Type 0
ExecutesAt p m processor.Goes = taken m ≡ None
ExecutesAt p m processor.GoesLate = ⊤
ExecutesAt p m event = ⊥

-- the functions that are under way, by exceptions, with the states at which they were called
abbrev pub Called : Type 0
Called = ℕ → Option Machine

-- An instruction is executed where no function of what runs is under way: a function's are moves of their own.
abbrev pub IsFree : Called → Machine → processor.Event → Type 0
IsFree called m processor.Goes = taken m ≡ None → called m.exception ≡ None
IsFree called m event = ⊤

-- A handler calls no function: it executes no BL that leads out of the program.
abbrev pub LeadsOutNever : Program → Machine → Machine → Type 0
LeadsOutNever p m next =
    (displacement : ℕ) → p.code m.address ≡ Some (instruction.Call displacement) → p.code next.address ≡ None
    → m.exception ≡ 0

-- The functions that are under way behind an instruction: a BL of a handler that leads out of the program calls one.
abbrev pub called_by : Option Instruction → Option Instruction → Machine → Machine → Called → Called
called_by (Some (instruction.Call displacement)) None m next called =
    λ e. if m.exception == 0 then called e else if e == m.exception then Some next else called e
called_by executed behind m next called = called

-- the same, behind an event
abbrev pub called_going : Option ℕ → Program → Machine → Machine → Called → Called
called_going None p m next called = called_by (p.code m.address) (p.code next.address) m next called
called_going (Some e) p m next called = called

abbrev pub called_then : Program → Machine → processor.Event → Machine → Called → Called
called_then p m processor.Goes next called = called_going (taken m) p m next called
called_then p m processor.GoesLate next called = called_going None p m next called
called_then p m event next called = called

-- behind a machine instruction of the function of an exception, which has come back where an instruction of the program
-- is next
abbrev pub called_back : Option Instruction → ℕ → Called → Called
called_back None exception called = called
called_back (Some i) exception called = λ e. if e == exception then None else called e

-- What happens as a function, which may write some cells, leads to a state: a word that comes into a cell is the
-- function's own, which it has left there, and no input's register is read.
abbrev pub IsFromFunction : Outside → List ℕ → Machine → Happening → Type 0
IsFromFunction at written next (Puts cell word) = IsIn written cell × (word_at next (at.cells + 4 * cell) ≡ word)
IsFromFunction at written next (Loads input word) = ⊥
IsFromFunction at written next happening = ⊤

module _ (img : Image) (target : Target) (functions : Functions) (p : Program) where
  -- A function is called as is agreed (AAPCS), at whatever address the BL leads to: with so many bytes of the stack,
  -- and of an interrupt that calls one.
  abbrev pub CallsAsAgreed : Machine → processor.Event → Machine → Type 0
  CallsAsAgreed m event next =
      ExecutesAt p m event → (displacement : ℕ) → p.code m.address ≡ Some (instruction.Call displacement)
      → p.code next.address ≡ None → m.exception ≢ 0
      → (is_called target.calls (interrupt_of m.exception) ≡ true)
      × IsCalled (stack_bottom img target p) (functions.room (interrupt_of m.exception)) next.address next

  -- A machine instruction of the function that runs, which was called at one state, leads from one to another: no
  -- exception is taken before it, it is none of the program's, and it is harmless. SP is a multiple of 4 and the next
  -- address an even word, as the architecture keeps them (ARMv7-M Architecture Reference Manual, section B1.4.1), and
  -- that is an instruction of the program only where the function has come back.
  pub record RunsOn (called m next : Machine) : Type 0 where
    pub none_taken : taken m ≡ None
    pub outside_program : p.code m.address ≡ None
    pub harmless : IsHarmless (outside img target) target.flash (functions.written (interrupt_of m.exception))
        (functions.room (interrupt_of m.exception)) called m next
    pub aligned : next.register 13 % 4 ≡ 0
    pub placed : (next.address % 2 ≡ 0) × (next.address < 2 ^ 32)
    pub comes_back : p.code next.address ≢ None → HasComeBack called next

  -- Beside it words that the function wrote may be put into cells: others see nothing, and the stack is no deeper than
  -- the image's.
  pub record IsBesideRun (s : Moment) (happened : List Happening) (m next : Machine) : Type 0 where
    pub can : AllCanHappen img (inputs_beside target functions) s happened
    pub arrivals : flat_map arrivals_of happened ≡ []
    pub few : length happened ≤ length (functions.written (interrupt_of m.exception)) + length img.code
    pub words : AllByRecursion (IsFromFunction (outside img target) (functions.written (interrupt_of m.exception)) next)
        happened
    pub seen : compared (timer_irq img.code) next.seen
        ≡ compared (timer_irq img.code) (reverse (flat_map seen_of_label (shown img s happened)) ++ m.seen)
    pub deep : stack_top img target ≤ next.register 13 + depth img (moment_after_all img s happened).core + TICK_BYTES

  -- It is so at each of some moves, as long as what has happened fits: at each event, with functions called as is
  -- agreed, and at each machine instruction of a function under way that is harmless.
  abbrev pub MovesBeside : (List Happening → Bool) → Called → Moment → Machine → List Move → Type 0
  MovesBeside fits called s m [] = ⊤
  MovesBeside fits called s m (Own event ∷ moves) =
      fits [] ≡ true → CanCome target m event → IsFree called m event → (happened : List Happening) × (next : Machine)
      × IsBeside img target p s happened m event next × CallsAsAgreed m event next
      × MovesBeside (λ more. fits (happened ++ more)) (called_then p m event next called)
      (moment_after_all img s happened) next moves
  MovesBeside fits called s m (Runs next ∷ moves) =
      fits [] ≡ true → (function : Machine) → called m.exception ≡ Some function → RunsOn function m next
      → (happened : List Happening) × IsBesideRun s happened m next
      × MovesBeside (λ more. fits (happened ++ more)) (called_back (p.code next.address) m.exception called)
      (moment_after_all img s happened) next moves

  -- The functions keep to what is theirs: each one's part of the stack, and 8 bytes in which LR is kept, fit into the
  -- frame of its handler, which comes into being behind it; and it writes cells of its interrupt's inputs alone, of
  -- those that it brings too.
  pub record KeepToTheirs : Type 0 where
    pub rooms : AllByRecursion (λ row. is_called target.calls row.number ≡ true
        → IfSome row.handler (λ h. functions.room row.number + 8 ≤ 4 * h.frame)) img.irqs
    pub cells : (irq : ℕ) → is_called target.calls irq ≡ true
        → AllByRecursion (IsInputOf (inputs_beside target functions) irq) (functions.written irq)

  -- From here on native code does what the image does: some things happen to the image first, which nobody sees, and
  -- then it is so move after move.
  pub record SimulatesBeside (fits : List Happening → Bool) (m : Machine) (moves : List Move) : Type 0 where
    pub first : List Happening
    pub can : AllCanHappen img target.inputs (at_reset img) first
    pub arrivals : flat_map arrivals_of first ≡ []
    pub unseen : flat_map seen_of_label (shown img (at_reset img) first) ≡ []
    pub follows : MovesBeside (λ more. fits (first ++ more)) (λ e. None) (moment_after_all img
        (at_reset img) first) m moves

-- Behind reset the program of an object that is linked with functions of C does what the image does, whatever comes,
-- beside functions that are harmless.
abbrev pub LinkedSimulates : Type 0
LinkedSimulates =
    (img : Image) (target : Target) (functions : Functions) (p : Program) (fits : List Happening → Bool)
    (words : List ℕ) (m : Machine) (moves : List Move) → IsFitFor img target p
    → BehavesWell img (inputs_beside target functions) fits → LiesLinked img target p m
    → StandsBehindReset img target p words m → KeepToTheirs img target functions p → ticks_of moves + 3 < 2 ^ 32
    → SimulatesBeside img target functions p fits m moves

module _ (img : Image) (target : Target) (functions : Functions) (p : Program) where
  -- Some events lead from reset to a state, without a fault, and others see nothing of them; to the image the same
  -- interrupts arrive; and from there on native code does what the image does, move after move.
  pub record IsFollowedBeside (fits : List Happening → Bool) (m : Machine) (before : List processor.Event)
      (moves : List Move) : Type 0 where
    pub next : Machine
    pub no_fault : processor.after p before (Some m) ≡ Some next
    pub seen : next.seen ≡ m.seen
    pub first : List Happening
    pub can : AllCanHappen img target.inputs (at_reset img) first
    pub arrivals : flat_map arrivals_of first ≡ flat_map arrivals_at before
    pub unseen : flat_map seen_of_label (shown img (at_reset img) first) ≡ []
    pub follows : MovesBeside img target functions p (λ more. fits (first ++ more)) (λ e. None)
        (moment_after_all img (at_reset img) first) next moves

  -- The code of reset takes so many instructions, and calls no function. Events that end sooner lead to a state within
  -- it, and behind it it is so, whatever came meanwhile and comes then.
  pub record SimulatesFromResetBeside (fits : List Happening → Bool) (m : Machine) : Type 0 where
    pub count : ℕ
    pub meanwhile : (events : List processor.Event) → goings events ≤ count → HasNoTickAtFirst events
        → ChangeDevices target events → IsInReset img target p m events
    pub follows : (before : List processor.Event) (moves : List Move) → goings before ≡ count
        → HasNoTickAtFirst before → AreNumbered before → ChangeDevices target before → ticks_of moves + 3 < 2 ^ 32
        → IsFollowedBeside fits m before moves

-- From reset on the program of an object that is linked with functions of C does what the image does, whatever comes,
-- beside functions that are harmless.
abbrev pub LinkedSimulatesFromReset : Type 0
LinkedSimulatesFromReset =
    (img : Image) (target : Target) (functions : Functions) (p : Program) (fits : List Happening → Bool) (m : Machine)
    → IsFitFor img target p → IsMapped img target p → BehavesWell img (inputs_beside target functions) fits
    → LiesLinked img target p m → StandsAtReset img target p m → KeepToTheirs img target functions p
    → SimulatesFromResetBeside img target functions p fits m
