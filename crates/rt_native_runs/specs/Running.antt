-- What a processor does from reset on with the program that rt_native makes of an application's image: what the image
-- does, and so what Baker's machine does with the application (Stack-Based Scheduling of Realtime Processes, 1991).
-- Interrupts may arrive between any two machine instructions, and an exception may be taken late where the architecture
-- leaves it open (ARMv7-M Architecture Reference Manual, section B1.5.4).
use Rattle.std.specs.Prelude.{◌≡◌, ℕ, ◌+◌, ◌%◌, ◌^◌, ◌<◌, ◌≤◌, ◌⊎◌, true, List, [], ◌∷◌}
use Rattle.std.specs.List.{AllByRecursion}
use Rattle.rt_ids.specs.Choice.{IsIn}
use Rattle.rt_app.specs.Accepted.{IsAccepted}
use Rattle.rt_app.specs.Layout.{local_at}
use Rattle.rt_app.specs.Stack.{stack_bytes}
use Rattle.rt_app.specs.Tree.{App}
use Rattle.rt_build.specs.Built.{IsBuilt}
use Rattle.rt_build.specs.Image.{IsImageOf}
use Rattle.rt_code.specs.Image.{Image}
use Rattle.rt_code.specs.Runnable.{IsRunnable}
use Rattle.rt_core.specs.Core.{depth}
use Rattle.rt_laws.specs.DeviceWords.{WithWords, One, Puts, RunsBeside, things}
use Rattle.rt_laws.specs.LawsBeside.{KeepsMessagesBeside}
use Rattle.rt_laws.specs.Properties.{KeepsLaws}
use Rattle.rt_laws.specs.State.{first}
use Rattle.rt_native.specs.Fitting.{Fits, IsRegion}
use Rattle.rt_native.specs.Target.{Target}
use Rattle.rt_native.specs.declared.target.Input.{Input}
use Rattle.rt_native.specs.declared.target.Region.{Region}
use Rattle.rt_native_laws.specs.Devices.{ChangeDevices}
use Rattle.rt_native_laws.specs.FromReset.{AreNumbered, HasNoTickAtFirst, IsAtReset, StandsAtReset}
use Rattle.rt_native_laws.specs.Linked.{LiesLinked}
use Rattle.rt_native_laws.specs.Moments.{AllCanHappen, Happening, Puts as PutsInto, at_reset}
use Rattle.rt_native_laws.specs.Moments.{moment_after_all, shown}
use Rattle.rt_native_laws.specs.Simulating.{ticks}
use Rattle.rt_native_laws.specs.Throughout.{IsSimulated}
use Rattle.rt_native_laws.specs.WithFunctions.{Functions, KeepToTheirs, SimulatesFromResetBeside, inputs_beside}
use Rattle.rt_native_runs.specs.Laws.{WritesLocal, fits}
use Rattle.rt_thumb.specs.Machine.{Machine}
use Rattle.rt_thumb.specs.Step.{Program, Event}
use Rattle.rt_trace.specs.Label.{Label}

-- the first address behind a part of the address space
abbrev pub region_end : Region → ℕ
region_end region = region.address + region.size

-- A chip has its memories apart, RAM below the addresses of the system and not at 0, and its port apart from RAM and
-- from the registers of the core (ARMv7-M Architecture Reference Manual, sections B3.1 and B3.2.1).
pub record IsChip (target : Target) : Type 0 where
  pub flash : IsRegion target.flash
  pub ram : IsRegion target.ram
  pub above_zero : 8 ≤ target.ram.address
  pub ram_low : region_end target.ram ≤ 0xE0000000
  pub apart : (region_end target.flash ≤ target.ram.address) ⊎ (region_end target.ram ≤ target.flash.address)
  pub port_aligned : target.port % 4 ≡ 0
  pub port_is_word : target.port < 2 ^ 32
  pub port_apart : (target.port < target.ram.address) ⊎ (region_end target.ram ≤ target.port)
  pub port_is_no_register : (target.port < 0xE000E000) ⊎ (0xE000F000 ≤ target.port)

-- An input is read from a device's register, at the address of a word, into a local resource of a hardware task.
pub record IsWired (app : App) (input : Input) : Type 0 where
  pub writes : WritesLocal app input
  pub aligned : input.address % 4 ≡ 0
  pub is_word : input.address < 2 ^ 32

-- each word that devices put, with its local resource, is such a one
abbrev pub PutOnly : (ℕ → ℕ → Type 0) → List (WithWords Label) → Type 0
PutOnly IsSuch [] = Unit {0}
PutOnly IsSuch (One label ∷ moves) = PutOnly IsSuch moves
PutOnly IsSuch (Puts local word ∷ moves) = IsSuch local word × PutOnly IsSuch moves

module _ (app : App) (img : Image) (target : Target) (p : Program) where
  -- What may come from reset on: numbers of interrupts; no tick before the first instruction, as SysTick does not count
  -- yet; words of devices that change; and so few ticks that the time does not come to the word that stands for no
  -- alarm.
  pub record MayCome (events : List Event) : Type 0 where
    pub numbered : AreNumbered events
    pub early : HasNoTickAtFirst events
    pub changes : ChangeDevices target events
    pub few : ticks events + 3 < 2 ^ 32

  -- What the image shows as these things happen to it is a run of Baker's machine on the application, beside devices
  -- that put such words into local resources as have come into their cells, with its three properties; messages are
  -- kept; and the stack is within its bound.
  pub record IsBakersRun (happened : List Happening) : Type 0 where
    pub moves : List (WithWords Label)
    pub shows : things moves ≡ shown img (at_reset img) happened
    pub runs : RunsBeside app (first app) moves
    pub words : PutOnly (λ n word. IsIn happened (PutsInto (local_at app n) word)) moves
    pub laws : KeepsLaws app (shown img (at_reset img) happened)
    pub messages : KeepsMessagesBeside app moves
    pub stack_within : depth img (moment_after_all img (at_reset img) happened).core ≤ stack_bytes app

  -- At every list of events from reset on the processor does what the image does, event after event: no fault comes,
  -- the same interrupts arrive, words of inputs are what their registers held as they were loaded, others see what the
  -- image shows, and the stack is no deeper than the image's, but for a tick's frame. It is so as long as what happens
  -- to the image fits: declared interrupts alone arrive, and the counts of a monotonic are below 2 ^ 31. And where it
  -- fits, what the image shows is a run of Baker's machine.
  pub record RunsFromReset (m : Machine) : Type 0 where
    pub simulated : (events : List Event) → MayCome events → IsSimulated img target p (fits app img) m events
    pub runs : (happened : List Happening) → AllCanHappen img target.inputs (at_reset img) happened
        → fits app img happened ≡ true → IsBakersRun happened

  -- The image's program does so, whatever else is in RAM as reset begins. It is not said of programs that call
  -- functions of C, which are made elsewhere: of those it is below.
  abbrev pub ProgramRuns : Type 0
  ProgramRuns = target.calls ≡ [] → (m : Machine) → IsAtReset img target p m → RunsFromReset m

-- The program of the image that `build` makes of an accepted application does so, on each chip that the image fits,
-- beside devices that write local resources of its hardware tasks.
abbrev pub ProgramsRunAsImages : Type 0
ProgramsRunAsImages =
    (app : App) (img : Image) (target : Target) (p : Program) → IsAccepted app → IsImageOf app img → IsBuilt app img
    → IsRunnable img → IsChip target → Fits img target → AllByRecursion (IsWired app) target.inputs
    → ProgramRuns app img target p

-- The program of an object that is linked with functions of C does so beside these functions, at each event and each
-- machine instruction of a function, from reset on, as long as what happens to the image fits; and where it fits, what
-- the image shows is a run of Baker's machine. What the functions do is a premise: each one's machine instructions are
-- harmless, it comes back as is agreed, and it keeps to what is its own (rt_native_laws, Functions.antt).
pub record RunsBesideFunctions (app : App) (img : Image) (target : Target) (functions : Functions) (p : Program)
    (m : Machine) : Type 0 where
  pub simulated : SimulatesFromResetBeside img target functions p (fits app img) m
  pub runs : (happened : List Happening)
      → AllCanHappen img (inputs_beside target functions) (at_reset img) happened → fits app img happened ≡ true
      → IsBakersRun app img target p happened

-- It is so of the program of an object of the image that is linked with such functions, on each processor as reset
-- leaves it. Words that functions bring, too, come into local resources of hardware tasks.
abbrev pub LinkedRuns : App → Image → Target → Type 0
LinkedRuns app img target =
    (functions : Functions) (p : Program) → AllByRecursion (WritesLocal app) functions.inputs
    → KeepToTheirs img target functions p → (m : Machine) → LiesLinked img target p m
    → StandsAtReset img target p m → RunsBesideFunctions app img target functions p m

abbrev pub LinkedProgramsRunAsImages : Type 0
LinkedProgramsRunAsImages =
    (app : App) (img : Image) (target : Target) → IsAccepted app → IsImageOf app img → IsBuilt app img
    → IsRunnable img → IsChip target → Fits img target → AllByRecursion (IsWired app) target.inputs
    → LinkedRuns app img target
