-- Runs of an image as a processor has them. They are those of the core's model but for words that no code has written.
-- In a frame that comes into being the model has 0, and a processor has anything; and where a body has come back the
-- slot of the return address has the model's address, or one of machine code. So such words may become others, up to
-- the next instruction of the job whose frame it is. And a device's word is read and comes into the cell of an input
-- behind the take of its interrupt, before the handler's first instruction. All this is the project's own.
use Rattle.std.specs.Prelude.{◌≡◌, ℕ, ◌-◌, ◌^◌, ◌<◌, List, [], ◌∷◌, ◌++◌, length, Option, Some, None, ⊤}
use Rattle.std.specs.Prelude.{option_map, unwrap_or, slice_get, slice_index, min}
use Rattle.rt_ids.specs.Choice.{IsIn}
use Rattle.rt_ids.specs.Event.{Event, Arrive, Tick, Step}
use Rattle.rt_code.specs.Image.{Image}
use Rattle.rt_code.specs.declared.image.IrqRow.{IrqRow}
use Rattle.rt_code.specs.declared.instr.Instr.{Instr}
use Rattle.rt_code.specs.declared.instr.Instr.TheVariants as instr
use Rattle.rt_core.specs.Core.{Core, Context, reset}
use Rattle.rt_core.specs.Priority.{pick}
use Rattle.rt_core.specs.Stepping.{step}
use Rattle.rt_core.specs.Trace.{happen}
use Rattle.rt_core.specs.Transfer.{core_after_word}
use Rattle.rt_native.specs.declared.target.Input.{Input}
use Rattle.rt_trace.specs.Label.{Label}

-- what the job that runs did last
pub data Last : Type 0 where
  -- nothing yet: it is a handler that was taken, or the thread behind reset
  Began : Last
  -- nothing yet: it is a handler that was taken, and this word was read last, from the register of an input
  HasRead : (input : Input) (word : ℕ) → Last
  -- nothing yet: it is a body that was called with so many arguments
  WasCalled : (arguments : ℕ) → Last
  -- a body came back to it
  CameBack : Last
  -- any other instruction
  Went : Last

-- how many words of a frame of so many are what the model has there, from the first one on
abbrev pub settled_words : Last → ℕ → ℕ
settled_words Began words = 0
settled_words (HasRead input word) words = 0
settled_words (WasCalled arguments) words = min arguments words
settled_words CameBack words = words - 1
settled_words Went words = words

-- a handler was taken: BASEPRI as it was then, and what the job that it interrupted had done last
pub record Taking : Type 0 where
  pub base_priority : ℕ
  pub last : Last

-- a core, what the job that runs did last, and the takings of the active handlers, the last taken first
pub record Moment : Type 0 where
  pub core : Core
  pub last : Last
  pub takings : List Taking

-- the moment after reset
abbrev pub at_reset : Image → Moment
at_reset img = record { core = reset img; last = Began; takings = [] }

-- a moment with another core
abbrev pub with_core : Moment → Core → Moment
with_core s c = record s { core = c }

-- where a handler has returned, what it interrupted runs on, where it was
abbrev pub after_return : Core → List Taking → Moment
after_return c [] = record { core = c; last = Went; takings = [] }
after_return c (x ∷ takings) = record { core = c; last = x.last; takings = takings }

-- how many arguments the body of a row takes
abbrev pub arguments_of : Image → ℕ → ℕ
arguments_of img row = unwrap_or (option_map (λ body. body.args) (slice_get img.bodies row)) 0

-- what who runs after an instruction has done last
abbrev pub last_after : Image → Option Instr → Last
last_after img (Some (instr.Call row from)) = WasCalled (arguments_of img row)
last_after img (Some instr.Back) = CameBack
last_after img i = Went

-- the moment after an instruction has led to a core
abbrev pub after_instruction : Image → Moment → Core → Option Instr → Moment
after_instruction img s c (Some instr.Ret) = after_return c s.takings
after_instruction img s c i = record s { core = c; last = last_after img i }

-- the instruction at a core's address
abbrev pub instruction_at : Image → Core → Option Instr
instruction_at img c = option_map (λ line. line.0) (slice_get img.code c.processor.address)

-- the moment after a step that takes this interrupt, or none, has led to a core
abbrev pub after_step : Image → Moment → Core → Option IrqRow → Moment
after_step img s c (Some row) = record {
  core = c;
  last = Began;
  takings = record { base_priority = s.core.processor.basepri; last = s.last } ∷ s.takings;
}
after_step img s c None = after_instruction img s c (instruction_at img s.core)

-- what happens at a moment
pub data Happening : Type 0 where
  -- an event of the model
  Comes : (event : Event) → Happening
  -- the frame of what runs has these words
  Fills : (words : List ℕ) → Happening
  -- the register of an input is read, and has this word
  Loads : (input : Input) (word : ℕ) → Happening
  -- a device's word comes into a cell
  Puts : (cell word : ℕ) → Happening

-- the core with these words in the frame of what runs
abbrev pub with_frame : List ℕ → Core → Core
with_frame words c = record c { processor = record c.processor { slots = words } }

-- the moment after it
abbrev pub moment_after : Image → Moment → Happening → Moment
moment_after img s (Comes Step) = after_step img s (step img s.core).0 (pick img s.core)
moment_after img s (Comes (Arrive irq)) = with_core s (happen img s.core (Arrive irq)).0
moment_after img s (Comes Tick) = with_core s (happen img s.core Tick).0
moment_after img s (Fills words) = with_core s (with_frame words s.core)
moment_after img s (Loads input word) = record s { last = HasRead input word }
moment_after img s (Puts cell word) = with_core s (core_after_word s.core cell word)

-- what is shown of it
abbrev pub shown_of : Image → Moment → Happening → List Label
shown_of img s (Comes event) = (happen img s.core event).1
shown_of img s (Fills words) = []
shown_of img s (Loads input word) = []
shown_of img s (Puts cell word) = []

-- these are words for a frame, any ones: as many as it has, and those that are settled as they are
pub record AreFillings (s : Moment) (words : List ℕ) : Type 0 where
  pub long : length words ≡ length s.core.processor.slots
  pub settled : (k : ℕ) → k < settled_words s.last (length s.core.processor.slots)
      → slice_index words k ≡ slice_index s.core.processor.slots k

-- a handler has just been taken
abbrev pub IsTaken : Last → Type 0
IsTaken Began = ⊤
IsTaken (HasRead input word) = ⊤
IsTaken last = ⊥

-- so it has, and it has read this word of an input last, where one is named
abbrev pub HasJustRead : Option (Input × ℕ) → Last → Type 0
HasJustRead None last = IsTaken last
HasJustRead (Some read) last = last ≡ HasRead read.0 read.1

-- a handler of this interrupt has just been taken
abbrev pub HasBegun : ℕ → List Context → Last → Type 0
HasBegun irq (x ∷ below) Began = x.irq ≡ irq
HasBegun irq (x ∷ below) (HasRead input word) = x.irq ≡ irq
HasBegun irq below last = ⊥

-- a register is read where it is that of one of these inputs, for the interrupt that was just taken
pub record CanRead (inputs : List Input) (s : Moment) (input : Input) (word : ℕ) : Type 0 where
  pub among : IsIn inputs input
  pub begun : HasBegun input.irq s.core.below s.last
  pub small : word < 2 ^ 32

-- a device's word is put where one of these inputs is for the interrupt that was just taken, and for this cell
pub record IsPut (inputs : List Input) (s : Moment) (cell word : ℕ) : Type 0 where
  pub input : Input
  pub among : IsIn inputs input
  pub for_cell : input.cell ≡ cell
  pub begun : HasBegun input.irq s.core.below s.last
  pub small : word < 2 ^ 32

-- whether this can happen at a moment, beside devices with these inputs
abbrev pub CanHappen : List Input → Moment → Happening → Type 0
CanHappen inputs s (Comes event) = ⊤
CanHappen inputs s (Fills words) = AreFillings s words
CanHappen inputs s (Loads input word) = CanRead inputs s input word
CanHappen inputs s (Puts cell word) = IsPut inputs s cell word

module _ (img : Image) where
  -- the moment after all that happened, one after the other
  abbrev pub moment_after_all : Moment → List Happening → Moment
  moment_after_all s [] = s
  moment_after_all s (happening ∷ more) = moment_after_all (moment_after img s happening) more

  -- what is shown of all
  abbrev pub shown : Moment → List Happening → List Label
  shown s [] = []
  shown s (happening ∷ more) = shown_of img s happening ++ shown (moment_after img s happening) more

  -- each can happen at its moment
  abbrev pub AllCanHappen : List Input → Moment → List Happening → Type 0
  AllCanHappen inputs s [] = Unit {0}
  AllCanHappen inputs s (happening ∷ more) =
      CanHappen inputs s happening × AllCanHappen inputs (moment_after img s happening) more
