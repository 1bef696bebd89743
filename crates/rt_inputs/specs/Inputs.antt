-- Runs beside devices that give values. A device has a register for each local resource that it writes; what the
-- register holds is in the resource from the moment at which the handler of its task is taken, as a handler on hardware
-- finds what its device's register holds. It stays there until the next take. Registers hold 0 before the first word.
-- This is the project's own.
use Rattle.std.specs.Prelude.{ℕ, ◌^◌, ◌<◌, ◌==◌, if◌then◌else◌, List, [], ◌∷◌, ◌++◌, flat_map, slice_get, Option}
use Rattle.std.specs.Prelude.{Some, None}
use Rattle.rt_ids.specs.Event.{Event, Arrive, Tick, Step}
use Rattle.rt_ids.specs.Lists.{is_some_and, then_from}
use Rattle.rt_app.specs.Tree.{App}
use Rattle.rt_app.specs.Handlers.{irq_number}
use Rattle.rt_code.specs.Image.{Image}
use Rattle.rt_trace.specs.declared.item.What.{What}
use Rattle.rt_trace.specs.declared.item.What.TheVariants as what
use Rattle.rt_core.specs.Core.{Core, reset}
use Rattle.rt_core.specs.Stepping.{step}
use Rattle.rt_laws.specs.DeviceWords.{WithWords, One, Puts}
use Rattle.rt_sim.specs.Beside.{core_beside}
use Rattle.rt_board.specs.Board.{Board}
use Rattle.rt_board.specs.declared.board.Input.{Input}

-- what happens to a core beside devices
pub data Happening : Type 0 where
  Comes : (event : Event) → Happening
  -- from here on the register of a local resource holds this word
  Gives : (local word : ℕ) → Happening

-- what registers hold, by the index of the local resource
abbrev pub Registers : Type 0
Registers = ℕ → ℕ

-- the registers before a word is given
abbrev pub no_words : Registers
no_words n = 0

-- the registers after a word is given
abbrev pub with_word : Registers → ℕ → ℕ → Registers
with_word registers local word n = if n == local then word else registers n

-- the events among what happens
abbrev pub events_of : List Happening → List Event
events_of [] = []
events_of (Comes event ∷ more) = event ∷ events_of more
events_of (Gives local word ∷ more) = events_of more

-- each word that is given has 32 bits
abbrev pub AreWords : List Happening → Type 0
AreWords [] = Unit {0}
AreWords (Comes event ∷ more) = AreWords more
AreWords (Gives local word ∷ more) = (word < 2 ^ 32) × AreWords more

-- the interrupt that a core step takes, by the item that it shows
abbrev pub taken : Option What → Option ℕ
taken (Some (what.Take irq depth)) = Some irq
taken shown = None

module _ (app : App) where
  -- the number of the interrupt that the task of an input binds
  abbrev pub input_irq : Input → Option ℕ
  input_irq input = then_from (slice_get app.tasks input.task) (λ t. then_from t.binds (irq_number app))

  module _ (board : Board) (registers : Registers) where
    -- what a device puts for an input where this interrupt is taken
    abbrev pub put_for : ℕ → Input → List (WithWords Event)
    put_for irq input =
        if is_some_and (λ n. n == irq) (input_irq input) then Puts input.local (registers input.local) ∷ [] else []

    -- what devices put where this interrupt is taken, or none is
    abbrev pub puts_for : Option ℕ → List (WithWords Event)
    puts_for None = []
    puts_for (Some irq) = flat_map (put_for irq) board.inputs

    -- what devices put before an event: the words of a task's inputs before the core step that takes its interrupt
    abbrev pub puts_before : Image → Core → Event → List (WithWords Event)
    puts_before img c (Arrive irq) = []
    puts_before img c Tick = []
    puts_before img c Step = puts_for (taken (step img c).1)

  module _ (img : Image) (board : Board) where
    -- the events and the words that come to a core, from a core and registers on
    abbrev pub moves_from : Core → Registers → List Happening → List (WithWords Event)
    moves_from c registers [] = []
    moves_from c registers (Gives local word ∷ more) = moves_from c (with_word registers local word) more
    moves_from c registers (Comes event ∷ more) =
        let puts = puts_before board registers img c event in
        puts ++ One event ∷ moves_from (core_beside app img c (puts ++ One event ∷ [])) registers more

    -- from reset
    abbrev pub moves_of : List Happening → List (WithWords Event)
    moves_of happenings = moves_from (reset img) no_words happenings
