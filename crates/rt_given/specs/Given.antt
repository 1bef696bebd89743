-- What a script beside devices is: the lines of a script, and between them the words that devices hold from there on.
-- It is this project's own, as scripts are.
use Rattle.std.specs.Prelude.{ℕ, ◌^◌, ◌<◌, ◌==◌, Bool, Contains, List, [], ◌∷◌, flat_map, map, slice_get, Option}
use Rattle.std.specs.List.{AllByRecursion}
use Rattle.rt_ids.specs.Lists.{is_some_and, then_from}
use Rattle.rt_ids.specs.declared.limits.TheConstants.{DEVICES}
use Rattle.rt_script.specs.declared.line.Line.{Line}
use Rattle.rt_script.specs.declared.line.Line.TheVariants as line
use Rattle.rt_app.specs.Tree.{App}
use Rattle.rt_app.specs.Handlers.{irq_number}
use Rattle.rt_board.specs.Board.{Board}
use Rattle.rt_board.specs.declared.board.Input.{Input}
use Rattle.rt_given.specs.declared.line.GivenLine.{GivenLine}
use Rattle.rt_given.specs.declared.line.GivenLine.TheVariants.{Steps, Ticks, Pends, Device, Counts, Draws, Gives}

-- what a script's line asks for
abbrev pub asks : Line → GivenLine
asks (line.Steps n) = Steps n
asks (line.Ticks n) = Ticks n
asks (line.Pends irq n) = Pends irq n
asks (line.Device d irq n) = Device d irq n

-- the script's line, where it is one
abbrev pub asked_line : GivenLine → List Line
asked_line (Steps n) = line.Steps n ∷ []
asked_line (Ticks n) = line.Ticks n ∷ []
asked_line (Pends irq n) = line.Pends irq n ∷ []
asked_line (Device d irq n) = line.Device d irq n ∷ []
asked_line (Counts d irq n local first) = line.Device d irq n ∷ []
asked_line (Draws d irq n local seed) = line.Device d irq n ∷ []
asked_line (Gives local word) = []

-- the script that is left without the words of devices
abbrev pub asked : List GivenLine → List Line
asked lines = flat_map asked_line lines

-- the interrupt that the task of an input binds
abbrev pub input_irq : App → Input → Option ℕ
input_irq app input = then_from (slice_get app.tasks input.task) (λ t. then_from t.binds (irq_number app))

-- the task of an input binds this interrupt
abbrev pub is_for : App → ℕ → Input → Bool
is_for app irq input = is_some_and (λ n. n == irq) (input_irq app input)

-- how many events a line is
abbrev pub count_of : GivenLine → ℕ
count_of (Steps n) = n
count_of (Ticks n) = n
count_of (Pends irq n) = n
count_of (Device d irq n) = n
count_of (Counts d irq n local first) = n
count_of (Draws d irq n local seed) = n
count_of (Gives local word) = 0

-- the device whose requests a line asks for, where it does, is one of those that there are
abbrev pub HasDeviceInRange : GivenLine → Type 0
HasDeviceInRange (Device d irq n) = d < DEVICES
HasDeviceInRange (Counts d irq n local first) = d < DEVICES
HasDeviceInRange (Draws d irq n local seed) = d < DEVICES
HasDeviceInRange line = Unit {0}

-- a word of 32 bits, and an input of the board
abbrev pub IsForInput : Board → ℕ → ℕ → Type 0
IsForInput board local word = Contains (map (λ input. input.local) board.inputs) local × (word < 2 ^ 32)

-- a word that a line gives, or the number at which its words begin, has 32 bits, and is for an input of the board
abbrev pub GivesInput : Board → GivenLine → Type 0
GivesInput board (Gives local word) = IsForInput board local word
GivesInput board (Counts d irq n local first) = IsForInput board local first
GivesInput board (Draws d irq n local seed) = IsForInput board local seed
GivesInput board line = Unit {0}

-- each word that is given is
abbrev pub GiveInputs : Board → List GivenLine → Type 0
GiveInputs board lines = AllByRecursion (GivesInput board) lines
