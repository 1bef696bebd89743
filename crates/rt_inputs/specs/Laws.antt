-- What holds of runs with inputs.
use Rattle.std.specs.Prelude.{◌≡◌, ℕ, List, Some}
use Rattle.rt_app.specs.Tree.{App}
use Rattle.rt_app.specs.Accepted.{IsAccepted}
use Rattle.rt_build.specs.Image.{IsImageOf}
use Rattle.rt_code.specs.Image.{Image}
use Rattle.rt_core.specs.Core.{Core}
use Rattle.rt_core.specs.Stepping.{step}
use Rattle.rt_trace.specs.declared.item.What.TheVariants as what
use Rattle.rt_laws.specs.DeviceWords.{IsUnused}
use Rattle.rt_laws.specs.Preemption.{candidate}
use Rattle.rt_laws.specs.State.{State}
use Rattle.rt_sim.specs.Beside.{core_after_put, WordsAreFree, CountsFitBeside, RunsWellBeside}
use Rattle.rt_sim.specs.Good.{AreDeclared}
use Rattle.rt_board.specs.Board.{Board, IsInput, AreInputs}
use Rattle.rt_board.specs.declared.board.Input.{Input}
use Rattle.rt_inputs.specs.Inputs.{Happening, AreWords, events_of, input_irq, moves_of}

-- In any state of Baker's machine in which the preemption test selects the interrupt of an input's task, no started job
-- may use the input's local resource: the task's priority is above the system ceiling, and nobody else owns it.
abbrev pub InputsAreUnused : Type 0
InputsAreUnused =
    (app : App) → IsAccepted app → (input : Input) → IsInput app input → (s : State) (irq : ℕ)
    → candidate app s ≡ Some irq → input_irq app input ≡ Some irq
    → IsUnused app s.jobs input.local

-- Whatever happens beside devices, they put words only where no started job may use them.
abbrev pub GivenWordsAreFree : Type 0
GivenWordsAreFree =
    (app : App) (img : Image) → IsAccepted app → IsImageOf app img → (board : Board) → AreInputs app board.inputs
    → (happenings : List Happening) → AreWords happenings → AreDeclared app (events_of happenings)
    → CountsFitBeside app img (moves_of app img board happenings)
    → WordsAreFree app img (moves_of app img board happenings)

-- Whatever happens beside devices, the image runs well: all that holds of a good image holds, with Baker's machine
-- taking the words that the devices put.
abbrev pub RunsWithInputsAreGood : Type 0
RunsWithInputsAreGood =
    (app : App) (img : Image) → IsAccepted app → IsImageOf app img → (board : Board) → AreInputs app board.inputs
    → (happenings : List Happening) → AreWords happenings → AreDeclared app (events_of happenings)
    → CountsFitBeside app img (moves_of app img board happenings)
    → RunsWellBeside app img (moves_of app img board happenings)

-- A core step that takes an interrupt reads no cell and changes none: a word that is put behind it is as one that is
-- put before it.
abbrev pub TakesLeaveCells : Type 0
TakesLeaveCells =
    (app : App) (img : Image) (c : Core) (n word irq depth : ℕ) → (step img c).1 ≡ Some (what.Take irq depth)
    → step img (core_after_put app n word c) ≡ (core_after_put app n word (step img c).0, (step img c).1)
