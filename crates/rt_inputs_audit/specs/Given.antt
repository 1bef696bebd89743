-- Which words a run beside devices has where each device gives its task what it reads. Just before a handler of a
-- hardware task is taken, a word is put into each input of the task, in the order of the board; no word comes
-- elsewhere. So it is where a device's register is read as the handler begins. That it is so is this project's own.
use Rattle.std.specs.Prelude.{◌≡◌, ℕ, ◌==◌, List, [], ◌∷◌, ◌++◌, filter, map, Some}
use Rattle.rt_ids.specs.Lists.{is_some_and}
use Rattle.rt_trace.specs.Label.{Label, Stepped}
use Rattle.rt_trace.specs.declared.item.What.{What}
use Rattle.rt_trace.specs.declared.item.What.TheVariants as what
use Rattle.rt_app.specs.Tree.{App}
use Rattle.rt_laws.specs.DeviceWords.{WithWords, One, Puts}
use Rattle.rt_board.specs.Board.{Board}
use Rattle.rt_board.specs.declared.board.Input.{Input}
use Rattle.rt_inputs.specs.Inputs.{input_irq}

-- the local resources of inputs
abbrev pub locals_of : List Input → List ℕ
locals_of inputs = map (λ input. input.local) inputs

module _ (app : App) (board : Board) where
  -- the inputs of the task that binds the interrupt of a number, in the order of the board
  abbrev pub inputs_at : ℕ → List Input
  inputs_at irq = filter (λ input. is_some_and (λ n. n == irq) (input_irq app input)) board.inputs

  -- the inputs that a device writes where this is shown
  abbrev pub inputs_for : What → List Input
  inputs_for (what.Take irq depth) = inputs_at irq
  inputs_for shown = []

  -- the local resources into which a word is put just before a label
  abbrev pub written_before : Label → List ℕ
  written_before (Stepped (Some shown)) = locals_of (inputs_for shown)
  written_before label = []

  -- Behind words for these local resources, words are put as devices put them: just before each label for those that
  -- it reads, and for no other.
  abbrev pub GivesFrom : List ℕ → List (WithWords Label) → Type 0
  GivesFrom locals [] = locals ≡ []
  GivesFrom locals (Puts local word ∷ moves) = GivesFrom (locals ++ local ∷ []) moves
  GivesFrom locals (One label ∷ moves) = (locals ≡ written_before label) × GivesFrom [] moves

  -- the words of a whole run are put so
  abbrev pub GivesInputs : List (WithWords Label) → Type 0
  GivesInputs moves = GivesFrom [] moves
