-- What a machine must be like for a run with inputs to go on, and what goes with a take.
use Rattle.std.specs.Prelude.{◌≡◌, ℕ, ◌<◌, ◌≤◌, ◌^◌, List, [], ◌∷◌, length, flat_map}
use Rattle.std.specs.List.{AllByRecursion}
use Rattle.rt_ids.specs.Event.{Event}
use Rattle.rt_ids.specs.declared.limits.TheConstants.{NAME_BYTES}
use Rattle.rt_app.specs.Tree.{App}
use Rattle.rt_app.specs.Layout.{local_at}
use Rattle.rt_app.specs.Names.{names_of}
use Rattle.rt_code.specs.Image.{Image}
use Rattle.rt_core.specs.Machine.{Machine}
use Rattle.rt_laws.specs.DeviceWords.{WithWords, One, Puts}
use Rattle.rt_run.specs.Writable.{IsWritable}
use Rattle.rt_board.specs.Board.{Board}
use Rattle.rt_board.specs.declared.board.Input.{Input}
use Rattle.rt_inputs.specs.Inputs.{Registers, put_for}
use Rattle.rt_inputs.specs.Shown as shown

-- a local resource has a cell in the image, and a short name
pub record HasPlace (app : App) (img : Image) (local : ℕ) : Type 0 where
  pub cell : local_at app local < length img.cells
  pub few : local_at app local < 2 ^ 16
  pub name : length (shown.local_name app local) ≤ NAME_BYTES

-- each input of a board has
abbrev pub HavePlaces : App → Board → Image → Type 0
HavePlaces app board img = AllByRecursion (λ (input : Input). HasPlace app img input.local) board.inputs

-- a machine of which the lines can be written, with the names of the application, and a place for each input
pub record CanRun (app : App) (board : Board) (m : Machine) : Type 0 where
  pub writable : IsWritable m
  pub names : m.image.names ≡ names_of app
  pub places : HavePlaces app board m.image

-- the lines of the words among these, behind so many core steps
abbrev pub lines_of_words : ℕ → List (WithWords Event) → List shown.ShownLine
lines_of_words step [] = []
lines_of_words step (One event ∷ more) = lines_of_words step more
lines_of_words step (Puts local word ∷ more) = shown.Input step local word ∷ lines_of_words step more

module _ (app : App) (board : Board) (registers : Registers) where
  -- the text of the word that is put for an input at a take
  abbrev pub text_for : ℕ → ℕ → Input → List ℕ
  text_for step irq input = flat_map (shown.line_text app) (lines_of_words step (put_for app board registers irq input))
