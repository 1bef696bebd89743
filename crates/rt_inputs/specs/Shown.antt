-- What the trace of a run with inputs shows: the items, numbered as in a trace without inputs, and between them the
-- words of devices. A device puts a word just before a core takes the interrupt of the task that reads it, and the word
-- is shown just behind the item of that take, as a line of its own:
--     STEP input R V
-- with the number of core steps before the take, the name of the local resource and the word in decimal. Without the
-- lines of words such a trace is one of a run without inputs. The form is this project's own.
use Rattle.std.specs.Prelude.{ℕ, ◌+◌, List, [], ◌∷◌, ◌++◌, map, flat_map, codes, decimal, slice_get, option_map}
use Rattle.std.specs.Prelude.{unwrap_or}
use Rattle.rt_lines.specs.Table.{spaced_text}
use Rattle.rt_trace.specs.Label.{Label, items_of, steps_of}
use Rattle.rt_trace.specs.Text.{text, total_text}
use Rattle.rt_trace.specs.declared.item.Item.{Item}
use Rattle.rt_app.specs.Tree.{App}
use Rattle.rt_app.specs.Names.{names_of}
use Rattle.rt_laws.specs.DeviceWords.{WithWords, One, Puts}

-- what a line of such a trace shows
pub data ShownLine : Type 0 where
  -- an item, as in a trace without inputs
  Shows : (item : Item) → ShownLine
  -- a word that a device has put into a local resource, before the core step that has this number of steps before it
  Input : (step local word : ℕ) → ShownLine

-- What labels and words show, from a number of core steps on, where the lines of the words that were put since the last
-- label are still to be shown. They are shown behind the items of the next label, whatever it is, and where there is
-- none at the end: so each word is shown. In a run with inputs the next label is a take.
abbrev pub lines_from : ℕ → List ShownLine → List (WithWords Label) → List ShownLine
lines_from steps words [] = words
lines_from steps words (Puts local word ∷ moves) = lines_from steps (words ++ Input steps local word ∷ []) moves
lines_from steps words (One label ∷ moves) =
    map Shows (items_of steps (label ∷ []))
    ++ (words ++ lines_from (steps + steps_of (label ∷ [])) [] moves)

-- what labels and words show, from reset
abbrev pub lines_of_moves : List (WithWords Label) → List ShownLine
lines_of_moves moves = lines_from 0 [] moves

module _ (app : App) where
  -- the name of a local resource by its index, and the empty text where there is none
  abbrev pub local_name : ℕ → List ℕ
  local_name local = unwrap_or (option_map (λ r. r.name) (slice_get app.locals local)) []

  -- the line of a word, without its line feed
  abbrev pub input_line : ℕ → ℕ → ℕ → List ℕ
  input_line step local word = decimal step ++ spaced_text (codes "input" ∷ local_name local ∷ decimal word ∷ [])

  -- the text of a line
  abbrev pub line_text : ShownLine → List ℕ
  line_text (Shows item) = text (names_of app) item
  line_text (Input step local word) = input_line step local word ++ 10 ∷ []

  -- the text of labels and words, from reset, with their total of core steps
  abbrev pub text_of_moves : List (WithWords Label) → ℕ → List ℕ
  text_of_moves moves total = flat_map line_text (lines_of_moves moves) ++ total_text total
