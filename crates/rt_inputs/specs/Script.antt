-- What happens to a core under a script beside devices, and the text of the run. The text is the project's own.
use Rattle.std.specs.Prelude.{ℕ, List, [], ◌∷◌, flat_map, replicate}
use Rattle.rt_ids.specs.Event.{Event, Arrive, Tick, Step, steps}
use Rattle.rt_app.specs.Tree.{App}
use Rattle.rt_code.specs.Image.{Image}
use Rattle.rt_laws.specs.DeviceWords.{WithWords, things}
use Rattle.rt_sim.specs.Beside.{shown_beside}
use Rattle.rt_board.specs.Board.{Board}
use Rattle.rt_given.specs.Words.{words_asked}
use Rattle.rt_given.specs.declared.line.GivenLine.{GivenLine}
use Rattle.rt_given.specs.declared.line.GivenLine.TheVariants as given
use Rattle.rt_inputs.specs.Inputs.{Happening, Comes, Gives, moves_of}
use Rattle.rt_inputs.specs.Shown.{text_of_moves}

-- a request of an interrupt with a word: the device's register holds the word before the request arrives
abbrev pub given_request : ℕ → ℕ → ℕ → List Happening
given_request irq local word = Gives local word ∷ Comes (Arrive irq) ∷ []

-- a request with each of these words, in order
abbrev pub given_requests : ℕ → ℕ → List ℕ → List Happening
given_requests irq local words = flat_map (given_request irq local) words

-- what a line of a script stands for: the events of a script's line, with their words where its device gives some,
-- or a word for a device's register
abbrev pub line_happenings : GivenLine → List Happening
line_happenings (given.Steps n) = replicate n (Comes Step)
line_happenings (given.Ticks n) = replicate n (Comes Tick)
line_happenings (given.Pends irq n) = replicate n (Comes (Arrive irq))
line_happenings (given.Device d irq n) = replicate n (Comes (Arrive irq))
line_happenings (given.Counts d irq n local first) =
    given_requests irq local (words_asked (given.Counts d irq n local first))
line_happenings (given.Draws d irq n local seed) =
    given_requests irq local (words_asked (given.Draws d irq n local seed))
line_happenings (given.Gives local word) = Gives local word ∷ []

-- what happens under a script
abbrev pub happenings : List GivenLine → List Happening
happenings script = flat_map line_happenings script

-- the events of a script, with the words that devices put between them
abbrev pub moves_under : App → Image → Board → List GivenLine → List (WithWords Event)
moves_under app img board script = moves_of app img board (happenings script)

-- the text of the run: the lines of what is shown from reset on, and the total of core steps
abbrev pub text_with_inputs : App → Image → Board → List GivenLine → List ℕ
text_with_inputs app img board script =
    let moves = moves_under app img board script in
    text_of_moves app (shown_beside app img moves) (steps (things moves))
