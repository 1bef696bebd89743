-- What `live` beside devices that give words may write, and what the core has done when it has answered. It is this
-- project's own, and as `live` has it without words (crates/rt_live specs/Output.antt), but that the lines of words
-- stand in the trace (crates/rt_inputs specs/Shown.antt).
use Rattle.std.specs.Prelude.{◌≡◌, ℕ, ◌≤◌, ◌⊎◌, List, [], ◌++◌, length}
use Rattle.rt_ids.specs.Event.{steps}
use Rattle.rt_app.specs.Tree.{App}
use Rattle.rt_code.specs.Image.{Image}
use Rattle.rt_core.specs.Machine.{Machine}
use Rattle.rt_laws.specs.DeviceWords.{things}
use Rattle.rt_outside.specs.Bytes.{Took, TookAtLeast, TookPrefix}
use Rattle.rt_sim.specs.Beside.{shown_beside}
use Rattle.rt_sim.specs.Good.{AreDeclared}
use Rattle.rt_live.specs.Account.{account_text}
use Rattle.rt_board.specs.Board.{Board}
use Rattle.rt_given.specs.declared.line.GivenLine.{GivenLine}
use Rattle.rt_inputs.specs.Inputs.{Happening, events_of, moves_of}
use Rattle.rt_inputs.specs.Going.{MovesLead, text_at, without_words}
use Rattle.rt_inputs.specs.Shown.{text_of_moves}
use Rattle.rt_live_inputs.specs.Account.{rows_of}
use Rattle.rt_live_inputs.specs.Boxes.{boxes}
use Rattle.rt_live_inputs.specs.Histories.{AreHistories}
use Rattle.rt_live_inputs.specs.Looking.{Found, happenings_of, turns}

-- what happens to the core of a run under a script whose looks found this
abbrev pub happened : List GivenLine → List Found → List Happening
happened script found = happenings_of (boxes script) (turns script) found

-- the trace of what happens to an image beside the devices of a board, with the words that they put, and its total of
-- core steps
abbrev pub live_text : App → Image → Board → List Happening → List ℕ
live_text app img board happenings =
    let moves = moves_of app img board happenings in
    text_of_moves app (shown_beside app img moves) (steps (things moves))

-- The trace of the image under the script's own lines with what the looks found, and the account of the calls, for
-- looks and calls that one thread could have made, the devices with all their requests and words among them, and that
-- left nothing pending and no word waiting. Only declared interrupts arrive.
pub record IsLiveText (app : App) (img : Image) (board : Board) (script : List GivenLine) (bytes : List ℕ)
    : Type 0 where
  pub found : List Found
  pub are : AreHistories script found
  pub declared : AreDeclared app (events_of (happened script found))
  pub written : bytes ≡ live_text app img board (happened script found)
      ++ account_text img.names (rows_of img.names (boxes script) are.entries are.calls)

-- behind the bytes that stand in front a beginning of such a text was taken, or a beginning of these
pub record TookStart (app : App) (img : Image) (board : Board) (script : List GivenLine) (front before after : List ℕ)
    : Type 0 where
  pub bytes : List ℕ
  pub is : IsLiveText app img board script bytes
  pub took : TookPrefix before after (front ++ bytes)

-- a text that `live` may write was taken behind the bytes that stand in front, and the core has done what happens in it
-- and no more
pub record HasWritten (app : App) (board : Board) (script : List GivenLine) (front : List ℕ) (old new : Machine)
    (before after : List ℕ) : Type 0 where
  pub bytes : List ℕ
  pub is : IsLiveText app old.image board script bytes
  pub took : Took before after (front ++ bytes)
  pub leads : MovesLead app (moves_of app old.image board (happened script is.found)) old new

-- A fault came. A beginning of such a text was taken, and the core has done the first of what happens in it and no
-- more: nothing where the fault came in the bytes that stand in front, else what came up to the one in whose lines it
-- came, or all.
pub record HasWrittenPart (app : App) (board : Board) (script : List GivenLine) (front : List ℕ) (old new : Machine)
    (before after : List ℕ) : Type 0 where
  pub part : TookStart app old.image board script front before after
  pub told : List Happening
  pub last : List Happening
  pub rest : List Happening
  pub parts : happened script part.is.found ≡ (told ++ last) ++ rest
  pub one : length last ≤ 1
  pub leads : MovesLead app (moves_of app old.image board (told ++ last)) old new
  pub lines : (told ++ last ≡ []) ⊎ TookAtLeast before after (front ++ text_at app board (without_words old) told)
  pub all : last ≡ [] → (told ≡ []) ⊎ (rest ≡ [])
