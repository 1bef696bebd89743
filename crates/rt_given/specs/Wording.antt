-- What a line of a script beside devices says. It is
--     give R V    device D pend I N from V    device D pend I N seed V
-- with the name R of an input of the board and a number V of 32 bits without a leading zero, and D, I and N as in a
-- script, where the interrupt I is bound by a task that has one input on the board, or else a line of a script. One or
-- more spaces separate its words, and none stand before the first or behind the last. The form is this
-- project's own.
use Rattle.std.specs.Prelude.{ℕ, ◌^◌, ◌||◌, Bool, if◌then◌else◌, bytes_eq, codes, List, [], ◌∷◌, filter, find}
use Rattle.std.specs.Prelude.{slice_get}
use Rattle.std.specs.Prelude.{Option, Some, None, option_map, Result, Ok, Err}
use Rattle.std.specs.Option.{ok_or}
use Rattle.rt_ids.specs.Lists.{is_some_and}
use Rattle.rt_ids.specs.Names.{Names}
use Rattle.rt_ids.specs.Word.{is_identifier}
use Rattle.rt_lines.specs.Answers.{and_then, and_make}
use Rattle.rt_lines.specs.Numbers.{number_below}
use Rattle.rt_lines.specs.Parts.{spaced_words}
use Rattle.rt_script.specs.Wording as scripts
use Rattle.rt_script.specs.declared.line.Line.{Line}
use Rattle.rt_script.specs.declared.words.Wrong.{Wrong}
use Rattle.rt_script.specs.declared.words.Wrong.TheVariants as wrong
use Rattle.rt_script.specs.declared.line.Line.TheVariants as line
use Rattle.rt_app.specs.declared.app.Local.{Local}
use Rattle.rt_app.specs.Tree.{App}
use Rattle.rt_board.specs.Board.{Board}
use Rattle.rt_board.specs.Wording.{is_named}
use Rattle.rt_given.specs.Given.{asks, is_for}
use Rattle.rt_board.specs.declared.board.Input.{Input}
use Rattle.rt_given.specs.declared.line.GivenLine.{GivenLine}
use Rattle.rt_given.specs.declared.line.GivenLine.TheVariants.{Counts, Draws, Gives}
use Rattle.rt_given.specs.declared.refusal.Cause.{Cause}
use Rattle.rt_given.specs.declared.refusal.Cause.TheVariants as cause

-- what is wrong with a script's line, as it is told here
abbrev pub cause_of : Wrong → Cause
cause_of wrong.Form = cause.BadLine
cause_of wrong.Interrupt = cause.UnknownInterrupt
cause_of wrong.Device = cause.TooManyDevices
cause_of wrong.Events = cause.TooManyEvents

-- what a script's line asks for, or what is wrong with it
abbrev pub asked_or_wrong : Result (Option Line) Wrong → Result (Option GivenLine) Cause
asked_or_wrong (Ok asked) = Ok (option_map asks asked)
asked_or_wrong (Err w) = Err (cause_of w)

-- what a line asks for as a script's line
abbrev pub asked_of : Names → List ℕ → Result (Option GivenLine) Cause
asked_of names line = asked_or_wrong (scripts.line_of names line)

-- the word of 32 bits that a number spells
abbrev pub word_of : List ℕ → Result ℕ Cause
word_of number = ok_or (number_below (2 ^ 32) number) cause.BadLine

-- the local resource of this name, where it is one that a device writes
abbrev pub input_named : List Local → Board → List ℕ → Option ℕ
input_named locals board name =
    option_map (λ input. input.local)
    (find (λ input. is_some_and (is_named name) (slice_get locals input.local)) board.inputs)

module _ (app : App) (board : Board) where
  -- the local resource of the input of a name
  abbrev pub input_at : List ℕ → Result ℕ Cause
  input_at name =
      if is_identifier name then ok_or (input_named app.locals board name) cause.UnknownInput else Err cause.BadLine

  -- the word that a number spells, for the input of a name
  abbrev pub given : List ℕ → List ℕ → Result (Option GivenLine) Cause
  given name number = and_then (word_of number) (λ word. and_make (input_at name) (λ local. Some (Gives local word)))

  -- what the words behind `give` tell
  abbrev pub give_of : List (List ℕ) → Result (Option GivenLine) Cause
  give_of (name ∷ number ∷ []) = given name number
  give_of words = Err cause.BadLine

-- a device's words count up from a number, or a generator that starts at a number draws them
abbrev pub is_source : List ℕ → Bool
is_source how = bytes_eq how (codes "from") || bytes_eq how (codes "seed")

-- the words of the line of a device that gives words, behind the first
pub record DeviceWords : Type 0 where
  pub device : List ℕ
  pub verb : List ℕ
  pub irq : List ℕ
  pub count : List ℕ
  pub how : List ℕ
  pub number : List ℕ

-- these words, where they are six and tell whence the device's words come
abbrev pub device_words : List (List ℕ) → Option DeviceWords
device_words (device ∷ verb ∷ irq ∷ count ∷ how ∷ number ∷ []) =
    if is_source how
    then Some (record { device = device; verb = verb; irq = irq; count = count; how = how; number = number })
    else None
device_words words = None

-- what is read, or what is wrong, as it is told here
abbrev pub told_here : {A : Type 0} → Result A Wrong → Result A Cause
told_here (Ok x) = Ok x
told_here (Err w) = Err (cause_of w)

-- what such words ask for as a script's line, without whence the device's words come
abbrev pub asked_device : Names → DeviceWords → Result Line Cause
asked_device names w = told_here (scripts.device_of names (w.device ∷ w.verb ∷ w.irq ∷ w.count ∷ []))

-- the local resource of the only one of these inputs
abbrev pub only_local : List Input → Result ℕ Cause
only_local [] = Err cause.NoInput
only_local (input ∷ []) = Ok input.local
only_local (input ∷ other ∷ more) = Err cause.ManyInputs

-- a device's line that asks for requests with words for a local resource; no other line is one of a device
abbrev pub giving : List ℕ → ℕ → ℕ → Line → GivenLine
giving how number local (line.Device d irq n) =
    if bytes_eq how (codes "from") then Counts d irq n local number else Draws d irq n local number
giving how number local asked = asks asked

module _ (names : Names) (app : App) (board : Board) where
  -- the local resource of the only input whose task binds the interrupt of a device's line
  abbrev pub only_input : Line → Result ℕ Cause
  only_input (line.Device d irq n) = only_local (filter (is_for app irq) board.inputs)
  only_input asked = Err cause.BadLine

  -- what a device's line asks for that tells whence its words come
  abbrev pub given_device : DeviceWords → Result (Option GivenLine) Cause
  given_device w =
      and_then (word_of w.number) (λ number.
      and_then (asked_device names w) (λ asked.
      and_make (only_input asked) (λ local. Some (giving w.how number local asked))))

  -- what a line asks for whose first word is `device`
  abbrev pub device_line : List ℕ → Option DeviceWords → Result (Option GivenLine) Cause
  device_line line None = asked_of names line
  device_line line (Some w) = given_device w

  -- what a line with these words asks for
  abbrev pub words_ask : List ℕ → List (List ℕ) → Result (Option GivenLine) Cause
  words_ask line [] = asked_of names line
  words_ask line (first ∷ words) =
      if bytes_eq first (codes "give") then give_of app board words
      else if bytes_eq first (codes "device") then device_line line (device_words words) else asked_of names line

  -- what a line asks for: nothing where it is skipped
  abbrev pub line_of : List ℕ → Result (Option GivenLine) Cause
  line_of line =
      if scripts.is_blank line || scripts.is_comment line then Ok None
      else if scripts.is_loose line then Err cause.BadLine else words_ask line (spaced_words line)
