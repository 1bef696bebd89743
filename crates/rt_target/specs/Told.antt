-- What a text of a board tells, put without an order of tests: each line is skipped, names an input, or says something
-- of the chip; and all together are inputs, none twice, and facts that can come one behind the other. So nothing else
-- is refused, and nothing else is read.
use Rattle.std.specs.Prelude.{◌≡◌, ◌⊎◌, ◌↔◌, ◌≤◌, ◌||◌, true, false, codes, ℕ, List, [], ◌∷◌, length, Some}
use Rattle.std.specs.Str.Lines.{lines}
use Rattle.rt_ids.specs.Names.{irq_of}
use Rattle.rt_ids.specs.Word.{is_identifier}
use Rattle.rt_ids.specs.declared.limits.TheConstants.{SCRIPT_BYTES}
use Rattle.rt_lines.specs.Parts.{spaced_words}
use Rattle.rt_script.specs.Wording.{is_blank, is_comment, is_loose}
use Rattle.rt_app.specs.Tree.{App}
use Rattle.rt_app.specs.Accepted.{IsAccepted}
use Rattle.rt_app.specs.Names.{names_of}
use Rattle.rt_board.specs.Board.{Board, no_board, with_input, AreInputs}
use Rattle.rt_board.specs.Told.{IsSkipped, NamesInput, Adds}
use Rattle.rt_board.specs.declared.board.Input.{Input}
use Rattle.rt_given.specs.Wording.{input_named}
use Rattle.rt_target.specs.Chip.{CanFollow, AreFacts}
use Rattle.rt_target.specs.Reading.{IsSetupOf}
use Rattle.rt_target.specs.Setup.{Setup, with_board, with_fact}
use Rattle.rt_target.specs.Wording.{number_spelled}
use Rattle.rt_target.specs.declared.fact.Fact.{Fact}
use Rattle.rt_target.specs.declared.fact.Fact.TheVariants.{Flash, Ram, Port, Tick, Bits, Word, Call}

-- the words of a line that is not skipped, and no space stands before the first or behind the last
pub record HasWords (line : List ℕ) (words : List (List ℕ)) : Type 0 where
  pub words_are : spaced_words line ≡ words
  pub tight : is_loose line ≡ false
  pub said : (is_blank line || is_comment line) ≡ false

-- the words spell numbers
abbrev pub Spells : List ℕ → ℕ → Type 0
Spells word n = number_spelled word ≡ Some n

-- the name is one of an interrupt of the application with this number
abbrev pub NamesIrq : App → List ℕ → ℕ → Type 0
NamesIrq app name irq = (is_identifier name ≡ true) × (irq_of (names_of app) name ≡ Some irq)

-- the name is one of an input of the board that is this local resource
abbrev pub NamesLocal : App → Board → List ℕ → ℕ → Type 0
NamesLocal app board name local =
    (is_identifier name ≡ true) × (input_named app.locals board name ≡ Some local)

-- these words say something of the chip, where a board has the inputs that lines before name
abbrev pub SaysFact : App → Board → List (List ℕ) → Fact → Type 0
SaysFact app board words (Flash a n) =
    (x y : List ℕ) × (words ≡ codes "flash" ∷ x ∷ y ∷ []) × Spells x a × Spells y n
SaysFact app board words (Ram a n) =
    (x y : List ℕ) × (words ≡ codes "ram" ∷ x ∷ y ∷ []) × Spells x a × Spells y n
SaysFact app board words (Port a) = (x : List ℕ) × (words ≡ codes "port" ∷ x ∷ []) × Spells x a
SaysFact app board words (Tick n) = (x : List ℕ) × (words ≡ codes "tick" ∷ x ∷ []) × Spells x n
SaysFact app board words (Bits n) = (x : List ℕ) × (words ≡ codes "bits" ∷ x ∷ []) × Spells x n
SaysFact app board words (Word r a) =
    (name x : List ℕ) × (words ≡ codes "word" ∷ name ∷ x ∷ []) × Spells x a × NamesLocal app board name r
SaysFact app board words (Call irq) =
    (name : List ℕ) × (words ≡ codes "call" ∷ name ∷ []) × NamesIrq app name irq

-- a line does
abbrev pub TellsFact : App → Board → List ℕ → Fact → Type 0
TellsFact app board line fact =
    (words : List (List ℕ)) × HasWords line words × SaysFact app board words fact

-- a fact that a line tells, and that can come behind others, and what is told with it
abbrev pub AddsFact : App → Setup → List ℕ → Setup → Type 0
AddsFact app setup line u = (fact : Fact) × (u ≡ with_fact setup fact) × CanFollow app setup.facts fact
    × TellsFact app setup.board line fact

-- an input that a line names, and what is told with it
abbrev pub AddsInput : App → Setup → List ℕ → Setup → Type 0
AddsInput app setup line u = (board : Board) × (u ≡ with_board setup board) × Adds app setup.board line board

-- what is told behind a line
abbrev pub ComesBehind : App → Setup → List ℕ → Setup → Type 0
ComesBehind app setup line u =
    (IsSkipped line × (u ≡ setup)) ⊎ (AddsInput app setup line u ⊎ AddsFact app setup line u)

-- lines name these inputs and say this of the chip, in order, behind those that name the inputs of a board
abbrev pub TellLines : App → Board → List (List ℕ) → List Input → List Fact → Type 0
TellLines app board [] inputs facts = (inputs ≡ []) × (facts ≡ [])
TellLines app board (line ∷ ls) inputs facts =
    (IsSkipped line × TellLines app board ls inputs facts)
    ⊎ (((input : Input) × (more : List Input) × (inputs ≡ input ∷ more) × NamesInput app line input
    × TellLines app (with_input board input) ls more facts)
    ⊎ ((fact : Fact) × (more : List Fact) × (facts ≡ fact ∷ more) × TellsFact app board line fact
    × TellLines app board ls inputs more))

-- a text that is not too long, whose lines tell this
pub record NamesSetup (app : App) (text : List ℕ) (setup : Setup) : Type 0 where
  pub short : length text ≤ SCRIPT_BYTES
  pub lines : TellLines app no_board (lines text) setup.board.inputs setup.facts
  pub inputs : AreInputs app setup.board.inputs
  pub facts : AreFacts app setup.facts

-- What is read is what the lines tell, and each text whose lines tell something is read.
abbrev pub SetupsAreNamed : Type 0
SetupsAreNamed = (app : App) → IsAccepted app → (text : List ℕ) (setup : Setup)
    → IsSetupOf app text setup ↔ NamesSetup app text setup
