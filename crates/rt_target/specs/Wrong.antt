-- What each refusal says of its line, put without an order of tests. The causes stand in the order of their numbers,
-- and each says also that those before it do not hold, so that a line has one cause.
use Rattle.std.specs.Prelude.{◌≡◌, ◌⊎◌, ℕ, suc, true, false, codes, List, [], ◌∷◌, ◌++◌, length, Some, None}
use Rattle.std.specs.List.{list_any}
use Rattle.std.specs.Str.Lines.{lines}
use Rattle.rt_ids.specs.Names.{irq_of}
use Rattle.rt_ids.specs.Word.{is_identifier}
use Rattle.rt_lines.specs.Reading.{IsFirstWrong}
use Rattle.rt_app.specs.Tree.{App}
use Rattle.rt_app.specs.Names.{names_of}
use Rattle.rt_board.specs.Board.{no_board, AreInputs}
use Rattle.rt_board.specs.Wrong as inputs
use Rattle.rt_board.specs.declared.refusal.Cause.TheVariants as board_cause
use Rattle.rt_given.specs.Wording.{input_named}
use Rattle.rt_target.specs.Chip.{says_same, is_in_range, overlap, has_too_few_bits, calls_for_none, AreFacts}
use Rattle.rt_target.specs.Reading.{wanting, setup_reader, target_reader}
use Rattle.rt_target.specs.Setup.{Setup}
use Rattle.rt_target.specs.Told.{HasWords, Spells, TellsFact, TellLines}
use Rattle.rt_target.specs.Wording.{name_of}
use Rattle.rt_target.specs.declared.fact.Fact.{Fact}
use Rattle.rt_target.specs.declared.line.Form.{Form}
use Rattle.rt_target.specs.declared.line.Form.TheVariants as form
use Rattle.rt_target.specs.declared.refusal.Cause.{Cause}
use Rattle.rt_target.specs.declared.refusal.Cause.TheVariants as cause

-- words that spell one number, or two
abbrev pub IsNumber : List (List ℕ) → Type 0
IsNumber words = (x : List ℕ) × (n : ℕ) × (words ≡ x ∷ []) × Spells x n

abbrev pub AreNumbers : List (List ℕ) → Type 0
AreNumbers words = (x y : List ℕ) × (n m : ℕ) × (words ≡ x ∷ y ∷ []) × Spells x n × Spells y m

-- the words behind the first are right in form
abbrev pub AreOf : Form → List (List ℕ) → Type 0
AreOf form.Flash words = AreNumbers words
AreOf form.Ram words = AreNumbers words
AreOf form.Port words = IsNumber words
AreOf form.Tick words = IsNumber words
AreOf form.Bits words = IsNumber words
AreOf form.Word words =
    (name x : List ℕ) × (n : ℕ) × (words ≡ name ∷ x ∷ []) × (is_identifier name ≡ true) × Spells x n
AreOf form.Call words = (name : List ℕ) × (words ≡ name ∷ []) × (is_identifier name ≡ true)

-- these words are of a form that says something of the chip
abbrev pub IsForm : List (List ℕ) → Type 0
IsForm words = (f : Form) × (rest : List (List ℕ)) × (words ≡ name_of f ∷ rest) × AreOf f rest

module _ (app : App) where
  -- what is wrong with a line behind lines that tell this; the last causes are not a line's
  abbrev pub IsFaulty : Setup → List ℕ → Cause → Type 0
  IsFaulty setup line cause.BadLine =
      inputs.IsWrong app setup.board.inputs line board_cause.BadLine
      × ((words : List (List ℕ)) → HasWords line words → ¬ IsForm words)
  IsFaulty setup line cause.UnknownTask = inputs.IsWrong app setup.board.inputs line board_cause.UnknownTask
  IsFaulty setup line cause.SoftwareTask = inputs.IsWrong app setup.board.inputs line board_cause.SoftwareTask
  IsFaulty setup line cause.UnknownLocal = inputs.IsWrong app setup.board.inputs line board_cause.UnknownLocal
  IsFaulty setup line cause.LocalOfAnother = inputs.IsWrong app setup.board.inputs line board_cause.LocalOfAnother
  IsFaulty setup line cause.NamedTwice =
      inputs.IsWrong app setup.board.inputs line board_cause.NamedTwice
      ⊎ ((fact : Fact) × TellsFact app setup.board line fact
      × (list_any (says_same fact) setup.facts ≡ true))
  IsFaulty setup line cause.UnknownInterrupt =
      (name : List ℕ) × HasWords line (codes "call" ∷ name ∷ []) × (is_identifier name ≡ true)
      × (irq_of (names_of app) name ≡ None)
  IsFaulty setup line cause.UnknownInput =
      (name x : List ℕ) × (a : ℕ) × HasWords line (codes "word" ∷ name ∷ x ∷ []) × (is_identifier name ≡ true)
      × Spells x a × (input_named app.locals setup.board name ≡ None)
  IsFaulty setup line cause.OutOfRange =
      (fact : Fact) × TellsFact app setup.board line fact
      × (list_any (says_same fact) setup.facts ≡ false) × (is_in_range fact ≡ false)
  IsFaulty setup line cause.Overlap =
      (fact : Fact) × TellsFact app setup.board line fact
      × (list_any (says_same fact) setup.facts ≡ false) × (is_in_range fact ≡ true)
      × (list_any (overlap fact) setup.facts ≡ true)
  IsFaulty setup line cause.TooFewBits =
      (fact : Fact) × TellsFact app setup.board line fact
      × (list_any (says_same fact) setup.facts ≡ false) × (is_in_range fact ≡ true)
      × (list_any (overlap fact) setup.facts ≡ false) × (has_too_few_bits app.bits fact ≡ true)
  IsFaulty setup line cause.UnboundInterrupt =
      (fact : Fact) × TellsFact app setup.board line fact
      × (list_any (says_same fact) setup.facts ≡ false) × (is_in_range fact ≡ true)
      × (list_any (overlap fact) setup.facts ≡ false) × (has_too_few_bits app.bits fact ≡ false)
      × (calls_for_none app fact ≡ true)
  IsFaulty setup line c = ⊥

  -- what is told behind lines
  pub record IsTold (ls : List (List ℕ)) (setup : Setup) : Type 0 where
    pub lines : TellLines app no_board ls setup.board.inputs setup.facts
    pub inputs : AreInputs app setup.board.inputs
    pub facts : AreFacts app setup.facts

  -- the line of this number is wrong for this cause, behind lines that tell something
  pub record IsWrongLine (text : List ℕ) (number : ℕ) (c : Cause) : Type 0 where
    pub before : List (List ℕ)
    pub line : List ℕ
    pub behind : List (List ℕ)
    pub parts : lines text ≡ before ++ line ∷ behind
    pub number_is : number ≡ suc (length before)
    pub setup : Setup
    pub told : IsTold before setup
    pub wrong : IsFaulty setup line c

  -- the text tells something in which a thing is missing; the number is that of the line behind the last
  pub record IsWanting (text : List ℕ) (number : ℕ) (c : Cause) : Type 0 where
    pub number_is : number ≡ suc (length (lines text))
    pub setup : Setup
    pub told : IsTold (lines text) setup
    pub wanting : wanting setup.facts ≡ Some c

-- A text is refused at a line that is wrong for the cause that is told; and where a program is to be made, also behind
-- the last line, where a thing is missing.
pub record RefusedLinesAreWrong : Type 0 where
  pub line :
      (app : App) (text : List ℕ) (n : ℕ) (c : Cause) → IsFirstWrong (setup_reader app) text n c
      → IsWrongLine app text n c
  pub target :
      (app : App) (text : List ℕ) (n : ℕ) (c : Cause) → IsFirstWrong (target_reader app) text n c
      → IsWrongLine app text n c ⊎ IsWanting app text n c
