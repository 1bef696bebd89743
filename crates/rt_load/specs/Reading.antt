-- Which bytes are the listing of a loadable image, and which is the first wrong line of bytes that are not: the lines
-- before it begin some listing, and with it they begin none. The form of listings is this project's own. No line is
-- read here: whether a line is wrong is said by the listings that there are, and the code decides it by reading.
use Rattle.std.specs.Prelude.{◌≡◌, ◌≢◌, ℕ, suc, ◌≤◌, ◌<◌, true, List, [], ◌∷◌, ◌++◌, length, map, flat_map, Option}
use Rattle.std.specs.Prelude.{None}
use Rattle.std.specs.List.{AllByRecursion}
use Rattle.rt_lines.specs.Parts.{line_with_feed}
use Rattle.rt_ids.specs.Lists.{AreDifferent}
use Rattle.rt_ids.specs.Names.{Names}
use Rattle.rt_ids.specs.Word.{is_identifier}
use Rattle.rt_code.specs.Image.{Image}
use Rattle.rt_code.specs.Listable.{HasInstr, HasNote}
use Rattle.rt_code.specs.declared.instr.Instr.{Instr}
use Rattle.rt_code.specs.declared.instr.Instr.TheVariants as instr
use Rattle.rt_code.specs.declared.instr.Note.{Note}
use Rattle.rt_listing.specs.Listing.{code_line, listing}
use Rattle.rt_load.specs.Loadable.{IsLineWithin, IsLoadable}
use Rattle.rt_load.specs.declared.refusal.TheConstants.{IMAGE_BYTES}
use Rattle.rt_load.specs.declared.refusal.LoadRefused.{LoadRefused}
use Rattle.rt_load.specs.declared.refusal.LoadRefused.TheVariants as refused

-- these bytes are the listing of this image, which is loadable
pub record IsListingText (text : List ℕ) (img : Image) : Type 0 where
  pub short : length text ≤ IMAGE_BYTES
  pub loadable : IsLoadable img
  pub is : listing img ≡ text

-- the listing of some loadable image begins so, however long it is
pub record IsViablePrefix (front : List ℕ) : Type 0 where
  pub image : Image
  pub loadable : IsLoadable image
  pub behind : List ℕ
  pub is : listing image ≡ front ++ behind

-- bytes without a line feed, as one line
abbrev pub IsOneLine : List ℕ → Type 0
IsOneLine line = AllByRecursion (λ byte. byte ≢ 10) line

-- tables that go on where these end: what they name besides is of the form of a name, whatever its length and
-- whether or not it is a word of the language, and stands in them once
pub record AreMore (names more : Names) : Type 0 where
  pub irqs : List (List ℕ × ℕ)
  pub tasks : List (List ℕ)
  pub shared : List (List ℕ)
  pub irqs_are : more.irqs ≡ names.irqs ++ irqs
  pub tasks_are : more.tasks ≡ names.tasks ++ tasks
  pub shared_are : more.shared ≡ names.shared ++ shared
  pub irqs_named : AllByRecursion (λ irq. is_identifier irq.0 ≡ true) irqs
  pub tasks_named : AllByRecursion (λ name. is_identifier name ≡ true) tasks
  pub shared_named : AllByRecursion (λ name. is_identifier name ≡ true) shared
  pub irqs_differ : AreDifferent (map (λ irq. irq.0) more.irqs)
  pub tasks_differ : AreDifferent more.tasks
  pub shared_differ : AreDifferent more.shared

-- All that is wrong with a line behind this front is that a name in it is in no table: an instruction may stand here,
-- and over tables that name more the line would be that of one.
pub record IsOfUnknownName (front line : List ℕ) : Type 0 where
  pub image : Image
  pub loadable : IsLoadable image
  pub address : ℕ
  pub behind : List ℕ
  -- some listing goes on with a `mark` at this address, where any other instruction could stand
  pub goes_on : listing image ≡ front ++ code_line image.names address (instr.Mark, None) ++ behind
  pub names : Names
  pub more : AreMore image.names names
  pub code : Instr × Option Note
  pub within : IsLineWithin code
  pub has_instr : HasInstr names code.0
  pub has_note : HasNote names code.1
  pub line_is : code_line names address code ≡ line_with_feed line

-- what is wrong with a line
pub data Fault : Type 0 where
  Form : Fault
  -- nothing but that a name in it is in no table
  Name : Fault

-- what is wrong with a line behind this front: a name alone, or not that
abbrev pub IsFault : List ℕ → List ℕ → Fault → Type 0
IsFault front line Name = IsOfUnknownName front line
IsFault front line Form = ¬ IsOfUnknownName front line

-- What is wrong behind this front with a line that this follows. Where nothing follows, the line lacks its line feed
-- or is missing, and the bytes are no listing; else the line goes on no listing.
abbrev pub IsWrong : List ℕ → List ℕ → List ℕ → Fault → Type 0
IsWrong front line [] fault = (fault ≡ Form) × (¬ ((img : Image) × IsLoadable img × (listing img ≡ front ++ line)))
IsWrong front line (b ∷ behind) fault = (b ≡ 10) × (¬ IsViablePrefix (front ++ line_with_feed line))
    × IsFault front line fault

-- the first wrong line of these bytes has this number, from 1, and this fault
pub record IsFirstWrongLine (text : List ℕ) (number : ℕ) (fault : Fault) : Type 0 where
  pub short : length text ≤ IMAGE_BYTES
  pub before : List (List ℕ)
  pub line : List ℕ
  pub behind : List ℕ
  pub is : text ≡ flat_map line_with_feed before ++ line ++ behind
  pub are_lines : AllByRecursion IsOneLine before
  pub is_line : IsOneLine line
  pub number_is : number ≡ suc (length before)
  pub begins : IsViablePrefix (flat_map line_with_feed before)
  pub wrong : IsWrong (flat_map line_with_feed before) line behind fault

-- the refusal of bytes; want of memory has no cause in them
abbrev pub IsListingRefused : List ℕ → LoadRefused → Type 0
IsListingRefused text refused.TooLong = IMAGE_BYTES < length text
IsListingRefused text (refused.BadLine number) = IsFirstWrongLine text number Form
IsListingRefused text (refused.UnknownName number) = IsFirstWrongLine text number Name
IsListingRefused text refused.NoMemory = Unit {0}
