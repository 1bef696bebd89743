-- The mailboxes of a script beside devices: one for each device and each interrupt for which the device gives words, in
-- a thread of its own. It is this project's own. So a thread gives through one mailbox alone, and a thread that pends
-- in the row of pending words gives nothing; the core alone looks into all of them.
use Rattle.std.specs.Prelude.{ℕ, ◌==◌, ◌&&◌, Bool, if◌then◌else◌, List, [], ◌∷◌, ◌++◌, flat_map, fold}
use Rattle.std.specs.List.{list_any}
use Rattle.rt_script.specs.declared.line.Line.{Line}
use Rattle.rt_given.specs.Given.{asked_line}
use Rattle.rt_given.specs.Words.{words_asked}
use Rattle.rt_given.specs.declared.line.GivenLine.{GivenLine}
use Rattle.rt_given.specs.declared.line.GivenLine.TheVariants.{Counts, Draws}
use Rattle.rt_live_inputs.specs.declared.boxes.BoxKind.{BoxKind as Box}

-- the mailbox through which the device of a line gives, where the line asks for words
abbrev pub box_of : GivenLine → List Box
box_of (Counts d irq n local first) = record { device = d; irq = irq; local = local } ∷ []
box_of (Draws d irq n local seed) = record { device = d; irq = irq; local = local } ∷ []
box_of line = []

-- two mailboxes of one device and one interrupt are one: the interrupt tells the local resource
abbrev pub is_same : Box → Box → Bool
is_same a b = (a.device == b.device) && (a.irq == b.irq)

-- these mailboxes with one more, where it is not among them
abbrev pub with_box : List Box → Box → List Box
with_box boxes box = if list_any (is_same box) boxes then boxes else boxes ++ box ∷ []

-- the mailboxes of a script, by the first line of each
abbrev pub boxes : List GivenLine → List Box
boxes script = fold with_box [] (flat_map box_of script)

-- the words that a line has its device give through this mailbox
abbrev pub line_words : Box → GivenLine → List ℕ
line_words box line = if list_any (is_same box) (box_of line) then words_asked line else []

-- the words that a script has given through this mailbox, in order
abbrev pub words_through : List GivenLine → Box → List ℕ
words_through script box = flat_map (line_words box) script

-- the lines of the script that ask for no words: those of the core, and those of devices that pend in the row
abbrev pub plain_line : GivenLine → List Line
plain_line (Counts d irq n local first) = []
plain_line (Draws d irq n local seed) = []
plain_line line = asked_line line

-- the lines of the script that ask for no words, in order: the script of the row without mailboxes
abbrev pub plain : List GivenLine → List Line
plain script = flat_map plain_line script
