-- The text of an answer: `yes`, or `no` with the number of the least broken rule, a line that says what fails, and
-- lines for the points of the witness. A point's line has a word, whose code runs there, the address, and the
-- instruction with its note as the listing has them; behind it stands a line for each open section, innermost first.
-- The form is this project's own.
use Rattle.std.specs.Prelude.{ℕ, List, [], ◌∷◌, ◌++◌, codes, decimal, flat_map, option_map, unwrap_or, slice_get}
use Rattle.std.specs.Prelude.{Option, Some, None}
use Rattle.rt_ids.specs.Naming.{section_name}
use Rattle.rt_code.specs.Image.{Image}
use Rattle.rt_code.specs.declared.instr.Instr.{Instr}
use Rattle.rt_code.specs.declared.instr.Note.{Note}
use Rattle.rt_listing.specs.Listing.{line}
use Rattle.rt_listing.specs.Words.{instr_words, noted_words}
use Rattle.rt_points.specs.Checked.{rule_number}
use Rattle.rt_points.specs.ExecutionPriority.{owner_value, execution_priority, lowered_value}
use Rattle.rt_points.specs.Leading.{kind_of}
use Rattle.rt_points.specs.Point.{Point}
use Rattle.rt_points.specs.declared.point.Owner.{Owner}
use Rattle.rt_points.specs.declared.point.Owner.TheVariants.{Starting, Thread, Handling}
use Rattle.rt_points.specs.declared.point.SectionKind.{SectionKind}
use Rattle.rt_points.specs.declared.point.SectionKind.TheVariants.{Mark, Raise, Mask}
use Rattle.rt_points.specs.declared.point.Opened.{Opened}
use Rattle.rt_why.specs.Witness.{rule_of}
use Rattle.rt_why.specs.declared.witness.OperandPart.{OperandPart}
use Rattle.rt_why.specs.declared.witness.OperandPart.TheVariants as operand
use Rattle.rt_why.specs.declared.witness.NotePart.{NotePart}
use Rattle.rt_why.specs.declared.witness.NotePart.TheVariants as part
use Rattle.rt_why.specs.declared.witness.Uncovered.{Uncovered}
use Rattle.rt_why.specs.declared.witness.Unguarded.{Unguarded}
use Rattle.rt_why.specs.declared.witness.Witness.{Witness}
use Rattle.rt_why.specs.declared.witness.Witness.TheVariants as witness
use Rattle.rt_why.specs.declared.witness.Why.{Why}
use Rattle.rt_why.specs.declared.witness.Why.TheVariants as answer

-- the name of the interrupt of a row
abbrev pub row_name : Image → ℕ → List ℕ
row_name img index = unwrap_or (option_map (λ row. row.name) (slice_get img.irqs index)) []

-- whose code runs
abbrev pub owner_words : Image → Owner → List (List ℕ)
owner_words img Starting = codes "init" ∷ []
owner_words img Thread = codes "thread" ∷ []
owner_words img (Handling index) = codes "handler" ∷ row_name img index ∷ []

-- how an open section holds others off: the instruction on which it was entered
abbrev pub kind_words : SectionKind → List (List ℕ)
kind_words Mark = codes "mark" ∷ []
kind_words (Raise slot value) = codes "raise" ∷ decimal slot ∷ decimal value ∷ []
kind_words (Mask slot) = codes "mask" ∷ decimal slot ∷ []

-- the line of an open section
abbrev pub open_line : Image → Opened → List ℕ
open_line img o = line (codes "open") (section_name img.names o.section ∷ kind_words o.kind)

-- the instruction and its note, where there is one
abbrev pub line_words : Image → Option (Instr × Option Note) → List (List ℕ)
line_words img None = []
line_words img (Some code) = instr_words img.names code.0 ++ noted_words img.names code.1

-- the instruction and its note at an address
abbrev pub words_at : Image → ℕ → List (List ℕ)
words_at img address = line_words img (slice_get img.code address)

-- the words of a point: who runs there, where, and what stands there
abbrev pub point_words : Image → Point → List (List ℕ)
point_words img p = owner_words img p.owner ++ decimal p.address ∷ words_at img p.address

-- a line for each open section of a point, innermost first
abbrev pub open_lines : Image → Point → List ℕ
open_lines img p = flat_map (open_line img) p.inside

-- the lines of a point, the first with this word in front
abbrev pub point_text : Image → List ℕ → Point → List ℕ
point_text img word p = line word (point_words img p) ++ open_lines img p

-- the lines of a point at which a section is not open
abbrev pub outside_text : Image → Uncovered → List ℕ
outside_text img o =
    line (codes "without") (section_name img.names o.section ∷ point_words img o.point) ++ open_lines img o.point

-- the word of a part of the fourth rule
abbrev pub operand_word : OperandPart → List ℕ
operand_word operand.Support = codes "support"
operand_word operand.Slots = codes "slots"
operand_word operand.Cell = codes "cell"
operand_word operand.End = codes "end"

-- the word of a part of the fifth rule
abbrev pub note_word : NotePart → List ℕ
note_word part.Place = codes "place"
note_word part.Note = codes "note"
note_word part.Saved = codes "saved"
note_word part.Mask = codes "mask"

-- what fails at a point, and the point
abbrev pub part_text : Image → List ℕ → Point → List ℕ
part_text img word p = line word [] ++ point_text img (codes "point") p

-- two ways to a point
abbrev pub ways_text : Image → Point → Point → List ℕ
ways_text img p q = part_text img (codes "ways") p ++ point_text img (codes "other") q

-- two rows of one number
abbrev pub numbers_text : Image → ℕ → ℕ → List ℕ
numbers_text img i j = line (codes "numbers") (row_name img i ∷ row_name img j ∷ [])

-- a row whose priority value has a bit that is not implemented
abbrev pub value_text : Image → ℕ → List ℕ
value_text img i = line (codes "value") (row_name img i ∷ [])

-- a fault of the stack's size
abbrev pub stack_text : Image → List ℕ → List ℕ
stack_text img word = line word (decimal img.stack_bytes ∷ [])

-- the stack's size, and what it needs
abbrev pub need_text : Image → ℕ → List ℕ
need_text img need = line (codes "stack") (decimal img.stack_bytes ∷ decimal need ∷ [])

-- how an instruction lowers the execution priority that there is before it, as a priority value
abbrev pub value_by : Option (Instr × Option Note) → ℕ → ℕ
value_by None value = value
value_by (Some code) value = lowered_value (kind_of code.0) value

-- the execution priority behind the instruction at a point that enters a section, as a priority value
abbrev pub value_behind : Image → Point → ℕ
value_behind img p = value_by (slice_get img.code p.address) (execution_priority img p.owner p.inside)

-- two points that enter a section: the execution priority inside at the first, and the priority value of the other
abbrev pub weak_text : Image → Point → Point → List ℕ
weak_text img p q =
    line (codes "weak") (decimal (value_behind img p) ∷ decimal (owner_value img q.owner) ∷ [])
    ++ point_text img (codes "point") p ++ point_text img (codes "other") q

-- the name of a cell
abbrev pub cell_name : Image → ℕ → List ℕ
cell_name img cell = unwrap_or (option_map (λ row. row.name) (slice_get img.cells cell)) []

-- a cell by its number and its name
abbrev pub cell_text : Image → ℕ → List ℕ
cell_text img cell = line (codes "guard") (decimal cell ∷ cell_name img cell ∷ [])

-- a cell that no section guards
abbrev pub guard_text : Image → Unguarded → List ℕ
guard_text img u =
    cell_text img u.cell ++ point_text img (codes "store") u.storer ++ point_text img (codes "point") u.one
    ++ point_text img (codes "other") u.other ++ flat_map (outside_text img) u.outside.items

-- the lines of a witness
abbrev pub witness_text : Image → Witness → List ℕ
witness_text img (witness.Ways p q) = ways_text img p q
witness_text img (witness.Depth p) = part_text img (codes "depth") p
witness_text img (witness.Numbers i j) = numbers_text img i j
witness_text img (witness.Value i) = value_text img i
witness_text img witness.Pairs = stack_text img (codes "pairs")
witness_text img witness.Large = stack_text img (codes "large")
witness_text img (witness.Stack need) = need_text img need
witness_text img (witness.Past p) = part_text img (codes "past") p
witness_text img (witness.Operand p k) = part_text img (operand_word k) p
witness_text img (witness.Noted p k) = part_text img (note_word k) p
witness_text img (witness.Again p) = part_text img (codes "again") p
witness_text img (witness.Weak p q) = weak_text img p q
witness_text img (witness.Guard u) = guard_text img u

-- the text of an answer
abbrev pub why_text : Image → Why → List ℕ
why_text img answer.Yes = line (codes "yes") []
why_text img (answer.No w) = line (codes "no") (decimal (rule_number (rule_of w)) ∷ []) ++ witness_text img w
