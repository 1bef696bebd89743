-- Where an image breaks one of the seven rules, in the rules' own words. A witness names points of the image, or a
-- number of its tables, at which the rule fails: a counterexample to it, as a model checker gives one (Clarke, Grumberg
-- and Peled, Model Checking, 1999, section 4.5). Which one of several it is, is not said. The code walks to a point
-- that it looks for.
use Rattle.std.specs.Prelude.{◌≡◌, ◌≢◌, ℕ, ◌%◌, ◌-◌, ◌^◌, ◌<◌, ◌≤◌, true, List, length, map, slice_get, Option}
use Rattle.std.specs.Prelude.{Some}
use Rattle.std.specs.List.{AllByRecursion}
use Rattle.rt_ids.specs.Choice.{IsIn}
use Rattle.rt_ids.specs.declared.ids.Section.{Section}
use Rattle.rt_code.specs.Image.{Image}
use Rattle.rt_code.specs.Operands.{slots_of}
use Rattle.rt_code.specs.declared.image.Handler.{Handler}
use Rattle.rt_code.specs.declared.image.IrqRow.{IrqRow}
use Rattle.rt_code.specs.declared.instr.Instr.{Instr}
use Rattle.rt_code.specs.declared.instr.Note.{Note}
use Rattle.rt_points.specs.Checked.{IsChecked, IsLeastBroken, rule_number}
use Rattle.rt_points.specs.ExecutionPriority.{owner_value, frame_of}
use Rattle.rt_points.specs.Leading.{IsPoint, StandsAt}
use Rattle.rt_points.specs.Point.{Point, sections}
use Rattle.rt_points.specs.declared.point.Owner.TheVariants.{Starting}
use Rattle.rt_points.specs.declared.point.Opened.{Opened}
use Rattle.rt_points.specs.Rules.{is_supported, HasItsCell, touched_cell, MayEnd, StandsOn, HasItsNote, IsUnsaved}
use Rattle.rt_points.specs.Rules.{written_slot, MasksWell, EntersAt, priority_after, Touches, IsStore}
use Rattle.rt_points.specs.Stack.{stack_need}
use Rattle.rt_points.specs.declared.rule.Rule.{Rule}
use Rattle.rt_points.specs.declared.rule.Rule.TheVariants as rule
use Rattle.rt_points.specs.declared.rule.TheConstants.{MOST_OPEN, STACK_BYTES}
use Rattle.rt_why.specs.declared.witness.OperandPart.{OperandPart}
use Rattle.rt_why.specs.declared.witness.OperandPart.TheVariants as operand
use Rattle.rt_why.specs.declared.witness.NotePart.{NotePart}
use Rattle.rt_why.specs.declared.witness.NotePart.TheVariants as part
use Rattle.rt_why.specs.declared.witness.Uncovered.{Uncovered}
use Rattle.rt_why.specs.declared.witness.Unguarded.{Unguarded}
use Rattle.rt_why.specs.declared.witness.Witness.{Witness}
use Rattle.rt_why.specs.declared.witness.Witness.TheVariants as witness
use Rattle.rt_why.specs.declared.witness.Why.{Why}
use Rattle.rt_why.specs.declared.witness.Why.TheVariants as answer

-- the rule that a witness refutes
abbrev pub rule_of : Witness → Rule
rule_of (witness.Ways p q) = rule.Nesting
rule_of (witness.Depth p) = rule.Nesting
rule_of (witness.Numbers i j) = rule.Numbers
rule_of (witness.Value i) = rule.Numbers
rule_of witness.Pairs = rule.Numbers
rule_of witness.Large = rule.Numbers
rule_of (witness.Stack need) = rule.Numbers
rule_of (witness.Past p) = rule.Addresses
rule_of (witness.Operand p k) = rule.Operands
rule_of (witness.Noted p k) = rule.Notes
rule_of (witness.Again p) = rule.Ceilings
rule_of (witness.Weak p q) = rule.Ceilings
rule_of (witness.Guard u) = rule.Guards

-- First rule: an owner comes to an address in two ways, with other sections open.
pub record ComesInTwoWays (img : Image) (p q : Point) : Type 0 where
  pub one : IsPoint img p
  pub other : IsPoint img q
  pub owner : p.owner ≡ q.owner
  pub address : p.address ≡ q.address
  pub differ : p.inside ≢ q.inside

-- First rule: too many sections are open at a point.
pub record IsTooDeep (img : Image) (p : Point) : Type 0 where
  pub point : IsPoint img p
  pub many : MOST_OPEN < length p.inside

-- Second rule: two rows have one interrupt number.
pub record HaveOneNumber (irqs : List IrqRow) (i j : ℕ) : Type 0 where
  pub one : IrqRow
  pub other : IrqRow
  pub one_there : slice_get irqs i ≡ Some one
  pub other_there : slice_get irqs j ≡ Some other
  pub number : one.number ≡ other.number
  pub apart : i ≢ j

-- Second rule: the priority value of an enabled interrupt has a bit that is not implemented.
pub record HasOtherBits (bits : ℕ) (irqs : List IrqRow) (i : ℕ) : Type 0 where
  pub row : IrqRow
  pub there : slice_get irqs i ≡ Some row
  pub handler : Handler
  pub enabled : row.handler ≡ Some handler
  pub bit : handler.value % 2 ^ (8 - bits) ≢ 0

-- Second rule: the stack is smaller than what it needs, which is this.
pub record IsTooSmall (img : Image) (need : ℕ) : Type 0 where
  pub is : need ≡ stack_need img
  pub small : img.stack_bytes < need

-- Third rule: a point has no instruction.
pub record IsPast (img : Image) (p : Point) : Type 0 where
  pub point : IsPoint img p
  pub past : length img.code ≤ p.address

-- an instruction keeps a part of the fourth rule at a point
abbrev pub KeepsOperand : Image → Point → Instr → OperandPart → Type 0
KeepsOperand img p i operand.Support = is_supported i ≡ true
KeepsOperand img p i operand.Slots = AllByRecursion (λ slot. slot < frame_of img p.owner) (slots_of i)
KeepsOperand img p i operand.Cell = HasItsCell (length img.cells) (touched_cell i)
KeepsOperand img p i operand.End = MayEnd p.owner p.inside i

-- Fourth rule: the instruction at a point fails a part of it.
pub record FailsOperand (img : Image) (p : Point) (k : OperandPart) : Type 0 where
  pub instr : Instr
  pub told : Option Note
  pub stands : StandsAt img p instr told
  pub fails : ¬ KeepsOperand img p instr k

-- an instruction and its note keep a part of the fifth rule at a point
abbrev pub KeepsNote : Image → Point → Instr → Option Note → NotePart → Type 0
KeepsNote img p i told part.Place = StandsOn p.owner p.inside told i
KeepsNote img p i told part.Note = HasItsNote i told
KeepsNote img p i told part.Saved = IsUnsaved p.inside (written_slot i)
KeepsNote img p i told part.Mask = MasksWell img p i

-- Fifth rule: the instruction and the note at a point fail a part of it.
pub record FailsNote (img : Image) (p : Point) (k : NotePart) : Type 0 where
  pub instr : Instr
  pub told : Option Note
  pub stands : StandsAt img p instr told
  pub fails : ¬ KeepsNote img p instr told k

-- Sixth rule: a section is entered at a point where it is open.
pub record EntersAgain (img : Image) (p : Point) : Type 0 where
  pub instr : Instr
  pub section : Section
  pub enters : EntersAt img p instr section
  pub is_open : IsIn (sections p.inside) section

-- Sixth rule: a section that is entered at a point does not hold off one that enters it at another, outside `init`.
pub record HoldsNotOff (img : Image) (p q : Point) : Type 0 where
  pub section : Section
  pub instr : Instr
  pub enters : EntersAt img p instr section
  pub other : Instr
  pub other_enters : EntersAt img q other section
  pub outside : q.owner ≢ Starting
  pub weak : owner_value img q.owner < priority_after img p instr section

-- a point outside `init` at which the cell is touched and the section is not open
pub record IsOutside (img : Image) (cell : ℕ) (o : Uncovered) : Type 0 where
  pub touches : Touches img cell o.point
  pub free : ¬ IsIn (sections o.point.inside) o.section

-- for each of these open sections such a point
pub record AreOutside (img : Image) (cell : ℕ) (inside : List Opened) (outside : List Uncovered) : Type 0 where
  pub each : map (λ o. o.section) outside ≡ sections inside
  pub all : AllByRecursion (IsOutside img cell) outside

-- Seventh rule: owners contend for a cell, and none of the sections that are open at one of its touches guards it. So
-- no section does.
pub record IsUnguarded (img : Image) (u : Unguarded) : Type 0 where
  pub stored : Touches img u.cell u.storer
  pub is_store : IsStore stored.access
  pub one : Touches img u.cell u.one
  pub other : Touches img u.cell u.other
  pub differ : owner_value img u.one.owner ≢ owner_value img u.other.owner
  pub outside : AreOutside img u.cell u.one.inside u.outside.items

-- a witness tells where the image breaks its rule
abbrev pub IsWitness : Image → Witness → Type 0
IsWitness img (witness.Ways p q) = ComesInTwoWays img p q
IsWitness img (witness.Depth p) = IsTooDeep img p
IsWitness img (witness.Numbers i j) = HaveOneNumber img.irqs i j
IsWitness img (witness.Value i) = HasOtherBits img.bits img.irqs i
IsWitness img witness.Pairs = img.stack_bytes % 8 ≢ 0
IsWitness img witness.Large = STACK_BYTES < img.stack_bytes
IsWitness img (witness.Stack need) = IsTooSmall img need
IsWitness img (witness.Past p) = IsPast img p
IsWitness img (witness.Operand p k) = FailsOperand img p k
IsWitness img (witness.Noted p k) = FailsNote img p k
IsWitness img (witness.Again p) = EntersAgain img p
IsWitness img (witness.Weak p q) = HoldsNotOff img p q
IsWitness img (witness.Guard u) = IsUnguarded img u

-- the answer: the image is checked; or its least broken rule is the one of a witness
abbrev pub IsWhy : Image → Why → Type 0
IsWhy img answer.Yes = IsChecked img
IsWhy img (answer.No w) = IsLeastBroken img (rule_number (rule_of w)) × IsWitness img w
