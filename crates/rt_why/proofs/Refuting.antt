-- A witness refutes its rule.
use Rattle.std.proofs.Common.{◌≡◌, ℕ, zero, suc, List, [], ◌∷◌, map, Option, Some, None, sym}
use Rattle.std.proofs.Common.{subst, arith}
use Rattle.std.specs.List.{AllByRecursion}
use Rattle.rt_ids.specs.Choice.{IsIn}
use Rattle.rt_ids.specs.declared.ids.Section.{Section}
use Rattle.rt_code.specs.Image.{Image}
use Rattle.rt_code.specs.declared.instr.Instr.{Instr}
use Rattle.rt_code.specs.declared.instr.Note.{Note}
use Rattle.rt_points.specs.Checked.{Keeps}
use Rattle.rt_points.specs.Point.{Point, sections}
use Rattle.rt_points.specs.Rules.{IsOperable, IsNotedWell, Touches, IsContended}
use Rattle.rt_why.specs.Laws.{WitnessesRefute}
use Rattle.rt_why.specs.Witness.{rule_of, IsWitness, KeepsOperand, KeepsNote, IsOutside}
use Rattle.rt_why.specs.declared.witness.OperandPart.{OperandPart}
use Rattle.rt_why.specs.declared.witness.OperandPart.TheVariants as operand
use Rattle.rt_why.specs.declared.witness.NotePart.{NotePart}
use Rattle.rt_why.specs.declared.witness.NotePart.TheVariants as part
use Rattle.rt_why.specs.declared.witness.Uncovered.{Uncovered}
use Rattle.rt_why.specs.declared.witness.Witness.{Witness}
use Rattle.rt_why.specs.declared.witness.Witness.TheVariants as witness

-- the parts of the fourth rule, and of the fifth
operand_kept : (img : Image) (p : Point) (i : Instr) (k : OperandPart) → IsOperable img p i → KeepsOperand img p i k
operand_kept img p i operand.Support is = is.supported
operand_kept img p i operand.Slots is = is.slots
operand_kept img p i operand.Cell is = is.cell
operand_kept img p i operand.End is = is.ends

note_kept : (img : Image) (p : Point) (i : Instr) (told : Option Note) (k : NotePart) → IsNotedWell img p i told
    → KeepsNote img p i told k
note_kept img p i told part.Place is = is.stands
note_kept img p i told part.Note is = is.has
note_kept img p i told part.Saved is = is.unsaved
note_kept img p i told part.Mask is = is.masks

-- none of these sections is open at each touch of the cell
none_guards : (img : Image) (cell : ℕ) (outside : List Uncovered) (x : Section)
    → AllByRecursion (IsOutside img cell) outside
    → ((p : Point) → Touches img cell p → IsIn (sections p.inside) x)
    → IsIn (map (λ o. o.section) outside) x → ⊥
none_guards img cell [] x all each (i, is) = absurd (let e : None ≡ Some x = is in cc)
none_guards img cell (o ∷ outside) x all each (zero, is) =
    let same : o.section ≡ x = let e : Some o.section ≡ Some x = is in cc in
    all.0.free (subst (IsIn (sections o.point.inside)) (sym same) (each o.point all.0.touches))
none_guards img cell (o ∷ outside) x all each (suc i, is) = none_guards img cell outside x all.1 each (i, is)

refutes : (img : Image) (w : Witness) → IsWitness img w → Keeps img (rule_of w) → ⊥
refutes img (witness.Ways p q) is keeps = is.differ (keeps.one p q is.one is.other is.owner is.address)
refutes img (witness.Depth p) is keeps =
    let few = keeps.few p is.point in let many = is.many in absurd (omega (arith, few, many))
refutes img (witness.Numbers i j) is keeps =
    is.apart (keeps.numbers i j is.one is.other is.one_there is.other_there is.number)
refutes img (witness.Value i) is keeps = is.bit (keeps.values i is.row is.handler is.there is.enabled)
refutes img witness.Pairs is keeps = is keeps.stack_pairs
refutes img witness.Large is keeps = let small = keeps.stack_small in absurd (omega (arith, small, is))
refutes img (witness.Stack need) is keeps =
    let same = is.is in let small = is.small in let enough = keeps.stack_enough in
    absurd (omega (arith, same, small, enough))
refutes img (witness.Past p) is keeps =
    let within = keeps p is.point in let past = is.past in absurd (omega (arith, within, past))
refutes img (witness.Operand p k) is keeps =
    is.fails (operand_kept img p is.instr k (keeps p is.instr is.told is.stands))
refutes img (witness.Noted p k) is keeps =
    is.fails (note_kept img p is.instr is.told k (keeps p is.instr is.told is.stands))
refutes img (witness.Again p) is keeps = (keeps p is.instr is.section is.enters).free is.is_open
refutes img (witness.Weak p q) is keeps =
    let holds = (keeps p is.instr is.section is.enters).others q is.other is.outside is.other_enters in
    let weak = is.weak in absurd (omega (arith, holds, weak))
refutes img (witness.Guard u) is keeps =
    let contended : IsContended img u.cell = record {
      storer = u.storer;
      stored = is.stored;
      is_store = is.is_store;
      one = u.one;
      other = u.other;
      one_touches = is.one;
      other_touches = is.other;
      differ = is.differ;
    } in
    let guard = keeps u.cell contended in
    none_guards img u.cell u.outside.items guard.0 is.outside.all guard.1
    (subst (λ (xs : List Section). IsIn xs guard.0) (sym is.outside.each) (guard.1 u.one is.one))

pub witnesses_refute : WitnessesRefute
witnesses_refute = record {
  rule = refutes;
  checked = λ img w is checked. refutes img w is (checked (rule_of w));
}
