-- Words of operands are short.
use Rattle.std.proofs.Common.{◌≡◌, ◌≤◌, ◌^◌, ◌*◌, ◌+◌, ◌==◌, ℕ, zero, suc, Bool, true, List, [], ◌∷◌, length, map}
use Rattle.std.proofs.Common.{Option, Some, None, option_map, refl, arith, slice_index_or, length-append}
use Rattle.std.specs.List.{AllByRecursion}
use Rattle.std.specs.Option.{unwrap_or}
use Rattle.std.proofs.lemmas.Bool.{leb-true}
use Rattle.std.proofs.lemmas.Fmt.{length-decimal-le}
use Rattle.rt_lemmas.proofs.Lists.{find_has}
use Rattle.rt_ids.specs.declared.limits.TheConstants.{NAME_BYTES}
use Rattle.rt_ids.specs.declared.ids.BodyId.TheVariants as body
use Rattle.rt_ids.specs.declared.ids.Section.{Section}
use Rattle.rt_ids.specs.declared.ids.Section.TheVariants as section
use Rattle.rt_ids.specs.Names.{Names, AreNames}
use Rattle.rt_ids.specs.Naming.{irq_named, irq_name, task_name, resource_name, section_name}
use Rattle.rt_ids.specs.Word.{IsName}
use Rattle.rt_lines.specs.Operand.{OperandKind, Number, IrqName, FirstIrqName, TaskName, BodyName, LockName, QueueName}
use Rattle.rt_lines.specs.Operand.{SectionName, OperandValue}
use Rattle.rt_lines.specs.Operand.{HasWord, IsSection, word}
use Rattle.rt_lines.specs.Table.{Operand, IsWritten, Number32, operand_word, spaced_text, is_plain}
use Rattle.rt_lines.proofs.Told.{IsPlain}

-- the most bytes of words of a kind: a number has ten digits at most, a name 32 bytes, and `free.` stands before a
-- queue's task
abbrev pub width : OperandKind → ℕ
width (Number bound) = 10
width QueueName = 37
width SectionName = 37
width name = NAME_BYTES

-- the most bytes of words of these operands, each with a space in front
abbrev pub widths : List Operand → ℕ
widths [] = 0
widths (o ∷ os) = suc (width o.0 + widths os)

found_short : (found : Option (List ℕ × ℕ)) → ((irq : List ℕ × ℕ) → found ≡ Some irq → IsName irq.0)
    → length (unwrap_or (option_map (λ irq. irq.0) found) []) ≤ NAME_BYTES
found_short None named = omega arith
found_short (Some irq) named = let name = named irq refl in name.short

pub irq_name_short : (names : Names) (number : ℕ) → AreNames names → length (irq_name names number) ≤ NAME_BYTES
irq_name_short names number are = found_short (irq_named names number)
    (λ irq found. find_has (λ irq. IsName irq.0) (λ irq. irq.1 == number) names.irqs irq are.irqs found)

at_short : (texts : List (List ℕ)) (index : ℕ) → AllByRecursion IsName texts
    → length (slice_index_or texts index []) ≤ NAME_BYTES
at_short [] index all = omega arith
at_short (x ∷ texts) zero all = let name = all.0 in name.short
at_short (x ∷ texts) (suc index) all = at_short texts index all.1

pub task_name_short : (names : Names) (task : ℕ) → AreNames names → length (task_name names task) ≤ NAME_BYTES
task_name_short names task are = at_short names.tasks task are.tasks

pub resource_name_short : (names : Names) (resource : ℕ) → AreNames names
    → length (resource_name names resource) ≤ NAME_BYTES
resource_name_short names resource are = at_short names.shared resource are.shared

section_short : (names : Names) (x : Section) → AreNames names → IsSection names x → length (section_name names x) ≤ 37
section_short names (section.Res r) are h = omega (arith, resource_name_short names r are)
section_short names (section.Free t) are h = omega (arith, task_name_short names t are)
section_short names (section.Ready p) are h =
    omega (arith, length-decimal-le 3 p (omega arith) (omega (arith, h)) (omega (arith, h)))
section_short names section.Timer are h = omega arith

word_short : (names : Names) (own : Bool) (k : OperandKind) (v : OperandValue k) → is_plain own k ≡ true
    → AreNames names
    → HasWord names k v
    → length (word names k v) ≤ width k
word_short names own (Number bound) n plain are h =
    let few : bound ≤ 2 ^ 32 = leb-true bound (2 ^ 32) plain in
    length-decimal-le 10 n (omega arith) (omega (arith, few, h)) (omega (arith, few, h))
word_short names own IrqName irq plain are h = irq_name_short names irq are
word_short names own FirstIrqName irq plain are h = irq_name_short names irq are
word_short names own TaskName t plain are h = task_name_short names t are
word_short names own BodyName body.Init plain are h = omega arith
word_short names own BodyName body.Idle plain are h = omega arith
word_short names own BodyName (body.Task t) plain are h = task_name_short names t are
word_short names own LockName (section.Res r) plain are h = resource_name_short names r are
word_short names own LockName queue plain are h = absurd h
word_short names own QueueName (section.Res r) plain are h = absurd h
word_short names own QueueName queue plain are h = section_short names queue are h
word_short names own SectionName x plain are h = section_short names x are h

pub operand_short : (names : Names) (own : Bool) (o : Operand) → IsPlain own o → AreNames names → IsWritten names o
    → length (operand_word names o) ≤ width o.0
operand_short names own o plain are written = word_short names own o.0 o.1 plain are written

pub operands_short : (names : Names) (own : Bool) (os : List Operand) → AllByRecursion (IsPlain own) os → AreNames names
    → AllByRecursion (IsWritten names) os → length (spaced_text (map (operand_word names) os)) ≤ widths os
operands_short names own [] plain are written = omega arith
operands_short names own (o ∷ os) plain are written =
    omega (
      arith,
      operand_short names own o plain.0 are written.0,
      operands_short names own os plain.1 are written.1,
      length-append (operand_word names o) (spaced_text (map (operand_word names) os)),
    )

pub numbers_width : (ns : List ℕ) → widths (map (λ n. (Number32, n)) ns) ≡ 11 * length ns
numbers_width [] = omega arith
numbers_width (n ∷ ns) = omega (arith, numbers_width ns)
