-- How long a listing gets.
use Rattle.std.proofs.Common.{ℕ, suc, ◌+◌, ◌*◌, ◌≤◌, Bool, true, false, List, [], ◌∷◌}
use Rattle.std.proofs.Common.{◌++◌, length, map, codes, decimal, Option, Some, None, Contains, ap}
use Rattle.std.proofs.Common.{arith, length-append}
use Rattle.std.specs.List.{AllByRecursion}
use Rattle.std.proofs.lemmas.List.Concat.{flat_map-append}
use Rattle.rt_lemmas.proofs.Membership.{all_has}
use Rattle.rt_lemmas.proofs.Texts.{decimal_few}
use Rattle.rt_ids.specs.Names.{Names, AreNames}
use Rattle.rt_ids.specs.Naming.{section_name, task_name}
use Rattle.rt_ids.specs.Word.{IsName}
use Rattle.rt_ids.specs.declared.cell.CellRow.{CellRow}
use Rattle.rt_ids.specs.declared.ids.BodyId.TheVariants as body
use Rattle.rt_ids.specs.declared.ids.Section.{Section}
use Rattle.rt_ids.specs.declared.ids.Section.TheVariants as section
use Rattle.rt_ids.specs.declared.op.Op.{Op}
use Rattle.rt_ids.specs.declared.op.Op.TheVariants as op
use Rattle.rt_code.specs.Image.{Image}
use Rattle.rt_code.specs.Lines.{HasLines}
use Rattle.rt_code.specs.declared.image.BodyRow.{BodyRow}
use Rattle.rt_code.specs.declared.image.Handler.{Handler}
use Rattle.rt_code.specs.declared.image.IrqRow.{IrqRow}
use Rattle.rt_code.specs.declared.instr.Instr.{Instr}
use Rattle.rt_code.specs.declared.instr.Instr.TheVariants as instr
use Rattle.rt_code.specs.declared.instr.Note.{Note}
use Rattle.rt_code.specs.declared.instr.Note.TheVariants as note
use Rattle.rt_lines.specs.Operand.{OperandKind, Number, IrqName, FirstIrqName, TaskName, BodyName, LockName, QueueName}
use Rattle.rt_lines.specs.Operand.{SectionName, OperandValue, word}
use Rattle.rt_lines.specs.Table.{Operand, operand_word, spaced_text}
use Rattle.rt_lines.proofs.Unbroken.{fed}
use Rattle.rt_lines.proofs.Short.{irq_name_short, task_name_short, resource_name_short}
use Rattle.rt_listing.specs.Listing.{form_word, listing}
use Rattle.rt_listing.specs.Words.{op_word, instr_first, instr_operands, instr_words, note_first, note_operands}
use Rattle.rt_listing.specs.Words.{noted_words}
use Rattle.rt_listing.proofs.Lines.{Row, row_text, first_row, cell_row, irq_row, body_row, code_row, listing_rows}
use Rattle.rt_listing.proofs.Lines.{rows_text, listing_text, rows_all, rows_long}

-- words have no more than so many bytes, each
abbrev AreFew : List (List ℕ) → List ℕ → Type 0
AreFew [] [] = Unit {0}
AreFew (w ∷ ws) (n ∷ ns) = (length w ≤ n) × AreFew ws ns
AreFew ws ns = ⊥

-- so many bytes with a space in front of each word
abbrev spaced : List ℕ → ℕ
spaced [] = 0
spaced (n ∷ ns) = suc (n + spaced ns)

spaced_few : (ws : List (List ℕ)) (ns : List ℕ) → AreFew ws ns → length (spaced_text ws) ≤ spaced ns
spaced_few [] [] few = omega arith
spaced_few [] (n ∷ ns) few = absurd few
spaced_few (w ∷ ws) [] few = absurd few
spaced_few (w ∷ ws) (n ∷ ns) few =
    omega (arith, few.0, spaced_few ws ns few.1, length-append w (spaced_text ws))

-- a line of at most 499 bytes
abbrev IsShort : Row → Type 0
IsShort row = length (row_text row) ≤ 499

-- words behind a first one of four or five bytes
row_short : (row : Row) → length row.0 ≤ 5 → length (spaced_text row.1) ≤ 494 → IsShort row
row_short row first rest = omega (arith, first, rest, length-append row.0 (spaced_text row.1))

row_few : (row : Row) (ns : List ℕ) → length row.0 ≤ 5 → AreFew row.1 ns → spaced ns ≤ 494 → IsShort row
row_few row ns first few fits = row_short row first (omega (arith, fits, spaced_few row.1 ns few))

-- the most bytes of a word of a kind
abbrev width : OperandKind → ℕ
width (Number bound) = 64
width LockName = 70
width QueueName = 70
width SectionName = 70
width name = 32

abbrev widths : List Operand → List ℕ
widths os = map (λ o. width o.0) os

op_few : (o : Op) → length (op_word o) ≤ 3
op_few op.Add = omega arith
op_few o = omega arith

instr_width : (i : Instr) → length (instr_first i) + spaced (widths (instr_operands i)) ≤ 202
instr_width (instr.Calc o d a b) = omega (arith, op_few o)
instr_width i = omega arith

note_width : (n : Note) → length (note_first n) + spaced (widths (note_operands n)) ≤ 169
note_width (note.Enter x) = omega arith
note_width n = omega arith

module _ (names : Names) (are : AreNames names) where
  task_few : (t : ℕ) → length (task_name names t) ≤ 32
  task_few t = task_name_short names t are

  section_few : (x : Section) → length (section_name names x) ≤ 70
  section_few (section.Res r) = let few = resource_name_short names r are in omega (arith, few)
  section_few (section.Free t) = omega (arith, task_few t, length-append (codes "free.") (task_name names t))
  section_few (section.Ready p) = omega (arith, decimal_few p, length-append (codes "ready.") (decimal p))
  section_few section.Timer = omega arith

  value_few : (k : OperandKind) (v : OperandValue k) → length (word names k v) ≤ width k
  value_few (Number bound) n = decimal_few n
  value_few IrqName irq = irq_name_short names irq are
  value_few FirstIrqName irq = irq_name_short names irq are
  value_few TaskName t = task_few t
  value_few BodyName body.Init = omega arith
  value_few BodyName body.Idle = omega arith
  value_few BodyName (body.Task t) = task_few t
  value_few LockName x = section_few x
  value_few QueueName x = section_few x
  value_few SectionName x = section_few x

  operands_few : (os : List Operand) → AreFew (map (operand_word names) os) (widths os)
  operands_few [] = tt
  operands_few (o ∷ os) = (value_few o.0 o.1, operands_few os)

  instr_few : (i : Instr) → length (spaced_text (instr_words names i)) ≤ 203
  instr_few i =
      omega (
        arith,
        instr_width i,
        spaced_few (instr_words names i) (length (instr_first i) ∷ widths (instr_operands i))
            (omega arith, operands_few (instr_operands i)),
      )

  noted_few : (n : Option Note) → length (spaced_text (noted_words names n)) ≤ 172
  noted_few None = omega arith
  noted_few (Some n) =
      omega (
        arith,
        note_width n,
        spaced_few (noted_words names (Some n))
            (1 ∷ length (note_first n) ∷ widths (note_operands n))
            (omega arith, (omega arith, operands_few (note_operands n))),
      )

  code_few : (n : ℕ) (code : Instr × Option Note) → IsShort (code_row names n code)
  code_few n code =
      let instr = instr_words names code.0 in
      let noted = noted_words names code.1 in
      let rest : length (spaced_text (instr ++ noted)) ≤ 375 =
      omega (
        arith,
        instr_few code.0,
        noted_few code.1,
        ap length (flat_map-append (λ word. 32 ∷ word) instr noted),
        length-append (spaced_text instr) (spaced_text noted),
      ) in
      row_short (code_row names n code) (omega arith)
      (omega (arith, rest, decimal_few n, length-append (decimal n) (spaced_text (instr ++ noted))))

  body_row_few : (row : BodyRow) → IsShort (body_row names row)
  body_row_few row =
      row_few (body_row names row) (32 ∷ 64 ∷ 64 ∷ 64 ∷ []) (omega arith)
      (task_few row.task, (decimal_few row.entry, (decimal_few row.frame, (decimal_few row.args, tt)))) (omega arith)

irq_row_few : (row : IrqRow) → length row.name ≤ 32 → (h : Option Handler)
    → IsShort (irq_row (record row { handler = h }))
irq_row_few row short None =
    row_few (irq_row (record row { handler = None })) (32 ∷ 64 ∷ 1 ∷ []) (omega arith)
    (short, (decimal_few row.number, (omega arith, tt))) (omega arith)
irq_row_few row short (Some h) =
    row_few (irq_row (record row { handler = Some h })) (32 ∷ 64 ∷ 64 ∷ 64 ∷ 64 ∷ []) (omega arith)
    (short, (decimal_few row.number, (decimal_few h.value, (decimal_few h.entry, (decimal_few h.frame, tt)))))
    (omega arith)

cell_row_few : (n : ℕ) (cell : CellRow) → length cell.name ≤ 168 → IsShort (cell_row n cell)
cell_row_few n cell short =
    row_few (cell_row n cell) (64 ∷ 64 ∷ 168 ∷ []) (omega arith) (decimal_few n, (decimal_few cell.first, (short, tt)))
    (omega arith)

first_few : (img : Image) (code cells : ℕ) → IsShort (first_row img code cells)
first_few img code cells =
    row_few (first_row img code cells) (1 ∷ 64 ∷ 64 ∷ 64 ∷ 64 ∷ 64 ∷ []) (omega arith) (
      form img.fpu,
      (
        decimal_few img.bits,
        (
          decimal_few img.stack_bytes,
          (decimal_few img.thread_words, (decimal_few code, (decimal_few cells, tt))),
        ),
      ),
    ) (omega arith)
  where
    form : (fpu : Bool) → length (form_word fpu) ≤ 1
    form true = omega arith
    form false = omega arith

fed_few : (rows : List Row) → AllByRecursion IsShort rows → length (rows_text rows) ≤ 500 * length rows
fed_few [] all = omega arith
fed_few (row ∷ rows) all =
    let here : length (row_text row) ≤ 499 = all.0 in
    omega (
      arith,
      here,
      fed_few rows all.1,
      length-append (row_text row) (10 ∷ []),
      length-append (fed (row_text row)) (rows_text rows),
    )

-- no line of a listing is longer than 500 bytes
pub listing_few : (img : Image) → HasLines img → AllByRecursion (λ cell. length cell.name ≤ 168) img.cells
    → length (listing img)
    ≤ 500 * (1 + length img.cells + length img.irqs + length img.bodies + length img.code)
listing_few img lines cells =
    let names = img.names in
    let are = lines.names in
    let irq = λ (row : IrqRow) (has : Contains names.irqs (row.name, row.number)).
    let name : IsName row.name = all_has (λ irq. IsName irq.0) names.irqs (row.name, row.number) are.irqs has in
    irq_row_few row name.short row.handler in
    let all = rows_all IsShort (λ cell. length cell.name ≤ 168) (λ row. Contains names.irqs (row.name, row.number)) img
    (first_few img (length img.code) (length img.cells)) cell_row_few irq (body_row_few names are) (code_few names are)
    cells lines.irqs in
    omega (arith, ap length (listing_text img), fed_few (listing_rows img) all, rows_long img)
