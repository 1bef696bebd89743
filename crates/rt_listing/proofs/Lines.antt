-- A listing is lines of words, and the words are free of spaces and line feeds.
use Rattle.std.proofs.Common.{◌≡◌, ◌+◌, ℕ, suc, Bool, true, false, List, [], ◌∷◌, ◌++◌, length, flat_map}
use Rattle.std.proofs.Common.{codes}
use Rattle.std.proofs.Common.{decimal, Contains, Option, Some, None, refl, ap, sym, subst, ◌∙◌, append_assoc}
use Rattle.std.proofs.Common.{append-nil, ne_eqb, arith}
use Rattle.std.specs.List.{AllByRecursion}
use Rattle.std.proofs.lemmas.List.Concat.{flat_map-append}
use Rattle.rt_lemmas.proofs.Lists.{all_append, none_asked}
use Rattle.rt_ids.specs.Names.{Names}
use Rattle.rt_ids.specs.declared.cell.CellRow.{CellRow}
use Rattle.rt_code.specs.Image.{Image}
use Rattle.rt_code.specs.Listable.{IsWord, blanks}
use Rattle.rt_code.specs.declared.image.BodyRow.{BodyRow}
use Rattle.rt_code.specs.declared.image.Handler.{Handler}
use Rattle.rt_code.specs.declared.image.IrqRow.{IrqRow}
use Rattle.rt_code.specs.declared.instr.Instr.{Instr}
use Rattle.rt_code.specs.declared.instr.Note.{Note}
use Rattle.rt_lines.specs.Operand.{TaskName}
use Rattle.rt_lines.specs.Parts.{words}
use Rattle.rt_lines.specs.Table.{spaced_text}
use Rattle.rt_lines.proofs.Free.{AreFree, value_free, words_free}
use Rattle.rt_lines.proofs.Unbroken.{IsUnbroken, fed, unbroken_append, spaced_unbroken}
use Rattle.rt_lines.proofs.Words.{is_word_byte, IsFreeOf, word_free, decimal_bytes, words_spaced}
use Rattle.rt_listing.specs.Listing.{form_word, first_words, cell_words, cell_line, handler_words, irq_words}
use Rattle.rt_listing.specs.Listing.{irq_line, body_words, body_line, code_words, code_line, lines_with_numbers}
use Rattle.rt_listing.specs.Listing.{listing}
use Rattle.rt_listing.specs.Words.{noted_words, instr_first, instr_operands, note_first, note_operands}
use Rattle.rt_listing.proofs.Told.{instr_bytes, note_bytes}

-- a first word, and the words behind it
abbrev pub Row : Type 0
Row = List ℕ × List (List ℕ)

abbrev pub row_text : Row → List ℕ
row_text row = row.0 ++ spaced_text row.1

abbrev pub first_row : Image → ℕ → ℕ → Row
first_row img code cells = (codes "image", first_words img code cells)

abbrev pub cell_row : ℕ → CellRow → Row
cell_row n cell = (codes "cell", cell_words n cell)

abbrev pub irq_row : IrqRow → Row
irq_row row = (codes "irq", irq_words row)

abbrev pub body_row : Names → BodyRow → Row
body_row names row = (codes "body", body_words names row)

abbrev pub code_row : Names → ℕ → Instr × Option Note → Row
code_row names n code = (codes "code", code_words names n code)

-- a row for each thing, which says its number
abbrev pub numbered : {A : Type 0} → (ℕ → A → Row) → ℕ → List A → List Row
numbered row n [] = []
numbered row n (x ∷ xs) = row n x ∷ numbered row (suc n) xs

abbrev pub code_rows : Names → Image → List Row
code_rows names img = numbered (code_row names) 0 img.code

abbrev pub body_rows : Names → Image → List Row
body_rows names img = numbered (λ n. body_row names) 0 img.bodies ++ code_rows names img

abbrev pub irq_rows : Names → Image → List Row
irq_rows names img = numbered (λ n. irq_row) 0 img.irqs ++ body_rows names img

abbrev pub cell_rows : Names → Image → List Row
cell_rows names img = numbered cell_row 0 img.cells ++ irq_rows names img

abbrev pub listing_rows : Image → List Row
listing_rows img = first_row img (length img.code) (length img.cells) ∷ cell_rows img.names img

abbrev pub rows_text : List Row → List ℕ
rows_text rows = flat_map (λ row. fed (row_text row)) rows

numbered_text : {A : Type 0} (row : ℕ → A → Row) (n : ℕ) (xs : List A)
    → lines_with_numbers (λ k x. fed (row_text (row k x))) n xs ≡ rows_text (numbered row n xs)
numbered_text row n [] = refl
numbered_text row n (x ∷ xs) = ap (λ more. fed (row_text (row n x)) ++ more) (numbered_text row (suc n) xs)

flat_text : {A : Type 0} (row : A → Row) (n : ℕ) (xs : List A)
    → flat_map (λ x. fed (row_text (row x))) xs ≡ rows_text (numbered (λ k. row) n xs)
flat_text row n [] = refl
flat_text row n (x ∷ xs) = ap (λ more. fed (row_text (row x)) ++ more) (flat_text row (suc n) xs)

five_parts : (u v w x y : List ℕ) → (((u ++ v) ++ w) ++ x) ++ y ≡ u ++ (v ++ (w ++ (x ++ y)))
five_parts u v w x y = simp append_assoc

pub text_behind : (rows more : List Row) (text : List ℕ) → text ≡ rows_text more
    → rows_text rows ++ text ≡ rows_text (rows ++ more)
text_behind rows more text is = ap (λ t. rows_text rows ++ t) is ∙ sym (flat_map-append _ rows more)

pub listing_text : (img : Image) → listing img ≡ rows_text (listing_rows img)
listing_text img =
    let names = img.names in
    let first = fed (row_text (first_row img (length img.code) (length img.cells))) in
    let code = numbered_text (code_row names) 0 img.code in
    let bodies = flat_text (body_row names) 0 img.bodies in
    let irqs = flat_text irq_row 0 img.irqs in
    let cells = numbered_text cell_row 0 img.cells in
    five_parts first (lines_with_numbers cell_line 0 img.cells) (flat_map irq_line img.irqs)
    (flat_map (body_line names) img.bodies) (lines_with_numbers (code_line names) 0 img.code)
    ∙ ap (λ t. first ++ t) (rw (cells, irqs, bodies, code)
    (text_behind (numbered cell_row 0 img.cells) (irq_rows names img) _
    (text_behind (numbered (λ n. irq_row) 0 img.irqs) (body_rows names img) _
    (text_behind (numbered (λ n. body_row names) 0 img.bodies) (code_rows names img) _ refl))))

-- a row whose words are free of a byte
abbrev pub IsFreeRow : ℕ → Row → Type 0
IsFreeRow byte row = IsFreeOf byte row.0 × AllByRecursion (IsFreeOf byte) row.1

pub row_unbroken : (row : Row) → IsFreeRow 10 row → IsUnbroken (row_text row)
row_unbroken row free = unbroken_append row.0 (spaced_text row.1) free.0 (spaced_unbroken row.1 free.1)

pub row_spaced : (row : Row) → IsFreeRow 32 row → words (row_text row) ≡ row.0 ∷ row.1
row_spaced row free = words_spaced row.0 row.1 free.0 free.1

-- names and cells of which each is free of a byte
pub record AreFreeOf (byte : ℕ) (img : Image) : Type 0 where
  pub names : AreFree byte img.names
  pub cells : AllByRecursion (λ cell. IsFreeOf byte cell.name) img.cells
  pub irqs : AllByRecursion (λ row. IsFreeOf byte row.name) img.irqs

module _ (byte : ℕ) (none : is_word_byte byte ≡ false) (dash : IsFreeOf byte (codes "-"))
    (semicolon : IsFreeOf byte (codes ";")) where
  decimal_free : (n : ℕ) → IsFreeOf byte (decimal n)
  decimal_free n = word_free byte (decimal n) none (decimal_bytes n)

  form_free : (fpu : Bool) → IsFreeOf byte (form_word fpu)
  form_free true = word_free byte (codes "2") none refl
  form_free false = word_free byte (codes "1") none refl

  pub first_free : (img : Image) (code cells : ℕ) → IsFreeRow byte (first_row img code cells)
  first_free img code cells = (
    word_free byte (codes "image") none refl,
    (
      form_free img.fpu,
      (
        decimal_free img.bits,
        (
          decimal_free img.stack_bytes,
          (decimal_free img.thread_words, (decimal_free code, (decimal_free cells, tt))),
        ),
      ),
    ),
  )

  pub cell_free : (n : ℕ) (cell : CellRow) → IsFreeOf byte cell.name → IsFreeRow byte (cell_row n cell)
  cell_free n cell name =
      (word_free byte (codes "cell") none refl, (decimal_free n, (decimal_free cell.first, (name, tt))))

  handler_free : (h : Option Handler) → AllByRecursion (IsFreeOf byte) (handler_words h)
  handler_free None = (dash, tt)
  handler_free (Some h) = (decimal_free h.value, (decimal_free h.entry, (decimal_free h.frame, tt)))

  pub irq_free : (row : IrqRow) → IsFreeOf byte row.name → IsFreeRow byte (irq_row row)
  irq_free row name =
      (word_free byte (codes "irq") none refl, (name, (decimal_free row.number, handler_free row.handler)))

  module _ (names : Names) (free : AreFree byte names) where
    pub body_free : (row : BodyRow) → IsFreeRow byte (body_row names row)
    body_free row = (
      word_free byte (codes "body") none refl,
      (
        value_free byte none names free TaskName row.task,
        (decimal_free row.entry, (decimal_free row.frame, (decimal_free row.args, tt))),
      ),
    )

    noted_free : (n : Option Note) → AllByRecursion (IsFreeOf byte) (noted_words names n)
    noted_free None = tt
    noted_free (Some n) = (
      semicolon,
      (word_free byte (note_first n) none (note_bytes n), words_free byte none names free (note_operands n)),
    )

    pub code_free : (n : ℕ) (code : Instr × Option Note) → IsFreeRow byte (code_row names n code)
    code_free n code = (
      word_free byte (codes "code") none refl,
      (
        decimal_free n,
        (
          word_free byte (instr_first code.0) none (instr_bytes code.0),
          all_append (IsFreeOf byte) _ (noted_words names code.1)
              (words_free byte none names free (instr_operands code.0)) (noted_free code.1),
        ),
      ),
    )

numbered_all : {A : Type 0} (Q : Row → Type 0) (P : A → Type 0) (row : ℕ → A → Row)
    → ((n : ℕ) (x : A) → P x → Q (row n x)) → (n : ℕ) (xs : List A) (more : List Row) → AllByRecursion P xs
    → AllByRecursion Q more → AllByRecursion Q (numbered row n xs ++ more)
numbered_all Q P row each n [] more all rest = rest
numbered_all Q P row each n (x ∷ xs) more all rest =
    (each n x all.0, numbered_all Q P row each (suc n) xs more all.1 rest)

-- what holds of the row of each thing holds of all rows
pub rows_all : (Q : Row → Type 0) (C : CellRow → Type 0) (I : IrqRow → Type 0) (img : Image)
    → Q (first_row img (length img.code) (length img.cells)) → ((n : ℕ) (cell : CellRow) → C cell → Q (cell_row n cell))
    → ((row : IrqRow) → I row → Q (irq_row row)) → ((row : BodyRow) → Q (body_row img.names row))
    → ((n : ℕ) (code : Instr × Option Note) → Q (code_row img.names n code)) → AllByRecursion C img.cells
    → AllByRecursion I img.irqs → AllByRecursion Q (listing_rows img)
rows_all Q C I img first cell irq body code cells irqs =
    let names = img.names in
    let coded = subst (AllByRecursion Q) (append-nil (code_rows names img))
    (numbered_all Q (λ c. Unit {0}) (code_row names) (λ n c any. code n c) 0 img.code [] (none_asked img.code) tt) in
    let bodied = numbered_all Q (λ b. Unit {0}) (λ n. body_row names) (λ n b any. body b) 0 img.bodies
    (code_rows names img) (none_asked img.bodies) coded in
    let numbered_irqs = numbered_all Q I (λ n. irq_row) (λ n row. irq row) 0 img.irqs (body_rows names img) irqs bodied
    in
    (first, numbered_all Q C cell_row cell 0 img.cells (irq_rows names img) cells numbered_irqs)

pub rows_free : (byte : ℕ) → is_word_byte byte ≡ false → IsFreeOf byte (codes "-") → IsFreeOf byte (codes ";")
    → (img : Image) → AreFreeOf byte img → AllByRecursion (IsFreeRow byte) (listing_rows img)
rows_free byte none dash semicolon img free =
    let names = img.names in
    rows_all (IsFreeRow byte) (λ cell. IsFreeOf byte cell.name) (λ row. IsFreeOf byte row.name) img
    (first_free byte none dash semicolon img (length img.code) (length img.cells))
    (cell_free byte none dash semicolon) (irq_free byte none dash semicolon)
    (body_free byte none dash semicolon names free.names) (code_free byte none dash semicolon names free.names)
    free.cells free.irqs

-- there are as many rows as things, and the first
numbered_long : {A : Type 0} (row : ℕ → A → Row) (n : ℕ) (xs : List A) (more : List Row)
    → length (numbered row n xs ++ more) ≡ length xs + length more
numbered_long row n [] more = omega arith
numbered_long row n (x ∷ xs) more = omega (arith, numbered_long row (suc n) xs more)

pub rows_long : (img : Image)
    → length (listing_rows img) ≡ 1 + length img.cells + length img.irqs + length img.bodies + length img.code
rows_long img =
    let names = img.names in
    omega (
      arith,
      numbered_long cell_row 0 img.cells (irq_rows names img),
      numbered_long (λ n. irq_row) 0 img.irqs (body_rows names img),
      numbered_long (λ n. body_row names) 0 img.bodies (code_rows names img),
      numbered_long (code_row names) 0 img.code [],
      ap length (append-nil (code_rows names img)),
    )

-- blanks stand in no word
pub blank_free : (byte : ℕ) → Contains blanks byte → (w : List ℕ) → IsWord w → IsFreeOf byte w
blank_free byte is [] h = tt
blank_free byte is (b ∷ w) h =
    (ne_eqb b byte (λ e. h.0 (subst (Contains blanks) (sym e) is)), blank_free byte is w h.1)
