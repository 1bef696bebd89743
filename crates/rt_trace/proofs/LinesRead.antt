-- The line of an item is read as the item, and a line that is read as an item is the item's.
use Rattle.std.proofs.Common.{◌≡◌, ◌<◌, ◌^◌, ℕ, true, false, List, [], ◌∷◌, map, decimal, codes, bytes_eq}
use Rattle.std.proofs.Common.{Some, None, Ok, Err, refl, ap, sym, ◌∙◌, arith}
use Rattle.std.specs.List.{list_all}
use Rattle.std.specs.Result.{IfOk}
use Rattle.std.proofs.lemmas.Bool.{false_from_ne_true}
use Rattle.std.proofs.lemmas.Result.{IfOk-at_ok}
use Rattle.std.proofs.lemmas.Slice.Eq.{bytes_eq-Decides}
use Rattle.rt_ids.specs.Lists.{AreDifferent}
use Rattle.rt_ids.specs.Names.{Names, AreNames}
use Rattle.rt_lines.specs.Answers.{and_make}
use Rattle.rt_lines.specs.Operand.{Number, number_at, read_at}
use Rattle.rt_lines.specs.Parts.{words}
use Rattle.rt_lines.specs.Table.{Number32, one_at, said_at, spaced_text}
use Rattle.rt_lines.specs.declared.operand.Wrong.TheVariants as wrong
use Rattle.rt_lines.proofs.Decoded.{if_ok_from, if_ok_then, if_ok_make, if_ok_chosen}
use Rattle.rt_lines.proofs.Numerals.{number_read}
use Rattle.rt_lines.proofs.Spelled.{spelled}
use Rattle.rt_lines.proofs.Told.{written_is_read, read_is_written}
use Rattle.rt_lines.proofs.Unbroken.{IsUnbroken, unbroken_append, told_unbroken}
use Rattle.rt_lines.proofs.Words.{IsFreeOf, is_word_byte, word_free, decimal_bytes, operands_free, words_spaced}
use Rattle.rt_lines.proofs.Words.{spaced_words_of}
use Rattle.rt_trace.specs.Laws.{LinesAreRead, ReadLinesAreLines}
use Rattle.rt_trace.specs.Lined.{HasLine, HasOperands}
use Rattle.rt_trace.specs.Row.{row_at, item_at, item_row}
use Rattle.rt_trace.specs.Text.{item_line, operand_words}
use Rattle.rt_trace.specs.Words.{first, operands, rows, HasFewValues}
use Rattle.rt_trace.specs.declared.item.Item.{Item}
use Rattle.rt_trace.specs.declared.item.What.{What}
use Rattle.rt_trace.specs.declared.item.What.TheVariants as what
use Rattle.rt_trace.specs.declared.row.TraceRow.{TraceRow}
use Rattle.rt_trace.specs.declared.row.TraceRow.TheVariants as row
use Rattle.rt_trace.proofs.Told.{words_agree}

first_test : (w : What) → list_all is_word_byte (first w) ≡ true
first_test (what.Leave x None) = refl
first_test (what.Leave x (Some v)) = refl
first_test w = refl

-- no byte of the first word or of a number is a space or a line feed
first_free : (byte : ℕ) (w : What) → is_word_byte byte ≡ false → IsFreeOf byte (first w)
first_free byte w none = word_free byte (first w) none (first_test w)

number_free : (byte n : ℕ) → is_word_byte byte ≡ false → IsFreeOf byte (decimal n)
number_free byte n none = word_free byte (decimal n) none (decimal_bytes n)

-- a number is not the word `total`
no_total : (word : List ℕ) (n : ℕ) → number_at (2 ^ 31) word ≡ Ok n → bytes_eq word (codes "total") ≡ false
no_total word n h =
    false_from_ne_true (bytes_eq word (codes "total")) (λ e.
    let same : word ≡ codes "total" = (bytes_eq-Decides word (codes "total")).0 e in
    let none : Err wrong.Form ≡ Ok n = ap (number_at (2 ^ 31)) (sym same) ∙ h in
    absurd (cc))

row_read : (names : Names) (step : ℕ) (w : What) → AreNames names → step < 2 ^ 31 → HasOperands names w
    → row_at names (decimal step ∷ first w ∷ operand_words names w)
    ≡ Ok (row.Shown (record { step = step; what = w }))
row_read names step w are below has =
    let number : number_at (2 ^ 31) (decimal step) ≡ Ok step = number_read (2 ^ 31) step below (omega arith) in
    let said = written_is_read true rows first operands HasFewValues words_agree names are w has.few has.written in
    rw (no_total (decimal step) step number) (rw (number, said) refl)

pub lines_read : LinesAreRead
lines_read names item are h =
    let has : HasOperands names item.what = h.operands in
    ap (row_at names) (words_spaced (decimal item.step) (first item.what ∷ operand_words names item.what)
    (number_free 32 item.step refl)
    (first_free 32 item.what refl, operands_free names are 32 (operands item.what) refl has.written))
    ∙ row_read names item.step item.what are h.step has

-- the words of a line are those of the item's
record Says (names : Names) (ws : List (List ℕ)) (item : Item) : Type 0 where
  pub lined : HasLine names item
  pub words_are : ws ≡ decimal item.step ∷ first item.what ∷ operand_words names item.what

-- what is read of words is what they are written of
abbrev RowSays : Names → List (List ℕ) → TraceRow → Type 0
RowSays names ws (row.Shown item) = Says names ws item
RowSays names ws (row.Total total) = Unit {0}

module _ (names : Names) (differ : AreDifferent (map (λ irq. irq.1) names.irqs)) where
  item_says : (ws : List (List ℕ)) → IfOk (item_at names ws) (RowSays names ws)
  item_says [] = tt
  item_says (step ∷ []) = tt
  item_says (step ∷ word ∷ ws) =
      if_ok_then (RowSays names (step ∷ word ∷ ws)) (number_at (2 ^ 31) step)
      (λ n. and_make (said_at rows names word ws) (item_row n)) _
      (spelled names step true (Number (2 ^ 31)) refl (λ _. differ))
      (λ n number. if_ok_make (RowSays names (step ∷ word ∷ ws)) (said_at rows names word ws) (item_row n) _
      (if_ok_from (said_at rows names word ws) _
      (λ w is. read_is_written true rows first operands HasFewValues words_agree names (λ _. differ) word ws w is))
      (λ w says. record {
        lined = record { step = number.0; operands = record { written = says.2; few = says.3 } };
        words_are =
            ap (λ (x : List ℕ). x ∷ word ∷ ws) number.1
            ∙ (ap (λ (x : List ℕ). decimal n ∷ x ∷ ws) says.0
            ∙ ap (λ (xs : List (List ℕ)). decimal n ∷ first w ∷ xs) says.1);
      }))

  row_says : (ws : List (List ℕ)) → IfOk (row_at names ws) (RowSays names ws)
  row_says [] = tt
  row_says (word ∷ ws) =
      if_ok_chosen (bytes_eq word (codes "total")) (and_make (one_at (read_at Number32) names ws) row.Total)
      (item_at names (word ∷ ws)) (RowSays names (word ∷ ws))
      (λ _. if_ok_make (RowSays names (word ∷ ws)) (one_at (read_at Number32) names ws) row.Total (λ _. Unit {0})
      (if_ok_from (one_at (read_at Number32) names ws) (λ _. Unit {0}) (λ _ _. tt)) (λ _ _. tt))
      (item_says (word ∷ ws))

pub read_lines : ReadLinesAreLines
read_lines names line item differ e =
    let says : Says names (words line) item = IfOk-at_ok (RowSays names (words line)) e
    (row_says names differ (words line)) in (
      says.lined,
      spaced_words_of line (decimal item.step) (first item.what ∷ operand_words names item.what) says.words_are,
    )

-- and an item's line has no line feed in it
pub item_unbroken : (names : Names) (item : Item) → AreNames names → HasLine names item
    → IsUnbroken (item_line names item)
item_unbroken names item are h =
    let has : HasOperands names item.what = h.operands in
    unbroken_append (decimal item.step) (spaced_text (first item.what ∷ operand_words names item.what))
    (number_free 10 item.step refl)
    (unbroken_append (32 ∷ first item.what) (spaced_text (operand_words names item.what))
    (refl, first_free 10 item.what refl) (told_unbroken names [] (operands item.what) are tt has.written))
