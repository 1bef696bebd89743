-- The lines of a listing without their line feeds, and their words.
use Rattle.std.proofs.Common.{◌≡◌, ◌≢◌, ◌==◌, ℕ, Bool, true, false, List, [], ◌∷◌, ◌++◌, codes, Option, Some}
use Rattle.std.proofs.Common.{None, if◌then◌else◌, refl, ap, sym, subst, arith, eq-eqb}
use Rattle.std.specs.List.{AllByRecursion}
use Rattle.std.proofs.lemmas.Bool.{false_from_ne_true, false≢true}
use Rattle.std.proofs.lemmas.Slice.Eq.{bytes_eq-Decides}
use Rattle.rt_lemmas.proofs.Bools.{true_and_false}
use Rattle.rt_lemmas.proofs.Membership.{all_weaker}
use Rattle.rt_ids.specs.Names.{Names, AreNames}
use Rattle.rt_ids.specs.Word.{IsName, is_identifier}
use Rattle.rt_ids.specs.declared.cell.CellRow.{CellRow}
use Rattle.rt_code.specs.Image.{Image}
use Rattle.rt_code.specs.Listable.{IsWord}
use Rattle.rt_code.specs.declared.image.BodyRow.{BodyRow}
use Rattle.rt_code.specs.declared.image.IrqRow.{IrqRow}
use Rattle.rt_code.specs.declared.instr.Instr.{Instr}
use Rattle.rt_code.specs.declared.instr.Note.{Note}
use Rattle.rt_lines.specs.Parts.{words}
use Rattle.rt_lines.proofs.Free.{AreFree, words_free}
use Rattle.rt_lines.proofs.More.{AreKnown}
use Rattle.rt_lines.proofs.Words.{is_word_byte, IsFreeOf, word_free, name_bytes}
use Rattle.rt_listing.specs.Words.{instr_first, instr_operands, instr_words, note_words, noted_words}
use Rattle.rt_listing.proofs.Lines.{Row, row_text, first_row, cell_row, irq_row, body_row, code_row, IsFreeRow}
use Rattle.rt_listing.proofs.Lines.{row_unbroken, row_spaced, first_free, cell_free, irq_free, body_free, code_free}
use Rattle.rt_listing.proofs.Lines.{blank_free}
use Rattle.rt_listing.proofs.Told.{instr_bytes}
use Rattle.rt_load.specs.Reading.{IsOneLine}
use Rattle.rt_load.specs.Inside.Operand.{is_end, in_front, behind}

abbrev pub first_text : Image → ℕ → ℕ → List ℕ
first_text img code cells = row_text (first_row img code cells)

abbrev pub cell_text : ℕ → CellRow → List ℕ
cell_text n cell = row_text (cell_row n cell)

abbrev pub irq_text : IrqRow → List ℕ
irq_text row = row_text (irq_row row)

abbrev pub body_text : Names → BodyRow → List ℕ
body_text names row = row_text (body_row names row)

abbrev pub code_text : Names → ℕ → Instr × Option Note → List ℕ
code_text names n code = row_text (code_row names n code)

-- words of which each stands alone
pub record IsSpelled (row : Row) : Type 0 where
  pub spaced : IsFreeRow 32 row
  pub unbroken : IsFreeRow 10 row

pub words_of_spelled : (row : Row) → IsSpelled row → words (row_text row) ≡ row.0 ∷ row.1
words_of_spelled row s = row_spaced row s.spaced

pub line_of_free : (row : Row) → IsFreeRow 10 row → IsOneLine (row_text row)
line_of_free row free = all_weaker (λ b. (b == 10) ≡ false) (λ byte. byte ≢ 10)
    (λ b other. λ e. true_and_false (b == 10) (eq-eqb b 10 e) other) (row_text row) (row_unbroken row free)

pub line_of_spelled : (row : Row) → IsSpelled row → IsOneLine (row_text row)
line_of_spelled row s = line_of_free row s.unbroken

pub known_names : (names : Names) → AreNames names → AreKnown names
known_names names are = record {
  irqs = all_weaker (λ irq. IsName irq.0) (λ irq. is_identifier irq.0 ≡ true) (λ irq is. is.identifier) names.irqs
      are.irqs;
  tasks = all_weaker IsName (λ name. is_identifier name ≡ true) (λ name is. is.identifier) names.tasks are.tasks;
  shared = all_weaker IsName (λ name. is_identifier name ≡ true) (λ name is. is.identifier) names.shared are.shared;
}

known_free : (byte : ℕ) → is_word_byte byte ≡ false → (names : Names) → AreKnown names → AreFree byte names
known_free byte none names known =
    let free = λ (name : List ℕ) (is : is_identifier name ≡ true). word_free byte name none (name_bytes name is) in
    record {
      irqs = all_weaker (λ irq. is_identifier irq.0 ≡ true) (λ irq. IsFreeOf byte irq.0) (λ irq. free irq.0) names.irqs
          known.irqs;
      tasks = all_weaker (λ name. is_identifier name ≡ true) (IsFreeOf byte) free names.tasks known.tasks;
      shared = all_weaker (λ name. is_identifier name ≡ true) (IsFreeOf byte) free names.shared known.shared;
    }

pub first_spelled : (img : Image) (code cells : ℕ) → IsSpelled (first_row img code cells)
first_spelled img code cells = record {
  spaced = first_free 32 refl (refl, tt) (refl, tt) img code cells;
  unbroken = first_free 10 refl (refl, tt) (refl, tt) img code cells;
}

pub cell_spelled : (n : ℕ) (cell : CellRow) → IsWord cell.name → IsSpelled (cell_row n cell)
cell_spelled n cell word = record {
  spaced = cell_free 32 refl (refl, tt) (refl, tt) n cell (blank_free 32 (3, omega arith, refl) cell.name word);
  unbroken = cell_free 10 refl (refl, tt) (refl, tt) n cell (blank_free 10 (1, omega arith, refl) cell.name word);
}

pub irq_spelled : (row : IrqRow) → IsWord row.name → IsSpelled (irq_row row)
irq_spelled row word = record {
  spaced = irq_free 32 refl (refl, tt) (refl, tt) row (blank_free 32 (3, omega arith, refl) row.name word);
  unbroken = irq_free 10 refl (refl, tt) (refl, tt) row (blank_free 10 (1, omega arith, refl) row.name word);
}

pub body_spelled : (names : Names) (row : BodyRow) → AreKnown names → IsSpelled (body_row names row)
body_spelled names row known = record {
  spaced = body_free 32 refl (refl, tt) (refl, tt) names (known_free 32 refl names known) row;
  unbroken = body_free 10 refl (refl, tt) (refl, tt) names (known_free 10 refl names known) row;
}

pub code_spelled : (names : Names) (n : ℕ) (code : Instr × Option Note) → AreKnown names
    → IsSpelled (code_row names n code)
code_spelled names n code known = record {
  spaced = code_free 32 refl (refl, tt) (refl, tt) names (known_free 32 refl names known) n code;
  unbroken = code_free 10 refl (refl, tt) (refl, tt) names (known_free 10 refl names known) n code;
}

-- words behind a semicolon, with it
abbrev pub end_words : Option (List (List ℕ)) → List (List ℕ)
end_words None = []
end_words (Some ws) = codes ";" ∷ ws

-- the words of a note
abbrev pub note_part : Names → Option Note → Option (List (List ℕ))
note_part names None = None
note_part names (Some n) = Some (note_words names n)

pub noted_is : (names : Names) (n : Option Note) → noted_words names n ≡ end_words (note_part names n)
noted_is names None = refl
noted_is names (Some n) = refl

free_end : (w : List ℕ) → IsFreeOf 59 w → is_end w ≡ false
free_end w free =
    false_from_ne_true (is_end w) (λ e.
    let there = subst (IsFreeOf 59) ((bytes_eq-Decides w (codes ";")).0 e) free in
    false≢true (sym there.0))

in_front_is : (ws : List (List ℕ)) (part : Option (List (List ℕ))) → AllByRecursion (IsFreeOf 59) ws
    → in_front (ws ++ end_words part) ≡ ws
in_front_is [] None all = refl
in_front_is [] (Some part) all = refl
in_front_is (w ∷ ws) part all = rw (free_end w all.0, in_front_is ws part all.1) refl

behind_is : (ws : List (List ℕ)) (part : Option (List (List ℕ))) → AllByRecursion (IsFreeOf 59) ws
    → behind (ws ++ end_words part) ≡ part
behind_is [] None all = refl
behind_is [] (Some part) all = refl
behind_is (w ∷ ws) part all = rw (free_end w all.0) (behind_is ws part all.1)

-- a line of code is cut at its semicolon
pub code_cut : (names : Names) (code : Instr × Option Note) → AreKnown names
    → (in_front (instr_words names code.0 ++ noted_words names code.1) ≡ instr_words names code.0)
    × (behind (instr_words names code.0 ++ noted_words names code.1) ≡ note_part names code.1)
code_cut names code known =
    let free = known_free 59 refl names known in
    let all : AllByRecursion (IsFreeOf 59) (instr_words names code.0) =
    (word_free 59 (instr_first code.0) refl (instr_bytes code.0), words_free 59 refl names free (instr_operands code.0))
    in
    rw (noted_is names code.1) (
      in_front_is (instr_words names code.0) (note_part names code.1) all,
      behind_is (instr_words names code.0) (note_part names code.1) all,
    )

-- words are those in front of a semicolon and those from it on
pub words_cut : (ws : List (List ℕ)) → ws ≡ in_front ws ++ end_words (behind ws)
words_cut [] = refl
words_cut (w ∷ ws) = by (is_end w) refl (words_cut ws)
  where
    by : (b : Bool) → is_end w ≡ b → ws ≡ in_front ws ++ end_words (behind ws)
        → w ∷ ws ≡ (if b then [] else w ∷ in_front ws) ++ end_words (if b then Some ws else behind ws)
    by true e rest = ap (λ (v : List ℕ). v ∷ ws) ((bytes_eq-Decides w (codes ";")).0 e)
    by false e rest = ap (λ (vs : List (List ℕ)). w ∷ vs) rest
