-- The lines of the listing of a loadable image are taken, one after another, and tell the image.
use Rattle.std.proofs.Common.{◌≡◌, ◌<◌, ◌^◌, ℕ, suc, Bool, true, false, ◌&&◌, nat_lt, nat_le, List, [], ◌∷◌, ◌++◌}
use Rattle.std.proofs.Common.{length, map, decimal, codes, bytes_eq, Option, Some, None, Result, Ok, Err, if◌then◌else◌}
use Rattle.std.proofs.Common.{refl, ap, sym, ◌∙◌, subst, arith, append_assoc, append-nil, length-append}
use Rattle.std.specs.List.{AllByRecursion}
use Rattle.std.proofs.lemmas.Bool.{lt-ltb, le-leb}
use Rattle.rt_lemmas.proofs.Bools.{and_both}
use Rattle.rt_lemmas.proofs.Membership.{all_weaker}
use Rattle.rt_ids.specs.declared.limits.TheConstants.{CODE_SIZE, LEAST_BITS, MOST_BITS}
use Rattle.rt_code.specs.Image.{Image}
use Rattle.rt_code.specs.Listable.{IsWord, IsPlain, HasInstr, HasNote}
use Rattle.rt_code.specs.declared.image.IrqRow.{IrqRow}
use Rattle.rt_code.specs.declared.instr.Instr.{Instr}
use Rattle.rt_code.specs.declared.instr.Note.{Note}
use Rattle.rt_lines.specs.Answers.{and_then, and_make}
use Rattle.rt_lines.specs.Reading.{Lead}
use Rattle.rt_listing.specs.Listing.{form_word, first_words, first_line}
use Rattle.rt_listing.proofs.Lines.{row_text, first_row, cell_row, irq_row, body_row, code_row, numbered}
use Rattle.rt_listing.proofs.Lines.{code_rows, body_rows, irq_rows, listing_rows}
use Rattle.rt_lines.proofs.Numerals.{number_spelled}
use Rattle.rt_lines.specs.Numbers.{Is32Bits}
use Rattle.rt_lines.specs.Parts.{line_with_feed}
use Rattle.rt_load.specs.Loadable.{IsLoadable, IsLineWithin}
use Rattle.rt_load.specs.Inside.Operand.{number_at, word_at, of_line}
use Rattle.rt_load.specs.Inside.Noting.{line_at}
use Rattle.rt_load.specs.Inside.Rows.{three_at}
use Rattle.rt_load.specs.Inside.Taking.{if_line, front_of, first_at, is_within, take_first, may_add_line, has_cells}
use Rattle.rt_load.specs.Inside.Taking.{and_line, take_words, take_line}
use Rattle.rt_load.specs.Inside.Reader.{told, listing_reader}
use Rattle.rt_load.specs.declared.front.Front.{Front}
use Rattle.rt_load.specs.declared.operand.Wrong.{Wrong}
use Rattle.rt_load.specs.declared.operand.Wrong.TheVariants as wrong
use Rattle.rt_load.proofs.Lines.{first_text, code_text, words_of_spelled, line_of_spelled}
use Rattle.rt_load.proofs.Lines.{first_spelled, known_names, code_spelled}
use Rattle.rt_load.proofs.Fed.{step_fed}
use Rattle.rt_load.proofs.Read.{number_back}
use Rattle.rt_load.proofs.Written.{line_same}
use Rattle.rt_load.proofs.ForwardParts.{passes, chooses, same_itself, RowsLead, row_leads, rows_append}
use Rattle.rt_load.proofs.ForwardCells.{cells_front, told_shared, cells_lead}
use Rattle.rt_load.proofs.ForwardRows.{told_irqs, irqs_front, irqs_lead, told_tasks, bodies_front, bodies_lead}

module _ (img : Image) (l : IsLoadable img) where
  -- code
  abbrev code_front : List (Instr × Option Note) → Front
  code_front done = record { image = record img { code = done }; code = length img.code; cells = length img.cells }

  line_may : (done left : List (Instr × Option Note)) (line : Instr × Option Note) → img.code ≡ done ++ line ∷ left
      → may_add_line (code_front done) ≡ true
  line_may done left line is =
      let below : length done < length img.code = omega (arith, ap length is, length-append done (line ∷ left)) in
      and_both (has_cells (code_front done)) (nat_lt (length done) (length img.code)) (same_itself (length img.cells))
      (lt-ltb (length done) (length img.code) below)

  code_step : (done left : List (Instr × Option Note)) (line : Instr × Option Note) → img.code ≡ done ++ line ∷ left
      → IsLineWithin line
      → HasInstr img.names line.0 → HasNote img.names line.1
      → take_line (code_front done) (code_text img.names (length done) line) ≡ Ok (code_front (done ++ line ∷ []))
  unfolding take_line
  code_step done left line is within has_instr has_note =
      let front = code_front done in
      let known = known_names img.names l.fits.names in
      let few_lines = l.fits.few_lines in
      let few : Is32Bits (length done) = omega (arith, ap length is, length-append done (line ∷ left), few_lines) in
      let row = code_row img.names (length done) line in
      let read = line_same img.names (length done) line l.fits.names known few
      (record { within = within; instr = has_instr; note = has_note }) in
      ap (take_words front (row_text row)) (words_of_spelled row (code_spelled img.names (length done) line known))
      ∙ ap (λ (r : Result (Instr × Option Note) Wrong). and_make r (and_line front))
      (chooses (may_add_line front) (of_line (line_at img.names (length done) row.1)) (line_may done left line is)
      ∙ ap of_line read)

  code_leads : (done left : List (Instr × Option Note)) → img.code ≡ done ++ left → AllByRecursion IsLineWithin left
      → AllByRecursion (λ line. HasInstr img.names line.0) left → AllByRecursion (λ line. HasNote img.names line.1) left
      → RowsLead (code_front done) (numbered (code_row img.names) (length done) left) (code_front img.code)
  code_leads done [] is within instrs notes = ap (λ lines. Some (code_front lines)) (sym (is ∙ append-nil done))
  code_leads done (line ∷ left) is within instrs notes =
      let next = done ++ line ∷ [] in
      let number : length next ≡ suc (length done) = omega (arith, length-append done (line ∷ [])) in
      row_leads (code_front done) (code_front next) (code_front img.code) (code_row img.names (length done) line)
      (numbered (code_row img.names) (suc (length done)) left)
      (code_spelled img.names (length done) line (known_names img.names l.fits.names))
      (code_step done left line is within.0 instrs.0 notes.0)
      (subst (λ k. RowsLead (code_front next) (numbered (code_row img.names) k left) (code_front img.code)) number
      (code_leads next left (is ∙ sym (append_assoc done (line ∷ []) left)) within.1 instrs.1 notes.1))

  -- the first line
  form_reads : (fpu : Bool) → bytes_eq (form_word fpu) (codes "2") ≡ fpu
  form_reads true = refl
  form_reads false = refl

  three_read : (a b c : ℕ) → Is32Bits a → Is32Bits b → Is32Bits c → three_at (decimal a ∷ decimal b ∷ decimal c ∷ [])
      ≡ Ok (a, b, c)
  three_read a b c x y z =
      ap (λ (r : Result ℕ Wrong). and_then r (λ n. and_then (word_at (decimal b))
      (λ m. and_make (word_at (decimal c)) (λ k. (n, m, k))))) (number_back a x)
      ∙ ap (λ (r : Result ℕ Wrong). and_then r (λ m. and_make (word_at (decimal c)) (λ k. (a, m, k)))) (number_back b y)
      ∙ ap (λ (r : Result ℕ Wrong). and_make r (λ k. (a, b, k))) (number_back c z)

  pub first_line_taken : take_first (first_text img (length img.code) (length img.cells)) ≡ Ok (cells_front img [])
  first_line_taken =
      let code = length img.code in
      let cells = length img.cells in
      let line = first_text img code cells in
      let lim = l.fits in
      let least = lim.least_bits in
      let most = lim.most_bits in
      let few_lines = lim.few_lines in
      let bits : number_at (2 ^ 8) (decimal img.bits) ≡ Ok img.bits =
      rw (number_spelled (2 ^ 8) img.bits (omega (arith, most)) (omega arith)) refl in
      let within : is_within (cells_front img []) ≡ true =
      and_both (nat_le LEAST_BITS img.bits && nat_le img.bits MOST_BITS) (nat_le code CODE_SIZE)
      (and_both (nat_le LEAST_BITS img.bits) (nat_le img.bits MOST_BITS) (le-leb LEAST_BITS img.bits least)
      (le-leb img.bits MOST_BITS most)) (le-leb code CODE_SIZE few_lines) in
      let read : first_at (codes "image" ∷ first_words img code cells) ≡ Ok (cells_front img []) =
      ap (λ (r : Result ℕ Wrong). and_then r (λ b. and_then (word_at (decimal img.stack_bytes))
      (λ s. and_make (three_at (decimal img.thread_words ∷ decimal code ∷ decimal cells ∷ [])) (λ n.
      front_of (bytes_eq (form_word img.fpu) (codes "2")) b s n.0 n.1 n.2)))) bits
      ∙ ap (λ (r : Result ℕ Wrong). and_then r
      (λ s. and_make (three_at (decimal img.thread_words ∷ decimal code ∷ decimal cells ∷ [])) (λ n.
      front_of (bytes_eq (form_word img.fpu) (codes "2")) img.bits s n.0 n.1 n.2)))
      (number_back img.stack_bytes lim.stack_bytes)
      ∙ ap (λ (r : Result (ℕ × ℕ × ℕ) Wrong). and_make r
      (λ n. front_of (bytes_eq (form_word img.fpu) (codes "2")) img.bits img.stack_bytes n.0 n.1 n.2))
      (three_read img.thread_words code cells lim.thread_words (omega (arith, few_lines)) lim.few_cells)
      ∙ ap (λ (f : Bool). Ok (front_of f img.bits img.stack_bytes img.thread_words code cells)) (form_reads img.fpu) in
      ap (λ (ws : List (List ℕ)). and_then (first_at ws)
      (λ front. if is_within front then if_line (first_line front.image front.code front.cells) line front else Err
      wrong.Form))
      (words_of_spelled (first_row img code cells) (first_spelled img code cells))
      ∙ ap (λ (r : Result Front Wrong). and_then r (λ front. if is_within front then if_line
      (first_line front.image front.code front.cells) line front else Err wrong.Form)) read
      ∙ chooses (is_within (cells_front img [])) (if_line (first_line img code cells) line (cells_front img [])) within
      ∙ passes (first_line img code cells) line (cells_front img []) refl

  -- all lines
  abbrev pub listing_lines : List (List ℕ)
  listing_lines = map row_text (listing_rows img)

  abbrev pub whole : Front
  whole = record { image = img; code = length img.code; cells = length img.cells }

  pub listing_led : Lead listing_reader None (map line_with_feed listing_lines) (Some whole)
  listing_led =
      let lim = l.fits in
      let li = l.listable in
      let names = img.names in
      let a = numbered cell_row 0 img.cells in
      let b = numbered (λ n. irq_row) 0 img.irqs in
      let c = numbered (λ n. body_row names) 0 img.bodies in
      let words : AllByRecursion (λ row. IsWord row.name) img.irqs =
      all_weaker (λ (row : IrqRow). IsPlain row.name) (λ (row : IrqRow). IsWord row.name) (λ row is. is.word)
      img.irqs li.irqs in
      let to_irqs : cells_front img img.cells ≡ irqs_front img l [] =
      ap (λ (shared : List (List ℕ)). record {
        image = record img {
          irqs = [];
          bodies = [];
          code = [];
          names =
              record { irqs = []; tasks = []; shared = shared };
        };
        code = length img.code;
        cells = length img.cells;
      }) (told_shared img l) in
      let to_bodies : irqs_front img l img.irqs ≡ bodies_front img l [] =
      ap (λ (irqs : List (List ℕ × ℕ)). record {
        image = record img {
          bodies = [];
          code = [];
          names =
              record { irqs = irqs; tasks = []; shared = img.names.shared };
        };
        code = length img.code;
        cells = length img.cells;
      }) (told_irqs img l) in
      let to_code : bodies_front img l img.bodies ≡ code_front [] =
      ap (λ (tasks : List (List ℕ)). record {
        image = record img {
          code = [];
          names = record {
            irqs = img.names.irqs;
            tasks = tasks;
            shared =
                img.names.shared;
          };
        };
        code = length img.code;
        cells = length img.cells;
      }) (told_tasks img l) in
      let code = code_leads [] img.code refl lim.code li.instrs li.notes in
      let bodies = rows_append (bodies_front img l []) (code_front []) whole c (code_rows names img)
      (subst (RowsLead (bodies_front img l []) c) to_code
      (bodies_lead img l 0 [] img.bodies refl lim.bodies li.bodies)) code in
      let irqs = rows_append (irqs_front img l []) (bodies_front img l []) whole b (body_rows names img)
      (subst (RowsLead (irqs_front img l []) b) to_bodies (irqs_lead img l 0 [] img.irqs refl lim.irqs words)) bodies in
      let cells = rows_append (cells_front img []) (irqs_front img l []) whole a (irq_rows names img)
      (subst (RowsLead (cells_front img []) a) to_irqs (cells_lead img l [] img.cells refl li.cells lim.cells)) irqs in
      let first = first_row img (length img.code) (length img.cells) in
      let spelled = first_spelled img (length img.code) (length img.cells) in (
        Some (cells_front img []),
        step_fed None (row_text first) (line_of_spelled first spelled) ∙ ap told first_line_taken,
        cells,
      )
