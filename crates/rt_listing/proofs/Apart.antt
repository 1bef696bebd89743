-- Texts of different images over the same names differ.
use Rattle.std.proofs.Common.{◌≡◌, ◌≢◌, ℕ, suc, Bool, true, false, List, [], ◌∷◌, ◌++◌, length, map, flat_map, codes}
use Rattle.std.proofs.Common.{bytes_eq, decimal, Contains, Option, Some, None, refl, sym, ap, ap₂, subst, ◌∙◌, arith}
use Rattle.std.proofs.Common.{append-nil}
use Rattle.std.specs.List.{AllByRecursion}
use Rattle.std.proofs.lemmas.Bool.{false≢true}
use Rattle.std.proofs.lemmas.List.Folds.{flat_map-map}
use Rattle.std.proofs.lemmas.Slice.Eq.{bytes_eq-Decides}
use Rattle.rt_lemmas.proofs.Lists.{all_both, all_map}
use Rattle.rt_lemmas.proofs.Membership.{all_weaker}
use Rattle.rt_ids.specs.Names.{Names}
use Rattle.rt_ids.specs.Naming.{IsTask}
use Rattle.rt_code.specs.Image.{Image}
use Rattle.rt_code.specs.Listable.{IsListable, AreWritable, HasInstr, HasNote, IsWord, IsPlain, blanks}
use Rattle.rt_code.specs.declared.image.Handler.{Handler}
use Rattle.rt_code.specs.declared.instr.Instr.{Instr}
use Rattle.rt_code.specs.declared.instr.Note.{Note}
use Rattle.rt_lines.specs.Operand.{TaskName}
use Rattle.rt_lines.specs.Parts.{lines, words}
use Rattle.rt_lines.specs.Table.{operand_word}
use Rattle.rt_lines.proofs.Apart.{same_cons, told_apart}
use Rattle.rt_lines.proofs.Unbroken.{IsUnbroken, fed, lines_fed}
use Rattle.rt_lines.proofs.Words.{IsFreeOf}
use Rattle.rt_listing.specs.Listing.{form_word, handler_words, listing}
use Rattle.rt_listing.specs.Numbers.{IsShort, AreShort, handler_numbers, instr_numbers, note_numbers, HasShortNumbers}
use Rattle.rt_listing.specs.Words.{instr_rows, instr_first, instr_operands, instr_words, note_rows, note_first}
use Rattle.rt_listing.specs.Words.{note_operands, note_words, noted_words}
use Rattle.rt_listing.proofs.Lines.{Row, row_text, first_row, cell_row, irq_row, body_row, code_row, numbered}
use Rattle.rt_listing.proofs.Lines.{code_rows}
use Rattle.rt_listing.proofs.Lines.{body_rows, irq_rows, cell_rows, listing_rows, rows_text, listing_text, IsFreeRow}
use Rattle.rt_listing.proofs.Lines.{row_unbroken, row_spaced, AreFreeOf, rows_free, blank_free}
use Rattle.rt_listing.proofs.Named.{same_number, same_value, IsNamed, instr_named, note_named}
use Rattle.rt_listing.proofs.Told.{IsAny, instrs_agree, notes_agree}

other_text : (v w : List ℕ) → bytes_eq v w ≡ false → v ≢ w
other_text v w other e = false≢true (sym other ∙ (bytes_eq-Decides v w).1 e)

-- rows without spaces and line feeds are told by their text
rows_alike : (rs ss : List Row) → AllByRecursion (IsFreeRow 32) rs → AllByRecursion (IsFreeRow 32) ss
    → map row_text rs ≡ map row_text ss → rs ≡ ss
rows_alike [] [] p q e = refl
rows_alike [] (s ∷ ss) p q e = absurd (cc)
rows_alike (r ∷ rs) [] p q e = absurd (cc)
rows_alike (r ∷ rs) (s ∷ ss) p q e =
    let one = same_cons (row_text r) (row_text s) (map row_text rs) (map row_text ss) e in
    let same = same_cons r.0 s.0 r.1 s.1 (sym (row_spaced r p.0) ∙ ap words one.0 ∙ row_spaced s q.0) in
    let first : r ≡ s = rw (same.0, same.1) refl in
    ap₂ (λ (x : Row) (xs : List Row). x ∷ xs) first (rows_alike rs ss p.1 q.1 one.1)

rows_back : (rs : List Row) → AllByRecursion (IsFreeRow 10) rs → lines (rows_text rs) ≡ map row_text rs
rows_back rs free =
    ap lines (sym (flat_map-map fed row_text rs) ∙ sym (append-nil (flat_map fed (map row_text rs))))
    ∙ lines_fed (map row_text rs) [] (all_map row_text (IsFreeRow 10) IsUnbroken row_unbroken rs free)
    ∙ append-nil (map row_text rs)

pub free_of : (byte : ℕ) → Contains blanks byte → (img : Image) → IsListable img → AreFreeOf byte img
free_of byte blank img is =
    let free = λ (w : List ℕ) (plain : IsPlain w). blank_free byte blank w plain.word in
    let names = is.names in
    record {
      names = record {
        irqs = all_weaker (λ irq. IsPlain irq.0) (λ irq. IsFreeOf byte irq.0) (λ irq. free irq.0) img.names.irqs
            names.irqs;
        tasks = all_weaker IsPlain (IsFreeOf byte) free img.names.tasks names.tasks;
        shared = all_weaker IsPlain (IsFreeOf byte) free img.names.shared names.shared;
      };
      cells = all_weaker (λ cell. IsWord cell.name) (λ cell. IsFreeOf byte cell.name)
          (λ cell word. blank_free byte blank cell.name word) img.cells is.cells;
      irqs = all_weaker (λ row. IsPlain row.name) (λ row. IsFreeOf byte row.name) (λ row. free row.name) img.irqs
          is.irqs;
    }

pub same_rows : (a b : Image) → IsListable a → IsListable b → listing a ≡ listing b → listing_rows a ≡ listing_rows b
same_rows a b p q texts =
    let spaces = λ (img : Image) (is : IsListable img). rows_free 32 refl (refl, tt) (refl, tt) img
    (free_of 32 (3, omega arith, refl) img is) in
    let feeds = λ (img : Image) (is : IsListable img). rows_free 10 refl (refl, tt) (refl, tt) img
    (free_of 10 (1, omega arith, refl) img is) in
    rows_alike (listing_rows a) (listing_rows b) (spaces a p) (spaces b q)
    (sym (rows_back (listing_rows a) (feeds a p))
    ∙ ap lines (sym (listing_text a) ∙ texts ∙ listing_text b)
    ∙ rows_back (listing_rows b) (feeds b q))

-- no row of these begins with this word
abbrev IsOther : List ℕ → List Row → Type 0
IsOther own [] = Unit {0}
IsOther own (row ∷ rows) = row.0 ≢ own

-- a kind of rows
record IsKind {A : Type 0} (Good : A → Type 0) (row : ℕ → A → Row) (own : List ℕ) : Type 0 where
  owned : (n : ℕ) (x : A) → (row n x).0 ≡ own
  tells : (n : ℕ) (x y : A) → Good x → Good y → (row n x).1 ≡ (row n y).1 → x ≡ y

module _ {A : Type 0} (Good : A → Type 0) (row : ℕ → A → Row) (own : List ℕ) (kind : IsKind Good row own) where
  begins_otherwise : (n : ℕ) (xs : List A) (more : List Row) (other : List ℕ) → own ≢ other → IsOther other more
      → IsOther other (numbered row n xs ++ more)
  begins_otherwise n [] more other differ h = h
  begins_otherwise n (x ∷ xs) more other differ h = λ e. differ (sym (kind.owned n x) ∙ e)

  rows_tell : (n : ℕ) (xs ys : List A) (r s : List Row) → AllByRecursion Good xs → AllByRecursion Good ys
      → IsOther own r → IsOther own s
      → numbered row n xs ++ r ≡ numbered row n ys ++ s → (xs ≡ ys) × (r ≡ s)
  rows_tell n [] [] r s gx gy hr hs e = (refl, e)
  rows_tell n [] (y ∷ ys) r s gx gy hr hs e =
      let begins : IsOther own (row n y ∷ (numbered row (suc n) ys ++ s)) = subst (IsOther own) e hr in
      absurd (begins (kind.owned n y))
  rows_tell n (x ∷ xs) [] r s gx gy hr hs e =
      let begins : IsOther own (row n x ∷ (numbered row (suc n) xs ++ r)) = subst (IsOther own) (sym e) hs in
      absurd (begins (kind.owned n x))
  rows_tell n (x ∷ xs) (y ∷ ys) r s gx gy hr hs e =
      let one = same_cons (row n x) (row n y) (numbered row (suc n) xs ++ r) (numbered row (suc n) ys ++ s) e in
      let rec = rows_tell (suc n) xs ys r s gx.1 gy.1 hr hs one.1 in (
        ap₂ (λ (a : A) (l : List A). a ∷ l)
            (kind.tells n x y gx.0 gy.0 (ap (λ (p : Row). p.1) one.0)) rec.0,
        rec.1,
      )

-- numbers are told by their words
same_numbers : (xs ys : List ℕ) → AreShort xs → AreShort ys → map decimal xs ≡ map decimal ys → xs ≡ ys
same_numbers [] [] p q e = refl
same_numbers [] (y ∷ ys) p q e = absurd (cc)
same_numbers (x ∷ xs) [] p q e = absurd (cc)
same_numbers (x ∷ xs) (y ∷ ys) p q e =
    let one = same_cons (decimal x) (decimal y) (map decimal xs) (map decimal ys) e in
    ap₂ (λ (n : ℕ) (ns : List ℕ). n ∷ ns) (same_number x y p.0 q.0 one.0) (same_numbers xs ys p.1 q.1 one.1)

cells : IsKind (λ cell. IsShort cell.first) cell_row (codes "cell")
cells = record {
  owned = λ n cell. refl;
  tells =
      λ n x y p q e.
      let number = same_cons (decimal n) (decimal n) (decimal x.first ∷ x.name ∷ [])
      (decimal y.first ∷ y.name ∷ []) e in
      let first = same_cons (decimal x.first) (decimal y.first) (x.name ∷ []) (y.name ∷ []) number.1 in
      let name = same_cons x.name y.name [] [] first.1 in
      rw (name.0, same_number x.first y.first p q first.0) refl;
}

same_handler : (g h : Option Handler) → AreShort (handler_numbers g) → AreShort (handler_numbers h)
    → handler_words g ≡ handler_words h → g ≡ h
same_handler None None p q e = refl
same_handler None (Some h) p q e = absurd (cc)
same_handler (Some g) None p q e = absurd (cc)
same_handler (Some g) (Some h) p q e =
    let all = same_numbers (handler_numbers (Some g)) (handler_numbers (Some h)) p q e in
    let value : g.value ≡ h.value = cc in
    let entry : g.entry ≡ h.entry = cc in
    let frame : g.frame ≡ h.frame = cc in
    rw (value, entry, frame) refl

irqs : IsKind (λ row. AreShort (row.number ∷ handler_numbers row.handler)) (λ n. irq_row) (codes "irq")
irqs = record {
  owned = λ n row. refl;
  tells =
      λ n x y p q e.
      let name = same_cons x.name y.name (decimal x.number ∷ handler_words x.handler)
      (decimal y.number ∷ handler_words y.handler) e in
      let number = same_cons (decimal x.number) (decimal y.number) (handler_words x.handler) (handler_words y.handler)
      name.1 in
      rw (
        name.0,
        same_number x.number y.number p.0 q.0 number.0,
        same_handler x.handler y.handler p.1 q.1 number.1,
      ) refl;
}

-- what an instruction and its note need to be told
record IsGoodLine (names : Names) (code : Instr × Option Note) : Type 0 where
  pub instr : HasInstr names code.0
  pub note : HasNote names code.1
  pub operands : AreShort (instr_numbers code.0)
  pub slots : AreShort (note_numbers code.1)

module _ (names : Names) (good : AreWritable names) where
  bodies : IsKind (λ row. IsTask names row.task × AreShort (row.entry ∷ row.frame ∷ row.args ∷ []))
      (λ n. body_row names) (codes "body")
  bodies = record {
    owned = λ n row. refl;
    tells =
        λ n x y p q e.
        let xs = x.entry ∷ x.frame ∷ x.args ∷ [] in
        let ys = y.entry ∷ y.frame ∷ y.args ∷ [] in
        let name = same_cons (operand_word names (TaskName, x.task)) (operand_word names (TaskName, y.task))
        (map decimal xs) (map decimal ys) e in
        let all = same_numbers xs ys p.1 q.1 name.1 in
        let entry : x.entry ≡ y.entry = cc in
        let frame : x.frame ≡ y.frame = cc in
        let args : x.args ≡ y.args = cc in
        rw (same_value names good TaskName x.task y.task p.0 q.0 name.0, entry, frame, args) refl;
  }

  same_note : (m n : Option Note) → HasNote names m → HasNote names n → AreShort (note_numbers m)
      → AreShort (note_numbers n) → noted_words names m ≡ noted_words names n → m ≡ n
  same_note None None has here p q e = refl
  same_note None (Some n) has here p q e = absurd (cc)
  same_note (Some m) None has here p q e = absurd (cc)
  same_note (Some m) (Some n) has here p q e =
      let same = same_cons (codes ";") (codes ";") (note_words names m) (note_words names n) e in
      let apart = told_apart names (IsNamed names good) (same_value names good) false note_rows note_first note_operands
      IsAny notes_agree refl m n tt tt (note_named names good m has p) (note_named names good n here q) [] []
      (ap (λ (ws : List (List ℕ)). note_first m ∷ ws) (append-nil _) ∙ same.1
      ∙ ap (λ (ws : List (List ℕ)). note_first n ∷ ws) (sym (append-nil _))) in
      ap Some apart.0

  code : IsKind (IsGoodLine names) (code_row names) (codes "code")
  code = record {
    owned = λ n line. refl;
    tells =
        λ n x y p q e.
        let number = same_cons (decimal n) (decimal n) (instr_words names x.0 ++ noted_words names x.1)
        (instr_words names y.0 ++ noted_words names y.1) e in
        let instr = told_apart names (IsNamed names good) (same_value names good) false instr_rows instr_first
        instr_operands IsAny instrs_agree refl x.0 y.0 tt tt (instr_named names good x.0 p.instr p.operands)
        (instr_named names good y.0 q.instr q.operands) (noted_words names x.1) (noted_words names y.1) number.1 in
        let note = same_note x.1 y.1 p.note q.note p.slots q.slots instr.1 in
        rw (instr.0, note) refl;
  }

good_lines : (names : Names) (lines : List (Instr × Option Note))
    → AllByRecursion (λ line. HasInstr names line.0) lines → AllByRecursion (λ line. HasNote names line.1) lines
    → AllByRecursion (λ line. AreShort (instr_numbers line.0)) lines
    → AllByRecursion (λ line. AreShort (note_numbers line.1)) lines
    → AllByRecursion (IsGoodLine names) lines
good_lines names [] i n o s = tt
good_lines names (line ∷ lines) i n o s = (
  record { instr = i.0; note = n.0; operands = o.0; slots = s.0 },
  good_lines names lines i.1 n.1 o.1 s.1,
)

same_form : (a b : Bool) → form_word a ≡ form_word b → a ≡ b
same_form true true e = refl
same_form true false e = absurd (other_text (codes "2") (codes "1") refl e)
same_form false true e = absurd (other_text (codes "1") (codes "2") refl e)
same_form false false e = refl

same_image : (a b : Image) → a.fpu ≡ b.fpu → a.bits ≡ b.bits → a.stack_bytes ≡ b.stack_bytes
    → a.thread_words ≡ b.thread_words
    → a.cells ≡ b.cells → a.irqs ≡ b.irqs → a.bodies ≡ b.bodies → a.code ≡ b.code → a.names ≡ b.names → a ≡ b
same_image a b fpu bits stack_bytes thread_words same_cells same_irqs same_bodies same_code names =
    rw (fpu, bits, stack_bytes, thread_words, same_cells, same_irqs, same_bodies, same_code, names) refl

-- no rows for code, and then none for bodies or interrupts, begin as those of another kind do
code_differs : (names : Names) (img : Image) (other : List ℕ) → AreWritable names → codes "code" ≢ other
    → IsOther other (code_rows names img)
code_differs names img other good differ =
    subst (IsOther other) (append-nil (code_rows names img))
    (begins_otherwise _ _ _ (code names good) 0 img.code [] other differ tt)

bodies_differ : (names : Names) (img : Image) (other : List ℕ) → AreWritable names → codes "body" ≢ other
    → codes "code" ≢ other → IsOther other (body_rows names img)
bodies_differ names img other good own next =
    begins_otherwise _ _ _ (bodies names good) 0 img.bodies (code_rows names img) other own
    (code_differs names img other good next)

irqs_differ : (names : Names) (img : Image) → AreWritable names → IsOther (codes "cell") (irq_rows names img)
irqs_differ names img good =
    begins_otherwise _ _ _ irqs 0 img.irqs (body_rows names img) (codes "cell")
    (other_text (codes "irq") (codes "cell") refl)
    (bodies_differ names img (codes "cell") good (other_text (codes "body") (codes "cell") refl)
    (other_text (codes "code") (codes "cell") refl))

-- an image of which each row is told
record IsTold (names : Names) (img : Image) : Type 0 where
  bits : IsShort img.bits
  stack_bytes : IsShort img.stack_bytes
  thread_words : IsShort img.thread_words
  cells : AllByRecursion (λ cell. IsShort cell.first) img.cells
  irqs : AllByRecursion (λ row. AreShort (row.number ∷ handler_numbers row.handler)) img.irqs
  bodies : AllByRecursion (λ row. IsTask names row.task × AreShort (row.entry ∷ row.frame ∷ row.args ∷ [])) img.bodies
  code : AllByRecursion (IsGoodLine names) img.code

told : (img : Image) → IsListable img → HasShortNumbers img → IsTold img.names img
told img listable short = record {
  bits = short.bits;
  stack_bytes = short.stack_bytes;
  thread_words = short.thread_words;
  cells = short.cells;
  irqs = short.irqs;
  bodies = all_both _ _ img.bodies listable.bodies short.bodies;
  code = good_lines img.names img.code listable.instrs listable.notes short.instrs short.notes;
}

same_over : (names : Names) (a b : Image) → AreWritable names → IsTold names a → IsTold names b → a.names ≡ b.names
    → first_row a (length a.code) (length a.cells) ∷ cell_rows names a
    ≡ first_row b (length b.code) (length b.cells) ∷ cell_rows names b → a ≡ b
same_over names a b good p q same_names rows =
    let head = same_cons (first_row a (length a.code) (length a.cells)) (first_row b (length b.code) (length b.cells))
    (cell_rows names a) (cell_rows names b) rows in
    let form = same_cons (form_word a.fpu) (form_word b.fpu) _ _ (ap (λ (r : Row). r.1) head.0) in
    let bits = same_cons (decimal a.bits) (decimal b.bits) _ _ form.1 in
    let stack = same_cons (decimal a.stack_bytes) (decimal b.stack_bytes) _ _ bits.1 in
    let thread = same_cons (decimal a.thread_words) (decimal b.thread_words) _ _ stack.1 in
    let first = rows_tell _ _ _ cells 0 a.cells b.cells (irq_rows names a) (irq_rows names b) p.cells q.cells
    (irqs_differ names a good) (irqs_differ names b good) head.1 in
    let second = rows_tell _ _ _ irqs 0 a.irqs b.irqs (body_rows names a) (body_rows names b) p.irqs q.irqs
    (bodies_differ names a (codes "irq") good (other_text (codes "body") (codes "irq") refl)
    (other_text (codes "code") (codes "irq") refl))
    (bodies_differ names b (codes "irq") good (other_text (codes "body") (codes "irq") refl)
    (other_text (codes "code") (codes "irq") refl)) first.1 in
    let third = rows_tell _ _ _ (bodies names good) 0 a.bodies b.bodies (code_rows names a) (code_rows names b) p.bodies
    q.bodies (code_differs names a (codes "body") good (other_text (codes "code") (codes "body") refl))
    (code_differs names b (codes "body") good (other_text (codes "code") (codes "body") refl)) second.1 in
    let last = rows_tell _ _ _ (code names good) 0 a.code b.code [] [] p.code q.code tt tt
    (append-nil (code_rows names a) ∙ third.1 ∙ sym (append-nil (code_rows names b))) in
    same_image a b (same_form a.fpu b.fpu form.0) (same_number a.bits b.bits p.bits q.bits bits.0)
    (same_number a.stack_bytes b.stack_bytes p.stack_bytes q.stack_bytes stack.0)
    (same_number a.thread_words b.thread_words p.thread_words q.thread_words thread.0)
    first.0 second.0 third.0 last.0 same_names

pub images_apart : (a b : Image) → IsListable a → IsListable b → HasShortNumbers a → HasShortNumbers b → a.names
    ≡ b.names
    → listing a ≡ listing b → a ≡ b
images_apart a b p q short_a short_b names texts =
    same_over a.names a b p.names (told a p short_a)
    (subst (λ n. IsTold n b) (sym names) (told b q short_b)) names
    (same_rows a b p q texts
    ∙ ap (λ n. first_row b (length b.code) (length b.cells) ∷ cell_rows n b) (sym names))
