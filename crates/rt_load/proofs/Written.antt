-- A line of code is read as what it is the line of.
use Rattle.std.proofs.Common.{◌≡◌, ◌^◌, ◌==◌, ℕ, true, false, List, [], ◌∷◌, ◌++◌, decimal, Option}
use Rattle.std.proofs.Common.{Some, None, Result, Ok, Err, if◌then◌else◌, refl, ap, sym, ◌∙◌, subst, arith, eq-eqb}
use Rattle.std.specs.List.{AllByRecursion}
use Rattle.std.specs.Option.{ok_or}
use Rattle.std.proofs.lemmas.Bool.{eqb-true, false≢true}
use Rattle.rt_ids.specs.declared.ids.BodyId.{BodyId}
use Rattle.rt_ids.specs.declared.ids.BodyId.TheVariants as body
use Rattle.rt_ids.specs.declared.ids.Section.{Section}
use Rattle.rt_ids.specs.declared.ids.Section.TheVariants as section
use Rattle.rt_ids.specs.Names.{Names, AreNames}
use Rattle.rt_ids.specs.Naming.{IsBody}
use Rattle.rt_code.specs.Listable.{HasSection, HasInstr, HasNote}
use Rattle.rt_code.specs.declared.instr.Instr.{Instr}
use Rattle.rt_code.specs.declared.instr.Instr.TheVariants as instr
use Rattle.rt_code.specs.declared.instr.Note.{Note}
use Rattle.rt_code.specs.declared.instr.Note.TheVariants as note
use Rattle.rt_lines.specs.Answers.{and_make}
use Rattle.rt_lines.specs.Numbers.{number_below, Is32Bits}
use Rattle.rt_lines.specs.Operand.{IsSection, number_at, HasLevel}
use Rattle.rt_lines.specs.Table.{both, IsWritten, said_at}
use Rattle.rt_lines.specs.declared.operand.Wrong.{Wrong}
use Rattle.rt_lines.specs.declared.operand.Wrong.TheVariants as wrong
use Rattle.rt_lines.proofs.More.{AreKnown}
use Rattle.rt_lines.proofs.Numerals.{number_read, number_spelling}
use Rattle.rt_lines.proofs.Told.{written_is_read, read_is_written}
use Rattle.rt_listing.specs.Listing.{code_words}
use Rattle.rt_listing.specs.Numbers.{instr_numbers}
use Rattle.rt_listing.specs.Words.{instr_rows, instr_first, instr_operands, instr_words, note_rows, note_first}
use Rattle.rt_listing.specs.Words.{note_operands, noted_words}
use Rattle.rt_listing.proofs.Told.{IsAny, instrs_agree, notes_agree}
use Rattle.rt_load.specs.Loadable.{IsNoteWithin, IsLineWithin}
use Rattle.rt_load.specs.Inside.Operand.{in_front, behind}
use Rattle.rt_load.specs.Inside.Noting.{words_at, note_after, line_at}
use Rattle.rt_load.proofs.Lines.{code_cut, words_cut, note_part, noted_is, end_words}
use Rattle.rt_load.proofs.Read.{then_ok, make_ok, if_ok, same_ok}

-- what has its names, and numbers of 32 bits, has its words
section_has : (names : Names) (x : Section) → HasSection names x → HasLevel x → IsSection names x
section_has names (section.Res r) has within = has
section_has names (section.Free t) has within = has
section_has names (section.Ready p) has within = within
section_has names section.Timer has within = tt

section_right : (names : Names) (x : Section) → IsSection names x → HasSection names x × HasLevel x
section_right names (section.Res r) h = (h, tt)
section_right names (section.Free t) h = (h, tt)
section_right names (section.Ready p) h = (tt, h)
section_right names section.Timer h = (tt, tt)

body_right : (names : Names) (b : BodyId) → IsBody names b → IsBody names b
body_right names (body.Task t) h = h
body_right names b h = tt

pub instr_has : (names : Names) (i : Instr) → HasInstr names i → AllByRecursion Is32Bits (instr_numbers i)
    → AllByRecursion (IsWritten names) (instr_operands i)
instr_has names (instr.Post irq) has within = (has, tt)
instr_has names (instr.Alarm s irq) has within = (within.0, (has, tt))
instr_has names i has within = within

instr_right : (names : Names) (i : Instr) → AllByRecursion (IsWritten names) (instr_operands i)
    → HasInstr names i × AllByRecursion Is32Bits (instr_numbers i)
instr_right names (instr.Post irq) written = (written.0, tt)
instr_right names (instr.Alarm s irq) written = (written.1.0, (written.0, tt))
instr_right names i written = (tt, written)

pub note_has : (names : Names) (n : Note) → HasNote names (Some n) → IsNoteWithin (Some n)
    → AllByRecursion (IsWritten names) (note_operands n)
note_has names (note.Enter x) has within = (section_has names x has within, tt)
note_has names (note.Leave x) has within = (section_has names x has within, tt)
note_has names (note.Start t s) has within = (has, (within, tt))
note_has names (note.Arm t s) has within = (has, (within, tt))
note_has names (note.Cancel t s) has within = (has, (within, tt))
note_has names (note.Move t s a) has within = (has, (within.0, (within.1, tt)))
note_has names (note.End b) has within = (has, tt)
note_has names n has within = (has, tt)

note_right : (names : Names) (n : Note) → AllByRecursion (IsWritten names) (note_operands n)
    → HasNote names (Some n) × IsNoteWithin (Some n)
note_right names (note.Enter x) written = section_right names x written.0
note_right names (note.Leave x) written = section_right names x written.0
note_right names (note.Start t s) written = (written.0, written.1.0)
note_right names (note.Arm t s) written = (written.0, written.1.0)
note_right names (note.Cancel t s) written = (written.0, written.1.0)
note_right names (note.Move t s a) written = (written.0, (written.1.0, written.1.1.0))
note_right names (note.End b) written = (body_right names b written.0, tt)
note_right names n written = (written.0, tt)

-- a line of code over tables that have its names
pub record IsRight (names : Names) (line : Instr × Option Note) : Type 0 where
  pub within : IsLineWithin line
  pub instr : HasInstr names line.0
  pub note : HasNote names line.1

note_read : (names : Names) (n : Option Note) → AreNames names → HasNote names n → IsNoteWithin n
    → note_after names (note_part names n) ≡ Ok n
note_read names None are has within = refl
note_read names (Some n) are has within = ap (λ (r : Result Note Wrong). and_make r Some)
    (written_is_read false note_rows note_first note_operands IsAny notes_agree names are n tt
    (note_has names n has within))

-- the line of an address, the words being read so
pub line_reads : (names : Names) (address : ℕ) (ws : List (List ℕ)) → Is32Bits address
    → line_at names address (decimal address ∷ ws)
    ≡ both (words_at instr_rows names (in_front ws)) (note_after names (behind ws))
line_reads names address ws few =
    rw (number_read (2 ^ 32) address few (omega arith), eq-eqb address address refl) refl

pub line_same : (names : Names) (address : ℕ) (line : Instr × Option Note) → AreNames names → AreKnown names
    → Is32Bits address → IsRight names line → line_at names address (code_words names address line) ≡ Ok line
line_same names address line are known few right =
    let cut = code_cut names line known in
    let within = right.within in
    line_reads names address (instr_words names line.0 ++ noted_words names line.1) few
    ∙ rw (
      cut.0,
      cut.1,
      written_is_read false instr_rows instr_first instr_operands IsAny instrs_agree names are line.0 tt
          (instr_has names line.0 right.instr within.operands),
      note_read names line.1 are right.note within.note,
    ) refl

-- and words that are read are those of what is read
both_ok : {A B : Type 0} (r : Result A Wrong) (s : Result B Wrong) (p : A × B) → both r s ≡ Ok p
    → (r ≡ Ok p.0) × (s ≡ Ok p.1)
both_ok (Ok a) (Ok b) p e =
    let same = same_ok (Ok (a, b)) (a, b) p refl e in
    (ap (λ (q : _ × _). Ok q.0) same, ap (λ (q : _ × _). Ok q.1) same)
both_ok (Ok a) (Err w) p e = absurd (cc)
both_ok (Err w) (Ok b) p e = absurd (cc)
both_ok (Err wrong.Form) (Err w) p e = absurd (cc)
both_ok (Err wrong.Name) (Err w) p e = absurd (cc)

no_irqs : {P : Type 0} → false ≡ true → P
no_irqs e = absurd (false≢true e)

record SaysInstr (names : Names) (ws : List (List ℕ)) (i : Instr) : Type 0 where
  pub words_are : ws ≡ instr_words names i
  pub has : HasInstr names i
  pub within : AllByRecursion Is32Bits (instr_numbers i)

instr_from : (names : Names) (ws : List (List ℕ)) (i : Instr) → words_at instr_rows names ws ≡ Ok i
    → SaysInstr names ws i
instr_from names [] i e = absurd (cc)
instr_from names (first ∷ ws) i e =
    let is = read_is_written false instr_rows instr_first instr_operands IsAny instrs_agree names no_irqs first ws i e
    in
    let right = instr_right names i is.2 in
    record {
      words_are = ap (λ (w : List ℕ). w ∷ ws) is.0 ∙ ap (λ (vs : List (List ℕ)). instr_first i ∷ vs) is.1;
      has = right.0;
      within = right.1;
    }

record SaysNote (names : Names) (part : Option (List (List ℕ))) (n : Option Note) : Type 0 where
  pub part_is : part ≡ note_part names n
  pub has : HasNote names n
  pub within : IsNoteWithin n

note_from : (names : Names) (part : Option (List (List ℕ))) (n : Option Note) → note_after names part ≡ Ok n
    → SaysNote names part n
note_from names None n e =
    subst (SaysNote names None) (same_ok (Ok None) None n refl e) (record { part_is = refl; has = tt; within = tt })
note_from names (Some []) n e = absurd (cc)
note_from names (Some (first ∷ ws)) n e =
    let made = make_ok (said_at note_rows names first ws) Some n e in
    let is = read_is_written false note_rows note_first note_operands IsAny notes_agree names no_irqs first ws made.0
    made.1 in
    let right = note_right names made.0 is.2 in
    subst (SaysNote names (Some (first ∷ ws))) made.2 (record {
      part_is = ap (λ (w : List ℕ). Some (w ∷ ws)) is.0
          ∙ ap (λ (vs : List (List ℕ)). Some (note_first made.0 ∷ vs)) is.1;
      has = right.0;
      within = right.1;
    })

-- these are the words of a line of code
pub record SaysLine (names : Names) (address : ℕ) (ws : List (List ℕ)) (line : Instr × Option Note) : Type 0 where
  pub words_are : ws ≡ code_words names address line
  pub right : IsRight names line

pub line_from : (names : Names) (address : ℕ) (ws : List (List ℕ)) (line : Instr × Option Note)
    → line_at names address ws ≡ Ok line → SaysLine names address ws line
line_from names address [] line e = absurd (cc)
line_from names address (number ∷ ws) line e =
    let rest = both (words_at instr_rows names (in_front ws)) (note_after names (behind ws)) in
    let parts = then_ok (number_at (2 ^ 32) number) (λ n. if n == address then rest else Err wrong.Form) line e in
    let here = if_ok (parts.0 == address) rest wrong.Form line parts.2 in
    let said = both_ok (words_at instr_rows names (in_front ws)) (note_after names (behind ws)) line here.1 in
    let i = instr_from names (in_front ws) line.0 said.0 in
    let n = note_from names (behind ws) line.1 said.1 in
    record {
      words_are =
          ap (λ (w : List ℕ). w ∷ ws) (spelled number parts.0 parts.1 ∙ ap decimal (eqb-true parts.0 address here.0))
          ∙ ap (λ (vs : List (List ℕ)). decimal address ∷ vs)
          (words_cut ws ∙ ap (λ (vs : List (List ℕ)). vs ++ end_words (behind ws)) i.words_are
          ∙ ap (λ (p : Option (List (List ℕ))). instr_words names line.0 ++ end_words p) n.part_is
          ∙ ap (λ (vs : List (List ℕ)). instr_words names line.0 ++ vs) (sym (noted_is names line.1)));
      right = record {
        within = record { operands = i.within; note = n.within };
        instr = i.has;
        note = n.has;
      };
    }
  where
    or_form : (o : Option ℕ) (n : ℕ) → ok_or o wrong.Form ≡ Ok n → o ≡ Some n
    or_form (Some m) n e = let same : m ≡ n = cc in ap Some same
    or_form None n e = absurd (cc)

    spelled : (word : List ℕ) (n : ℕ) → number_at (2 ^ 32) word ≡ Ok n → word ≡ decimal n
    spelled word n e =
        let is = number_spelling (2 ^ 32) n word (omega arith) (or_form (number_below (2 ^ 32) word) n e) in is.0
