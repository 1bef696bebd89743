-- Where nothing is wrong with a line but that a name in it is in no table.
use Rattle.std.proofs.Common.{◌≡◌, ◌&&◌, ℕ, true, false, List, [], ◌∷◌, ◌++◌, length, flat_map, decimal, codes}
use Rattle.std.proofs.Common.{bytes_eq, nat_lt, Option, Some, None, Result, Ok, Err, if◌then◌else◌, refl, ap, sym, ◌∙◌}
use Rattle.std.proofs.Common.{IfOk, subst, arith}
use Rattle.std.specs.List.{AllByRecursion}
use Rattle.rt_lemmas.proofs.Bools.{and_parts, true_and_false}
use Rattle.rt_lemmas.proofs.Lists.{all_append}
use Rattle.rt_ids.specs.Lists.{is_empty}
use Rattle.rt_ids.specs.Names.{Names, AreNames, with_task}
use Rattle.rt_ids.specs.Word.{is_identifier}
use Rattle.rt_code.specs.Listable.{HasNote}
use Rattle.rt_code.specs.declared.instr.Instr.{Instr}
use Rattle.rt_code.specs.declared.instr.Instr.TheVariants as instr
use Rattle.rt_code.specs.declared.instr.Note.{Note}
use Rattle.rt_lines.specs.Answers.{and_make}
use Rattle.rt_lines.specs.Parts.{parts, words, line_with_feed}
use Rattle.rt_lines.specs.Reading.{Lead}
use Rattle.rt_lines.specs.Table.{both, spaced_text}
use Rattle.rt_lines.specs.declared.operand.Wrong as answer
use Rattle.rt_lines.specs.declared.operand.Wrong.TheVariants as word
use Rattle.rt_lines.proofs.Apart.{same_cons}
use Rattle.rt_lines.proofs.Reading.{kept}
use Rattle.rt_lines.proofs.More.{AreKnown, IsOkOrName, made_name, both_name, said_over}
use Rattle.rt_lines.specs.Numbers.{Is32Bits}
use Rattle.rt_listing.specs.Listing.{cell_line, irq_line, body_line, code_words}
use Rattle.rt_listing.specs.Words.{instr_rows, instr_first, instr_operands, instr_words, note_rows, note_first}
use Rattle.rt_listing.specs.Words.{note_operands, note_words, noted_words}
use Rattle.rt_listing.proofs.Lines.{code_row}
use Rattle.rt_listing.proofs.Told.{IsAny, instrs_agree, notes_agree}
use Rattle.rt_load.specs.Loadable.{IsNoteWithin}
use Rattle.rt_load.specs.Reading.{IsOneLine, AreMore, IsOfUnknownName}
use Rattle.rt_load.specs.Inside.Operand.{of_line, behind}
use Rattle.rt_load.specs.Inside.Noting.{words_at, note_after, line_at}
use Rattle.rt_load.specs.Inside.Rows.{cell_at, irq_row_at, body_row_at}
use Rattle.rt_load.specs.Inside.Taking.{if_line, has_cells, may_add_line, may_add_cell, may_add_irq, may_add_body}
use Rattle.rt_load.specs.Inside.Taking.{may_name_cell, is_in_cells, is_new_irq, is_new_task, and_cell, and_irq}
use Rattle.rt_load.specs.Inside.Taking.{and_body, and_line, next_line, next_cell, next_irq, next_body, take_cell}
use Rattle.rt_load.specs.Inside.Taking.{take_irq, take_body, take_code, take_words, take_line}
use Rattle.rt_load.specs.Inside.Reader.{fed_lines, ended, told, reader_step, listing_reader}
use Rattle.rt_load.specs.declared.front.Front.{Front}
use Rattle.rt_load.specs.declared.operand.Wrong.{Wrong}
use Rattle.rt_load.specs.declared.operand.Wrong.TheVariants as wrong
use Rattle.rt_load.proofs.Read.{then_ok, make_ok, if_ok, ok_err, chosen, of_line_ok}
use Rattle.rt_load.proofs.Lines.{known_names, code_text, code_spelled, code_cut, note_part, words_of_spelled}
use Rattle.rt_load.proofs.Lines.{line_of_spelled}
use Rattle.rt_load.proofs.{ForwardParts.chooses, Forward.whole}
use Rattle.rt_load.proofs.Fed.{step_fed}
use Rattle.rt_load.proofs.Leads.{Leads, told_ok, next_leads}
use Rattle.rt_load.proofs.Ends.{last_same}
use Rattle.rt_load.proofs.Fronts.{Stands}
use Rattle.rt_load.proofs.Written.{IsRight, instr_has, note_has, line_reads, line_from}

module _ (names more : Names) (are : AreNames names) (m : AreMore names more) where
  pub known_more : AreKnown more
  known_more =
      let known = known_names names are in
      record {
        irqs = subst (AllByRecursion (λ irq. is_identifier irq.0 ≡ true)) (sym m.irqs_are)
            (all_append (λ irq. is_identifier irq.0 ≡ true) names.irqs m.irqs known.irqs m.irqs_named);
        tasks = subst (AllByRecursion (λ name. is_identifier name ≡ true)) (sym m.tasks_are)
            (all_append (λ name. is_identifier name ≡ true) names.tasks m.tasks known.tasks m.tasks_named);
        shared = subst (AllByRecursion (λ name. is_identifier name ≡ true)) (sym m.shared_are)
            (all_append (λ name. is_identifier name ≡ true) names.shared m.shared known.shared m.shared_named);
      }

  note_over : (n : Option Note) → HasNote more n → IsNoteWithin n → IsOkOrName (note_after names (note_part more n))
  note_over None has within = tt
  note_over (Some n) has within =
      made_name (words_at note_rows names (note_words more n)) Some
      (said_over names more m.irqs are known_more m.irqs_are m.irqs_differ false note_rows note_first note_operands
      IsAny
      notes_agree n tt (note_has more n has within))

  -- a line over other tables is read, or has an unknown name
  line_over : (address : ℕ) (line : Instr × Option Note) → Is32Bits address → IsRight more line
      → IsOkOrName (line_at names address (code_words more address line))
  line_over address line few right =
      let cut = code_cut more line known_more in
      let within = right.within in
      let part = note_part more line.1 in
      let said = both_name (words_at instr_rows names (instr_words more line.0)) (note_after names part)
      (said_over names more m.irqs are known_more m.irqs_are m.irqs_differ false instr_rows instr_first instr_operands
      IsAny instrs_agree line.0 tt (instr_has more line.0 right.instr within.operands))
      (note_over line.1 right.note within.note) in
      subst IsOkOrName (sym (line_reads names address (instr_words more line.0 ++ noted_words more line.1) few
      ∙ ap (λ (ws : List (List ℕ)). both (words_at instr_rows names ws)
      (note_after names (behind (instr_words more line.0 ++ noted_words more line.1)))) cut.0
      ∙ ap (λ (p : Option (List (List ℕ))). both (words_at instr_rows names (instr_words more line.0))
      (note_after names p)) cut.1)) said

-- once there is code, names stay
record Keeps (front next : Front) : Type 0 where
  names : next.image.names ≡ front.image.names
  code : is_empty next.image.code ≡ false

some_pushed : {A : Type 0} (xs : List A) (x : A) → is_empty (xs ++ x ∷ []) ≡ false
some_pushed [] x = refl
some_pushed (y ∷ xs) x = refl

words_keep : (front next : Front) (line : List ℕ) (ws : List (List ℕ)) → is_empty front.image.code ≡ false
    → take_words front line ws ≡ Ok next → Keeps front next
words_keep front next line [] some e = absurd (cc)
words_keep front next line (kind ∷ ws) some e =
    let P = Keeps front next in
    chosen (bytes_eq kind (codes "cell")) (take_cell front line ws)
    (if bytes_eq kind (codes "irq") then take_irq front line ws else if bytes_eq kind (codes "body") then take_body
    front line ws
    else if bytes_eq kind (codes "code") then take_code front ws else Err wrong.Form) (Ok next) P e
    (λ _ is.
    let made = make_ok (next_cell front line ws) (and_cell front) next is in
    let parts = then_ok (cell_at ws) (λ cell. if may_add_cell front cell.name then if_line
    (cell_line (length front.image.cells) cell) line cell else Err wrong.Form) made.0 made.1 in
    let may = if_ok (may_add_cell front parts.0.name) (if_line (cell_line (length front.image.cells) parts.0) line
    parts.0) wrong.Form made.0 parts.2 in
    let both = and_parts (is_in_cells front) (may_name_cell front.image.names parts.0.name) may.0 in
    let none = and_parts ((nat_lt (length front.image.cells) front.cells && is_empty front.image.irqs)
    && is_empty front.image.bodies) (is_empty front.image.code) both.0 in
    absurd (true_and_false (is_empty front.image.code) none.1 some))
    (λ _ rest.
    chosen (bytes_eq kind (codes "irq")) (take_irq front line ws)
    (if bytes_eq kind (codes "body") then take_body front line ws
    else if bytes_eq kind (codes "code") then take_code front ws else Err wrong.Form) (Ok next) P rest
    (λ _ is.
    let made = make_ok (next_irq front line ws) (and_irq front) next is in
    let parts = then_ok (irq_row_at ws) (λ row. if may_add_irq front row.name then if_line (irq_line row) line row else
    Err wrong.Form) made.0 made.1 in
    let may = if_ok (may_add_irq front parts.0.name) (if_line (irq_line parts.0) line parts.0) wrong.Form made.0
    parts.2 in
    let both = and_parts ((has_cells front && is_empty front.image.bodies) && is_empty front.image.code)
    (is_new_irq front.image.names parts.0.name) may.0 in
    let none = and_parts (has_cells front && is_empty front.image.bodies) (is_empty front.image.code) both.0 in
    absurd (true_and_false (is_empty front.image.code) none.1 some))
    (λ _ last.
    chosen (bytes_eq kind (codes "body")) (take_body front line ws)
    (if bytes_eq kind (codes "code") then take_code front ws else Err wrong.Form) (Ok next) P last
    (λ _ is.
    let made = make_ok (next_body front line ws) (λ body. and_body front body.0 body.1) next is in
    let parts = then_ok (body_row_at (length front.image.names.tasks) ws) (λ body. if may_add_body front body.0
    then if_line (body_line (with_task front.image.names body.0) body.1) line body else Err wrong.Form) made.0 made.1 in
    let may = if_ok (may_add_body front parts.0.0)
    (if_line (body_line (with_task front.image.names parts.0.0) parts.0.1) line parts.0) wrong.Form made.0
    parts.2 in
    let both = and_parts (has_cells front && is_empty front.image.code) (is_new_task front.image.names parts.0.0)
    may.0 in
    let none = and_parts (has_cells front) (is_empty front.image.code) both.0 in
    absurd (true_and_false (is_empty front.image.code) none.1 some))
    (λ _ end.
    let is = if_ok (bytes_eq kind (codes "code")) (take_code front ws) wrong.Form next end in
    let made = make_ok (next_line front ws) (and_line front) next is.1 in
    subst (Keeps front) made.2 (record { names = refl; code = some_pushed front.image.code made.0 }))))

line_keeps : (front next : Front) (line : List ℕ) → is_empty front.image.code ≡ false → take_line front line ≡ Ok next
    → Keeps front next
unfolding take_line
line_keeps front next line some e = words_keep front next line (words line) some e

-- what a reader has read keeps these names, and there is code
abbrev HasKept : Names → Option Front → Type 0
HasKept names None = ⊥
HasKept names (Some front) = (front.image.names ≡ names) × (is_empty front.image.code ≡ false)

lines_keep : (names : Names) (s : Option Front) (line : List ℕ) → HasKept names s
    → IfOk (listing_reader.step s line) (HasKept names)
lines_keep names None line has = absurd has
lines_keep names (Some front) line has = by (ended (parts 10 line))
  where
    taken : (text : List ℕ) (r : Result Front Wrong) → take_line front text ≡ r → IfOk (told r) (HasKept names)
    taken text (Ok next) e = let keeps = line_keeps front next text has.1 e in (keeps.names ∙ has.0, keeps.code)
    taken text (Err w) e = tt

    by : (found : Option (List ℕ)) → IfOk (reader_step (Some front) found) (HasKept names)
    by None = tt
    by (Some text) = taken text (take_line front text) refl

-- where a `mark` at an address is taken
record Marked (front next : Front) (address : ℕ) : Type 0 where
  may : may_add_line front ≡ true
  address_is : decimal address ≡ decimal (length front.image.code)
  names : next.image.names ≡ front.image.names
  code : is_empty next.image.code ≡ false

mark_taken : (front next : Front) (names : Names) (address : ℕ) → AreKnown names
    → take_line front (code_text names address (instr.Mark, None)) ≡ Ok next → Marked front next address
unfolding take_line
mark_taken front next names address known e =
    let mark : Instr × Option Note = (instr.Mark, None) in
    let text = code_text names address mark in
    let ws = code_words names address mark in
    let spelled = words_of_spelled (code_row names address mark) (code_spelled names address mark known) in
    let is : take_code front ws ≡ Ok next = sym (ap (take_words front text) spelled) ∙ e in
    let fn = front.image.names in
    let index = length front.image.code in
    let made = make_ok (next_line front ws) (and_line front) next is in
    let may = if_ok (may_add_line front) (of_line (line_at fn index ws)) wrong.Form made.0 made.1 in
    let says = line_from fn index ws made.0 (of_line_ok (line_at fn index ws) made.0 may.1) in
    let same = same_cons (decimal address) (decimal index) _ _ says.words_are in
    record {
      may = may.0;
      address_is = same.0;
      names = ap (λ (f : Front). f.image.names) (sym made.2);
      code = subst (λ (f : Front). is_empty f.image.code ≡ false) made.2 (some_pushed front.image.code made.0);
    }

err_err : (r : Result Front Wrong) (w : Wrong) → r ≡ Err wrong.Name → r ≡ Err w → w ≡ wrong.Name
err_err r w a b = cc

-- a line that is wrong by an unknown name alone is refused for that name, where it is refused
refuted : (front : Front) (line : List ℕ) (more : Names) (address : ℕ) (code : Instr × Option Note) (w : Wrong)
    → AreMore front.image.names more → AreNames front.image.names
    → may_add_line front ≡ true → decimal address ≡ decimal (length front.image.code)
    → Is32Bits (length front.image.code)
    → IsRight more code → line ≡ code_text more address code
    → take_line front line ≡ Err w → w ≡ wrong.Name
unfolding take_line
refuted front line more address code w m are may here few right is e =
    let fn = front.image.names in
    let index = length front.image.code in
    let text = code_text more index code in
    let ws = code_words more index code in
    let text_is : line ≡ text = is ∙ ap (λ (d : List ℕ). codes "code"
    ++ spaced_text (d ∷ (instr_words more code.0 ++ noted_words more code.1))) here in
    let spelled = words_of_spelled (code_row more index code) (code_spelled more index code
    (known_more fn more are m)) in
    let step : take_line front text ≡ and_make (of_line (line_at fn index ws)) (and_line front) =
    ap (take_words front text) spelled
    ∙ ap (λ (r : Result (Instr × Option Note) Wrong). and_make r (and_line front))
    (chooses (may_add_line front) (of_line (line_at fn index ws)) may) in
    let refused : take_line front text ≡ Err w = ap (take_line front) (sym text_is) ∙ e in
    by (line_at fn index ws) refl (line_over fn more are m index code few right) (sym step ∙ refused)
  where
    by : (r : Result (Instr × Option Note) answer.Wrong)
        → line_at front.image.names (length front.image.code) (code_words more (length front.image.code) code) ≡ r
        → IsOkOrName r → and_make (of_line (line_at front.image.names (length front.image.code)
        (code_words more (length front.image.code) code))) (and_line front) ≡ Err w → w ≡ wrong.Name
    by (Ok x) p over q = absurd (ok_err (and_make (of_line (Ok x)) (and_line front)) (and_line front x) w refl
        (ap (λ (r : Result (Instr × Option Note) answer.Wrong). and_make (of_line r) (and_line front)) (sym p) ∙ q))
    by (Err word.Name) p over q = err_err (and_make (of_line (Err word.Name)) (and_line front)) w refl
        (ap (λ (r : Result (Instr × Option Note) answer.Wrong). and_make (of_line r) (and_line front)) (sym p) ∙ q)
    by (Err word.Form) p over q = absurd over

pub form_is : (before : List (List ℕ)) (front : Front) (line : List ℕ) (w : Wrong) → (w ≡ wrong.Name → ⊥)
    → AllByRecursion IsOneLine before → Leads None before (Some front) → Stands front
    → take_line front line ≡ Err w → ¬ IsOfUnknownName (flat_map line_with_feed before) line
form_is before front line w other all lead stands e u =
    let own_names = u.image.names in
    let mark : Instr × Option Note = (instr.Mark, None) in
    let text = code_text own_names u.address mark in
    let known_own = known_names own_names u.loadable.fits.names in
    let own : IsOneLine text = line_of_spelled (code_row own_names u.address mark)
    (code_spelled own_names u.address mark known_own) in
    let goes = next_leads u.image u.loadable before text u.behind (Some front) all own lead u.goes_on in
    let next = told_ok (take_line front text) goes.0 (sym (step_fed (Some front) text own) ∙ goes.1) in
    let marked = mark_taken front next.0 own_names u.address known_own next.1 in
    let fn = front.image.names in
    let index = length front.image.code in
    let keeps = kept listing_reader (HasKept fn) (lines_keep fn) (Some next.0) (Some (whole u.image u.loadable))
    (fed_lines u.behind)
    (subst (λ s. Lead listing_reader s (fed_lines u.behind) (Some (whole u.image u.loadable))) (sym next.2) goes.2)
    (marked.names, marked.code) in
    let m : AreMore fn u.names = subst (λ (n : Names). AreMore n u.names) keeps.0 u.more in
    let l = stands.loadable in
    let fits = stands.code in
    let few_lines = stands.few_lines in
    let few : Is32Bits index = omega (arith, fits, few_lines) in
    other (refuted front line u.names u.address u.code w m l.fits.names marked.may marked.address_is few
    (record { within = u.within; instr = u.has_instr; note = u.has_note })
    ((last_same line (code_text u.names u.address u.code) 10 10 (sym u.line_is)).0) e)
