-- A line that is taken leaves what stands, with the line behind the text so far.
use Rattle.std.proofs.Common.{◌≡◌, inr, ◌^◌, ℕ, Bool, true, ◌&&◌, nat_le, List, [], ◌∷◌, ◌++◌, length, Option}
use Rattle.std.proofs.Common.{Some, None, Ok, Err, if◌then◌else◌, refl, ap, sym, ◌∙◌, subst, arith, append-nil}
use Rattle.std.proofs.Common.{codes, bytes_eq}
use Rattle.std.proofs.lemmas.Bool.{leb-true}
use Rattle.std.proofs.lemmas.Option.{none-some}
use Rattle.std.proofs.lemmas.Slice.Eq.{bytes_eq-Decides}
use Rattle.rt_lemmas.proofs.Bools.{and_parts}
use Rattle.rt_ids.specs.Names.{AreNames, no_names, with_task}
use Rattle.rt_ids.specs.declared.cell.CellRow.{CellRow}
use Rattle.rt_ids.specs.declared.limits.TheConstants.{IRQ_NUMBERS, CODE_SIZE, LEAST_BITS, MOST_BITS}
use Rattle.rt_code.proofs.Writable.{names_writable}
use Rattle.rt_code.specs.declared.image.IrqRow.{IrqRow}
use Rattle.rt_code.specs.declared.image.BodyRow.{BodyRow}
use Rattle.rt_code.specs.declared.image.Handler.{Handler}
use Rattle.rt_lines.specs.Answers.{and_then, and_make}
use Rattle.rt_lines.specs.Parts.{words, line_with_feed}
use Rattle.rt_lines.proofs.Words.{spaced_words_of}
use Rattle.rt_lines.specs.Numbers.{Is32Bits}
use Rattle.rt_listing.specs.Listing.{first_line, cell_line, irq_line, body_line, code_line, code_words}
use Rattle.rt_load.specs.Loadable.{IsIrqWithin, IsHandlerWithin, IsBodyWithin}
use Rattle.rt_load.specs.Inside.Operand.{number_at, word_at, of_line}
use Rattle.rt_load.specs.Inside.Noting.{line_at}
use Rattle.rt_load.specs.Inside.Rows.{only, three, three_at, cell_at, service_at, handler_at, irq_row_at, body_row_at}
use Rattle.rt_load.specs.Inside.Taking.{if_line, front_of, first_at, is_within, take_first, may_add_cell, may_add_irq}
use Rattle.rt_load.specs.Inside.Taking.{may_add_body, may_add_line, and_cell, and_irq, and_body, and_line, next_cell}
use Rattle.rt_load.specs.Inside.Taking.{next_irq, next_body, next_line, take_cell, take_irq, take_body, take_code}
use Rattle.rt_load.specs.Inside.Taking.{take_words, take_line}
use Rattle.rt_load.specs.declared.front.Front.{Front}
use Rattle.rt_load.specs.declared.operand.Wrong.TheVariants as wrong
use Rattle.rt_load.proofs.Lines.{code_text}
use Rattle.rt_load.proofs.Read.{then_ok, make_ok, if_ok, line_ok, same_ok, number_from, number32_from}
use Rattle.rt_load.proofs.Read.{chosen, of_line_ok}
use Rattle.rt_load.proofs.Fronts.{front_text, Stands}
use Rattle.rt_load.proofs.Taken.{Goes, cell_goes, irq_goes, body_goes, line_goes}
use Rattle.rt_load.proofs.Written.{line_from}

goes_as : (front next other : Front) (line text : List ℕ) → Goes front next line → line ≡ text → next ≡ other
    → Goes front other text
goes_as front next other line text goes same is = subst (λ (f : Front). Goes front f text) is
    (subst (λ (l : List ℕ). Goes front next l) same goes)

-- cells
cell_within : (ws : List (List ℕ)) (cell : CellRow) → cell_at ws ≡ Ok cell → Is32Bits cell.first
cell_within ws cell e =
    let parts = then_ok (three ws) (λ w. and_make (word_at w.1) (λ n. record { name = w.2; first = n })) cell e in
    let made = make_ok (word_at parts.0.1) (λ n. record { name = parts.0.2; first = n }) cell parts.2 in
    let number = number32_from made.0 parts.0.1 made.1 in
    subst (λ (c : CellRow). Is32Bits c.first) made.2 number.1

cell_taken : (front next : Front) (line : List ℕ) (ws : List (List ℕ)) → Stands front → take_cell front line ws
    ≡ Ok next → Goes front next (line_with_feed line)
cell_taken front next line ws stands e =
    let made = make_ok (next_cell front line ws) (and_cell front) next e in
    let parts = then_ok (cell_at ws) (λ cell. if may_add_cell front cell.name
    then if_line (cell_line (length front.image.cells) cell) line cell else Err wrong.Form) made.0 made.1 in
    let cell = parts.0 in
    let may = if_ok (may_add_cell front cell.name) (if_line (cell_line (length front.image.cells) cell) line cell)
    wrong.Form made.0 parts.2 in
    let printed = line_ok (cell_line (length front.image.cells) cell) line cell made.0 may.1 in
    goes_as front (and_cell front cell) next (cell_line (length front.image.cells) cell) (line_with_feed line)
    (cell_goes front cell stands may.0 (cell_within ws cell parts.1)) printed.0 (ap (and_cell front) printed.1 ∙ made.2)

-- interrupts
service_within : (value entry frame : List ℕ) (h : Handler) → service_at value entry frame ≡ Ok h
    → IsHandlerWithin (Some h)
service_within value entry frame h e =
    let first = then_ok (number_at (2 ^ 8) value) (λ v. and_then (word_at entry) (λ e. and_make (word_at frame) (λ f.
    record { value = v; entry = e; frame = f }))) h e in
    let second = then_ok (word_at entry) (λ e. and_make (word_at frame)
    (λ f. record { value = first.0; entry = e; frame = f })) h first.2 in
    let made = make_ok (word_at frame) (λ f. record { value = first.0; entry = second.0; frame = f }) h second.2 in
    let v = number_from (2 ^ 8) first.0 value (omega arith) first.1 in
    let en = number32_from second.0 entry second.1 in
    let fr = number32_from made.0 frame made.1 in
    subst (λ (k : Handler). IsHandlerWithin (Some k)) made.2 (v.1, en.1, fr.1)

handler_within : (ws : List (List ℕ)) (h : Option Handler) → handler_at ws ≡ Ok h → IsHandlerWithin h
handler_within [] h e = absurd (cc)
handler_within (dash ∷ []) h e = subst IsHandlerWithin (same_ok (Ok None) None h refl e) tt
handler_within (value ∷ entry ∷ ws) h e =
    let parts = then_ok (only ws) (λ frame. and_make (service_at value entry frame) Some) h e in
    let made = make_ok (service_at value entry parts.0) Some h parts.2 in
    subst IsHandlerWithin made.2 (service_within value entry parts.0 made.0 made.1)

irq_within : (ws : List (List ℕ)) (row : IrqRow) → irq_row_at ws ≡ Ok row → IsIrqWithin row
irq_within [] row e = absurd (cc)
irq_within (name ∷ []) row e = absurd (cc)
irq_within (name ∷ number ∷ ws) row e =
    let parts = then_ok (number_at IRQ_NUMBERS number) (λ n. and_make (handler_at ws)
    (λ h. record { name = name; number = n; handler = h })) row e in
    let made = make_ok (handler_at ws) (λ h. record { name = name; number = parts.0; handler = h }) row parts.2 in
    let n = number_from IRQ_NUMBERS parts.0 number (omega arith) parts.1 in
    subst IsIrqWithin made.2 (record { number = n.1; handler = handler_within ws made.0 made.1 })

irq_taken : (front next : Front) (line : List ℕ) (ws : List (List ℕ)) → Stands front → take_irq front line ws ≡ Ok next
    → Goes front next (line_with_feed line)
irq_taken front next line ws stands e =
    let made = make_ok (next_irq front line ws) (and_irq front) next e in
    let parts = then_ok (irq_row_at ws) (λ row. if may_add_irq front row.name then if_line (irq_line row) line row else
    Err wrong.Form) made.0 made.1 in
    let row = parts.0 in
    let may = if_ok (may_add_irq front row.name) (if_line (irq_line row) line row) wrong.Form made.0 parts.2 in
    let printed = line_ok (irq_line row) line row made.0 may.1 in
    goes_as front (and_irq front row) next (irq_line row) (line_with_feed line)
    (irq_goes front row stands may.0 (irq_within ws row parts.1)) printed.0 (ap (and_irq front) printed.1 ∙ made.2)

-- bodies
body_within : (task : ℕ) (ws : List (List ℕ)) (body : List ℕ × BodyRow) → body_row_at task ws ≡ Ok body
    → IsBodyWithin body.1 × (body.1.task ≡ task)
body_within task [] body e = absurd (cc)
body_within task (name ∷ ws) body e =
    let words = then_ok (three ws) (λ w. and_then (word_at w.0) (λ e. and_then (word_at w.1) (λ f.
    and_make (number_at 5 w.2) (λ a. (name, record { task = task; entry = e; frame = f; args = a }))))) body e in
    let w = words.0 in
    let first = then_ok (word_at w.0) (λ e. and_then (word_at w.1) (λ f.
    and_make (number_at 5 w.2) (λ a. (name, record { task = task; entry = e; frame = f; args = a })))) body words.2 in
    let second = then_ok (word_at w.1) (λ f. and_make (number_at 5 w.2)
    (λ a. (name, record { task = task; entry = first.0; frame = f; args = a }))) body first.2 in
    let made = make_ok (number_at 5 w.2)
    (λ a. (name, record { task = task; entry = first.0; frame = second.0; args = a })) body second.2 in
    let x = number32_from first.0 w.0 first.1 in
    let y = number32_from second.0 w.1 second.1 in
    let z = number_from 5 made.0 w.2 (omega arith) made.1 in
    subst (λ (b : List ℕ × BodyRow). IsBodyWithin b.1 × (b.1.task ≡ task)) made.2
    (record { entry = x.1; frame = y.1; args = omega (arith, z.1) }, refl)

body_taken : (front next : Front) (line : List ℕ) (ws : List (List ℕ)) → Stands front → take_body front line ws
    ≡ Ok next → Goes front next (line_with_feed line)
body_taken front next line ws stands e =
    let tasks = length front.image.names.tasks in
    let made = make_ok (next_body front line ws) (λ body. and_body front body.0 body.1) next e in
    let parts = then_ok (body_row_at tasks ws) (λ body. if may_add_body front body.0
    then if_line (body_line (with_task front.image.names body.0) body.1) line body else Err wrong.Form) made.0 made.1 in
    let body = parts.0 in
    let text = body_line (with_task front.image.names body.0) body.1 in
    let may = if_ok (may_add_body front body.0) (if_line text line body) wrong.Form made.0 parts.2 in
    let printed = line_ok text line body made.0 may.1 in
    let within = body_within tasks ws body parts.1 in
    goes_as front (and_body front body.0 body.1) next text (line_with_feed line)
    (body_goes front body.0 body.1 stands may.0 within.0 within.1) printed.0
    (ap (λ (b : List ℕ × BodyRow). and_body front b.0 b.1) printed.1 ∙ made.2)

-- code
code_taken : (front next : Front) (line : List ℕ) (ws : List (List ℕ)) → Stands front → words line ≡ codes "code" ∷ ws
    → take_code front ws ≡ Ok next → Goes front next (line_with_feed line)
code_taken front next line ws stands is e =
    let names = front.image.names in
    let address = length front.image.code in
    let made = make_ok (next_line front ws) (and_line front) next e in
    let may = if_ok (may_add_line front) (of_line (line_at names address ws)) wrong.Form made.0 made.1 in
    let says = line_from names address ws made.0 (of_line_ok (line_at names address ws) made.0 may.1) in
    let text : line ≡ code_text names address made.0 = spaced_words_of line (codes "code")
    (code_words names address made.0) (is ∙ ap (λ (vs : List (List ℕ)). codes "code" ∷ vs) says.words_are) in
    goes_as front (and_line front made.0) next (code_line names address made.0) (line_with_feed line)
    (line_goes front made.0 stands may.0 says.right) (ap line_with_feed (sym text)) made.2

words_taken : (front next : Front) (line : List ℕ) (all : List (List ℕ)) → Stands front → words line ≡ all
    → take_words front line all ≡ Ok next → Goes front next (line_with_feed line)
words_taken front next line [] stands is_all e = absurd (cc)
words_taken front next line (kind ∷ ws) stands is_all e =
    let P = Goes front next (line_with_feed line) in
    chosen (bytes_eq kind (codes "cell")) (take_cell front line ws)
    (if bytes_eq kind (codes "irq") then take_irq front line ws else if bytes_eq kind (codes "body") then take_body
    front line ws
    else if bytes_eq kind (codes "code") then take_code front ws else Err wrong.Form) (Ok next) P e
    (λ _ is. cell_taken front next line ws stands is)
    (λ _ rest.
    chosen (bytes_eq kind (codes "irq")) (take_irq front line ws)
    (if bytes_eq kind (codes "body") then take_body front line ws
    else if bytes_eq kind (codes "code") then take_code front ws else Err wrong.Form) (Ok next) P rest
    (λ _ is. irq_taken front next line ws stands is)
    (λ _ last.
    chosen (bytes_eq kind (codes "body")) (take_body front line ws)
    (if bytes_eq kind (codes "code") then take_code front ws else Err wrong.Form) (Ok next) P last
    (λ _ is. body_taken front next line ws stands is)
    (λ _ end.
    let is = if_ok (bytes_eq kind (codes "code")) (take_code front ws) wrong.Form next end in
    code_taken front next line ws stands
    (is_all ∙ ap (λ (w : List ℕ). w ∷ ws) ((bytes_eq-Decides kind (codes "code")).0 is.0)) is.1)))

pub line_taken : (front next : Front) (line : List ℕ) → Stands front → take_line front line ≡ Ok next
    → Goes front next (line_with_feed line)
unfolding take_line
line_taken front next line stands e = words_taken front next line (words line) stands refl e

-- the first line
no_names_are : AreNames no_names
no_names_are = record {
  irqs = tt;
  tasks = tt;
  shared = tt;
  irqs_differ = λ i j x a b. absurd (none-some x a);
  tasks_differ = λ i j x a b. absurd (none-some x a);
  shared_differ = λ i j x a b. absurd (none-some x a);
  few_irqs = omega arith;
  few_tasks = omega arith;
  few_shared = omega arith;
}

pub first_stands : (fpu : Bool) (bits stack thread code cells : ℕ) → is_within
    (front_of fpu bits stack thread code cells) ≡ true
    → Is32Bits stack → Is32Bits thread → Is32Bits cells → Stands (front_of fpu bits stack thread code cells)
first_stands fpu bits stack thread code cells within s t n =
    let both = and_parts (nat_le LEAST_BITS bits && nat_le bits MOST_BITS) (nat_le code CODE_SIZE) within in
    let sizes = and_parts (nat_le LEAST_BITS bits) (nat_le bits MOST_BITS) both.0 in
    record {
      loadable = record {
        fits = record {
          least_bits = leb-true LEAST_BITS bits sizes.0;
          most_bits = leb-true bits MOST_BITS sizes.1;
          stack_bytes = s;
          thread_words = t;
          names = no_names_are;
          few_cells = omega arith;
          cells = tt;
          irqs = tt;
          bodies = tt;
          few_lines = omega arith;
          code = tt;
        };
        listable = record {
          names = names_writable no_names no_names_are;
          cells = tt;
          irqs = tt;
          bodies = tt;
          instrs =
              tt;
          notes = tt;
        };
        names = refl;
      };
      few_lines = leb-true code CODE_SIZE both.1;
      few_cells = n;
      cells = omega arith;
      code = omega arith;
      full = inr (record { irqs = refl; bodies = refl; code = refl });
    }

three_within : (ws : List (List ℕ)) (n : ℕ × ℕ × ℕ) → three_at ws ≡ Ok n → Is32Bits n.0 × Is32Bits n.1 × Is32Bits n.2
three_within ws n e =
    let words = then_ok (three ws) (λ w. and_then (word_at w.0)
    (λ a. and_then (word_at w.1) (λ b. and_make (word_at w.2) (λ c. (a, b, c))))) n e in
    let w = words.0 in
    let first = then_ok (word_at w.0) (λ a. and_then (word_at w.1) (λ b. and_make (word_at w.2) (λ c. (a, b, c)))) n
    words.2 in
    let second = then_ok (word_at w.1) (λ b. and_make (word_at w.2) (λ c. (first.0, b, c))) n first.2 in
    let made = make_ok (word_at w.2) (λ c. (first.0, second.0, c)) n second.2 in
    let x = number32_from first.0 w.0 first.1 in
    let y = number32_from second.0 w.1 second.1 in
    let z = number32_from made.0 w.2 made.1 in
    subst (λ (t : ℕ × ℕ × ℕ). Is32Bits t.0 × Is32Bits t.1 × Is32Bits t.2) made.2 (x.1, y.1, z.1)

first_at_stands : (ws : List (List ℕ)) (front : Front) → first_at ws ≡ Ok front → is_within front ≡ true
    → Stands front × (front_text front ≡ first_line front.image front.code front.cells)
first_at_stands (kind ∷ form ∷ bits ∷ stack ∷ ws) front e within =
    let fpu = bytes_eq form (codes "2") in
    let first = then_ok (number_at (2 ^ 8) bits) (λ b. and_then (word_at stack)
    (λ s. and_make (three_at ws) (λ n. front_of fpu b s n.0 n.1 n.2))) front e in
    let second = then_ok (word_at stack) (λ s. and_make (three_at ws) (λ n. front_of fpu first.0 s n.0 n.1 n.2)) front
    first.2 in
    let made = make_ok (three_at ws) (λ n. front_of fpu first.0 second.0 n.0 n.1 n.2) front second.2 in
    let s = number32_from second.0 stack second.1 in
    let n = three_within ws made.0 made.1 in
    let line = first_line (front_of fpu first.0 second.0 made.0.0 made.0.1 made.0.2).image made.0.1 made.0.2 in
    subst (λ (f : Front). Stands f × (front_text f ≡ first_line f.image f.code f.cells)) made.2 (
      first_stands fpu first.0 second.0 made.0.0 made.0.1 made.0.2
          (subst (λ (f : Front). is_within f ≡ true) (sym made.2) within) s.1 n.0 n.2,
      append-nil (((line ++ []) ++ []) ++ []) ∙ append-nil ((line ++ []) ++ []) ∙ append-nil (line ++ [])
          ∙ append-nil line,
    )
first_at_stands [] front e within = absurd (cc)
first_at_stands (kind ∷ []) front e within = absurd (cc)
first_at_stands (kind ∷ form ∷ []) front e within = absurd (cc)
first_at_stands (kind ∷ form ∷ bits ∷ []) front e within = absurd (cc)

pub first_taken : (line : List ℕ) (front : Front) → take_first line ≡ Ok front → Stands front
    × (front_text front ≡ line_with_feed line)
first_taken line front e =
    let parts = then_ok (first_at (words line)) (λ front. if is_within front
    then if_line (first_line front.image front.code front.cells) line front else Err wrong.Form) front e in
    let read = parts.0 in
    let within = if_ok (is_within read) (if_line (first_line read.image read.code read.cells) line read) wrong.Form
    front parts.2 in
    let printed = line_ok (first_line read.image read.code read.cells) line read front within.1 in
    let stands = first_at_stands (words line) read parts.1 within.0 in
    subst (λ (f : Front). Stands f × (front_text f ≡ line_with_feed line)) printed.1 (stands.0, stands.1 ∙ printed.0)
