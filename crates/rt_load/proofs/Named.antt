-- A line that is refused for a name alone is one of an unknown name.
use Rattle.std.proofs.Common.{◌≡◌, ◌<◌, ◌^◌, ◌==◌, ℕ, Bool, true, false, List, [], ◌∷◌, ◌++◌, length, flat_map}
use Rattle.std.proofs.Common.{codes, bytes_eq, nat_lt, Option, Some, None, Result, Ok, Err, if◌then◌else◌, refl, ap}
use Rattle.std.proofs.Common.{sym, ◌∙◌, subst}
use Rattle.std.specs.List.{AllByRecursion}
use Rattle.std.specs.Option.{ok_or}
use Rattle.std.proofs.lemmas.Bool.{eqb-true, ltb-true}
use Rattle.std.proofs.lemmas.Slice.Eq.{bytes_eq-Decides}
use Rattle.rt_lemmas.proofs.Bools.{and_parts}
use Rattle.rt_lemmas.proofs.Lists.{all_map}
use Rattle.rt_lemmas.proofs.Membership.{all_weaker}
use Rattle.rt_ids.specs.Names.{Names}
use Rattle.rt_ids.specs.declared.limits.TheConstants.{IRQ_NUMBERS}
use Rattle.rt_code.specs.declared.image.IrqRow.{IrqRow}
use Rattle.rt_code.specs.declared.instr.Instr.{Instr}
use Rattle.rt_code.specs.declared.instr.Instr.TheVariants as instr
use Rattle.rt_code.specs.declared.instr.Note.{Note}
use Rattle.rt_lines.specs.Answers.{and_then, and_make}
use Rattle.rt_lines.specs.Numbers.{number_below}
use Rattle.rt_lines.specs.Operand as operand
use Rattle.rt_lines.specs.Parts.{words, line_with_feed}
use Rattle.rt_lines.specs.Table.{Row, both}
use Rattle.rt_lines.specs.declared.operand.Wrong as answer
use Rattle.rt_lines.specs.declared.operand.Wrong.TheVariants as word
use Rattle.rt_lines.proofs.More.{IsOk, IsOkOrName, IsKnown, HasNames, made_ok, from_made, both_ok, from_both, number_ok}
use Rattle.rt_lines.proofs.More.{said_known, word_known}
use Rattle.rt_lines.proofs.Words.{spaced_words_of}
use Rattle.rt_listing.specs.Listing.{code_line, code_words}
use Rattle.rt_listing.specs.Words.{instr_rows, note_rows}
use Rattle.rt_load.specs.Loadable.{IsIrqWithin}
use Rattle.rt_load.specs.Reading.{IsOfUnknownName, AreMore}
use Rattle.rt_load.specs.Inside.Operand.{number_at, of_line, is_end, in_front, behind}
use Rattle.rt_load.specs.Inside.Noting.{words_at, note_after, line_at}
use Rattle.rt_load.specs.Inside.Rows.{only, three, three_at, cell_at, service_at, handler_at, irq_row_at, body_row_at}
use Rattle.rt_load.specs.Inside.Taking.{first_at, take_first, if_line, has_cells, may_add_line, and_line}
use Rattle.rt_load.specs.Inside.Taking.{next_line, take_cell, take_irq, take_body, take_code, take_words, take_line}
use Rattle.rt_load.specs.declared.front.Front.{Front}
use Rattle.rt_load.specs.declared.operand.Wrong.{Wrong}
use Rattle.rt_load.specs.declared.operand.Wrong.TheVariants as wrong
use Rattle.rt_load.proofs.Further.{with_words, are_more, have_names}
use Rattle.rt_load.proofs.Fronts.{front_text, Stands}
use Rattle.rt_load.proofs.Lines.{code_text}
use Rattle.rt_load.proofs.Read.{chosen}
use Rattle.rt_load.proofs.Witness.{witness, mark_goes}
use Rattle.rt_load.proofs.Written.{line_from}

-- an answer that says of no name that it is unknown
record IsNameless {A : Type 0} (r : Result A Wrong) : Type 0 where
  none : r ≡ Err wrong.Name → ⊥

form_nameless : {A : Type 0} → IsNameless {A = A} (Err wrong.Form)
form_nameless = record { none = λ e. absurd (cc) }

ok_nameless : {A : Type 0} (x : A) → IsNameless (Ok x)
ok_nameless x = record { none = λ e. absurd (cc) }

then_nameless : {A B : Type 0} (r : Result A Wrong) (f : A → Result B Wrong) → IsNameless r
    → ((x : A) → IsNameless (f x)) → IsNameless (and_then r f)
then_nameless (Ok x) f p q = q x
then_nameless (Err wrong.Form) f p q = form_nameless
then_nameless (Err wrong.Name) f p q = absurd (p.none refl)
then_nameless (Err wrong.NoMemory) f p q = record { none = λ e. absurd (cc) }

make_nameless : {A B : Type 0} (r : Result A Wrong) (f : A → B) → IsNameless r → IsNameless (and_make r f)
make_nameless (Ok x) f p = ok_nameless (f x)
make_nameless (Err wrong.Form) f p = form_nameless
make_nameless (Err wrong.Name) f p = absurd (p.none refl)
make_nameless (Err wrong.NoMemory) f p = record { none = λ e. absurd (cc) }

if_nameless : {A : Type 0} (b : Bool) (x y : Result A Wrong) → IsNameless x → IsNameless y
    → IsNameless (if b then x else y)
if_nameless true x y p q = p
if_nameless false x y p q = q

number_nameless : (bound : ℕ) (w : List ℕ) → IsNameless (number_at bound w)
number_nameless bound w = by (number_below bound w)
  where
    by : (n : Option ℕ) → IsNameless (ok_or n wrong.Form)
    by None = form_nameless
    by (Some n) = ok_nameless n

-- lines of other kinds name nothing that is in a table
three_nameless : (ws : List (List ℕ)) → IsNameless (three ws)
three_nameless (a ∷ b ∷ c ∷ []) = ok_nameless (a, b, c)
three_nameless ws = form_nameless

numbers_nameless : (ws : List (List ℕ)) → IsNameless (three_at ws)
numbers_nameless ws = search (then_nameless, make_nameless, three_nameless, number_nameless)

only_nameless : (ws : List (List ℕ)) → IsNameless (only ws)
only_nameless (a ∷ []) = ok_nameless a
only_nameless ws = form_nameless

cell_nameless : (ws : List (List ℕ)) → IsNameless (cell_at ws)
cell_nameless ws = search (then_nameless, make_nameless, three_nameless, number_nameless)

service_nameless : (value entry frame : List ℕ) → IsNameless (service_at value entry frame)
service_nameless value entry frame = search (then_nameless, make_nameless, number_nameless)

handler_nameless : (ws : List (List ℕ)) → IsNameless (handler_at ws)
handler_nameless [] = form_nameless
handler_nameless (dash ∷ []) = ok_nameless None
handler_nameless (value ∷ entry ∷ ws) = search (then_nameless, make_nameless, only_nameless, service_nameless)

irq_nameless : (ws : List (List ℕ)) → IsNameless (irq_row_at ws)
irq_nameless (name ∷ number ∷ ws) = search (then_nameless, make_nameless, handler_nameless, number_nameless)
irq_nameless ws = form_nameless

body_nameless : (task : ℕ) (ws : List (List ℕ)) → IsNameless (body_row_at task ws)
body_nameless task [] = form_nameless
body_nameless task (name ∷ ws) = search (then_nameless, make_nameless, three_nameless, number_nameless)

line_nameless : {A : Type 0} (printed line : List ℕ) (x : A) → IsNameless (if_line printed line x)
line_nameless printed line x = search (if_nameless, ok_nameless, form_nameless)

take_cell_nameless : (front : Front) (line : List ℕ) (ws : List (List ℕ)) → IsNameless (take_cell front line ws)
take_cell_nameless front line ws =
    search (then_nameless, make_nameless, if_nameless, form_nameless, cell_nameless, line_nameless)

take_irq_nameless : (front : Front) (line : List ℕ) (ws : List (List ℕ)) → IsNameless (take_irq front line ws)
take_irq_nameless front line ws =
    search (then_nameless, make_nameless, if_nameless, form_nameless, irq_nameless, line_nameless)

first_nameless : (ws : List (List ℕ)) → IsNameless (first_at ws)
first_nameless (kind ∷ form ∷ bits ∷ stack ∷ ws) =
    search (then_nameless, make_nameless, numbers_nameless, number_nameless)
first_nameless ws = form_nameless

pub take_first_nameless : (line : List ℕ) → take_first line ≡ Err wrong.Name → ⊥
take_first_nameless line =
    let r : IsNameless (take_first line) =
    search (then_nameless, if_nameless, form_nameless, first_nameless, line_nameless) in r.none

take_body_nameless : (front : Front) (line : List ℕ) (ws : List (List ℕ)) → IsNameless (take_body front line ws)
take_body_nameless front line ws =
    search (then_nameless, make_nameless, if_nameless, form_nameless, body_nameless, line_nameless)

make_name : {A B : Type 0} (r : Result A Wrong) (f : A → B) → and_make r f ≡ Err wrong.Name → r ≡ Err wrong.Name
make_name (Ok x) f e = absurd (cc)
make_name (Err wrong.Name) f e = refl
make_name (Err wrong.Form) f e = absurd (cc)
make_name (Err wrong.NoMemory) f e = absurd (cc)

-- a line of code of an unknown name
record IsCode (front : Front) (line : List ℕ) : Type 0 where
  ws : List (List ℕ)
  words_are : words line ≡ codes "code" ∷ ws
  may : may_add_line front ≡ true
  unknown : IsOkOrName (line_at front.image.names (length front.image.code) ws)

of_line_name : {A : Type 0} (r : Result A answer.Wrong) → of_line r ≡ Err wrong.Name → IsOkOrName r
of_line_name (Ok x) e = tt
of_line_name (Err word.Name) e = tt
of_line_name (Err word.Form) e = absurd (cc)

code_of : (front : Front) (line : List ℕ) (ws all : List (List ℕ)) → words line ≡ all → all ≡ codes "code" ∷ ws
    → take_code front ws ≡ Err wrong.Name → IsCode front line
code_of front line ws all is same e =
    let read = line_at front.image.names (length front.image.code) ws in
    let next = make_name (next_line front ws) (and_line front) e in
    chosen (may_add_line front) (of_line read) (Err wrong.Form) (Err wrong.Name) (IsCode front line) next
    (λ may unknown. record { ws = ws; words_are = is ∙ same; may = may; unknown = of_line_name read unknown })
    (λ _ no. absurd (cc))

words_code : (front : Front) (line : List ℕ) (all : List (List ℕ)) → words line ≡ all → take_words front line all
    ≡ Err wrong.Name → IsCode front line
words_code front line [] is e = absurd (cc)
words_code front line (kind ∷ ws) is e =
    let P = IsCode front line in
    chosen (bytes_eq kind (codes "cell")) (take_cell front line ws)
    (if bytes_eq kind (codes "irq") then take_irq front line ws else if bytes_eq kind (codes "body") then take_body
    front line ws
    else if bytes_eq kind (codes "code") then take_code front ws else Err wrong.Form) (Err wrong.Name) P e
    (λ _ no. let other = take_cell_nameless front line ws in absurd (other.none no))
    (λ _ rest.
    chosen (bytes_eq kind (codes "irq")) (take_irq front line ws)
    (if bytes_eq kind (codes "body") then take_body front line ws
    else if bytes_eq kind (codes "code") then take_code front ws else Err wrong.Form) (Err wrong.Name) P rest
    (λ _ no. let other = take_irq_nameless front line ws in absurd (other.none no))
    (λ _ last.
    chosen (bytes_eq kind (codes "body")) (take_body front line ws)
    (if bytes_eq kind (codes "code") then take_code front ws else Err wrong.Form) (Err wrong.Name) P last
    (λ _ no. let other = take_body_nameless front line ws in absurd (other.none no))
    (λ _ end.
    chosen (bytes_eq kind (codes "code")) (take_code front ws) (Err wrong.Form) (Err wrong.Name) P end
    (λ same is_code. code_of front line ws (kind ∷ ws) is
    (ap (λ (w : List ℕ). w ∷ ws) ((bytes_eq-Decides kind (codes "code")).0 same)) is_code)
    (λ _ no. absurd (cc)))))

line_code : (front : Front) (line : List ℕ) → take_line front line ≡ Err wrong.Name → IsCode front line
unfolding take_line
line_code front line e = words_code front line (words line) refl e

irqs_below : (front : Front) → Stands front → AllByRecursion (λ irq. irq.1 < IRQ_NUMBERS) front.image.names.irqs
irqs_below front stands =
    let l = stands.loadable in
    subst (λ (irqs : List (List ℕ × ℕ)). AllByRecursion (λ irq. irq.1 < IRQ_NUMBERS) irqs)
    (ap (λ (n : Names). n.irqs) l.names)
    (all_map (λ (row : IrqRow). (row.name, row.number)) IsIrqWithin (λ (irq : List ℕ × ℕ). irq.1 < IRQ_NUMBERS)
    (λ row within. within.number) front.image.irqs l.fits.irqs)

from_ok : {A : Type 0} (r : Result A answer.Wrong) → IsOk r → (x : A) × (r ≡ Ok x)
from_ok (Ok x) h = (x, refl)
from_ok (Err w) h = absurd h

-- what is read, or names something unknown, is read over the further tables
words_known : {T : Type 0} (rows : List (Row T)) (names more : Names) (ws : List (List ℕ))
    → AllByRecursion (HasNames names more) ws → IsOkOrName (words_at rows names ws) → IsOk (words_at rows more ws)
words_known rows names more [] has h = absurd h
words_known rows names more (first ∷ ws) has h =
    said_known names more rows first ws
    (all_weaker (HasNames names more) (IsKnown names more) (word_known names more) ws has.1) h

front_has : (P : List ℕ → Type 0) (ws : List (List ℕ)) → AllByRecursion P ws → AllByRecursion P (in_front ws)
front_has P [] all = tt
front_has P (w ∷ ws) all = by (is_end w) (front_has P ws all.1)
  where
    by : (b : Bool) → AllByRecursion P (in_front ws) → AllByRecursion P (if b then [] else w ∷ in_front ws)
    by true rest = tt
    by false rest = (all.0, rest)

abbrev PartHas : (List ℕ → Type 0) → Option (List (List ℕ)) → Type 0
PartHas P None = Unit {0}
PartHas P (Some ws) = AllByRecursion P ws

behind_has : (P : List ℕ → Type 0) (ws : List (List ℕ)) → AllByRecursion P ws → PartHas P (behind ws)
behind_has P [] all = tt
behind_has P (w ∷ ws) all = by (is_end w) (behind_has P ws all.1)
  where
    by : (b : Bool) → PartHas P (behind ws) → PartHas P (if b then Some ws else behind ws)
    by true rest = all.1
    by false rest = rest

note_known : (names more : Names) (part : Option (List (List ℕ))) → PartHas (HasNames names more) part
    → IsOkOrName (note_after names part) → IsOk (note_after more part)
note_known names more None has h = tt
note_known names more (Some ws) has h =
    made_ok (words_at note_rows more ws) Some
    (words_known note_rows names more ws has (from_made (words_at note_rows names ws) Some h))

line_known : (names more : Names) (address : ℕ) (number : List ℕ) (ws : List (List ℕ))
    → AllByRecursion (HasNames names more) ws → IsOkOrName (line_at names address (number ∷ ws))
    → IsOk (line_at more address (number ∷ ws))
line_known names more address number ws has h =
    by (operand.number_at (2 ^ 32) number) (number_ok (2 ^ 32) number) h
  where
    here : (b : Bool)
        → IsOkOrName (if b then both (words_at instr_rows names (in_front ws)) (note_after names (behind ws))
        else Err word.Form)
        → IsOk (if b then both (words_at instr_rows more (in_front ws)) (note_after more
        (behind ws)) else Err word.Form)
    here true h =
        let parts = from_both (words_at instr_rows names (in_front ws)) (note_after names (behind ws)) h in
        both_ok (words_at instr_rows more (in_front ws)) (note_after more (behind ws))
        (words_known instr_rows names more (in_front ws) (front_has (HasNames names more) ws has) parts.0)
        (note_known names more (behind ws) (behind_has (HasNames names more) ws has) parts.1)
    here false h = absurd h

    by : (r : Result ℕ answer.Wrong) → (IsOkOrName r → IsOk r)
        → IsOkOrName (and_then r (λ n. if n == address then both (words_at instr_rows names (in_front ws))
        (note_after names (behind ws)) else Err word.Form))
        → IsOk (and_then r (λ n. if n == address then both (words_at instr_rows more (in_front ws))
        (note_after more (behind ws)) else Err word.Form))
    by (Ok n) own h = here (n == address) h
    by (Err word.Name) own h = absurd (own tt)
    by (Err word.Form) own h = absurd h

-- a line behind what stands, over further tables
over_further : (before : List (List ℕ)) (front : Front) (line : List ℕ) (ws : List (List ℕ)) (more : Names)
    (code : Instr × Option Note) → Stands front → front_text front ≡ flat_map line_with_feed before
    → may_add_line front ≡ true → words line ≡ codes "code" ∷ ws → AreMore front.image.names more
    → line_at more (length front.image.code) ws ≡ Ok code → IsOfUnknownName (flat_map line_with_feed before) line
over_further before front line ws more code stands text may is m e =
    let names = front.image.names in
    let index = length front.image.code in
    let says = line_from more index ws code e in
    let right = says.right in
    let line_text : line ≡ code_text more index code =
    spaced_words_of line (codes "code") (code_words more index code)
    (is ∙ ap (λ (vs : List (List ℕ)). codes "code" ∷ vs) says.words_are) in
    let both = and_parts (has_cells front) (nat_lt index front.code) may in
    let mark : Instr × Option Note = (instr.Mark, None) in
    let goes = mark_goes front stands (eqb-true (length front.image.cells) front.cells both.0)
    (ltb-true index front.code both.1) in
    let w = witness (and_line front mark) goes.stands in
    record {
      image = w.image;
      loadable = w.loadable;
      address = index;
      behind = w.behind;
      goes_on =
          w.is ∙ ap (λ t. t ++ w.behind) (goes.text ∙ ap (λ t. t ++ code_line names index mark) text)
          ∙ ap (λ (ns : Names). (flat_map line_with_feed before ++ code_line ns index mark) ++ w.behind) (sym w.names);
      names = more;
      more = subst (λ (ns : Names). AreMore ns more) (sym w.names) m;
      code = code;
      within = right.within;
      has_instr = right.instr;
      has_note = right.note;
      line_is = ap line_with_feed (sym line_text);
    }

pub name_is : (before : List (List ℕ)) (front : Front) (line : List ℕ) → Stands front → front_text front
    ≡ flat_map line_with_feed before
    → take_line front line ≡ Err wrong.Name → IsOfUnknownName (flat_map line_with_feed before) line
name_is before front line stands text e =
    let c = line_code front line e in
    by c.ws c.words_are c.may c.unknown
  where
    by : (ws : List (List ℕ)) → words line ≡ codes "code" ∷ ws → may_add_line front ≡ true
        → IsOkOrName (line_at front.image.names (length front.image.code) ws)
        → IsOfUnknownName (flat_map line_with_feed before) line
    by [] is may unknown = absurd unknown
    by (number ∷ ws) is may unknown =
        let names = front.image.names in
        let l = stands.loadable in
        let below = irqs_below front stands in
        let more = with_words names ws l.fits.names below in
        let known = line_known names more (length front.image.code) number ws (have_names names ws l.fits.names below)
        unknown in
        let code = from_ok (line_at more (length front.image.code) (number ∷ ws)) known in
        over_further before front line (number ∷ ws) more code.0 stands text may is
        (are_more names ws l.fits.names below) code.1
