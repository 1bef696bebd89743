-- What lets a line pass: it prints as it was read, and what it declares is new.
use Rattle.std.proofs.Common.{◌≡◌, ◌<◌, ◌≤◌, ℕ, Bool, true, false, ◌&&◌, ◌||◌, ◌==◌, nat_lt, List, [], ◌∷◌, ◌++◌}
use Rattle.std.proofs.Common.{length, map, take, Option, Some, None, Result, Ok, Err, if◌then◌else◌, is_none, refl, ap}
use Rattle.std.proofs.Common.{sym, ◌∙◌, subst, arith, length-append, slice_get, eq-eqb}
use Rattle.std.specs.List.{AllByRecursion}
use Rattle.std.proofs.lemmas.Bool.{lt-ltb, ne_eqb}
use Rattle.std.proofs.lemmas.List.{map-append}
use Rattle.std.proofs.lemmas.Slice.Eq.{bytes_eq-Decides}
use Rattle.rt_lemmas.proofs.Bools.{and_both, or_neither}
use Rattle.rt_lemmas.proofs.Lists.{all_behind}
use Rattle.rt_ids.specs.Word.{IsName}
use Rattle.rt_code.specs.Listable.{IsWord}
use Rattle.rt_lines.specs.Reading.{Lead}
use Rattle.rt_lines.proofs.Reading.{lead_append}
use Rattle.rt_lines.specs.Parts.{line_with_feed}
use Rattle.rt_listing.proofs.Lines.{Row, row_text}
use Rattle.rt_load.specs.Inside.Taking.{if_line, may_declare, has_blank, take_line}
use Rattle.rt_load.specs.Inside.Reader.{told, listing_reader}
use Rattle.rt_load.specs.declared.front.Front.{Front}
use Rattle.rt_load.specs.declared.operand.Wrong.{Wrong}
use Rattle.rt_load.specs.declared.operand.Wrong.TheVariants as wrong
use Rattle.rt_load.proofs.Declared.{declares}
use Rattle.rt_load.proofs.Fed.{step_fed}
use Rattle.rt_load.proofs.Lines.{IsSpelled, line_of_spelled}

-- what passes
pub passes : {A : Type 0} (printed line : List ℕ) (x : A) → printed ≡ line_with_feed line → if_line printed line x
    ≡ Ok x
passes printed line x same = ap (λ (b : Bool). if b then Ok x else Err wrong.Form)
    ((bytes_eq-Decides printed (line_with_feed line)).1 same)

pub chooses : {A : Type 0} (b : Bool) (r : Result A Wrong) → b ≡ true → (if b then r else Err wrong.Form) ≡ r
chooses b r h = ap (λ (t : Bool). if t then r else Err wrong.Form) h

-- a thing that stands in a list stands behind as many as are in front of it
pub front_taken : {A : Type 0} (xs : List A) (x : A) (ys : List A) → take (length xs) (xs ++ x ∷ ys) ≡ xs
front_taken [] x ys = refl
front_taken (y ∷ xs) x ys = ap (λ (zs : List _). y ∷ zs) (front_taken xs x ys)

pub first_behind : {A : Type 0} (xs : List A) (x : A) (ys : List A) → slice_get (xs ++ x ∷ ys) (length xs) ≡ Some x
first_behind [] x ys = refl
first_behind (y ∷ xs) x ys = first_behind xs x ys

-- what is new among names of which those before it are declared
none_is : (o : Option ℕ) → o ≡ None → is_none o ≡ true
none_is o e = ap (λ (x : Option ℕ). is_none x) e

pub new_from_parts : (name : List ℕ) (found : Option ℕ) (count room : ℕ) → IsName name → found ≡ None → count < room
    → (may_declare name && is_none found && nat_lt count room) ≡ true
new_from_parts name found count room named unknown below =
    and_both (may_declare name && is_none found) (nat_lt count room)
    (and_both (may_declare name) (is_none found) (declares name named) (none_is found unknown))
    (lt-ltb count room below)

pub named_here : (all before after : List (List ℕ)) (name : List ℕ) → all ≡ before ++ name ∷ after
    → AllByRecursion IsName all → IsName name
named_here all before after name is named =
    let behind = all_behind IsName before (name ∷ after) (subst (AllByRecursion IsName) is named) in behind.0

pub below_all : {A : Type 0} (all before after : List A) (x : A) (room : ℕ) → all ≡ before ++ x ∷ after
    → length all ≤ room → length before < room
below_all all before after x room is few = omega (arith, few, ap length is, length-append before (x ∷ after))

-- a name of no blank
pub no_blank : (name : List ℕ) → IsWord name → has_blank name ≡ false
no_blank [] h = refl
no_blank (b ∷ name) h =
    or_neither ((((b == 9) || (b == 10)) || (b == 13)) || (b == 32)) (has_blank name)
    (or_neither (((b == 9) || (b == 10)) || (b == 13)) (b == 32)
    (or_neither ((b == 9) || (b == 10)) (b == 13)
    (or_neither (b == 9) (b == 10)
    (ne_eqb b 9 (λ e. h.0 (0, omega arith, sym e))) (ne_eqb b 10 (λ e. h.0 (1, omega arith, sym e))))
    (ne_eqb b 13 (λ e. h.0 (2, omega arith, sym e))))
    (ne_eqb b 32 (λ e. h.0 (3, omega arith, sym e))))
    (no_blank name h.1)

-- the lines of rows lead from one front to another
abbrev pub RowsLead : Front → List Row → Front → Type 0
RowsLead front rows next = Lead listing_reader (Some front) (map line_with_feed (map row_text rows)) (Some next)

pub row_leads : (front next last : Front) (row : Row) (rows : List Row) → IsSpelled row
    → take_line front (row_text row) ≡ Ok next → RowsLead next rows last → RowsLead front (row ∷ rows) last
row_leads front next last row rows spelled e rest =
    (Some next, step_fed (Some front) (row_text row) (line_of_spelled row spelled) ∙ ap told e, rest)

pub rows_append : (front next last : Front) (xs ys : List Row) → RowsLead front xs next → RowsLead next ys last
    → RowsLead front (xs ++ ys) last
rows_append front next last xs ys first rest =
    subst (λ ls. Lead listing_reader (Some front) ls (Some last))
    (sym (ap (map line_with_feed) (map-append row_text xs ys)
    ∙ map-append line_with_feed (map row_text xs) (map row_text ys)))
    (lead_append listing_reader (Some front) (Some next) (Some last) (map line_with_feed (map row_text xs)) _ first
    rest)

-- a number is itself
pub same_itself : (n : ℕ) → (n == n) ≡ true
same_itself n = eq-eqb n n refl
