-- What lines that are read, and a line that is refused, say of the listings that there are.
use Rattle.std.proofs.Common.{◌≡◌, ◌==◌, ℕ, Bool, true, false, List, [], ◌∷◌, ◌++◌, length, flat_map, get_or, Option}
use Rattle.std.proofs.Common.{Some, None, Err, if◌then◌else◌, refl, ap, sym, ◌∙◌, subst, arith, append-nil}
use Rattle.std.proofs.Common.{eq-eqb}
use Rattle.std.specs.List.{AllByRecursion}
use Rattle.std.proofs.lemmas.Bool.{eqb-true}
use Rattle.std.proofs.lemmas.Option.{none-some}
use Rattle.rt_lemmas.proofs.Bools.{and_parts, and_both}
use Rattle.rt_code.specs.Image.{Image}
use Rattle.rt_lines.specs.Reading.{Lead, IsWrongNext}
use Rattle.rt_lines.specs.Parts.{line_with_feed}
use Rattle.rt_listing.specs.Listing.{listing}
use Rattle.rt_load.specs.Loadable.{IsLoadable}
use Rattle.rt_load.specs.Reading.{IsViablePrefix, IsOneLine, Fault, Form, IsFault, IsOfUnknownName}
use Rattle.rt_load.specs.Inside.Reader.{fed_lines, fault_of, take, is_whole, listing_reader}
use Rattle.rt_load.specs.Inside.Taking.{front_of, is_complete, has_cells}
use Rattle.rt_load.specs.declared.front.Front.{Front}
use Rattle.rt_load.specs.declared.operand.Wrong.{Wrong}
use Rattle.rt_load.specs.declared.operand.Wrong.TheVariants as wrong
use Rattle.rt_load.proofs.Fed.{fed_last, step_fed, step_last}
use Rattle.rt_load.proofs.Forward.{whole}
use Rattle.rt_load.proofs.Fronts.{front_text}
use Rattle.rt_load.proofs.Leads.{Leads, told_err, Left, lines_left, next_leads, rest_leads}
use Rattle.rt_load.proofs.Named.{name_is, take_first_nameless}
use Rattle.rt_load.proofs.Progress.{first_stands}
use Rattle.rt_load.proofs.Read.{ok_err}
use Rattle.rt_load.proofs.Unknown.{form_is}
use Rattle.rt_load.proofs.Witness.{whole_text, begins}

-- what is read so far begins a listing
nothing_begins : IsViablePrefix []
nothing_begins =
    let b = begins (front_of false 3 0 0 0 0) _
    (first_stands false 3 0 0 0 0 refl (omega arith) (omega arith) (omega arith)) refl in
    record { image = b.image; loadable = b.loadable; behind = listing b.image; is = refl }

pub left_begins : (s : Option Front) (text : List ℕ) → Left s text → IsViablePrefix text
left_begins None text left = subst IsViablePrefix left nothing_begins
left_begins (Some front) text left = begins front text left.0 left.1

-- and is one where no line is missing
pub whole_listing : (front : Front) (text : List ℕ) → Left (Some front) text → is_complete front ≡ true
    → listing front.image ≡ text
whole_listing front text left complete =
    let both = and_parts (has_cells front) (length front.image.code == front.code) complete in
    whole_text front (eqb-true (length front.image.cells) front.cells both.0)
    (eqb-true (length front.image.code) front.code both.1)
    ∙ append-nil (front_text front) ∙ left.1

pub whole_is_complete : (img : Image) (l : IsLoadable img) → is_complete (whole img l) ≡ true
whole_is_complete img l =
    and_both (has_cells (whole img l)) (length img.code == length img.code)
    (eq-eqb (length img.cells) (length img.cells) refl) (eq-eqb (length img.code) (length img.code) refl)

pub none_missing : (s : Option Front) → listing_reader.missing s ≡ None → is_whole s ≡ true
none_missing s e = by (is_whole s) e
  where
    by : (b : Bool) → (if b then None else Some Form) ≡ None → b ≡ true
    by true e = refl
    by false e = absurd cc

pub one_missing : (s : Option Front) → is_whole s ≡ false → listing_reader.missing s ≡ Some Form
one_missing s e = ap (λ b. if b then None else Some Form) e

-- where a text ends in a line that lacks its line feed, or without one that is missing
pub end_wrong : (s : Option Front) (rest : List ℕ) → IsOneLine rest → (rest ≡ [] → is_whole s ≡ false)
    → IsWrongNext listing_reader s (fed_lines rest) Form
end_wrong s [] own missing = one_missing s (missing refl)
end_wrong s (b ∷ rest) own missing =
    subst (λ ls. IsWrongNext listing_reader s ls Form) (sym (fed_last b rest own)) (step_last s (b ∷ rest) own)

pub end_form : (s : Option Front) (rest : List ℕ) (w : Fault) → IsOneLine rest
    → IsWrongNext listing_reader s (fed_lines rest) w → w ≡ Form
end_form s [] w own is_wrong = by (is_whole s) is_wrong
  where
    by : (b : Bool) → (if b then None else Some Form) ≡ Some w → w ≡ Form
    by true e = absurd cc
    by false e = cc
end_form s (b ∷ rest) w own is_wrong =
    let refused : listing_reader.step s (b ∷ rest) ≡ Err w =
    subst (λ ls. IsWrongNext listing_reader s ls w) (fed_last b rest own) is_wrong in
    let form = step_last s (b ∷ rest) own in cc

-- the lines of a listing are all right
no_wrong : (ls : List (List ℕ)) (s : Option Front) (w : Fault) (img : Image) (l : IsLoadable img)
    → IsWrongNext listing_reader s ls w → Lead listing_reader s ls (Some (whole img l)) → ⊥
no_wrong [] s w img l is_wrong lead =
    none-some w (sym (ap (λ b. if b then None else Some Form) (whole_is_complete img l))
    ∙ ap listing_reader.missing (sym lead) ∙ is_wrong)
no_wrong (line ∷ ls) s w img l is_wrong lead = ok_err (listing_reader.step s line) lead.0 w lead.1 is_wrong

-- the first line is that of no instruction
first_is_no_code : (line : List ℕ) → ¬ IsOfUnknownName [] line
first_is_no_code line u =
    let bytes : 105 ≡ 99 = ap (λ t. get_or t 0 0) u.goes_on in
    absurd (omega (arith, bytes))

module _ (before : List (List ℕ)) (s : Option Front) (all : AllByRecursion IsOneLine before)
    (lead : Leads None before s)
  where
    pub before_left : Left s (flat_map line_with_feed before)
    before_left = lines_left before None s [] all refl lead

    -- a line that is refused goes on no listing
    pub not_begins : (line : List ℕ) (w : Fault) → IsOneLine line → listing_reader.step s (line_with_feed line) ≡ Err w
        → ¬ IsViablePrefix (flat_map line_with_feed before ++ line_with_feed line)
    not_begins line w own e b =
        no_wrong (line_with_feed line ∷ fed_lines b.behind) s w b.image b.loadable e
        (next_leads b.image b.loadable before line b.behind s all own lead b.is)

    -- nor is a text that ends in one, or lacks one, a listing
    pub not_listing : (rest : List ℕ) (w : Fault) → IsWrongNext listing_reader s (fed_lines rest) w
        → ¬ ((img : Image) × IsLoadable img × (listing img ≡ flat_map line_with_feed before ++ rest))
    not_listing rest w is_wrong (img, l, is) =
        no_wrong (fed_lines rest) s w img l is_wrong (rest_leads img l before rest s all lead is)

    refused_fault : (at : Option Front) (line : List ℕ) (w : Wrong) → s ≡ at → Left at (flat_map line_with_feed before)
        → take at line ≡ Err w → IsFault (flat_map line_with_feed before) line (fault_of w)
    refused_fault None line wrong.Name same left e = absurd (take_first_nameless line e)
    refused_fault None line wrong.Form same left e = subst (λ t. ¬ IsOfUnknownName t line) left (first_is_no_code line)
    refused_fault None line wrong.NoMemory same left e =
        subst (λ t. ¬ IsOfUnknownName t line) left (first_is_no_code line)
    refused_fault (Some front) line wrong.Name same left e = name_is before front line left.0 left.1 e
    refused_fault (Some front) line wrong.Form same left e =
        form_is before front line wrong.Form (λ f. absurd cc) all (subst (Leads None before) same lead) left.0 e
    refused_fault (Some front) line wrong.NoMemory same left e =
        form_is before front line wrong.NoMemory (λ f. absurd cc) all (subst (Leads None before) same lead) left.0 e

    -- and what is wrong with it is what is said
    pub is_fault : (line : List ℕ) (fault : Fault) → IsOneLine line
        → listing_reader.step s (line_with_feed line) ≡ Err fault → IsFault (flat_map line_with_feed before) line fault
    is_fault line fault own e =
        let refused = told_err (take s line) fault (sym (step_fed s line own) ∙ e) in
        subst (IsFault (flat_map line_with_feed before) line) refused.2
        (refused_fault s line refused.0 refl before_left refused.1)
