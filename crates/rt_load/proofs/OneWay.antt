-- Bytes are the listing of an image where the reader of listings reads it from them, and their first wrong line is the
-- reader's; so they are read in one way.
use Rattle.std.proofs.Common.{◌≡◌, inl, inr, ℕ, suc, Bool, true, false, List, [], ◌∷◌, ◌++◌, length, map}
use Rattle.std.proofs.Common.{flat_map, Option, Some, None, Result, Ok, Err, if◌then◌else◌, refl, ap, sym}
use Rattle.std.proofs.Common.{◌∙◌, subst, append_assoc, append-nil}
use Rattle.std.specs.List.{AllByRecursion}
use Rattle.std.proofs.lemmas.List.{length-map}
use Rattle.std.proofs.lemmas.Option.{same_Some}
use Rattle.rt_code.specs.Image.{Image}
use Rattle.rt_lines.proofs.Apart.{same_cons}
use Rattle.rt_lines.proofs.Reading as reading
use Rattle.rt_lines.specs.Reading as reader
use Rattle.rt_lines.specs.Reading.{Lead, IsRead, IsWrongNext}
use Rattle.rt_lines.specs.Parts.{line_with_feed}
use Rattle.rt_listing.specs.Listing.{listing}
use Rattle.rt_load.specs.Laws.{AreReadOneWay}
use Rattle.rt_load.specs.Loadable.{IsLoadable}
use Rattle.rt_load.specs.Reading.{IsListingText, IsViablePrefix, IsOneLine, IsFirstWrongLine, IsWrong}
use Rattle.rt_load.specs.Reading.{IsFault}
use Rattle.rt_load.specs.Reading.{Fault, Form, Name}
use Rattle.rt_load.specs.Inside.Reader.{fed_lines, is_whole, listing_reader}
use Rattle.rt_load.specs.declared.front.Front.{Front}
use Rattle.rt_load.proofs.Fed.{Cut, Fed, Last, cut_of, fed_first, fed_last, fed_all, step_last}
use Rattle.rt_load.proofs.Forward.{whole}
use Rattle.rt_load.proofs.Leads.{Leads, Left, lines_left, listing_leads, cut_leads}
use Rattle.rt_load.proofs.Read.{ok_err}
use Rattle.rt_load.proofs.Verdict.{left_begins, whole_listing, whole_is_complete, none_missing, end_wrong, end_form}
use Rattle.rt_load.proofs.Verdict.{before_left, not_begins, not_listing, is_fault}

-- a text whose first lines lead on is these lines and a rest
record Parted (text : List ℕ) (ls more : List (List ℕ)) : Type 0 where
  before : List (List ℕ)
  rest : List ℕ
  is : text ≡ flat_map line_with_feed before ++ rest
  are_lines : AllByRecursion IsOneLine before
  lines_are : ls ≡ map line_with_feed before
  more_is : more ≡ fed_lines rest

parted : (ls more : List (List ℕ)) (text : List ℕ) (s t : Option Front) → fed_lines text ≡ ls ++ more
    → Lead listing_reader s ls t → Parted text ls more
parted [] more text s t e lead = record {
  before = [];
  rest = text;
  is = refl;
  are_lines = tt;
  lines_are = refl;
  more_is = sym e;
}
parted (l ∷ ls) more text s t e lead = by text (cut_of text) e (λ rest e. parted ls more rest lead.0 t e lead.2)
  where
    by : (text : List ℕ) → Cut text → fed_lines text ≡ l ∷ (ls ++ more)
        → ((rest : List ℕ) → fed_lines rest ≡ ls ++ more → Parted rest ls more) → Parted text (l ∷ ls) more
    by text (Fed line rest own is) e go =
        let same = same_cons (line_with_feed line) l (fed_lines rest) (ls ++ more)
        (sym (fed_first line rest own) ∙ ap fed_lines (sym is) ∙ e) in
        let p = go rest same.1 in
        record {
          before = line ∷ p.before;
          rest = p.rest;
          is = is ∙ ap (λ t. line_with_feed line ++ t) p.is
              ∙ sym (append_assoc (line_with_feed line) (flat_map line_with_feed p.before) p.rest);
          are_lines = (own, p.are_lines);
          lines_are =
              ap (λ (x : List ℕ). x ∷ ls) (sym same.0)
              ∙ ap (λ (xs : List (List ℕ)). line_with_feed line ∷ xs) p.lines_are;
          more_is = p.more_is;
        }
    by [] (Last own) e go = absurd cc
    by (b ∷ text) (Last own) e go =
        let same = same_cons (b ∷ text) l [] (ls ++ more) (sym (fed_last b text own) ∙ e) in
        absurd (ok_err (listing_reader.step s l) lead.0 Form lead.1
        (subst (λ line. listing_reader.step s line ≡ Err Form) same.0 (step_last s (b ∷ text) own)))

none_behind : (rest : List ℕ) → Cut rest → [] ≡ fed_lines rest → rest ≡ []
none_behind rest (Fed line more own is) e =
    let some = e ∙ ap fed_lines is ∙ fed_first line more own in absurd cc
none_behind [] (Last own) e = refl
none_behind (b ∷ rest) (Last own) e = let some = e ∙ fed_last b rest own in absurd cc

-- a listing is read
to_read : (text : List ℕ) (img : Image) (is : IsListingText text img)
    → IsRead listing_reader text (Some (whole img is.loadable))
to_read text img is = record {
  short = is.short;
  lead = subst (λ t. Lead listing_reader None (fed_lines t) (Some (whole img is.loadable))) is.is
      (listing_leads img is.loadable);
  whole = ap (λ b. if b then None else Some Form) (whole_is_complete img is.loadable);
}

-- and what is read is one
pub from_read : (text : List ℕ) (front : Front) → IsRead listing_reader text (Some front)
    → IsListingText text front.image
from_read text front read =
    let p = parted (fed_lines text) [] text None (Some front) (sym (append-nil (fed_lines text))) read.lead in
    let left = before_left p.before (Some front) p.are_lines
    (subst (λ ls. Lead listing_reader None ls (Some front)) p.lines_are read.lead) in
    record {
      short = read.short;
      loadable = let stands = left.0 in stands.loadable;
      is =
          whole_listing front (flat_map line_with_feed p.before) left (none_missing (Some front) read.whole)
          ∙ sym (p.is ∙ ap (λ t. flat_map line_with_feed p.before ++ t) (none_behind p.rest (cut_of p.rest) p.more_is)
          ∙ append-nil (flat_map line_with_feed p.before));
    }

some_read : (text : List ℕ) (s : Option Front) → IsRead listing_reader text s → (img : Image) × IsListingText text img
some_read text None read = let none = none_missing None read.whole in absurd cc
some_read text (Some front) read = (front.image, from_read text front read)

-- the reader's first wrong line is the first wrong line
at_line : (f line behind : List ℕ) → f ++ ((line ++ 10 ∷ []) ++ behind) ≡ (f ++ line) ++ 10 ∷ behind
at_line f line behind = simp append_assoc

pub from_wrong : (text : List ℕ) (n : ℕ) (fault : Fault) → reader.IsFirstWrong listing_reader text n fault
    → IsFirstWrongLine text n fault
from_wrong text n fault r = by (cut_of p.rest)
  where
    p : Parted text r.before r.behind
    p = parted r.before r.behind text None r.reached r.parts r.lead

    front : List ℕ
    front = flat_map line_with_feed p.before

    lead : Leads None p.before r.reached
    lead = subst (λ ls. Lead listing_reader None ls r.reached) p.lines_are r.lead

    next : IsWrongNext listing_reader r.reached (fed_lines p.rest) fault
    next = subst (λ ls. IsWrongNext listing_reader r.reached ls fault) p.more_is r.wrong

    made : (line behind : List ℕ) → text ≡ front ++ line ++ behind → IsOneLine line → IsWrong front line behind fault
        → IsFirstWrongLine text n fault
    made line behind is own wrong = record {
      short = r.short;
      before = p.before;
      line = line;
      behind = behind;
      is = is;
      are_lines = p.are_lines;
      is_line = own;
      number_is = r.number_is ∙ ap suc (ap length p.lines_are ∙ length-map p.before line_with_feed);
      begins = left_begins r.reached front (before_left p.before r.reached p.are_lines lead);
      wrong = wrong;
    }

    by : Cut p.rest → IsFirstWrongLine text n fault
    by (Fed line rest own is) =
        let e = subst (λ ls. IsWrongNext listing_reader r.reached ls fault) (ap fed_lines is ∙ fed_first line rest own)
        next in
        made line (10 ∷ rest) (p.is ∙ ap (λ t. front ++ t) is ∙ at_line front line rest) own (
          refl,
          not_begins p.before r.reached p.are_lines lead line fault own e,
          is_fault p.before r.reached p.are_lines lead line fault own e,
        )
    by (Last own) =
        made p.rest [] (p.is ∙ sym (append-nil (front ++ p.rest))) own (
          end_form r.reached p.rest fault own next,
          not_listing p.before r.reached p.are_lines lead p.rest fault next,
        )

-- and the other way round
same_fault : (front line : List ℕ) (f g : Fault) → IsFault front line f → IsFault front line g → f ≡ g
same_fault front line Form Form v w = refl
same_fault front line Name Name v w = refl
same_fault front line Form Name v w = absurd (v w)
same_fault front line Name Form v w = absurd (w v)

module _ (before : List (List ℕ)) (s : Option Front) (all : AllByRecursion IsOneLine before)
    (lead : Leads None before s)
    (line : List ℕ) (own : IsOneLine line) (fault : Fault) where
  by_step : (r : Result (Option Front) Fault) → listing_reader.step s (line_with_feed line) ≡ r
      → ¬ IsViablePrefix (flat_map line_with_feed before ++ line_with_feed line)
      → IsFault (flat_map line_with_feed before) line fault → listing_reader.step s (line_with_feed line) ≡ Err fault
  by_step (Ok t) e none is =
      absurd (none (left_begins t (flat_map line_with_feed before ++ line_with_feed line)
      (subst (λ u. Left t (flat_map line_with_feed before ++ u)) (append-nil (line_with_feed line))
      (lines_left (line ∷ []) s t (flat_map line_with_feed before) (own, tt) (before_left before s all lead)
      (t, e, refl)))))
  by_step (Err w) e none is =
      e ∙ ap (λ (f : Fault). Err f) (same_fault (flat_map line_with_feed before) line w fault
      (is_fault before s all lead line w own e) is)

  missing_of : (at : Option Front) (b : Bool) → Left at (flat_map line_with_feed before) → is_whole at ≡ b
      → ¬ ((img : Image) × IsLoadable img × (listing img ≡ flat_map line_with_feed before)) → is_whole at ≡ false
  missing_of None b left e none = refl
  missing_of (Some front) false left e none = e
  missing_of (Some front) true left e none = absurd (none (
    front.image,
    let stands = left.0 in stands.loadable,
    whole_listing front (flat_map line_with_feed before) left e,
  ))

  next_wrong : (behind : List ℕ) → IsWrong (flat_map line_with_feed before) line behind fault
      → IsWrongNext listing_reader s (fed_lines (line ++ behind)) fault
  next_wrong [] wrong =
      subst (λ t. IsWrongNext listing_reader s (fed_lines t) fault) (sym (append-nil line))
      (subst (IsWrongNext listing_reader s (fed_lines line)) (sym wrong.0) (end_wrong s line own (λ none.
      missing_of s (is_whole s) (before_left before s all lead) refl (λ found. wrong.1 (
        found.0,
        found.1,
        found.2 ∙ sym (ap (λ t. flat_map line_with_feed before ++ t) none
            ∙ append-nil (flat_map line_with_feed before)),
      )))))
  next_wrong (b ∷ behind) wrong =
      subst (λ ls. IsWrongNext listing_reader s ls fault)
      (sym (ap (λ (c : ℕ). fed_lines (line ++ c ∷ behind)) wrong.0
      ∙ ap fed_lines (sym (append_assoc line (10 ∷ []) behind)) ∙ fed_first line behind own))
      (by_step (listing_reader.step s (line_with_feed line)) refl wrong.1 wrong.2)

to_wrong : (text : List ℕ) (n : ℕ) (fault : Fault) → IsFirstWrongLine text n fault
    → reader.IsFirstWrong listing_reader text n fault
to_wrong text n fault p =
    let b = p.begins in
    let cut = cut_leads b.image b.loadable p.before b.behind p.are_lines b.is in
    record {
      short = p.short;
      before = map line_with_feed p.before;
      behind = fed_lines (p.line ++ p.behind);
      parts =
          ap fed_lines (p.is ∙ append_assoc (flat_map line_with_feed p.before) p.line p.behind)
          ∙ fed_all p.before (p.line ++ p.behind) p.are_lines;
      number_is = p.number_is ∙ ap suc (sym (length-map p.before line_with_feed));
      reached = cut.0;
      lead = cut.1;
      wrong = next_wrong p.before cut.0 p.are_lines cut.1 p.line p.is_line fault p.behind p.wrong;
    }

pub read_one_way : AreReadOneWay
read_one_way =
    let one = reading.read_one_way listing_reader in
    record {
      one_image = λ text a b p q.
          ap (λ (front : Front). front.image)
          (same_Some (whole a p.loadable) (whole b q.loadable)
          (one.one_state text (Some (whole a p.loadable)) (Some (whole b q.loadable)) (to_read text a p)
          (to_read text b q)));
      not_both = λ text img n fault p q.
          one.not_both text (Some (whole img p.loadable)) n fault (to_read text img p) (to_wrong text n fault q);
      one_fault = λ text n m f g p q. one.one_fault text n m f g (to_wrong text n f p) (to_wrong text m g q);
      either = λ text short. elim (one.either text short) [
        | inl read ↦ inl (some_read text read.0 read.1)
        | inr w ↦ inr (w.0, w.1, from_wrong text w.0 w.1 w.2)
      ];
    }
