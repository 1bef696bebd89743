-- What lines lead a reader of listings to, and what those of a listing lead it to.
use Rattle.std.proofs.Common.{◌≡◌, ℕ, List, [], ◌∷◌, ◌++◌, flat_map, map, Option, Some, None, Result, Ok, Err}
use Rattle.std.proofs.Common.{refl, ap, sym, ◌∙◌, subst, append_assoc, append-nil}
use Rattle.std.specs.List.{AllByRecursion}
use Rattle.rt_code.specs.Image.{Image}
use Rattle.rt_lines.specs.Reading.{Lead}
use Rattle.rt_lines.specs.Parts.{line_with_feed}
use Rattle.rt_listing.specs.Listing.{listing}
use Rattle.rt_load.specs.Loadable.{IsLoadable}
use Rattle.rt_load.specs.Reading.{IsOneLine, Fault}
use Rattle.rt_load.specs.Inside.Reader.{fed_lines, fault_of, take, told, listing_reader}
use Rattle.rt_load.specs.declared.front.Front.{Front}
use Rattle.rt_load.specs.declared.operand.Wrong.{Wrong}
use Rattle.rt_load.proofs.Fed.{fed_first, fed_all, step_fed}
use Rattle.rt_load.proofs.Forward.{listing_lines, whole, listing_led}
use Rattle.rt_load.proofs.Fronts.{front_text, Stands}
use Rattle.rt_load.proofs.Progress.{line_taken, first_taken}
use Rattle.rt_load.proofs.Read.{same_ok}
use Rattle.rt_load.proofs.Split.{listing_fed, are_lines}

-- lines without their line feeds lead from one state to another
abbrev pub Leads : Option Front → List (List ℕ) → Option Front → Type 0
Leads s lines t = Lead listing_reader s (map line_with_feed lines) t

pub told_ok : (r : Result Front Wrong) (t : Option Front) → told r ≡ Ok t → (next : Front) × (r ≡ Ok next)
    × (Some next ≡ t)
told_ok (Ok next) t e = (next, refl, same_ok (Ok (Some next)) (Some next) t refl e)
told_ok (Err w) t e = absurd cc

pub told_err : (r : Result Front Wrong) (f : Fault) → told r ≡ Err f → (w : Wrong) × (r ≡ Err w) × (fault_of w ≡ f)
told_err (Ok next) f e = absurd cc
told_err (Err w) f e = (w, refl, cc)

-- what is read so far, and its text
abbrev pub Left : Option Front → List ℕ → Type 0
Left None text = [] ≡ text
Left (Some front) text = Stands front × (front_text front ≡ text)

line_left : (s : Option Front) (next : Front) (line text : List ℕ) → Left s text → take s line ≡ Ok next
    → Left (Some next) (text ++ line_with_feed line)
line_left None next line text left e =
    let first = first_taken line next e in (first.0, first.1 ∙ ap (λ t. t ++ line_with_feed line) left)
line_left (Some front) next line text left e =
    let goes = line_taken front next line left.0 e in
    (goes.stands, goes.text ∙ ap (λ t. t ++ line_with_feed line) left.1)

pub lines_left : (lines : List (List ℕ)) (s t : Option Front) (text : List ℕ) → AllByRecursion IsOneLine lines
    → Left s text → Leads s lines t → Left t (text ++ flat_map line_with_feed lines)
lines_left [] s t text all left lead =
    subst (λ u. Left u (text ++ [])) lead (subst (Left s) (sym (append-nil text)) left)
lines_left (line ∷ lines) s t text all left lead =
    let next = told_ok (take s line) lead.0 (sym (step_fed s line all.0) ∙ lead.1) in
    subst (Left t) (append_assoc text (line_with_feed line) (flat_map line_with_feed lines))
    (lines_left lines lead.0 t (text ++ line_with_feed line) all.1
    (subst (λ u. Left u (text ++ line_with_feed line)) next.2 (line_left s next.0 line text left next.1)) lead.2)

-- lines lead to one state
one_lead : (ls : List (List ℕ)) (s t u : Option Front) → Lead listing_reader s ls t → Lead listing_reader s ls u → t ≡ u
one_lead [] s t u a b = sym a ∙ b
one_lead (line ∷ ls) s t u a b =
    one_lead ls a.0 t u a.2
    (subst (λ v. Lead listing_reader v ls u) (same_ok (listing_reader.step s line) b.0 a.0 b.1 a.1) b.2)

-- and through the state behind some of them
lead_through : (ls more : List (List ℕ)) (s t : Option Front) → Lead listing_reader s (ls ++ more) t
    → (u : Option Front) × Lead listing_reader s ls u × Lead listing_reader u more t
lead_through [] more s t lead = (s, refl, lead)
lead_through (line ∷ ls) more s t lead =
    let rest = lead_through ls more lead.0 t lead.2 in (rest.0, (lead.0, lead.1, rest.1), rest.2)

module _ (img : Image) (l : IsLoadable img) where
  -- a listing leads to its image
  pub listing_leads : Lead listing_reader None (fed_lines (listing img)) (Some (whole img l))
  listing_leads =
      subst (λ ls. Lead listing_reader None ls (Some (whole img l)))
      (sym (ap fed_lines (listing_fed img ∙ sym (append-nil (flat_map line_with_feed (listing_lines img l))))
      ∙ fed_all (listing_lines img l) [] (are_lines img l) ∙ append-nil (map line_with_feed (listing_lines img l))))
      (listing_led img l)

  -- also where it is cut behind lines
  pub cut_leads : (before : List (List ℕ)) (rest : List ℕ) → AllByRecursion IsOneLine before
      → listing img ≡ flat_map line_with_feed before ++ rest → (s : Option Front) × Leads None before s
      × Lead listing_reader s (fed_lines rest) (Some (whole img l))
  cut_leads before rest all is =
      lead_through (map line_with_feed before) (fed_lines rest) None (Some (whole img l))
      (subst (λ ls. Lead listing_reader None ls (Some (whole img l))) (ap fed_lines is ∙ fed_all before rest all)
      listing_leads)

  pub rest_leads : (before : List (List ℕ)) (rest : List ℕ) (s : Option Front) → AllByRecursion IsOneLine before
      → Leads None before s → listing img ≡ flat_map line_with_feed before ++ rest
      → Lead listing_reader s (fed_lines rest) (Some (whole img l))
  rest_leads before rest s all lead is =
      let cut = cut_leads before rest all is in
      subst (λ u. Lead listing_reader u (fed_lines rest) (Some (whole img l)))
      (one_lead (map line_with_feed before) None cut.0 s cut.1 lead) cut.2

  pub next_leads : (before : List (List ℕ)) (line rest : List ℕ) (s : Option Front) → AllByRecursion IsOneLine before
      → IsOneLine line → Leads None before s
      → listing img ≡ (flat_map line_with_feed before ++ line_with_feed line) ++ rest
      → Lead listing_reader s (line_with_feed line ∷ fed_lines rest) (Some (whole img l))
  next_leads before line rest s all own lead is =
      subst (λ ls. Lead listing_reader s ls (Some (whole img l))) (fed_first line rest own)
      (rest_leads before (line_with_feed line ++ rest) s all lead
      (is ∙ append_assoc (flat_map line_with_feed before) (line_with_feed line) rest))
