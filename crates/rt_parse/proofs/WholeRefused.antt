-- What the reader of texts finds is the text's refusal, and its only one. No text is refused, and each list of bytes is
-- a text or is refused.
use Rattle.std.proofs.Common.{◌≡◌, ℕ, ◌<◌, ◌≤◌, List, [], ◌∷◌, ◌++◌, length, Option, Some, None, Result, Ok, Err, refl}
use Rattle.std.proofs.Common.{sym, ap, ◌∙◌, subst, inl, inr, arith}
use Rattle.std.specs.Prelude.{◌⊎◌}
use Rattle.std.specs.List.{AllByRecursion}
use Rattle.std.proofs.lemmas.Bool.{cases_lt}
use Rattle.std.proofs.lemmas.List.{append-nil}
use Rattle.rt_ids.specs.declared.limit.Limit.{Limit}
use Rattle.rt_ids.specs.declared.limits.TheConstants.{TEXT_BYTES}
use Rattle.rt_ids.specs.declared.place.Place.{Place}
use Rattle.rt_ids.specs.declared.refusal.Fault.{Fault}
use Rattle.rt_ids.specs.declared.refusal.Refusal.{Refusal}
use Rattle.rt_ids.specs.declared.refusal.Refusal.TheVariants as refusal
use Rattle.rt_lex.specs.declared.token.Kind.{Kind}
use Rattle.rt_lex.specs.declared.token.Kind.TheVariants as kind
use Rattle.rt_lex.specs.Token.{Token}
use Rattle.rt_lex.specs.Tokens.{tokens}
use Rattle.rt_lex.specs.Place.{place_of}
use Rattle.rt_ast.specs.Tree.{App}
use Rattle.rt_grammar.specs.Mark.{Mark, limit_of, IsWithin}
use Rattle.rt_grammar.specs.Reach.{Reaches}
use Rattle.rt_grammar.specs.Text.{text, IsSpelled, IsViablePrefix, IsUnlimited, IsText, IsForeignAt, IsDeadEnd}
use Rattle.rt_grammar.specs.Text.{IsSyntaxAt}
use Rattle.rt_grammar.specs.Text.{IsLimitAt, IsRefusedAt, IsRefused, offset_of}
use Rattle.rt_parse.specs.Inside.Reading.{refusal_of, fault_found_at}
use Rattle.rt_parse.specs.Inside.Fault.{offset_or, fault_of}
use Rattle.rt_parse.specs.Inside.ReadingDeclaration.{text_at}
use Rattle.rt_parse.specs.declared.stop.Found.{Found}
use Rattle.rt_parse.proofs.Exact.{IsFront, IsRead, IsWrong, IsLimited, Outcome}
use Rattle.rt_parse.proofs.WholeFronts.{fits_suffix, front_shorter, within_front, within_not, limits_same, suffix_same}
use Rattle.rt_parse.proofs.WholeBegins.{begins_by, reaches_by, dead_end_stops, dead_end_none, begins_none}
use Rattle.rt_parse.proofs.WholeExact.{text_outcome}
use Rattle.rt_parse.proofs.WholeOnly.{text_is_read, foreign_rest}

abbrev fault : Place → Refusal → Fault
fault place r = record { place = place; refusal = r }

fault_is : (p p' : Place) (r r' : Refusal) → p ≡ p' → r ≡ r' → fault p r ≡ fault p' r'
fault_is p p' r r' e f = ap (λ (q : Place). fault q r) e ∙ ap (fault p') f

-- What is found is refused.

-- the fault of a text that is too long
abbrev pub too_long : Fault
too_long = record { place = record { line = 1; col = 1 }; refusal = refusal.TooLong }

pub long_refused : (src : List ℕ) → TEXT_BYTES < length src → IsRefused src too_long
long_refused src long = record { at = 0; stands = (long, refl); place = refl }

module _ (src : List ℕ) (short : length src ≤ TEXT_BYTES) where
  -- what the reader finds wrong, after tokens that begin a text
  module _ (before : List Token) (begins : IsViablePrefix before) (unlimited : IsUnlimited (tokens src))
      (none : (app : App) → IsSpelled (tokens src) app → ⊥) where
    wrong_refused : (rest : List Token) → tokens src ≡ before ++ rest
        → ((marks : List Mark) (left : List Token) → Reaches text (tokens src) marks left → length rest ≤ length left)
        → IsRefused src (fault_of src (fault_found_at rest))
    wrong_refused [] split furthest = record {
      at = length src;
      stands = record {
        short = short;
        before = before;
        rest = [];
        split = split;
        begins = begins;
        dead_end = λ app spelled. none app (subst (λ (us : List Token). IsSpelled us app)
            (sym (split ∙ append-nil before)) spelled);
        unlimited = unlimited;
        offset = refl;
      };
      place = refl;
    }
    wrong_refused (t ∷ behind) split furthest = of_kind t.kind refl
      where
        of_kind : (k : Kind) → t.kind ≡ k → IsRefused src (fault (place_of src t.at) (refusal_of k))
        of_kind kind.Foreign e = record {
          at = t.at;
          stands = record {
            short = short;
            before = before;
            byte = t;
            behind = behind;
            split = split;
            begins = begins;
            foreign = e;
            unlimited = unlimited;
            offset = refl;
          };
          place = refl;
        }
        of_kind other e = record {
          at = t.at;
          stands = record {
            short = short;
            before = before;
            rest = t ∷ behind;
            split = split;
            begins = begins;
            dead_end = (begins_none (tokens src) before t behind split furthest, λ f. absurd cc);
            unlimited = unlimited;
            offset = refl;
          };
          place = refl;
        }

  limited_refused : (found : Found) (what : Limit) → IsLimited text (tokens src) found.at what
      → IsRefused src (fault (place_of src (offset_or found.at (length src))) (refusal.Limit what))
  limited_refused found what l = record {
    at = l.passes.0;
    stands = record {
      short = short;
      marks = l.marks;
      mark = l.mark;
      left = l.rest;
      reached = l.reached;
      within =
          l.within;
      passes = l.passes.2;
    };
    place = ap (λ (a : Option ℕ). place_of src (offset_or a (length src))) l.passes.1;
  }

  wrong_is_refused : (found : Found) → IsWrong text (tokens src) found → IsRefused src (fault_of src found)
  wrong_is_refused found w =
      let s = fits_suffix w.marks (tokens src) w.rest w.reached.fits in
      let begins : IsViablePrefix s.0 = begins_by w.marks s.0 w.rest w.rest
      (subst (λ (us : List Token). Reaches text us w.marks w.rest) s.1 w.reached) (omega arith) in
      let unlimited : IsUnlimited (tokens src) = λ marks left r. let f = w.most marks left r in
      within_front marks f.0 (subst (AllByRecursion IsWithin) f.1 w.within) in
      subst (λ (f : Found). IsRefused src (fault_of src f)) (sym w.is)
      (wrong_refused s.0 begins unlimited (λ app spelled. w.none spelled.0 app spelled.1 spelled.2) w.rest s.1
      (λ marks left r. front_shorter marks w.marks (tokens src) left w.rest (w.most marks left r) r.fits
      w.reached.fits))

  pub found_is_refused : (found : Found) → text_at (tokens src) ≡ Err found → IsRefused src (fault_of src found)
  found_is_refused found e = go (text_outcome (tokens src) (Err found) e)
    where
      go : Outcome text (tokens src) (Err found) → IsRefused src (fault_of src found)
      go (inl w) = wrong_is_refused found w
      go (inr (what, f, l)) = subst (λ (r : Refusal). IsRefused src
          (fault (place_of src (offset_or found.at (length src))) r)) (sym f) (limited_refused found what l)

  pub read_is_text : (app : App) → text_at (tokens src) ≡ Ok app → IsText src app
  read_is_text app e =
      let o : IsRead text (tokens src) app = text_outcome (tokens src) (Ok app) e in
      record {
        short = short;
        read = record { marks = o.marks; spelled = o.means; whole = o.fits; within = o.within };
      }

-- What is refused is found.

-- the marks up to a byte or a dead end
reached_by : (ts before rest : List Token) → ts ≡ before ++ rest → IsViablePrefix before → (marks : List Mark)
    × Reaches text ts marks rest
reached_by ts before rest e begins = let r = reaches_by before rest begins in
    (r.0, subst (λ (us : List Token). Reaches text us r.0 rest) (sym e) r.1)

-- no limit is found where none is passed
limit_met : (ts : List Token) (at : Option ℕ) (what : Limit) → IsLimited text ts at what → IsUnlimited ts → ⊥
limit_met ts at what l unlimited =
    within_not l.marks l.mark at what (l.marks ++ l.mark ∷ []) l.passes ([], sym (append-nil (l.marks ++ l.mark ∷ [])))
    (unlimited (l.marks ++ l.mark ∷ []) l.rest l.reached)

-- one limit passes at a mark, at one offset
abbrev at_of : Option (ℕ × Limit) → ℕ
at_of None = 0
at_of (Some passed) = passed.0

abbrev limit_in : Limit → Option (ℕ × Limit) → Limit
limit_in other None = other
limit_in other (Some passed) = passed.1

one_limit : (a b : ℕ) (what passed : Limit) → ◌≡◌ {A = Option (ℕ × Limit)} (Some (a, what)) (Some (b, passed)) → (a ≡ b)
    × (what ≡ passed)
one_limit a b what passed e = (ap at_of e, ap (limit_in what) e)

-- a dead end is found so, at its offset
dead_end_found : (src : List ℕ) (before rest : List Token) → IsDeadEnd before rest
    → fault (place_of src (offset_of src rest)) refusal.Syntax ≡ fault_of src (fault_found_at rest)
dead_end_found src before [] dead = refl
dead_end_found src before (t ∷ rest) dead = ap (fault (place_of src t.at)) (of_kind t.kind dead.1)
  where
    of_kind : (k : Kind) → (k ≡ kind.Foreign → ⊥) → refusal.Syntax ≡ refusal_of k
    of_kind kind.Foreign not = absurd (not refl)
    of_kind other not = refl

module _ (src : List ℕ) (found : Found) (e : text_at (tokens src) ≡ Err found) where
  foreign_found : (at : ℕ) → IsForeignAt src at → fault (place_of src at) refusal.Foreign ≡ fault_of src found
  foreign_found at x = go (text_outcome (tokens src) (Err found) e)
    where
      r : (marks : List Mark) × Reaches text (tokens src) marks (x.byte ∷ x.behind)
      r = reached_by (tokens src) x.before (x.byte ∷ x.behind) x.split x.begins

      go : Outcome text (tokens src) (Err found) → fault (place_of src at) refusal.Foreign ≡ fault_of src found
      go (inl w) =
          let same : x.byte ∷ x.behind ≡ w.rest = foreign_rest src r.0 w.marks x.byte x.behind (x.byte ∷ x.behind)
          w.rest refl x.foreign r.1.fits w.reached (w.most r.0 (x.byte ∷ x.behind) r.1) in
          fault_is (place_of src at) (place_of src x.byte.at) refusal.Foreign (refusal_of x.byte.kind)
          (ap (place_of src) x.offset) (sym (ap refusal_of x.foreign))
          ∙ ap (fault_of src) (sym (w.is ∙ ap fault_found_at (sym same)))
      go (inr (what, f, l)) = absurd (limit_met (tokens src) found.at what l x.unlimited)

  syntax_found : (at : ℕ) → IsSyntaxAt src at → fault (place_of src at) refusal.Syntax ≡ fault_of src found
  syntax_found at x = go (text_outcome (tokens src) (Err found) e)
    where
      r : (marks : List Mark) × Reaches text (tokens src) marks x.rest
      r = reached_by (tokens src) x.before x.rest x.split x.begins

      go : Outcome text (tokens src) (Err found) → fault (place_of src at) refusal.Syntax ≡ fault_of src found
      go (inl w) =
          let le : length w.rest ≤ length x.rest = front_shorter r.0 w.marks (tokens src) x.rest w.rest
          (w.most r.0 x.rest r.1) r.1.fits w.reached.fits in
          let ge : length x.rest ≤ length w.rest = dead_end_stops (tokens src) x.before x.rest x.split x.dead_end
          w.marks w.rest w.reached in
          let s = fits_suffix w.marks (tokens src) w.rest w.reached.fits in
          let same : x.rest ≡ w.rest = suffix_same x.before s.0 x.rest w.rest (sym x.split ∙ s.1) (omega arith) in
          ap (λ (a : ℕ). fault (place_of src a) refusal.Syntax) x.offset ∙ dead_end_found src x.before x.rest x.dead_end
          ∙ ap (fault_of src) (sym (w.is ∙ ap fault_found_at (sym same)))
      go (inr (what, f, l)) = absurd (limit_met (tokens src) found.at what l x.unlimited)

  limit_found : (at : ℕ) (what : Limit) → IsLimitAt src what at → fault (place_of src at) (refusal.Limit what)
      ≡ fault_of src found
  limit_found at what x = go (text_outcome (tokens src) (Err found) e)
    where
      go : Outcome text (tokens src) (Err found) → fault (place_of src at) (refusal.Limit what) ≡ fault_of src found
      go (inl w) = absurd (within_not x.marks x.mark (Some at) what w.marks (at, refl, x.passes)
          (w.most (x.marks ++ x.mark ∷ []) x.left x.reached) w.within)
      go (inr (passed, f, l)) =
          let same : x.mark ≡ l.mark = mark_same (l.most (x.marks ++ x.mark ∷ []) x.left x.reached) in
          let both = one_limit at l.passes.0 what passed (sym x.passes ∙ ap limit_of same ∙ l.passes.2) in
          fault_is (place_of src at) (place_of src (offset_or found.at (length src))) (refusal.Limit what) found.refusal
          (ap (place_of src) both.0 ∙ ap (λ (a : Option ℕ). place_of src (offset_or a (length src))) (sym l.passes.1))
          (ap (λ (w : Limit). refusal.Limit w) both.1 ∙ sym f)
        where
          mark_same : IsFront (x.marks ++ x.mark ∷ []) (l.marks ++ l.mark ∷ [])
              ⊎ IsFront (l.marks ++ l.mark ∷ []) (x.marks ++ x.mark ∷ []) → x.mark ≡ l.mark
          mark_same (inl front) = limits_same x.marks l.marks x.mark l.mark (Some at) what (at, refl, x.passes) l.within
              front
          mark_same (inr front) = sym (limits_same l.marks x.marks l.mark x.mark found.at passed l.passes x.within
              front)

  found_at : length src ≤ TEXT_BYTES → (r : Refusal) (at : ℕ) → IsRefusedAt src r at → fault (place_of src at) r
      ≡ fault_of src found
  found_at short refusal.TooLong at (long, first) = absurd (omega (arith, short, long))
  found_at short refusal.Foreign at x = foreign_found at x
  found_at short refusal.Syntax at x = syntax_found at x
  found_at short (refusal.Limit what) at x = limit_found at what x
  found_at short (refusal.Rule what) at x = absurd x

  pub refused_is_found : (f : Fault) → length src ≤ TEXT_BYTES → IsRefused src f → f ≡ fault_of src found
  refused_is_found f short x = ap (λ (p : Place). fault p f.refusal) x.place ∙ found_at short f.refusal x.at x.stands

-- No text is refused.
module _ (src : List ℕ) (app : App) (t : IsText src app) where
  whole : IsRead text (tokens src) app
  whole = text_outcome (tokens src) (Ok app) (text_is_read src app t)

  not_refused : (r : Refusal) (at : ℕ) → IsRefusedAt src r at → ⊥
  not_refused refusal.TooLong at (long, first) = let short = t.short in absurd (omega (arith, short, long))
  not_refused refusal.Foreign at x =
      let r = reached_by (tokens src) x.before (x.byte ∷ x.behind) x.split x.begins in
      let reached : Reaches text (tokens src) whole.marks [] =
      record {
        begins = (
          [],
          app,
          subst (λ (ms : List Mark). text ms app) (sym (append-nil whole.marks))
              whole.means,
        );
        fits = whole.fits;
      } in
      let same : x.byte ∷ x.behind ≡ [] = foreign_rest src r.0 whole.marks x.byte x.behind (x.byte ∷ x.behind) [] refl
      x.foreign r.1.fits reached (whole.most r.0 (x.byte ∷ x.behind) r.1) in
      absurd cc
  not_refused refusal.Syntax at x = dead_end_none (tokens src) x.before x.rest x.split x.dead_end app
      (t.read.marks, t.read.spelled, t.read.whole)
  not_refused (refusal.Limit what) at x =
      within_not x.marks x.mark (Some at) what whole.marks (at, refl, x.passes)
      (whole.most (x.marks ++ x.mark ∷ []) x.left x.reached) whole.within
  not_refused (refusal.Rule what) at x = x

pub text_not_refused : (src : List ℕ) (app : App) (f : Fault) → IsText src app → IsRefused src f → ⊥
text_not_refused src app f t x = not_refused src app t f.refusal x.at x.stands

-- Each list of bytes is a text or is refused.
pub text_or_refused : (src : List ℕ) → ((app : App) × IsText src app) ⊎ ((f : Fault) × IsRefused src f)
text_or_refused src = go (cases_lt TEXT_BYTES (length src))
  where
    of_read : length src ≤ TEXT_BYTES → (read : Result App Found) → text_at (tokens src) ≡ read
        → ((app : App) × IsText src app) ⊎ ((f : Fault) × IsRefused src f)
    of_read short (Ok app) e = inl (app, read_is_text src short app e)
    of_read short (Err found) e = inr (fault_of src found, found_is_refused src short found e)

    go : (TEXT_BYTES < length src) ⊎ (length src ≤ TEXT_BYTES) → ((app : App) × IsText src app)
        ⊎ ((f : Fault) × IsRefused src f)
    go (inl long) = inr (too_long, long_refused src long)
    go (inr short) = of_read short (text_at (tokens src)) refl
