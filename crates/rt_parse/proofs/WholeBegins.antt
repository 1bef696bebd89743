-- Tokens begin a text of the grammar exactly where some text of it goes as far as them.
use Rattle.std.proofs.Common.{◌≡◌, ◌<◌, ◌≤◌, List, [], ◌∷◌, ◌++◌, length, refl, sym, ap, ◌∙◌, subst, inl, inr}
use Rattle.std.proofs.Common.{append_assoc, arith, length-append}
use Rattle.std.specs.Prelude.{◌⊎◌}
use Rattle.std.proofs.lemmas.Bool.{cases_lt}
use Rattle.std.proofs.lemmas.List.{append-nil}
use Rattle.rt_lex.specs.Token.{Token}
use Rattle.rt_ast.specs.Tree.{App}
use Rattle.rt_grammar.specs.Mark.{Mark, Takes, Ends}
use Rattle.rt_grammar.specs.Reach.{Fits, Reaches}
use Rattle.rt_grammar.specs.Text.{text, IsSpelled, IsViablePrefix, IsDeadEnd}

-- what goes at least as far as some tokens begins with marks of just these
fits_front : (marks : List Mark) (before more left : List Token) → Fits marks (before ++ more) left
    → length left ≤ length more
    → (front : List Mark) × (back : List Mark) × (marks ≡ front ++ back) × Fits front before []
fits_front marks [] more left fits le = ([], marks, refl, refl)
fits_front [] (u ∷ before) more left fits le =
    let n : length (u ∷ before ++ more) ≡ length left = ap length fits in
    let m : length (before ++ more) ≡ _ = length-append before more in
    absurd (omega (arith, n, m, le))
fits_front (Takes t limit ∷ marks) (u ∷ before) more left (behind, e, fits) le =
    let same : u ≡ t = cc in
    let tail : behind ≡ before ++ more = cc in
    let f = fits_front marks before more left (subst (λ (us : List Token). Fits marks us left) tail fits) le in (
      Takes t limit ∷ f.0,
      f.1,
      ap (λ (ms : List Mark). Takes t limit ∷ ms) f.2,
      (before, ap (λ (v : Token). v ∷ before) same, f.3),
    )
fits_front (Ends compares deep ∷ marks) (u ∷ before) more left (stop, fits) le =
    let f = fits_front marks (u ∷ before) more left fits le in
    (Ends compares deep ∷ f.0, f.1, ap (λ (ms : List Mark). Ends compares deep ∷ ms) f.2, (stop, f.3))

-- marks of some tokens begin with marks that any tokens may follow: all up to the last token
fits_behind : (marks : List Mark) (before rest : List Token) → Fits marks before []
    → (front : List Mark) × (back : List Mark) × (marks ≡ front ++ back) × Fits front (before ++ rest) rest
fits_behind marks [] rest fits = ([], marks, refl, refl)
fits_behind [] (u ∷ before) rest fits = absurd cc
fits_behind (Takes t limit ∷ marks) (u ∷ before) rest (behind, e, fits) =
    let same : u ≡ t = cc in
    let tail : behind ≡ before = cc in
    let f = fits_behind marks before rest (subst (λ (us : List Token). Fits marks us []) tail fits) in (
      Takes t limit ∷ f.0,
      f.1,
      ap (λ (ms : List Mark). Takes t limit ∷ ms) f.2,
      (before ++ rest, ap (λ (v : Token). v ∷ before ++ rest) same, f.3),
    )
fits_behind (Ends compares deep ∷ marks) (u ∷ before) rest (stop, fits) =
    let f = fits_behind marks (u ∷ before) rest fits in
    (Ends compares deep ∷ f.0, f.1, ap (λ (ms : List Mark). Ends compares deep ∷ ms) f.2, (stop, f.3))

front_begins : (marks front back more : List Mark) (app : App) → marks ≡ front ++ back → text (marks ++ more) app
    → text (front ++ (back ++ more)) app
front_begins marks front back more app e = subst (λ (ms : List Mark). text ms app)
    (ap (λ (ms : List Mark). ms ++ more) e ∙ append_assoc front back more)

-- where a text goes at least as far as these tokens, they begin it
pub begins_by : (marks : List Mark) (before more left : List Token) → Reaches text (before ++ more) marks left
    → length left ≤ length more → IsViablePrefix before
begins_by marks before more left r le =
    let f = fits_front marks before more left r.fits le in (
      f.0,
      record {
        begins = (
          f.1 ++ r.begins.0,
          r.begins.1,
          front_begins marks f.0 f.1 r.begins.0 r.begins.1 f.2
              r.begins.2,
        );
        fits = f.3;
      },
    )

-- where these tokens begin a text, some text goes as far as them, whatever follows
pub reaches_by : (before rest : List Token) → IsViablePrefix before → (marks : List Mark)
    × Reaches text (before ++ rest) marks rest
reaches_by before rest (marks, r) =
    let f = fits_behind marks before rest r.fits in (
      f.0,
      record {
        begins = (
          f.1 ++ r.begins.0,
          r.begins.1,
          front_begins marks f.0 f.1 r.begins.0 r.begins.1 f.2
              r.begins.2,
        );
        fits = f.3;
      },
    )

-- no text goes further than to a dead end
pub dead_end_stops : (ts before rest : List Token) → ts ≡ before ++ rest → IsDeadEnd before rest
    → (marks : List Mark) (left : List Token) → Reaches text ts marks left → length rest ≤ length left
dead_end_stops ts before [] e dead marks left r = omega arith
dead_end_stops ts before (t ∷ behind) e dead marks left r = go (cases_lt (length left) (length (t ∷ behind)))
  where
    reached : Reaches text ((before ++ t ∷ []) ++ behind) marks left
    reached = subst (λ (us : List Token). Reaches text us marks left) (e ∙ sym (append_assoc before (t ∷ []) behind)) r

    go : (length left < length (t ∷ behind)) ⊎ (length (t ∷ behind) ≤ length left) → length (t ∷ behind) ≤ length left
    go (inl less) = absurd (dead.0 (begins_by marks (before ++ t ∷ []) behind left reached (omega arith)))
    go (inr le) = le

-- tokens with a dead end are no text
pub dead_end_none : (ts before rest : List Token) → ts ≡ before ++ rest → IsDeadEnd before rest → (app : App)
    → IsSpelled ts app → ⊥
dead_end_none ts before [] e dead app spelled =
    dead app (subst (λ (us : List Token). IsSpelled us app) (e ∙ append-nil before) spelled)
dead_end_none ts before (t ∷ behind) e dead app (marks, l, fits) =
    let reached : Reaches text ts marks [] =
    record { begins = ([], app, subst (λ (ms : List Mark). text ms app) (sym (append-nil marks)) l); fits = fits }
    in
    let le : length (t ∷ behind) ≤ length {A = Token} [] = dead_end_stops ts before (t ∷ behind) e dead marks []
    reached in
    absurd (omega arith)

-- where no text goes further than to this token, the tokens up to it begin none
pub begins_none : (ts before : List Token) (t : Token) (behind : List Token) → ts ≡ before ++ t ∷ behind
    → ((marks : List Mark) (left : List Token) → Reaches text ts marks left → length (t ∷ behind) ≤ length left)
    → IsViablePrefix (before ++ t ∷ []) → ⊥
begins_none ts before t behind e furthest begins =
    let r = reaches_by (before ++ t ∷ []) behind begins in
    let same : (before ++ t ∷ []) ++ behind ≡ ts = append_assoc before (t ∷ []) behind ∙ sym e in
    let le : length (t ∷ behind) ≤ length behind = furthest r.0 behind
    (subst (λ (us : List Token). Reaches text us r.0 behind) same r.1) in
    absurd (omega arith)
