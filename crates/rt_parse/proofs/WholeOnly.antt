-- What is a text is read, so a text has one tree; and nothing goes further than to a byte that no token begins with.
use Rattle.std.proofs.Common.{◌≡◌, ℕ, List, [], ◌∷◌, ◌++◌, Result, Ok, Err, refl, sym, ap, ◌∙◌, subst, inl, inr}
use Rattle.std.specs.List.{AllByRecursion}
use Rattle.rt_lemmas.proofs.Lists.{all_front, all_behind}
use Rattle.rt_lex.specs.declared.token.Kind.TheVariants as kind
use Rattle.rt_lex.specs.Token.{Token}
use Rattle.rt_lex.specs.Tokens.{tokens}
use Rattle.rt_ast.specs.Tree.{App}
use Rattle.rt_grammar.specs.Mark.{Mark, Takes, Ends}
use Rattle.rt_grammar.specs.Reach.{Fits, Reaches}
use Rattle.rt_grammar.specs.Text.{text, IsText}
use Rattle.rt_parse.specs.Inside.ReadingDeclaration.{text_at}
use Rattle.rt_parse.specs.declared.stop.Found.{Found}
use Rattle.rt_parse.proofs.Exact.{IsFront, Outcome}
use Rattle.rt_parse.proofs.WholeFronts.{front_fits, within_not}
use Rattle.rt_parse.proofs.Known.{IsToken}
use Rattle.rt_parse.proofs.KnownApplication.{text_known}
use Rattle.rt_parse.proofs.WholeExact.{text_outcome}

-- A text is read.

pub text_is_read : (src : List ℕ) (app : App) → IsText src app → text_at (tokens src) ≡ Ok app
text_is_read src app t = go (text_at (tokens src)) refl
  where
    stops : (found : Found) → Outcome text (tokens src) (Err found) → ⊥
    stops found (inl w) = w.none t.read.marks app t.read.spelled t.read.whole
    stops found (inr (what, f, l)) = within_not l.marks l.mark found.at what t.read.marks l.passes
        (l.only t.read.marks app t.read.spelled t.read.whole) t.read.within

    go : (read : Result App Found) → text_at (tokens src) ≡ read → text_at (tokens src) ≡ Ok app
    go (Ok other) e = let o = text_outcome (tokens src) (Ok other) e in e
        ∙ ap (λ (a : App). Ok a) (sym (o.only t.read.marks app t.read.spelled t.read.whole).1)
    go (Err found) e = absurd (stops found (text_outcome (tokens src) (Err found) e))

same_app : (a b : App) (read : Result App Found) → read ≡ Ok a → read ≡ Ok b → a ≡ b
same_app a b read e f = cc

pub text_only : (src : List ℕ) (a b : App) → IsText src a → IsText src b → a ≡ b
text_only src a b t u = same_app a b (text_at (tokens src)) (text_is_read src a t) (text_is_read src b u)

-- No mark takes a byte that no token begins with.

foreign_stops : (marks : List Mark) (t : Token) (ts rest : List Token) → t.kind ≡ kind.Foreign
    → AllByRecursion IsToken marks → Fits marks (t ∷ ts) rest → t ∷ ts ≡ rest
foreign_stops [] t ts rest e all fits = fits
foreign_stops (Takes u limit ∷ marks) t ts rest e (first, all) (behind, f, fits) =
    let same : t ≡ u = cc in
    absurd (first (subst (λ (v : Token). v.kind ≡ kind.Foreign) same e))
foreign_stops (Ends compares deep ∷ marks) t ts rest e (first, all) (stop, fits) =
    foreign_stops marks t ts rest e all fits

-- so what is reached further leaves the same
pub foreign_rest : (src : List ℕ) (marks others : List Mark) (t : Token) (more rest left : List Token) → rest ≡ t ∷ more
    → t.kind ≡ kind.Foreign
    → Fits marks (tokens src) rest → Reaches text (tokens src) others left → IsFront marks others → rest ≡ left
foreign_rest src marks others t more rest left e k fits r front =
    let f = front_fits marks others (tokens src) rest left front fits r.fits in
    let all : AllByRecursion IsToken others = all_front IsToken others r.begins.0
    (text_known (others ++ r.begins.0) r.begins.1 r.begins.2) in
    let behind : AllByRecursion IsToken f.0 = all_behind IsToken marks f.0 (subst (AllByRecursion IsToken) f.1 all) in
    e ∙ foreign_stops f.0 t more left k behind (subst (λ (us : List Token). Fits f.0 us left) e f.2)
