-- The reader of texts is exact for the grammar with a bound on parentheses and blocks inside each other.
use Rattle.std.proofs.Common.{◌≡◌, ℕ, suc, max, List, [], ◌∷◌, length, Result, subst, arith}
use Rattle.rt_ids.specs.declared.limit.Limit.{Limit}
use Rattle.rt_ids.specs.declared.limits.TheConstants.{PARENTHESES}
use Rattle.rt_ids.specs.declared.refusal.Refusal.TheVariants as refusal
use Rattle.rt_lex.specs.declared.token.Kind.{Kind}
use Rattle.rt_lex.specs.declared.token.Kind.TheVariants as kind
use Rattle.rt_lex.specs.Token.{Token}
use Rattle.rt_ast.specs.Tree.{App}
use Rattle.rt_grammar.specs.Mark.{Mark}
use Rattle.rt_grammar.specs.Declaration.{application}
use Rattle.rt_grammar.specs.Reach.{Reaches}
use Rattle.rt_grammar.specs.Text.{text}
use Rattle.rt_parse.specs.Inside.Reading.{refusal_of, refusal_at}
use Rattle.rt_parse.specs.Inside.ReadingDeclaration.{text_at}
use Rattle.rt_parse.specs.declared.stop.Found.{Found}
use Rattle.rt_parse.proofs.Exact.{Outcome}
use Rattle.rt_parse.proofs.LargerDeclaration.{larger}
use Rattle.rt_parse.proofs.ReadsApplication.{text_exact}

-- a bound that the limits are met before, and that is no smaller than another
abbrev pub bound : ℕ → ℕ
bound m = max (suc PARENTHESES) m

pub bounded : (m : ℕ) (marks : List Mark) (app : App) → application m marks app → application (bound m) marks app
bounded m = larger m (bound m) (omega arith)

pub outcome : (m : ℕ) (ts : List Token) (read : Result App Found) → text_at ts ≡ read
    → Outcome (application (bound m)) ts read
outcome m ts read e = subst (Outcome (application (bound m)) ts) e
    (text_exact (bound m) (omega arith) (length ts) ts (omega arith))

-- where a language is reached, the grammar is
pub of_bound : (m : ℕ) (ts : List Token) (marks : List Mark) (rest : List Token) → Reaches (application m) ts marks rest
    → Reaches text ts marks rest
of_bound m ts marks rest r = record { begins = (r.begins.0, r.begins.1, (m, r.begins.2)); fits = r.fits }

-- where the grammar is reached, it is so with a bound
pub to_bound : (ts : List Token) (marks : List Mark) (rest : List Token) → Reaches text ts marks rest → (m : ℕ)
    × Reaches (application (bound m)) ts marks rest
to_bound ts marks rest r =
    (r.begins.2.0, record { begins = (r.begins.0, r.begins.1, bounded r.begins.2.0 _ _ r.begins.2.1); fits = r.fits })

-- What is found.

kind_no_limit : (k : Kind) (what : Limit) → refusal_of k ≡ refusal.Limit what → ⊥
kind_no_limit kind.Foreign what e = absurd cc
kind_no_limit other what e = absurd cc

pub wrong_no_limit : (rest : List Token) (what : Limit) → refusal_at rest ≡ refusal.Limit what → ⊥
wrong_no_limit [] what e = absurd cc
wrong_no_limit (t ∷ rest) what e = kind_no_limit t.kind what e
