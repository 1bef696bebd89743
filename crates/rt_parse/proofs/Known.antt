-- The tokens of the grammar's texts are words, signs, names and numbers: none is a byte that no token begins with.
use Rattle.std.proofs.Common.{◌≡◌, ◌≢◌, ℕ, zero, suc, Bool, true, false, List, [], ◌∷◌, ◌++◌, Option, Some, refl, sym}
use Rattle.std.proofs.Common.{subst, inl, inr}
use Rattle.std.specs.Prelude.{if◌then◌else◌}
use Rattle.std.specs.List.{AllByRecursion}
use Rattle.rt_lemmas.proofs.Options.{some_when}
use Rattle.rt_ids.specs.declared.limit.Limit.{Limit}
use Rattle.rt_ids.specs.declared.op.Op.{Op}
use Rattle.rt_lex.specs.declared.token.Kind.{Kind}
use Rattle.rt_lex.specs.declared.token.Kind.TheVariants as kind
use Rattle.rt_lex.specs.Token.{Token, is_this_sign, if_word, if_sign, if_name}
use Rattle.rt_ast.specs.declared.ident.Ident.{Ident}
use Rattle.rt_ast.specs.declared.ident.Number.{Number}
use Rattle.rt_grammar.specs.Mark.{Mark, Takes, Ends}
use Rattle.rt_grammar.specs.Language.{Language, gives, ◌>>=◌, ◌or◌, or_else, only_if, never, token, times, repeat}
use Rattle.rt_grammar.specs.Tokens.{free, limited_word, limited_sign, limited_name, this_name, limited_number, word_of}
use Rattle.rt_grammar.specs.Tokens.{sign_of, name_of, ident_of, ident_at, number_of_token, number_with_offset}
use Rattle.rt_grammar.specs.Tokens.{name_limit}
use Rattle.rt_grammar.specs.Tokens.{number_limit, list, adds}
use Rattle.rt_grammar.specs.Expression.{Operand, Signs, op_of, operator, comparisons, strengths, chains, comparison}
use Rattle.rt_grammar.specs.Expression.{plain_atom, atom, ends, expression}

-- the mark takes no such byte
abbrev pub IsToken : Mark → Type 0
IsToken (Takes t limit) = t.kind ≢ kind.Foreign
IsToken (Ends compares deep) = Unit {0}

pub record Known {A : Type 0} (form : Language A) : Type 0 where
  pub known : (marks : List Mark) (x : A) → form marks x → AllByRecursion IsToken marks

all_both : (a b : List Mark) → AllByRecursion IsToken a → AllByRecursion IsToken b → AllByRecursion IsToken (a ++ b)
all_both [] b all all' = all'
all_both (m ∷ a) b (first, all) all' = (first, all_both a b all all')

all_of : {marks marks' : List Mark} → marks ≡ marks' → AllByRecursion IsToken marks' → AllByRecursion IsToken marks
all_of e all = subst (AllByRecursion IsToken) (sym e) all

pub known_gives : {A : Type 0} (x : A) → Known (gives x)
known_gives x = record { known = λ marks y l. all_of l.0 tt }

pub known_then : {A B : Type 0} {L : Language A} {M : A → Language B} → Known L → ((x : A) → Known (M x))
    → Known (L >>= M)
known_then first second = record {
  known = λ marks y l. all_of l.5
      (all_both l.1 l.2 (first.known l.1 l.0 l.3) ((second l.0).known l.2 y l.4));
}

pub known_or : {A : Type 0} {L M : Language A} → Known L → Known M → Known (L or M)
known_or {A} {L} {M} one other = record { known = go }
  where
    go : (marks : List Mark) (x : A) → (L or M) marks x → AllByRecursion IsToken marks
    go marks x (inl l) = one.known marks x l
    go marks x (inr m) = other.known marks x m

pub known_or_else : {A : Type 0} (x : A) {L : Language A} → Known L → Known (or_else x L)
known_or_else x known = known_or (known_gives x) known

pub known_only_if : {A : Type 0} (holds : Bool) {L : Language A} → Known L → Known (only_if holds L)
known_only_if holds known = record { known = λ marks x l. known.known marks x l.1 }

pub known_never : {A : Type 0} → Known (never {A = A})
known_never = record { known = λ marks x l. absurd l }

known_times : {S : Type 0} (n : ℕ) {step : S → Language S} → ((s : S) → Known (step s)) → (s : S)
    → Known (times n step s)
known_times zero known s = known_gives s
known_times (suc n) known s = known_then (known s) (known_times n known)

pub known_repeat : {S : Type 0} {step : S → Language S} → ((s : S) → Known (step s)) → (s : S) → Known (repeat step s)
known_repeat known s = record { known = λ marks x l. (known_times l.0 known s).known marks x l.1 }

-- Tokens.

known_token : {A : Type 0} (meaning : Token → Option A) (limit : A → Option Limit)
    → ((t : Token) (x : A) → meaning t ≡ Some x → t.kind ≢ kind.Foreign) → Known (token meaning limit)
known_token meaning limit means = record { known = λ marks x l. all_of l.2 (means l.0 x l.1, tt) }

word_kind : (k : Kind) (same : Bool) → if_word k same ≡ true → k ≢ kind.Foreign
word_kind kind.Foreign same e = absurd cc
word_kind other same e = λ f. absurd cc

sign_kind : (k : Kind) (same : Bool) → if_sign k same ≡ true → k ≢ kind.Foreign
sign_kind kind.Foreign same e = absurd cc
sign_kind other same e = λ f. absurd cc

this_name_kind : (k : Kind) (same : Bool) → if_name k same ≡ true → k ≢ kind.Foreign
this_name_kind kind.Foreign same e = absurd cc
this_name_kind other same e = λ f. absurd cc

name_kind : (k : Kind) (text : List ℕ) (at : ℕ) (x : Ident) → ident_at k text at ≡ Some x → k ≢ kind.Foreign
name_kind kind.Foreign text at x e = absurd cc
name_kind other text at x e = λ f. absurd cc

number_kind : (k : Kind) (text : List ℕ) (at : ℕ) (x : Number) → number_with_offset k text at ≡ Some x
    → k ≢ kind.Foreign
number_kind kind.Foreign text at x e = absurd cc
number_kind other text at x e = λ f. absurd cc

pub known_word : {text : List ℕ} {what : Option Limit} → Known (limited_word text what)
known_word {text = text} {what = what} = known_token (word_of text) (λ _. what)
    (λ t x e. word_kind t.kind _ (some_when _ t.at x e))

pub known_sign : {text : List ℕ} {what : Option Limit} → Known (limited_sign text what)
known_sign {text = text} {what = what} = known_token (sign_of text) (λ _. what)
    (λ t x e. sign_kind t.kind _ (some_when _ t.at x e))

pub known_this_name : {text : List ℕ} → Known (this_name text)
known_this_name {text = text} =
    known_token (name_of text) (λ _. free) (λ t x e. this_name_kind t.kind _ (some_when _ t.at x e))

pub known_name : (what : Option Limit) → Known (limited_name what)
known_name what = known_token ident_of (name_limit what) (λ t x e. name_kind t.kind t.text t.at x e)

pub known_number : (what : ℕ → Option Limit) → Known (limited_number what)
known_number what = known_token number_of_token (number_limit what) (λ t x e. number_kind t.kind t.text t.at x e)

pub known_list : {S : Type 0} (closing : List ℕ) {item : S → Language S} → ((s : S) → Known (item s)) → (s : S)
    → Known (list closing item s)
known_list closing known s =
    known_then (known_repeat (λ s. known_then (known s) (λ x. known_then known_sign (λ at. known_gives x))) s)
    (λ most. known_then (known_or (known_gives most) (known most))
    (λ all. known_then known_sign (λ at. known_gives all)))

pub known_adds : {A : Type 0} {item : ℕ → Language A} → ((n : ℕ) → Known (item n)) → (xs : List A)
    → Known (adds item xs)
known_adds known xs = known_then (known _) (λ x. known_gives (xs ++ x ∷ []))

-- Expressions.

op_kind : (signs : Signs) (t : Token) (o : Op) → op_of signs t ≡ Some o → t.kind ≢ kind.Foreign
op_kind [] t o e = absurd cc
op_kind (x ∷ signs) t o e = go (op_kind signs t o) (is_this_sign x.0 t) refl e
  where
    go : (op_of signs t ≡ Some o → t.kind ≢ kind.Foreign) → (b : Bool) → is_this_sign x.0 t ≡ b
        → (if b then Some x.1 else op_of signs t) ≡ Some o → t.kind ≢ kind.Foreign
    go next true f e = sign_kind t.kind _ f
    go next false f e = next e

known_operator : (signs : Signs) → Known (operator signs)
known_operator signs = known_token (op_of signs) (λ _. free) (op_kind signs)

known_chains : (all : List Signs) {atom : Language Operand} → Known atom → Known (chains all atom)
known_chains [] known = known
known_chains (signs ∷ stronger) known = known_then (known_chains stronger known)
    (known_repeat (λ left. known_then (known_operator signs)
    (λ o. known_then (known_chains stronger known) (λ right. known_gives _))))

known_comparison : {A : Type 0} {atom : Language Operand} {ended : Operand → Bool → Language A} → Known atom
    → ((e : Operand) (compares : Bool) → Known (ended e compares)) → Known (comparison atom ended)
known_comparison known ended = known_then (known_chains strengths known)
    (λ left. known_or (ended left false) (known_then (known_operator comparisons)
    (λ o. known_then (known_chains strengths known) (λ right. ended _ true))))

known_plain : Known plain_atom
known_plain = known_or (known_then (known_number (λ n. free)) (λ n. known_gives _))
    (known_then (known_name free) (λ x. known_gives _))

known_atom : (most opened : ℕ) → Known (atom most opened)
known_atom zero opened = known_plain
known_atom (suc most) opened = known_or known_plain
    (known_then known_sign (λ at. known_then (known_comparison (known_atom most (suc opened))
    (λ e compares. known_gives e)) (λ inner. known_then known_sign (λ end. known_gives _))))

known_ends : (e : Operand × Bool) → Known (ends e)
known_ends e = record { known = λ marks x l. all_of l.0 (tt, tt) }

pub known_expression : (most : ℕ) → Known (expression most)
known_expression most = known_comparison (known_atom most 0) (λ e compares. known_ends (e, compares))
