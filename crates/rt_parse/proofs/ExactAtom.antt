-- The readers of atoms and of whole expressions.
use Rattle.std.proofs.Common.{◌≡◌, ℕ, zero, suc, Bool, true, false, List, [], ◌∷◌, Some, refl}
use Rattle.std.specs.Prelude.{◌||◌, nat_le, codes, bytes_eq}
use Rattle.rt_lemmas.proofs.Bools.{or_left, or_right, or_neither}
use Rattle.rt_ids.specs.declared.op.Op.TheVariants as op
use Rattle.rt_ids.specs.declared.limit.Limit.TheVariants as limit
use Rattle.rt_ids.specs.declared.limits.TheConstants.{PARENTHESES}
use Rattle.rt_lex.specs.declared.token.Kind.{Kind}
use Rattle.rt_lex.specs.declared.token.Kind.TheVariants as kind
use Rattle.rt_lex.specs.Token.{Token, is_this_sign, if_sign}
use Rattle.rt_ast.specs.Tree.{Num, Read}
use Rattle.rt_ast.specs.declared.ident.Ident.{Ident}
use Rattle.rt_ast.specs.declared.ident.Number.{Number}
use Rattle.rt_grammar.specs.Language.{Language, gives, ◌>>=◌, ◌or◌}
use Rattle.rt_grammar.specs.Tokens.{free, limit_if, name, number, sign, ident_at}
use Rattle.rt_grammar.specs.Tokens.{number_with_offset, name_limit, number_limit}
use Rattle.rt_grammar.specs.Expression.{Operand, operator, comparisons, strengths, joined_operand, chains, comparison}
use Rattle.rt_grammar.specs.Expression.{plain_atom, atom, ends, expression}
use Rattle.rt_grammar.specs.Reach.{is_of, goes_on}
use Rattle.rt_parse.proofs.Exact.{IsInhabited, Avoids, Starts}
use Rattle.rt_parse.proofs.ExactThen.{some_then}
use Rattle.rt_parse.proofs.ExactThen.{Avoids-smaller}
use Rattle.rt_parse.proofs.ExactStarts.{starts_token, starts_then, starts_or, starts_wider}
use Rattle.rt_parse.proofs.ExactStarts.{avoids_gives_then, some_token, some_gives, some_left}
use Rattle.rt_parse.proofs.ExactSigns.{signs_apart, means_number, starts_sign}
use Rattle.rt_parse.proofs.ExactExpression.{of_any, chains_starts, apart_any, apart_signs}
use Rattle.rt_parse.proofs.ExactComparison.{comparison_some, goes_on-any}

abbrev pub is_num : Kind → Bool
is_num kind.Num = true
is_num other = false

abbrev pub is_name : Kind → Bool
is_name kind.Name = true
is_name other = false

-- a token that a plain atom begins with
abbrev pub is_plain : Token → Bool
is_plain t = is_num t.kind || is_name t.kind

pub num_kind : (k : Kind) (text : List ℕ) (at : ℕ) (n : Number) → number_with_offset k text at ≡ Some n
    → is_num k ≡ true
num_kind kind.Num text at n e = refl
num_kind other text at n e = absurd cc

pub name_kind : (k : Kind) (text : List ℕ) (at : ℕ) (x : Ident) → ident_at k text at ≡ Some x → is_name k ≡ true
name_kind kind.Name text at x e = refl
name_kind other text at x e = absurd cc

pub name_no_num : (k : Kind) → is_name k ≡ true → is_num k ≡ false
name_no_num kind.Num e = absurd cc
name_no_num other e = refl

pub plain_no_sign : (k : Kind) (b : Bool) → (is_num k || is_name k) ≡ true → if_sign k b ≡ false
plain_no_sign kind.Sign b e = absurd cc
plain_no_sign other b e = refl

unfoldable pub num_of : Language Operand
num_of = number >>= λ n. gives (record { at = n.at; tree = Num n.value })

unfoldable pub name_of : Language Operand
name_of = name >>= λ x. gives (record { at = x.at; tree = Read x })

pub num_starts : Starts (λ t. is_num t.kind) num_of
unfolding num_of
num_starts = starts_then (λ n. gives (record { at = n.at; tree = Num n.value }))
    (starts_token (number_limit (λ n. free)) (λ t. is_num t.kind) (λ t n e. num_kind t.kind t.text t.at n e))

pub name_starts : Starts (λ t. is_name t.kind) name_of
unfolding name_of
name_starts = starts_then (λ x. gives (record { at = x.at; tree = Read x }))
    (starts_token (name_limit free) (λ t. is_name t.kind) (λ t x e. name_kind t.kind t.text t.at x e))

pub plain_starts : Starts is_plain plain_atom
unfolding num_of name_of
plain_starts = starts_or
    (starts_wider (λ t. is_num t.kind) is_plain (λ t e. or_left (is_num t.kind) (is_name t.kind) e) num_starts)
    (starts_wider (λ t. is_name t.kind) is_plain (λ t e. or_right (is_num t.kind) (is_name t.kind) e) name_starts)

pub plain_some : IsInhabited plain_atom
plain_some = some_left (some_then (some_token means_number)
    (λ n. some_gives (record { at = n.at; tree = Num n.value })))

pub atom_some : (most opened : ℕ) → IsInhabited (atom most opened)
atom_some zero opened = plain_some
atom_some (suc most) opened = some_left plain_some

pub gives_apart : {B : Type 0} (e : Operand) (compares : Bool) (K : Operand → Language B)
    → ((x : Operand) → Avoids (goes_on false) (K x)) → Avoids (goes_on compares) (gives e >>= K)
gives_apart e compares K avoids = avoids_gives_then (goes_on compares) e K
    (Avoids-smaller (goes_on compares) (goes_on false) (goes_on-any compares) (K e) (avoids e))

pub closes : (t : Token) → is_this_sign (codes ")") t ≡ true → goes_on false t ≡ false
closes t e = or_neither (of_any strengths t) (is_of comparisons t) (apart_any ((codes ")", op.Eq) ∷ []) strengths refl t
    (or_left (is_this_sign (codes ")") t) false e)) (apart_signs ((codes ")", op.Eq) ∷ []) comparisons refl t
    (or_left (is_this_sign (codes ")") t) false e))

pub expression_some : (most : ℕ) → IsInhabited (expression most)
expression_some most = comparison_some (atom most 0) (λ e compares. ends (e, compares)) (atom_some most 0)
    (λ e compares. (_, _, (refl, refl)))

-- a token that an expression begins with
abbrev pub begins_expression : Token → Bool
begins_expression t = is_plain t || is_this_sign (codes "(") t

pub plain_begins : Starts begins_expression plain_atom
plain_begins = starts_wider is_plain begins_expression (λ t e. or_left (is_plain t) (is_this_sign (codes "(") t) e)
    plain_starts

pub atom_starts : (most opened : ℕ) → Starts begins_expression (atom most opened)
atom_starts zero opened = plain_begins
atom_starts (suc most) opened = starts_or plain_begins
    (starts_wider (is_this_sign (codes "(")) begins_expression
    (λ t e. or_right (is_plain t) (is_this_sign (codes "(") t) e)
    (starts_then (λ at. comparison (atom most (suc opened)) (λ e compares. gives e) >>= λ inner. sign (codes ")") >>=
    λ end. gives (record { at = at; tree = inner.tree }))
    (starts_sign (codes "(") (limit_if (nat_le PARENTHESES opened) limit.Parentheses))))

pub expression_starts : (most : ℕ) → Starts begins_expression (expression most)
expression_starts most = starts_then (λ left. ends (left, false) or
    (operator comparisons >>= λ o. chains strengths (atom most 0) >>= λ right. ends
    (joined_operand o left right, true)))
    (chains_starts begins_expression strengths (atom most 0) (atom_starts most 0))

pub expression_no_sign : (text : List ℕ) → bytes_eq (codes "(") text ≡ false → (t : Token) → begins_expression t ≡ true
    → is_this_sign text t ≡ false
expression_no_sign text apart t e = go (is_plain t) refl e
  where
    go : (b : Bool) → is_plain t ≡ b → (b || is_this_sign (codes "(") t) ≡ true → is_this_sign text t ≡ false
    go true f e = plain_no_sign t.kind (bytes_eq t.text text) f
    go false f e = signs_apart (codes "(") text apart t e
