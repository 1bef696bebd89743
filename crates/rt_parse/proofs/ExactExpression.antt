-- The readers of expressions, over a reader of atoms.
use Rattle.std.proofs.Common.{◌≡◌, ℕ, Bool, true, false, List, [], ◌∷◌, Some, refl, ap}
use Rattle.std.specs.Prelude.{◌||◌, ◌&&◌, not, bytes_eq, if◌then◌else◌}
use Rattle.std.specs.List.{list_any}
use Rattle.rt_lemmas.proofs.Bools.{and_left, and_right, not_true, or_neither}
use Rattle.rt_lemmas.proofs.Options.{some_when}
use Rattle.rt_ids.specs.declared.op.Op.{Op}
use Rattle.rt_lex.specs.Token.{Token, is_this_sign}
use Rattle.rt_grammar.specs.Language.{Language, gives, ◌>>=◌, repeat}
use Rattle.rt_grammar.specs.Expression.{Operand, Signs, op_of, operator, joined_operand, chain, chains}
use Rattle.rt_grammar.specs.Reach.{is_of}
use Rattle.rt_parse.proofs.Exact.{IsInhabited, Starts}
use Rattle.rt_parse.proofs.ExactThen.{some_then}
use Rattle.rt_parse.proofs.ExactStarts.{starts_then, some_repeat}
use Rattle.rt_parse.proofs.ExactSigns.{means_sign, signs_apart}

-- The operators of one strength begin with their signs.

abbrev pub of_any : List Signs → Token → Bool
of_any all t = list_any (λ signs. is_of signs t) all

pub op_starts : (signs : Signs) (t : Token) (o : Op) → op_of signs t ≡ Some o → is_of signs t ≡ true
op_starts [] t o e = absurd cc
op_starts (x ∷ signs) t o e = go (op_starts signs t o) (is_this_sign x.0 t) e
  where
    go : (op_of signs t ≡ Some o → is_of signs t ≡ true) → (b : Bool) → (if b then Some x.1 else op_of signs t) ≡ Some o
        → (b || is_of signs t) ≡ true
    go next true e = refl
    go next false e = next e

-- no sign of some operators is one of others
abbrev pub apart_from : List ℕ → Signs → Bool
apart_from text [] = true
apart_from text (x ∷ signs) = not (bytes_eq text x.0) && apart_from text signs

abbrev pub all_apart : Signs → Signs → Bool
all_apart [] others = true
all_apart (x ∷ signs) others = apart_from x.0 others && all_apart signs others

abbrev pub any_apart : Signs → List Signs → Bool
any_apart signs [] = true
any_apart signs (others ∷ all) = all_apart signs others && any_apart signs all

-- each strength has operators, and none of a stronger one
abbrev pub are_apart : List Signs → Bool
are_apart [] = true
are_apart ([] ∷ all) = false
are_apart ((x ∷ signs) ∷ all) = any_apart (x ∷ signs) all && are_apart all

apart_sign : (text : List ℕ) (others : Signs) → apart_from text others ≡ true → (t : Token) → is_this_sign text t ≡ true
    → is_of others t ≡ false
apart_sign text [] apart t e = refl
apart_sign text (x ∷ others) apart t e =
    or_neither (is_this_sign x.0 t) (is_of others t) (signs_apart text x.0
    (not_true (bytes_eq text x.0) (and_left _ _ apart)) t e) (apart_sign text others (and_right _ _ apart) t e)

pub apart_signs : (signs others : Signs) → all_apart signs others ≡ true → (t : Token) → is_of signs t ≡ true
    → is_of others t ≡ false
apart_signs [] others apart t e = absurd cc
apart_signs (x ∷ signs) others apart t e = go (apart_signs signs others (and_right _ _ apart) t) (is_this_sign x.0 t)
    refl e
  where
    go : (is_of signs t ≡ true → is_of others t ≡ false) → (b : Bool) → is_this_sign x.0 t ≡ b → (b || is_of signs t)
        ≡ true → is_of others t ≡ false
    go next true f e = apart_sign x.0 others (and_left _ _ apart) t f
    go next false f e = next e

pub apart_any : (signs : Signs) (all : List Signs) → any_apart signs all ≡ true → (t : Token) → is_of signs t ≡ true
    → of_any all t ≡ false
apart_any signs [] apart t e = refl
apart_any signs (others ∷ all) apart t e = or_neither (is_of others t) (of_any all t)
    (apart_signs signs others (and_left _ _ apart) t e) (apart_any signs all (and_right _ _ apart) t e)

pub means_op : (x : List ℕ × Op) (signs : Signs) → (t : Token) × (o : Op) × (op_of (x ∷ signs) t ≡ Some o)
means_op x signs = let m = means_sign x.0 in (
  m.0,
  x.1,
  ap (λ (b : Bool). if b then Some x.1 else op_of signs m.0)
      (some_when (is_this_sign x.0 m.0) m.0.at m.1 m.2),
)

pub means_ops : (signs : Signs) → (signs ≡ [] → ⊥) → (t : Token) × (o : Op) × (op_of signs t ≡ Some o)
means_ops [] some = absurd (some refl)
means_ops (x ∷ signs) some = means_op x signs

-- Chains of operators.

abbrev pub step_of : Signs → Language Operand → Operand → Language Operand
step_of signs operand left = operator signs >>= λ o. operand >>= λ right. gives (joined_operand o left right)

pub chain_some : (signs : Signs) (operand : Language Operand) → IsInhabited operand → IsInhabited (chain signs operand)
chain_some signs operand some = some_then some (some_repeat (step_of signs operand))

pub chains_some : (all : List Signs) (atom : Language Operand) → IsInhabited atom → IsInhabited (chains all atom)
chains_some [] atom some = some
chains_some (signs ∷ stronger) atom some = chain_some signs (chains stronger atom) (chains_some stronger atom some)

pub chains_starts : (test : Token → Bool) (all : List Signs) (atom : Language Operand) → Starts test atom
    → Starts test (chains all atom)
chains_starts test [] atom starts = starts
chains_starts test (signs ∷ stronger) atom starts = starts_then (repeat (step_of signs (chains stronger atom)))
    (chains_starts test stronger atom starts)
