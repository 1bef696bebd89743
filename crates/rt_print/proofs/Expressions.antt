-- The texts of expressions are read as expressions.
use Rattle.std.proofs.Common.{◌≡◌, ℕ, zero, suc, ◌+◌, ◌<◌, ◌≤◌, max, Bool, true, false, cond, List, [], ◌∷◌, ◌++◌, Some}
use Rattle.std.proofs.Common.{None, refl, sym, ap, subst, ◌∙◌, arith, append_assoc, inl, inr}
use Rattle.std.specs.Prelude.{◌⊎◌, codes, decimal, nat_lt, nat_le}
use Rattle.std.proofs.lemmas.Bool.{le-ltb, lt-leb}
use Rattle.rt_ids.specs.declared.op.Op.{Op}
use Rattle.rt_ids.specs.declared.op.Op.TheVariants as op
use Rattle.rt_ids.specs.declared.limit.Limit.TheVariants as limit
use Rattle.rt_ids.specs.declared.limits.TheConstants.{PARENTHESES, DEPTH}
use Rattle.rt_lex.specs.declared.token.Kind.TheVariants as kind
use Rattle.rt_lex.specs.Token.{Token}
use Rattle.rt_lex.specs.Tokens.{tokens_at}
use Rattle.rt_ast.specs.Tree.{Expression, Num, Read, Oper, depth_of}
use Rattle.rt_ast.specs.Bare.{bare_expression}
use Rattle.rt_ast.specs.CanonicalExpression.{sign_text, operation_text, operand_text, expression_text}
use Rattle.rt_ast.specs.PrintableBody.{IsSpelledOut, IsPrintableExpression}
use Rattle.rt_grammar.specs.Mark.{Ends, IsWithin}
use Rattle.rt_grammar.specs.Language.{Language, gives}
use Rattle.rt_grammar.specs.Reach.{expression_goes_on}
use Rattle.rt_grammar.specs.Tokens.{free, limit_if, name, number, sign, limited_sign}
use Rattle.rt_grammar.specs.Expression.{Operand, Signs, op_of, operator, comparisons, strengths, joined_operand, chain}
use Rattle.rt_grammar.specs.Expression.{chains, comparison, plain_atom, atom, ends, expression}
use Rattle.rt_print.proofs.Reading.{Reads, Any, read_gives, read_then, read_left, read_right, read_none, read_step}
use Rattle.rt_print.proofs.Reading.{read_token, read_space, read_same}
use Rattle.rt_print.proofs.Lexemes.{IsFront, Stops, IsNamed, IsNumber, token_first, read_name, read_number, read_sign}

-- the same tree, offsets aside
abbrev pub IsTree : Expression → Expression → Type 0
IsTree e t = bare_expression t ≡ bare_expression e

abbrev pub IsOperand : Expression → Operand → Type 0
IsOperand e o = IsTree e o.tree

abbrev pub IsCompared : Expression → Operand × Bool → Type 0
IsCompared e c = IsTree e c.0.tree

abbrev spelling : ℕ → Op → Token
spelling at o = record { at = at; kind = kind.Sign; text = sign_text o }

-- the operator is one of these
abbrev IsOf : Signs → Op → Type 0
IsOf signs o = (at : ℕ) → op_of signs (spelling at o) ≡ Some o

sign_is_front : (o : Op) (Y : List ℕ) → IsFront (sign_text o) kind.Sign (32 ∷ Y)
sign_is_front op.Add Y = refl
sign_is_front o Y = refl

abbrev IsThis : Op → Op → Type 0
IsThis o p = p ≡ o

read_operator : (signs : Signs) (o : Op) (Y : List ℕ) → IsOf signs o
    → Reads (operator signs) (IsThis o) (sign_text o ++ 32 ∷ Y) (32 ∷ Y)
read_operator signs o Y h at =
    read_token (op_of signs) (λ x. free) (IsThis o) (sign_text o ++ 32 ∷ Y) (32 ∷ Y) at _ (spelling at o) o (h at) refl
    refl
    (token_first (sign_text o) kind.Sign (32 ∷ Y) at (sign_is_front o Y))

chain_alone : (signs : Signs) (operand : Language Operand) (P : Operand → Type 0) (X Y : List ℕ) → Reads operand P X Y
    → Reads (chain signs operand) P X Y
chain_alone signs operand P X Y h = read_then operand _ P P X Y Y h (λ x p. read_none _ P x Y p)

chains_alone : (all : List Signs) (operand : Language Operand) (P : Operand → Type 0) (X Y : List ℕ)
    → Reads operand P X Y → Reads (chains all operand) P X Y
chains_alone [] operand P X Y h = h
chains_alone (signs ∷ all) operand P X Y h = chain_alone signs (chains all operand) P X Y
    (chains_alone all operand P X Y h)

abbrev behind_left : Op → List ℕ → List ℕ
behind_left o Z = 32 ∷ (sign_text o ++ 32 ∷ Z)

same_operation : (o : Op) (l r : Expression) (left right : Operand) → IsOperand l left → IsOperand r right
    → IsOperand (Oper o l r) (joined_operand o left right)
same_operation o l r left right h k = rw (h, k) refl

chain_two : (signs : Signs) (operand : Language Operand) (o : Op) (l r : Expression) (X Z Y : List ℕ) → IsOf signs o
    → Reads operand (IsOperand l) X (behind_left o Z) → Reads operand (IsOperand r) Z Y
    → Reads (chain signs operand) (IsOperand (Oper o l r)) X Y
chain_two signs operand o l r X Z Y s h k =
    let P = IsOperand (Oper o l r) in
    read_then operand _ (IsOperand l) P X (behind_left o Z) Y h (λ left p.
    read_step _ P P left (behind_left o Z) Y Y
    (read_space _ P (sign_text o ++ 32 ∷ Z) Y
    (read_then (operator signs) _ (IsThis o) P (sign_text o ++ 32 ∷ Z) (32 ∷ Z) Y (read_operator signs o Z s) (λ q e.
    read_then operand _ (IsOperand r) P (32 ∷ Z) Y Y (read_space operand (IsOperand r) Z Y k) (λ right c.
    read_gives P (joined_operand q left right) Y (subst (λ (u : Op). P (joined_operand u left right)) (sym e)
    (same_operation o l r left right p c))))))
    (λ t q. read_none _ P t Y q))

-- the operator is one of some strength
abbrev IsIn : List Signs → Op → Type 0
IsIn [] o = ⊥
IsIn (signs ∷ all) o = IsOf signs o ⊎ IsIn all o

chains_two : (all : List Signs) (operand : Language Operand) (o : Op) (l r : Expression) (X Z Y : List ℕ) → IsIn all o
    → Reads operand (IsOperand l) X (behind_left o Z) → Reads operand (IsOperand r) Z Y
    → Reads (chains all operand) (IsOperand (Oper o l r)) X Y
chains_two [] operand o l r X Z Y s h k = absurd s
chains_two (signs ∷ all) operand o l r X Z Y (inl here) h k =
    chain_two signs (chains all operand) o l r X Z Y here (chains_alone all operand _ X _ h)
    (chains_alone all operand _ Z Y k)
chains_two (signs ∷ all) operand o l r X Z Y (inr there) h k =
    chain_alone signs (chains all operand) _ X Y (chains_two all operand o l r X Z Y there h k)

op_is_in : (o : Op) → IsIn strengths o ⊎ IsOf comparisons o
op_is_in op.Or = inl (inl (λ at. refl))
op_is_in op.Xor = inl (inr (inl (λ at. refl)))
op_is_in op.And = inl (inr (inr (inl (λ at. refl))))
op_is_in op.Shl = inl (inr (inr (inr (inl (λ at. refl)))))
op_is_in op.Shr = inl (inr (inr (inr (inl (λ at. refl)))))
op_is_in op.Add = inl (inr (inr (inr (inr (inl (λ at. refl))))))
op_is_in op.Sub = inl (inr (inr (inr (inr (inl (λ at. refl))))))
op_is_in op.Mul = inl (inr (inr (inr (inr (inr (inl (λ at. refl)))))))
op_is_in op.Div = inl (inr (inr (inr (inr (inr (inl (λ at. refl)))))))
op_is_in op.Rem = inl (inr (inr (inr (inr (inr (inl (λ at. refl)))))))
op_is_in op.Eq = inr (λ at. refl)
op_is_in op.Ne = inr (λ at. refl)
op_is_in op.Lt = inr (λ at. refl)
op_is_in op.Le = inr (λ at. refl)
op_is_in op.Gt = inr (λ at. refl)
op_is_in op.Ge = inr (λ at. refl)

-- a form ends after this expression
abbrev EndsAt : {A : Type 0} → (Operand → Bool → Language A) → Expression → (A → Type 0) → List ℕ → Type 0
EndsAt ended e Q Y = (x : Operand) (compares : Bool) → IsOperand e x → Reads (ended x compares) Q Y Y

-- an expression that is no comparison
compared_alone : {A : Type 0} (operand : Language Operand) (ended : Operand → Bool → Language A) (Q : A → Type 0)
    (e : Expression) (X Y : List ℕ) → EndsAt ended e Q Y
    → Reads (chains strengths operand) (IsOperand e) X Y → Reads (comparison operand ended) Q X Y
compared_alone operand ended Q e X Y f h =
    read_then (chains strengths operand) _ (IsOperand e) Q X Y Y h (λ left p. read_left _ _ Q Y Y (f left false p))

compared_two : {A : Type 0} (operand : Language Operand) (ended : Operand → Bool → Language A) (Q : A → Type 0) (o : Op)
    (l r : Expression) (X Z Y : List ℕ) → EndsAt ended (Oper o l r) Q Y → IsOf comparisons o
    → Reads operand (IsOperand l) X (behind_left o Z) → Reads operand (IsOperand r) Z Y
    → Reads (comparison operand ended) Q X Y
compared_two operand ended Q o l r X Z Y f s h k =
    let R = IsOperand (Oper o l r) in
    read_then (chains strengths operand) _ (IsOperand l) Q X (behind_left o Z) Y
    (chains_alone strengths operand _ X _ h) (λ left p.
    read_right _ _ Q (behind_left o Z) Y
    (read_space _ Q (sign_text o ++ 32 ∷ Z) Y
    (read_then (operator comparisons) _ (IsThis o) Q (sign_text o ++ 32 ∷ Z) (32 ∷ Z) Y
    (read_operator comparisons o Z s) (λ q e.
    read_then (chains strengths operand) _ (IsOperand r) Q (32 ∷ Z) Y Y
    (read_space (chains strengths operand) (IsOperand r) Z Y (chains_alone strengths operand _ Z Y k)) (λ right c.
    f (joined_operand q left right) true (subst (λ (u : Op). R (joined_operand u left right)) (sym e)
    (same_operation o l r left right p c)))))))

operation_reads : {A : Type 0} (operand : Language Operand) (ended : Operand → Bool → Language A) (Q : A → Type 0)
    (o : Op) (l r : Expression) (X Z Y : List ℕ) → EndsAt ended (Oper o l r) Q Y
    → Reads operand (IsOperand l) X (behind_left o Z) → Reads operand (IsOperand r) Z Y
    → Reads (comparison operand ended) Q X Y
operation_reads operand ended Q o l r X Z Y f h k =
    elim (op_is_in o) [
      | inl some ↦ compared_alone operand ended Q (Oper o l r) X Y f (chains_two strengths operand o l r X Z Y some h k)
      | inr s ↦ compared_two operand ended Q o l r X Z Y f s h k
    ]

operation_append : (o : Op) (X Z Y : List ℕ) → operation_text o X Z ++ Y ≡ X ++ behind_left o (Z ++ Y)
operation_append o X Z Y = simp append_assoc refl

plain_reads : (n : ℕ) (opened : ℕ) (P : Operand → Type 0) (X Y : List ℕ) → Reads plain_atom P X Y
    → Reads (atom n opened) P X Y
plain_reads zero opened P X Y h = h
plain_reads (suc n) opened P X Y h = read_left plain_atom _ P X Y h

depth_some : (e : Expression) → 1 ≤ depth_of e
depth_some (Num n) = omega arith
depth_some (Read x) = omega arith
depth_some (Oper o l r) = omega arith

parentheses_free : (opened : ℕ) → opened < 64 → limit_if (nat_le PARENTHESES opened) limit.Parentheses ≡ None
parentheses_free opened h = rw (lt-leb 64 opened h) refl

pub operand_reads : (e : Expression) (most opened : ℕ) (Y : List ℕ) → IsSpelledOut e → depth_of e ≤ suc most → opened
    + depth_of e ≤ 64 → Stops Y
    → Reads (atom most opened) (IsOperand e) (operand_text e ++ Y) Y
operand_reads (Num n) most opened Y h d p stop =
    plain_reads most opened _ _ Y (read_left _ _ _ _ Y (read_then number _ (IsNumber n) (IsOperand (Num n))
    (decimal n ++ Y) Y Y (read_number n (λ x. free) Y h refl stop) (λ m e. read_gives _ _ Y (ap Num e))))
operand_reads (Read x) most opened Y h d p stop =
    plain_reads most opened _ _ Y (read_right _ _ _ _ Y (read_then name _ (IsNamed x) (IsOperand (Read x)) (x.name ++ Y)
    Y Y (read_name x free Y h refl stop) (λ y e. read_gives _ _ Y
    (ap (λ (s : List ℕ). Read (record { name = s; at = 0 })) e))))
operand_reads (Oper o l r) zero opened Y h d p stop = absurd (omega (arith, d, depth_some l))
operand_reads (Oper o l r) (suc most) opened Y h d p stop =
    let P = IsOperand (Oper o l r) in
    let inner = operation_text o (operand_text l) (operand_text r) in
    let Z = operand_text r ++ 41 ∷ Y in
    read_right plain_atom _ P (40 ∷ ((inner ++ codes ")") ++ Y)) Y
    (read_then (limited_sign (codes "(") (limit_if (nat_le PARENTHESES opened) limit.Parentheses)) _ Any P
    (40 ∷ ((inner ++ codes ")") ++ Y)) ((inner ++ codes ")") ++ Y) Y
    (read_sign (codes "(") _ ((inner ++ codes ")") ++ Y) (parentheses_free opened (omega (arith, p, depth_some l)))
    refl) (λ at a.
    read_then (comparison (atom most (suc opened)) (λ e compares. gives e)) _ P P ((inner ++ codes ")") ++ Y) (41 ∷ Y) Y
    (read_same _ _ (operand_text l ++ behind_left o Z) _ (41 ∷ Y) (append_assoc inner (codes ")") Y
    ∙ operation_append o (operand_text l) (operand_text r) (41 ∷ Y))
    (operation_reads (atom most (suc opened)) (λ e compares. gives e) P o l r (operand_text l ++ behind_left o Z) Z
    (41 ∷ Y) (λ x compares e. read_gives P x (41 ∷ Y) e)
    (operand_reads l most (suc opened) (behind_left o Z) h.0 (omega (arith, d)) (omega (arith, p)) refl)
    (operand_reads r most (suc opened) (41 ∷ Y) h.1 (omega (arith, d)) (omega (arith, p)) refl))) (λ c e.
    read_then (sign (codes ")")) _ Any P (41 ∷ Y) Y Y (read_sign (codes ")") free Y refl refl)
    (λ b u. read_gives P _ Y e))))

-- no expression goes on with this text
abbrev pub Plain : List ℕ → Type 0
Plain Y = (at : ℕ) (compares : Bool) → expression_goes_on compares (tokens_at at Y) ≡ false

pub plain_semicolon : (Y : List ℕ) → Plain (59 ∷ Y)
plain_semicolon Y at true = refl
plain_semicolon Y at false = refl

pub plain_comma : (Y : List ℕ) → Plain (44 ∷ Y)
plain_comma Y at true = refl
plain_comma Y at false = refl

pub plain_closing : (Y : List ℕ) → Plain (41 ∷ Y)
plain_closing Y at true = refl
plain_closing Y at false = refl

pub plain_block : (Y : List ℕ) → Plain (32 ∷ 123 ∷ Y)
plain_block Y at true = refl
plain_block Y at false = refl

depth_bare : (e : Expression) → depth_of (bare_expression e) ≡ depth_of e
depth_bare (Num n) = refl
depth_bare (Read x) = refl
depth_bare (Oper o l r) = rw (depth_bare l, depth_bare r) refl

same_depth : (e t : Expression) → IsTree e t → depth_of t ≡ depth_of e
same_depth e t h = sym (depth_bare t) ∙ ap depth_of h ∙ depth_bare e

is_within_ends : (compares deep : Bool) (at : ℕ) → deep ≡ false → IsWithin (Ends compares (cond deep (Some at) None))
is_within_ends compares true at e = absurd cc
is_within_ends compares false at e = refl

read_ends : (c : Operand × Bool) (e : Expression) (Y : List ℕ) → IsCompared e c → depth_of e ≤ DEPTH → Plain Y
    → Reads (ends c) (IsTree e) Y Y
read_ends c e Y h d plain at =
    let deep = nat_lt DEPTH (depth_of c.0.tree) in
    let short : deep ≡ false = le-ltb DEPTH (depth_of c.0.tree) (omega (arith, d, same_depth e c.0.tree h)) in
    record {
      behind = at;
      marks = Ends c.1 (cond deep (Some c.0.at) None) ∷ [];
      meaning = c.0.tree;
      means = (refl, refl);
      holds = h;
      fits = (plain at c.1, refl);
      within = (is_within_ends c.1 deep c.0.at short, tt);
    }

pub expression_reads : (e : Expression) (most : ℕ) (Y : List ℕ) → IsPrintableExpression e → 16 ≤ most → Stops Y
    → Plain Y → Reads (expression most) (IsTree e) (expression_text e ++ Y) Y
expression_reads (Num n) most Y h m stop plain =
    compared_alone (atom most 0) _ (IsTree (Num n)) (Num n) (decimal n ++ Y) Y
    (λ x compares e. read_ends (x, compares) (Num n) Y e h.1 plain)
    (chains_alone strengths (atom most 0) (IsOperand (Num n)) (decimal n ++ Y) Y
    (operand_reads (Num n) most 0 Y h.0 (omega (arith, m)) (omega arith) stop))
expression_reads (Read x) most Y h m stop plain =
    compared_alone (atom most 0) _ (IsTree (Read x)) (Read x) (x.name ++ Y) Y
    (λ y compares e. read_ends (y, compares) (Read x) Y e h.1 plain)
    (chains_alone strengths (atom most 0) (IsOperand (Read x)) (x.name ++ Y) Y
    (operand_reads (Read x) most 0 Y h.0 (omega (arith, m)) (omega arith) stop))
expression_reads (Oper o l r) most Y h m stop plain =
    let Z = operand_text r ++ Y in
    let d : 1 + max (depth_of l) (depth_of r) ≤ 16 = h.1 in
    let e = Oper o l r in
    read_same (expression most) (IsTree e) (operand_text l ++ behind_left o Z) (expression_text e ++ Y) Y
    (operation_append o (operand_text l) (operand_text r) Y)
    (operation_reads (atom most 0) _ (IsTree e) o l r (operand_text l ++ behind_left o Z) Z Y
    (λ x compares p. read_ends (x, compares) e Y p h.1 plain)
    (operand_reads l most 0 (behind_left o Z) h.0.0 (omega (arith, m, d)) (omega (arith, d)) refl)
    (operand_reads r most 0 Y h.0.1 (omega (arith, m, d)) (omega (arith, d)) stop))
