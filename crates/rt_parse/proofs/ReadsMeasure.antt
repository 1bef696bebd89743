-- How an expression is measured while it is read: a tree is kept unless it is too deep, and what is joined is too deep
-- where a side is.
use Rattle.std.proofs.Common.{◌≡◌, ℕ, ◌+◌, max, Bool, true, false, Option, refl, ap, sym, arith}
use Rattle.std.specs.Prelude.{nat_lt}
use Rattle.rt_ids.specs.declared.op.Op.{Op}
use Rattle.rt_ids.specs.declared.limits.TheConstants.{DEPTH}
use Rattle.rt_ast.specs.Tree.{Oper, depth_of}
use Rattle.rt_grammar.specs.Expression.{Operand, joined_operand}
use Rattle.rt_parse.specs.Inside.ReadingDepth.{Kept, tree_unless_deep, joined_tree, joined_measure, measure}

deeper_left : (a b : ℕ) → nat_lt DEPTH a ≡ true → nat_lt DEPTH (1 + max a b) ≡ true
deeper_left a b e = grind arith

deeper_right : (a b : ℕ) → nat_lt DEPTH b ≡ true → nat_lt DEPTH (1 + max a b) ≡ true
deeper_right a b e = grind arith

kept_join : (o : Op) (a b : Kept) (left right : Bool) → nat_lt DEPTH a.depth ≡ left → nat_lt DEPTH b.depth ≡ right
    → tree_unless_deep (nat_lt DEPTH (1 + max a.depth b.depth))
    (record { tree = Oper o a.tree b.tree; depth = 1 + max a.depth b.depth })
    ≡ joined_tree o (tree_unless_deep left a) (tree_unless_deep right b)
kept_join o a b true right e f = ap (λ (deep : Bool). tree_unless_deep deep
    (record { tree = Oper o a.tree b.tree; depth = 1 + max a.depth b.depth })) (deeper_left a.depth b.depth e)
kept_join o a b false true e f = ap (λ (deep : Bool). tree_unless_deep deep
    (record { tree = Oper o a.tree b.tree; depth = 1 + max a.depth b.depth })) (deeper_right a.depth b.depth f)
kept_join o a b false false e f = refl

pub measure_joined : (o : Op) (left right : Operand) → joined_measure o (measure left) (measure right)
    ≡ measure (joined_operand o left right)
measure_joined o left right =
    ap (λ (kept : Option Kept). record { at = left.at; kept = kept })
    (sym (kept_join o (record { tree = left.tree; depth = depth_of left.tree })
    (record { tree = right.tree; depth = depth_of right.tree }) (nat_lt DEPTH (depth_of left.tree))
    (nat_lt DEPTH (depth_of right.tree)) refl refl))
