-- What is read of an expression, which has a tree unless it is too deep.
use Rattle.std.specs.Prelude.{ℕ, ◌+◌, max, Bool, nat_lt, Option, Some, None, if◌then◌else◌}
use Rattle.rt_ids.specs.declared.op.Op.{Op}
use Rattle.rt_ids.specs.declared.limits.TheConstants.{DEPTH}
use Rattle.rt_ast.specs.Tree.{Expression, Oper, depth_of}
use Rattle.rt_grammar.specs.Expression.{Operand}

-- a tree and its depth
pub record Kept : Type 0 where
  pub tree : Expression
  pub depth : ℕ

-- an expression as it is read: the offset of its first token, and its tree unless it is too deep
pub record Measured : Type 0 where
  pub at : ℕ
  pub kept : Option Kept

-- a tree, unless it is too deep
abbrev pub tree_unless_deep : Bool → Kept → Option Kept
tree_unless_deep deep k = if deep then None else Some k

-- an operation on two trees, unless one was too deep or it is
abbrev pub joined_tree : Op → Option Kept → Option Kept → Option Kept
joined_tree o None right = None
joined_tree o (Some left) None = None
joined_tree o (Some left) (Some right) =
    tree_unless_deep (nat_lt DEPTH (1 + max left.depth right.depth))
    (record { tree = Oper o left.tree right.tree; depth = 1 + max left.depth right.depth })

-- an operation on two expressions as they are read
abbrev pub joined_measure : Op → Measured → Measured → Measured
joined_measure o left right = record { at = left.at; kept = joined_tree o left.kept right.kept }

-- how an operand of the grammar is read
abbrev pub measure : Operand → Measured
measure e = record {
  at = e.at;
  kept = tree_unless_deep (nat_lt DEPTH (depth_of e.tree)) (record { tree = e.tree; depth = depth_of e.tree });
}

-- an expression of one token, a number or a name, which is 1 deep
abbrev pub atomic : ℕ → Expression → Measured
atomic at tree = record { at = at; kept = Some (record { tree = tree; depth = 1 }) }
