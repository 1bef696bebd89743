-- The statements of a block, and what follows a lock's name.
use Rattle.std.proofs.Common.{◌≡◌, ℕ, zero, suc, cond, codes, List, [], ◌∷◌, map, refl, ap}
use Rattle.rt_lex.specs.Token.{Token, is_this_sign}
use Rattle.rt_ast.specs.Tree.{Then}
use Rattle.rt_ast.specs.View as code
use Rattle.rt_ast.specs.View.{statement_of}
use Rattle.rt_ast.specs.declared.stmt.Stmt.{Stmt}
use Rattle.rt_grammar.specs.Statement as grammar
use Rattle.rt_parse.specs.Inside.Reading.{begins_with}
use Rattle.rt_parse.specs.Inside.ReadingNested.{further_at}
use Rattle.rt_parse.specs.Inside.ReadingStatement.{block_at, inside_at, below_at}

-- the block of statements is the same in the code and in the grammar
pub block : (statements : List Stmt) → grammar.joined_block (map statement_of statements) ≡ code.block_of statements
block [] = refl
block (s ∷ statements) = ap (Then (statement_of s)) (block statements)

-- what follows a lock's name is a further name after a comma, and else the block
pub inside_is : (left room : ℕ) (tokens : List Token) →
    inside_at left room tokens ≡ cond (begins_with (is_this_sign (codes ",")) tokens)
    (further_at (below_at left) left room tokens) (block_at left room tokens)
unfolding block_at below_at
inside_is zero room tokens = refl
inside_is (suc left) room tokens = refl
