-- The readers of statements and blocks. Each takes how many blocks may still be opened inside each other, and how many
-- statements the body may still have; it gives, besides what it read, how many the body may have after it.
use Rattle.std.specs.Prelude.{ℕ, zero, suc, Bool, not, codes, List, [], ◌∷◌, ◌++◌, length, Some, Ok, Err, if◌then◌else◌}
use Rattle.rt_ids.specs.declared.limit.Limit.TheVariants as limit
use Rattle.rt_lex.specs.Token.{Token, is_this_word, is_this_sign}
use Rattle.rt_ast.specs.Tree.{Statement, Block}
use Rattle.rt_grammar.specs.Simple.{Counted}
use Rattle.rt_grammar.specs.Statement.{joined_block}
use Rattle.rt_parse.specs.Inside.Reading.{Reader, ◌>>=◌, begins_with, fault_found_at, repeat_at, limited_sign_at}
use Rattle.rt_parse.specs.Inside.Reading.{sign_at}
use Rattle.rt_parse.specs.Inside.ReadingExpression.{is_name}
use Rattle.rt_parse.specs.Inside.ReadingSimple.{bind_at, assign_at, emit_at, pend_at, call_at}
use Rattle.rt_parse.specs.Inside.ReadingNested.{branch_at, loop_at, further_at, lock_at}

-- a statement that begins with another word and holds no block
abbrev pub simple_at : ℕ → Reader (Counted Statement)
simple_at room tokens =
    if begins_with (is_this_word (codes "emit")) tokens then emit_at room tokens
    else if begins_with (is_this_word (codes "pend")) tokens then pend_at room tokens
    else call_at room tokens

-- a statement that holds blocks, or a simple one
abbrev pub compound_at : (ℕ → Reader (Counted Block)) → (ℕ → Reader (Counted Block)) → ℕ → Reader (Counted Statement)
compound_at block inside room tokens =
    if begins_with (is_this_word (codes "if")) tokens then branch_at block room tokens
    else if begins_with (is_this_word (codes "for")) tokens then loop_at block room tokens
    else if begins_with (is_this_word (codes "lock")) tokens then lock_at inside room tokens
    else simple_at room tokens

-- a statement, by its first token
unfoldable pub statement_at : (ℕ → Reader (Counted Block)) → (ℕ → Reader (Counted Block)) → ℕ
    → Reader (Counted Statement)
statement_at block inside room tokens =
    if begins_with is_name tokens then assign_at room tokens
    else if begins_with (is_this_word (codes "let")) tokens then bind_at room tokens
    else compound_at block inside room tokens

-- one more statement after these
unfoldable pub one_more_at : (ℕ → Reader (Counted Block)) → (ℕ → Reader (Counted Block)) → Counted (List Statement)
    → Reader (Counted (List Statement))
one_more_at block inside so_far tokens = do
  s ← statement_at block inside so_far.1 tokens
  Ok ((so_far.0 ++ s.0.0 ∷ [], s.0.1), s.1)

-- whether a token goes on with a block, since it is not the sign that closes one
abbrev pub is_inside : Token → Bool
is_inside t = not (is_this_sign (codes "}") t)

-- a block, inside which these readers read blocks and what follows a lock's name
unfoldable pub braced_block_at : (ℕ → Reader (Counted Block)) → (ℕ → Reader (Counted Block)) → ℕ
    → Reader (Counted Block)
braced_block_at block inside room tokens = do
  a ← sign_at (codes "{") tokens
  all ← repeat_at is_inside (one_more_at block inside) (length a.1) ([], room) a.1
  b ← sign_at (codes "}") all.1
  Ok ((joined_block all.0.0, all.0.1), b.1)

-- where no more blocks may be opened
unfoldable pub closed_block_at : Reader (Counted Block)
closed_block_at tokens = do
  a ← limited_sign_at (codes "{") (Some limit.Nesting) tokens
  Err (fault_found_at a.1)

-- no text, so that any token is wrong
abbrev pub nothing_at : ℕ → Reader (Counted Block)
nothing_at room tokens = Err (fault_found_at tokens)

-- a block, and what follows a lock's name, where so many blocks may be opened
unfoldable mutual
  pub block_at : ℕ → ℕ → Reader (Counted Block)
  block_at zero room tokens = closed_block_at tokens
  block_at (suc left) room tokens = braced_block_at (block_at left) (inside_at left) room tokens

  -- what follows a lock's name, where so many blocks may be opened
  pub inside_at : ℕ → ℕ → Reader (Counted Block)
  inside_at zero room tokens =
      if begins_with (is_this_sign (codes ",")) tokens then further_at nothing_at 0 room tokens
      else closed_block_at tokens
  inside_at (suc left) room tokens =
      if begins_with (is_this_sign (codes ",")) tokens then further_at (inside_at left) (suc left) room tokens
      else braced_block_at (block_at left) (inside_at left) room tokens

-- what follows a further name of a lock, where so many blocks may be opened, the one around it included
unfoldable pub below_at : ℕ → ℕ → Reader (Counted Block)
below_at zero room tokens = nothing_at room tokens
below_at (suc left) room tokens = inside_at left room tokens
