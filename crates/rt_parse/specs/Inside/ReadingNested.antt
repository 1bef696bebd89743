-- The readers of statements that hold blocks. Each takes the reader of a block, and how many statements the body may
-- still have.
use Rattle.std.specs.Prelude.{ℕ, ◌-◌, nat_eq, codes, Option, Ok, if◌then◌else◌}
use Rattle.rt_ids.specs.declared.limit.Limit.{Limit}
use Rattle.rt_ids.specs.declared.limit.Limit.TheVariants as limit
use Rattle.rt_lex.specs.Token.{is_this_word}
use Rattle.rt_ast.specs.Tree.{Statement, Block, Branch, Repeat, Locked, Empty, Then}
use Rattle.rt_grammar.specs.Tokens.{limit_if, first_of}
use Rattle.rt_grammar.specs.Limits.{turn_limit}
use Rattle.rt_grammar.specs.Simple.{Counted}
use Rattle.rt_parse.specs.Inside.Reading.{Reader, ◌>>=◌, begins_with, limited_word_at, word_at, sign_at}
use Rattle.rt_parse.specs.Inside.Reading.{limited_name_at, name_at, number_at, limited_number_at}
use Rattle.rt_parse.specs.Inside.ReadingExpression.{expression_at}
use Rattle.rt_parse.specs.Inside.ReadingSimple.{counted_limit}

-- the limit on nesting, where no more blocks may be opened
abbrev pub nested_limit : ℕ → Option Limit
nested_limit left = limit_if (nat_eq left 0) limit.Nesting

-- the second block of an `if` from `else` on
abbrev pub else_block_at : (ℕ → Reader (Counted Block)) → ℕ → Reader (Counted Block)
else_block_at block room tokens = do
  a ← word_at (codes "else") tokens
  block room a.1

-- the second block of an `if`, if `else` comes next, and the empty block if not
unfoldable pub else_at : (ℕ → Reader (Counted Block)) → ℕ → Reader (Counted Block)
else_at block room tokens =
    if begins_with (is_this_word (codes "else")) tokens then else_block_at block room tokens
    else Ok ((Empty, room), tokens)

-- an `if`
unfoldable pub branch_at : (ℕ → Reader (Counted Block)) → ℕ → Reader (Counted Statement)
branch_at block room tokens = do
  a ← limited_word_at (codes "if") (counted_limit room) tokens
  e ← expression_at a.1
  first ← block (room - 1) e.1
  second ← else_at block first.0.1 first.1
  Ok ((Branch e.0 first.0.0 second.0.0, second.0.1), second.1)

-- a `for`
unfoldable pub loop_at : (ℕ → Reader (Counted Block)) → ℕ → Reader (Counted Statement)
loop_at block room tokens = do
  a ← limited_word_at (codes "for") (counted_limit room) tokens
  x ← name_at a.1
  b ← word_at (codes "in") x.1
  first ← number_at b.1
  c ← sign_at (codes "..") first.1
  last ← limited_number_at (turn_limit first.0.value) c.1
  turn ← block (room - 1) last.1
  Ok ((Repeat x.0 first.0.value last.0.value turn.0.0, turn.0.1), turn.1)

-- a further name of a lock
unfoldable pub further_at : (ℕ → Reader (Counted Block)) → ℕ → ℕ → Reader (Counted Block)
further_at inside left room tokens = do
  a ← sign_at (codes ",") tokens
  r ← limited_name_at (first_of (nested_limit left) (counted_limit room)) a.1
  inner ← inside (room - 1) r.1
  Ok ((Then (Locked r.0 inner.0.0) Empty, inner.0.1), inner.1)

-- a `lock`
unfoldable pub lock_at : (ℕ → Reader (Counted Block)) → ℕ → Reader (Counted Statement)
lock_at inside room tokens = do
  a ← limited_word_at (codes "lock") (counted_limit room) tokens
  r ← name_at a.1
  inner ← inside (room - 1) r.1
  Ok ((Locked r.0 inner.0.0, inner.0.1), inner.1)
