-- Statements and blocks.
--   Block = "{" { Stmt } "}"
--   Stmt = Simple | "if" Expr Block [ "else" Block ] | "for" Name "in" Num ".." Num Block
--       | "lock" Name { "," Name } Block
-- What a statement may be depends on the nesting of the block that holds it (a body's is 1), and on how many statements
-- of the body come before it. It means its tree, and how many statements come before what follows it.
use Rattle.std.specs.Prelude.{ℕ, zero, suc, codes, List, [], ◌∷◌, ◌++◌}
use Rattle.rt_ast.specs.Tree.{Statement, Block, Branch, Repeat, Locked, Empty, Then}
use Rattle.rt_grammar.specs.Language.{Language, gives, ◌>>=◌, ◌>>◌, ◌or◌, or_else, never, repeat}
use Rattle.rt_grammar.specs.Tokens.{first_of, word, limited_word, sign, limited_sign}
use Rattle.rt_grammar.specs.Tokens.{name, limited_name, number, limited_number}
use Rattle.rt_grammar.specs.Expression.{expression}
use Rattle.rt_grammar.specs.Limits.{statement_limit, nesting_limit, turn_limit}
use Rattle.rt_grammar.specs.Simple.{Counted, bind, assign, emit, pend, call}

-- a block of a nesting, after so many statements
abbrev pub Blocks : Type 1
Blocks = ℕ → ℕ → Language (Counted Block)

-- an `if`, with or without an `else`
abbrev pub branch : ℕ → Blocks → ℕ → ℕ → Language (Counted Statement)
branch most block nesting before = do
  limited_word (codes "if") (statement_limit before)
  e ← expression most
  first ← block (suc nesting) (suc before)
  second ← or_else (Empty, first.1) (word (codes "else") >> block (suc nesting) first.1)
  gives (Branch e first.0 second.0, second.1)

-- a `for` over a range of numbers
abbrev pub loop : Blocks → ℕ → ℕ → Language (Counted Statement)
loop block nesting before = do
  limited_word (codes "for") (statement_limit before)
  x ← name
  word (codes "in")
  first ← number
  sign (codes "..")
  last ← limited_number (turn_limit first.value)
  turn ← block (suc nesting) (suc before)
  gives (Repeat x first.value last.value turn.0, turn.1)

-- a further name of a lock, which counts as a statement and as the block around it
abbrev pub further : Blocks → Blocks
further inside nesting before = do
  sign (codes ",")
  r ← limited_name (first_of (nesting_limit nesting) (statement_limit before))
  inner ← inside (suc nesting) (suc before)
  gives (Then (Locked r inner.0) Empty, inner.1)

-- a `lock`; its first name is followed by its block, or by a further name
abbrev pub lock : Blocks → ℕ → ℕ → Language (Counted Statement)
lock inside nesting before = do
  limited_word (codes "lock") (statement_limit before)
  r ← name
  inner ← inside (suc nesting) (suc before)
  gives (Locked r inner.0, inner.1)

-- any statement; the blocks in it, and what follows a lock's name, are these
abbrev pub statement : ℕ → Blocks → Blocks → ℕ → ℕ → Language (Counted Statement)
statement most block inside nesting before =
    bind most before or assign most before or branch most block nesting before or loop block nesting before
    or lock inside nesting before or emit most before or pend before or call most before

-- the block of a list of statements
abbrev pub joined_block : List Statement → Block
joined_block [] = Empty
joined_block (s ∷ statements) = Then s (joined_block statements)

-- one more statement after those so far
abbrev pub one_more : ℕ → Blocks → Blocks → ℕ → Counted (List Statement) → Language (Counted (List Statement))
one_more most block inside nesting so_far = do
  s ← statement most block inside nesting so_far.1
  gives (so_far.0 ++ s.0 ∷ [], s.1)

-- statements in braces, which pass the limit on nesting where they are too deep
abbrev pub braced_block : ℕ → Blocks → Blocks → Blocks
braced_block most block inside nesting before = do
  limited_sign (codes "{") (nesting_limit nesting)
  all ← repeat (one_more most block inside nesting) ([], before)
  sign (codes "}")
  gives (joined_block all.0, all.1)

-- a block, and what follows a lock's name, with at most so many blocks inside each other
abbrev mutual
  pub block : ℕ → ℕ → Blocks
  block most zero nesting before = never
  block most (suc deep) nesting before = braced_block most (block most deep) (inside most deep) nesting before

  -- what follows a lock's name, with at most so many blocks inside each other
  pub inside : ℕ → ℕ → Blocks
  inside most zero nesting before = never
  inside most (suc deep) nesting before =
      braced_block most (block most deep) (inside most deep) nesting before or further (inside most deep) nesting before
