-- Statements that hold no block.
--   Simple = "let" Name "=" Value ";" | Name "=" Expr ";" | "emit" Expr ";" | "pend" Name ";" | Spawn ";"
-- What a statement may be depends on how many statements of the body come before it. It means its tree, and how many
-- statements come before what follows it.
use Rattle.std.specs.Prelude.{ℕ, suc, codes}
use Rattle.rt_ast.specs.Tree.{Statement, Bind, Assign, Emit, Pend, Spawns}
use Rattle.rt_grammar.specs.Language.{Language, gives, ◌>>=◌, ◌>>◌}
use Rattle.rt_grammar.specs.Tokens.{limited_word, sign, name, limited_name}
use Rattle.rt_grammar.specs.Expression.{expression}
use Rattle.rt_grammar.specs.Limits.{statement_limit}
use Rattle.rt_grammar.specs.Spawn.{spawn, value}

-- what is read of a body: a tree, and how many statements come before what follows it
abbrev pub Counted : Type 0 → Type 0
Counted A = A × ℕ

-- a `let`
abbrev pub bind : ℕ → ℕ → Language (Counted Statement)
bind most before = do
  limited_word (codes "let") (statement_limit before)
  x ← name
  sign (codes "=")
  v ← value most
  sign (codes ";")
  gives (Bind x v, suc before)

-- an assignment
abbrev pub assign : ℕ → ℕ → Language (Counted Statement)
assign most before = do
  x ← limited_name (statement_limit before)
  sign (codes "=")
  e ← expression most
  sign (codes ";")
  gives (Assign x e, suc before)

-- an `emit`
abbrev pub emit : ℕ → ℕ → Language (Counted Statement)
emit most before = do
  limited_word (codes "emit") (statement_limit before)
  e ← expression most
  sign (codes ";")
  gives (Emit e, suc before)

-- a `pend`
abbrev pub pend : ℕ → Language (Counted Statement)
pend before = do
  limited_word (codes "pend") (statement_limit before)
  irq ← name
  sign (codes ";")
  gives (Pend irq, suc before)

-- a spawn, a cancel or a reschedule whose answer is not kept
abbrev pub call : ℕ → ℕ → Language (Counted Statement)
call most before = do
  s ← spawn most (statement_limit before)
  sign (codes ";")
  gives (Spawns s, suc before)
