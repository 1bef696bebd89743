-- The readers of statements that hold no block. Each takes how many statements the body may still have, and gives,
-- besides what it read, how many the body may have after it.
use Rattle.std.specs.Prelude.{ℕ, ◌-◌, nat_eq, codes, Option, Ok}
use Rattle.rt_ids.specs.declared.limit.Limit.{Limit}
use Rattle.rt_ids.specs.declared.limit.Limit.TheVariants as limit
use Rattle.rt_ast.specs.Tree.{Statement, Bind, Assign, Emit, Pend, Spawns}
use Rattle.rt_grammar.specs.Tokens.{limit_if}
use Rattle.rt_grammar.specs.Simple.{Counted}
use Rattle.rt_parse.specs.Inside.Reading.{Reader, ◌>>=◌, limited_word_at, sign_at, limited_name_at, name_at}
use Rattle.rt_parse.specs.Inside.ReadingExpression.{expression_at}
use Rattle.rt_parse.specs.Inside.ReadingSpawn.{spawn_at, value_at}

-- the limit on statements, where no more may come
abbrev pub counted_limit : ℕ → Option Limit
counted_limit room = limit_if (nat_eq room 0) limit.Statements

-- a `let`
unfoldable pub bind_at : ℕ → Reader (Counted Statement)
bind_at room tokens = do
  a ← limited_word_at (codes "let") (counted_limit room) tokens
  x ← name_at a.1
  b ← sign_at (codes "=") x.1
  v ← value_at b.1
  c ← sign_at (codes ";") v.1
  Ok ((Bind x.0 v.0, room - 1), c.1)

-- an assignment
unfoldable pub assign_at : ℕ → Reader (Counted Statement)
assign_at room tokens = do
  x ← limited_name_at (counted_limit room) tokens
  a ← sign_at (codes "=") x.1
  e ← expression_at a.1
  b ← sign_at (codes ";") e.1
  Ok ((Assign x.0 e.0, room - 1), b.1)

-- an `emit`
unfoldable pub emit_at : ℕ → Reader (Counted Statement)
emit_at room tokens = do
  a ← limited_word_at (codes "emit") (counted_limit room) tokens
  e ← expression_at a.1
  b ← sign_at (codes ";") e.1
  Ok ((Emit e.0, room - 1), b.1)

-- a `pend`
unfoldable pub pend_at : ℕ → Reader (Counted Statement)
pend_at room tokens = do
  a ← limited_word_at (codes "pend") (counted_limit room) tokens
  irq ← name_at a.1
  b ← sign_at (codes ";") irq.1
  Ok ((Pend irq.0, room - 1), b.1)

-- a spawn, a cancel or a reschedule as a statement
unfoldable pub call_at : ℕ → Reader (Counted Statement)
call_at room tokens = do
  s ← spawn_at (counted_limit room) tokens
  a ← sign_at (codes ";") s.1
  Ok ((Spawns s.0, room - 1), a.1)
