-- Values and spawns.
--   Value = Expr | "now" | Spawn
--   Spawn = "spawn" Name "(" List(Expr) ")" | "spawn_after" "(" Expr ")" Name "(" List(Expr) ")"
--       | "cancel" Name "(" Expr ")" | "reschedule_after" "(" Expr ")" Name "(" Expr ")"
use Rattle.std.specs.Prelude.{ℕ, codes, List, [], Option}
use Rattle.rt_ids.specs.declared.limit.Limit.{Limit}
use Rattle.rt_ast.specs.Tree.{Value, Spawn, Expression, Calc, Now, Call, Soon, After, Cancel, Move}
use Rattle.rt_grammar.specs.Language.{Language, gives, ◌>>=◌, ◌>>◌, ◌or◌}
use Rattle.rt_grammar.specs.Tokens.{free, word, limited_word, sign, name, list, adds}
use Rattle.rt_grammar.specs.Expression.{expression}

-- the arguments of a message, in parentheses
abbrev pub arguments : ℕ → Language (List Expression)
arguments most = sign (codes "(") >> list (codes ")") (adds (λ before. expression most)) []

-- a `spawn`, whose first word may pass this limit
abbrev pub soon : ℕ → Option Limit → Language Spawn
soon most what = do
  limited_word (codes "spawn") what
  task ← name
  args ← arguments most
  gives (Soon task args)

-- a `spawn_after`, whose first word may pass this limit
abbrev pub delayed_spawn : ℕ → Option Limit → Language Spawn
delayed_spawn most what = do
  at ← limited_word (codes "spawn_after") what
  sign (codes "(")
  delay ← expression most
  sign (codes ")")
  task ← name
  args ← arguments most
  gives (After at delay task args)

-- the handle of a message, in parentheses
abbrev pub handle : ℕ → Language Expression
handle most = do
  sign (codes "(")
  e ← expression most
  sign (codes ")")
  gives e

-- a `cancel`, whose first word may pass this limit
abbrev pub cancel : ℕ → Option Limit → Language Spawn
cancel most what = do
  at ← limited_word (codes "cancel") what
  task ← name
  h ← handle most
  gives (Cancel at task h)

-- a `reschedule_after`, whose first word may pass this limit
abbrev pub move : ℕ → Option Limit → Language Spawn
move most what = do
  at ← limited_word (codes "reschedule_after") what
  sign (codes "(")
  delay ← expression most
  sign (codes ")")
  task ← name
  h ← handle most
  gives (Move at delay task h)

-- a spawn whose first word may pass a limit
abbrev pub spawn : ℕ → Option Limit → Language Spawn
spawn most what = soon most what or delayed_spawn most what or cancel most what or move most what

-- the value of a `let`
abbrev pub value : ℕ → Language Value
value most =
    (do at ← word (codes "now"); gives (Now at))
    or (do s ← spawn most free; gives (Call s))
    or (do e ← expression most; gives (Calc e))
