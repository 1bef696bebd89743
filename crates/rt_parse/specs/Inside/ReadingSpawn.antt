-- The readers of values and spawns.
use Rattle.std.specs.Prelude.{Bool, ◌||◌, codes, List, [], length, Option, Ok, if◌then◌else◌}
use Rattle.rt_ids.specs.declared.limit.Limit.{Limit}
use Rattle.rt_lex.specs.Token.{Token, is_this_word}
use Rattle.rt_ast.specs.declared.ident.Ident.{Ident}
use Rattle.rt_ast.specs.Tree.{Value, Spawn, Expression, Calc, Now, Call, Soon, After, Cancel, Move}
use Rattle.rt_grammar.specs.Tokens.{free}
use Rattle.rt_parse.specs.Inside.Reading.{Reader, ◌>>=◌, begins_with, limited_word_at, word_at, sign_at, name_at}
use Rattle.rt_parse.specs.Inside.ReadingList.{items_at, adds_at}
use Rattle.rt_parse.specs.Inside.ReadingExpression.{expression_at}

-- the arguments of a message, in parentheses
unfoldable pub arguments_at : Reader (List Expression)
arguments_at tokens = do
  a ← sign_at (codes "(") tokens
  items_at (codes ")") (adds_at (λ before. expression_at)) (length a.1) [] a.1

-- an expression in parentheses: a delay, or the handle of a message
unfoldable pub enclosed_expression_at : Reader Expression
enclosed_expression_at tokens = do
  a ← sign_at (codes "(") tokens
  e ← expression_at a.1
  b ← sign_at (codes ")") e.1
  Ok (e.0, b.1)

-- a delay, and the task after it
unfoldable pub delayed_task_at : Reader (Expression × Ident)
delayed_task_at tokens = do
  delay ← enclosed_expression_at tokens
  task ← name_at delay.1
  Ok ((delay.0, task.0), task.1)

-- a `spawn`, whose first word may pass this limit
unfoldable pub soon_at : Option Limit → Reader Spawn
soon_at what tokens = do
  a ← limited_word_at (codes "spawn") what tokens
  task ← name_at a.1
  args ← arguments_at task.1
  Ok (Soon task.0 args.0, args.1)

-- a `spawn_after`, whose first word may pass this limit
unfoldable pub after_at : Option Limit → Reader Spawn
after_at what tokens = do
  at ← limited_word_at (codes "spawn_after") what tokens
  task ← delayed_task_at at.1
  args ← arguments_at task.1
  Ok (After at.0 task.0.0 task.0.1 args.0, args.1)

-- a `cancel`, whose first word may pass this limit
unfoldable pub cancel_at : Option Limit → Reader Spawn
cancel_at what tokens = do
  at ← limited_word_at (codes "cancel") what tokens
  task ← name_at at.1
  handle ← enclosed_expression_at task.1
  Ok (Cancel at.0 task.0 handle.0, handle.1)

-- a `reschedule_after`, whose first word may pass this limit
unfoldable pub move_at : Option Limit → Reader Spawn
move_at what tokens = do
  at ← limited_word_at (codes "reschedule_after") what tokens
  task ← delayed_task_at at.1
  handle ← enclosed_expression_at task.1
  Ok (Move at.0 task.0.0 task.0.1 handle.0, handle.1)

-- any of these four, by its first word
unfoldable pub spawn_at : Option Limit → Reader Spawn
spawn_at what tokens = if begins_with (is_this_word (codes "spawn")) tokens then soon_at what tokens
    else if begins_with (is_this_word (codes "spawn_after")) tokens then after_at what tokens
    else if begins_with (is_this_word (codes "cancel")) tokens then cancel_at what tokens
    else move_at what tokens

-- `now` as a value
unfoldable pub now_at : Reader Value
now_at tokens = do
  at ← word_at (codes "now") tokens
  Ok (Now at.0, at.1)

-- one of the four as a value
unfoldable pub call_value_at : Reader Value
call_value_at tokens = do
  s ← spawn_at free tokens
  Ok (Call s.0, s.1)

-- an expression as a value
unfoldable pub calc_at : Reader Value
calc_at tokens = do
  e ← expression_at tokens
  Ok (Calc e.0, e.1)

-- whether a token is the first word of one of the four
abbrev pub is_spawn : Token → Bool
is_spawn t = is_this_word (codes "spawn") t || is_this_word (codes "spawn_after") t
    || is_this_word (codes "cancel") t || is_this_word (codes "reschedule_after") t

-- the value of a `let`
unfoldable pub value_at : Reader Value
value_at tokens =
    if begins_with (is_this_word (codes "now")) tokens then now_at tokens
    else if begins_with is_spawn tokens then call_value_at tokens
    else calc_at tokens
