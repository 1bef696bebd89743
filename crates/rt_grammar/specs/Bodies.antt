-- Bodies and tasks.
--   Init = "init" [ Opts ] Block   Idle = "idle" [ Opts ] Block
--   Task = "task" Name [ Opts ] [ "with" Name { "," Name } ] Block
use Rattle.std.specs.Prelude.{ℕ, codes, List, [], ◌∷◌, ◌++◌, length, Option, Some, None}
use Rattle.rt_ids.specs.declared.limit.Limit.TheVariants as limit
use Rattle.rt_ids.specs.declared.limits.TheConstants.{TASKS, ARGUMENTS}
use Rattle.rt_ast.specs.declared.ident.Ident.{Ident}
use Rattle.rt_ast.specs.Tree.{Body, Task, Block}
use Rattle.rt_grammar.specs.Language.{Language, gives, ◌>>=◌, ◌>>◌, or_else, repeat}
use Rattle.rt_grammar.specs.Tokens.{word, limited_word, sign, name, limited_name}
use Rattle.rt_grammar.specs.Limits.{at_most}
use Rattle.rt_grammar.specs.Statement.{block}
use Rattle.rt_grammar.specs.Options.{Options, Owner, OfTask, options}

-- a list, which is empty where it is left out
abbrev pub or_empty : {A : Type 0} → Option (List A) → List A
or_empty None = []
or_empty (Some xs) = xs

-- a body with its options, at this offset
abbrev pub body_with : Options → Block → ℕ → Body
body_with o statements at = record { shared = or_empty o.shared; local = or_empty o.local; block = statements; at = at }

-- `init` or `idle`, which begins with this word, or nothing
abbrev pub thread_body : ℕ → Owner → List ℕ → Language (Option Body)
thread_body most owner text = or_else None (do
  at ← word text
  o ← options owner
  b ← block most most 1 0
  gives (Some (body_with o b.0 at)))

-- one more parameter of a task, after these
abbrev pub parameter : List Ident → Language (List Ident)
parameter xs = do
  sign (codes ",")
  x ← limited_name (at_most ARGUMENTS limit.Arguments (length xs))
  gives (xs ++ x ∷ [])

-- the parameters that a task declares after `with`, or nothing
abbrev pub parameters : Language (List Ident)
parameters = or_else [] (do
  word (codes "with")
  x ← name
  repeat parameter (x ∷ []))

-- a task, after so many others
abbrev pub task : ℕ → ℕ → Language Task
task most before = do
  limited_word (codes "task") (at_most TASKS limit.Tasks before)
  x ← name
  o ← options OfTask
  args ← parameters
  b ← block most most 1 0
  gives (record {
    name = x;
    binds = o.binds;
    priority = o.priority;
    capacity = o.capacity;
    args = args;
    body = body_with o b.0 x.at;
  })
