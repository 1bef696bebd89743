-- The readers of bodies and tasks.
use Rattle.std.specs.Prelude.{ℕ, codes, List, [], ◌∷◌, ◌++◌, length, Option, Some, None, Ok, if◌then◌else◌}
use Rattle.rt_ids.specs.declared.limit.Limit.TheVariants as limit
use Rattle.rt_ids.specs.declared.limits.TheConstants.{TASKS, ARGUMENTS, NESTING, STATEMENTS}
use Rattle.rt_lex.specs.Token.{is_this_word, is_this_sign}
use Rattle.rt_ast.specs.declared.ident.Ident.{Ident}
use Rattle.rt_ast.specs.Tree.{Body, Task, Block}
use Rattle.rt_grammar.specs.Limits.{at_most}
use Rattle.rt_grammar.specs.Simple.{Counted}
use Rattle.rt_grammar.specs.Options.{Owner, OfTask, Options}
use Rattle.rt_grammar.specs.Bodies.{body_with}
use Rattle.rt_parse.specs.Inside.Reading.{Reader, ◌>>=◌, begins_with, repeat_at, limited_word_at, word_at, sign_at}
use Rattle.rt_parse.specs.Inside.Reading.{limited_name_at, name_at}
use Rattle.rt_parse.specs.Inside.ReadingStatement.{block_at}
use Rattle.rt_parse.specs.Inside.ReadingOptions.{options_at}

-- a body's block
abbrev pub body_block_at : Reader (Counted Block)
body_block_at = block_at NESTING STATEMENTS

-- `init` or `idle` from its word on
unfoldable pub thread_at : Owner → List ℕ → Reader (Option Body)
thread_at owner text tokens = do
  at ← word_at text tokens
  o ← options_at owner at.1
  b ← body_block_at o.1
  Ok (Some (body_with o.0 b.0.0 at.0), b.1)

-- `init` or `idle`, if its word comes next
unfoldable pub thread_body_at : Owner → List ℕ → Reader (Option Body)
thread_body_at owner text tokens =
    if begins_with (is_this_word text) tokens then thread_at owner text tokens else Ok (None, tokens)

-- one more argument after so many others
unfoldable pub one_argument_at : ℕ → Reader Ident
one_argument_at before tokens = do
  a ← sign_at (codes ",") tokens
  limited_name_at (at_most ARGUMENTS limit.Arguments before) a.1

-- one more argument after these
unfoldable pub argument_at : List Ident → Reader (List Ident)
argument_at xs tokens = do
  a ← sign_at (codes ",") tokens
  x ← limited_name_at (at_most ARGUMENTS limit.Arguments (length xs)) a.1
  Ok (xs ++ x.0 ∷ [], x.1)

-- the arguments of a task from `with` on
unfoldable pub parameters_at : Reader (List Ident)
parameters_at tokens = do
  a ← word_at (codes "with") tokens
  x ← name_at a.1
  repeat_at (is_this_sign (codes ",")) argument_at (length x.1) (x.0 ∷ []) x.1

-- the arguments of a task, if `with` comes next
unfoldable pub task_arguments_at : Reader (List Ident)
task_arguments_at tokens =
    if begins_with (is_this_word (codes "with")) tokens then parameters_at tokens else Ok ([], tokens)

-- a task of what was read of it
abbrev pub task_is : Ident → Options → List Ident → Block → Task
task_is name o args block =
    record {
      name = name;
      binds = o.binds;
      priority = o.priority;
      capacity = o.capacity;
      args = args;
      body = body_with o block name.at;
    }

-- a task's arguments and its block, after its options
abbrev pub task_block_at : Ident → Options → Reader Task
task_block_at name o tokens = do
  args ← task_arguments_at tokens
  b ← body_block_at args.1
  Ok (task_is name o args.0 b.0.0, b.1)

-- a task after so many others
unfoldable pub task_at : ℕ → Reader Task
task_at before tokens = do
  a ← limited_word_at (codes "task") (at_most TASKS limit.Tasks before) tokens
  x ← name_at a.1
  o ← options_at OfTask x.1
  task_block_at x.0 o.0 o.1
