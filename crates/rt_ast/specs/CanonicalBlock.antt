-- The canonical text of statements and blocks. One space is on each side of `=`. What a block holds is indented by four
-- spaces more than the block.
use Rattle.std.specs.Prelude.{ℕ, codes, decimal, List, [], ◌++◌}
use Rattle.rt_ast.specs.declared.ident.Ident.{Ident}
use Rattle.rt_ast.specs.Tree.{Expression, Spawn, Soon, After, Cancel, Move, Value, Calc, Now, Call, Statement, Bind}
use Rattle.rt_ast.specs.Tree.{Assign, Branch}
use Rattle.rt_ast.specs.Tree.{Repeat, Locked, Emit, Pend, Spawns, Block, Empty, Then}
use Rattle.rt_ast.specs.CanonicalExpression.{newline, separated_list, name_text, expression_text}

-- a task and its arguments
abbrev pub call_text : Ident → List Expression → List ℕ
call_text task args = name_text task ++ codes "(" ++ separated_list expression_text args ++ codes ")"

-- a spawn, a cancel or a reschedule
abbrev pub spawn_text : Spawn → List ℕ
spawn_text (Soon task args) = codes "spawn " ++ call_text task args
spawn_text (After at delay task args) =
    codes "spawn_after(" ++ expression_text delay ++ codes ") " ++ call_text task args
spawn_text (Cancel at task handle) =
    codes "cancel " ++ name_text task ++ codes "(" ++ expression_text handle ++ codes ")"
spawn_text (Move at delay task handle) =
    codes "reschedule_after(" ++ expression_text delay ++ codes ") " ++ name_text task ++ codes "("
    ++ expression_text handle ++ codes ")"

-- the value of a `let`
abbrev pub value_text : Value → List ℕ
value_text (Calc e) = expression_text e
value_text (Now at) = codes "now"
value_text (Call s) = spawn_text s

-- the margin of what a block of this margin holds; a margin is the blanks before a line
abbrev pub deeper : List ℕ → List ℕ
deeper margin = margin ++ codes "    "

-- a line with this margin
abbrev pub line : List ℕ → List ℕ → List ℕ
line margin text = margin ++ text ++ newline

-- a block with this margin and these lines
abbrev pub braces : List ℕ → List ℕ → List ℕ
braces margin lines = codes "{" ++ newline ++ lines ++ margin ++ codes "}"

-- an `if` up to its block
abbrev pub branch_head : Expression → List ℕ
branch_head e = codes "if " ++ expression_text e ++ codes " "

-- a `for` up to its block
abbrev pub repeat_head : Ident → ℕ → ℕ → List ℕ
repeat_head x first last =
    codes "for " ++ name_text x ++ codes " in " ++ decimal first ++ codes ".." ++ decimal last ++ codes " "

-- a `lock` up to its block
abbrev pub lock_head : Ident → List ℕ
lock_head r = codes "lock " ++ name_text r ++ codes " "

abbrev mutual
  -- a statement with this margin
  pub statement_text : List ℕ → Statement → List ℕ
  statement_text margin (Bind x v) = codes "let " ++ name_text x ++ codes " = " ++ value_text v ++ codes ";"
  statement_text margin (Assign x e) = name_text x ++ codes " = " ++ expression_text e ++ codes ";"
  statement_text margin (Branch e first second) = branch_head e ++ block_text margin first ++ else_text margin second
  statement_text margin (Repeat x first last turn) = repeat_head x first last ++ block_text margin turn
  statement_text margin (Locked r inner) = lock_head r ++ block_text margin inner
  statement_text margin (Emit e) = codes "emit " ++ expression_text e ++ codes ";"
  statement_text margin (Pend irq) = codes "pend " ++ name_text irq ++ codes ";"
  statement_text margin (Spawns s) = spawn_text s ++ codes ";"

  -- a block with this margin, in its braces
  pub block_text : List ℕ → Block → List ℕ
  block_text margin Empty = codes "{}"
  block_text margin (Then s rest) =
      braces margin (line (deeper margin) (statement_text (deeper margin) s) ++ lines_text (deeper margin) rest)

  -- nothing where the second block is empty
  pub else_text : List ℕ → Block → List ℕ
  else_text margin Empty = []
  else_text margin (Then s rest) =
      codes " else " ++ braces margin
      (line (deeper margin) (statement_text (deeper margin) s) ++ lines_text (deeper margin) rest)

  -- the statements of a block, a line each
  pub lines_text : List ℕ → Block → List ℕ
  lines_text margin Empty = []
  lines_text margin (Then s rest) = line margin (statement_text margin s) ++ lines_text margin rest
