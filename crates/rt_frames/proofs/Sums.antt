-- What is put together over lists from the right, with one more item.
use Rattle.std.proofs.Common.{◌≡◌, ℕ, zero, suc, ◌⊎◌, inl, inr, zero-mul, ◌+◌, ◌*◌, ◌^◌, ◌-◌, ◌<◌, ◌≤◌, List, [], ◌∷◌}
use Rattle.std.proofs.Common.{◌++◌, take, get_or, length, map, min, Bool, true, false, cond, append_assoc, append-nil}
use Rattle.std.proofs.Common.{refl, sym, ap, ◌∙◌, arith}
use Rattle.std.specs.Prelude.{count_by}
use Rattle.std.proofs.lemmas.Bool.{cases_order}
use Rattle.std.specs.Int.{from_bool}
use Rattle.std.proofs.lemmas.List.{take_more, map_more, length-map, length-take}
use Rattle.std.proofs.lemmas.List.Sums.{sum_by_push, count_by-le-length}
use Rattle.rt_app.specs.Tree.{Statement, Block, Empty, Then, Expression, Task}
use Rattle.rt_app.specs.View.{expression_of, statement_of, block_of, task_of}
use Rattle.rt_app.specs.declared.app.Task as code
use Rattle.rt_app.specs.declared.expr.Expr.{Expr}
use Rattle.rt_app.specs.declared.stmt.Stmt.{Stmt}
use Rattle.rt_app.specs.Spawned.{statement_spawns, spawns}
use Rattle.rt_app.specs.Cost.{Measure, capped_cost, expression_cost, expressions_cost, statement_cost, block_cost}

-- over the statements of a block: `put` puts what is of a statement before what is of the rest
module _ {V : Type 0} (of_block : Block → V) (of_statement : Statement → V) (put : V → V → V)
    (then_is : (s : Statement) (rest : Block) → of_block (Then s rest) ≡ put (of_statement s) (of_block rest))
    (assoc : (a b c : V) → put a (put b c) ≡ put (put a b) c)
    (alone : (s : Statement) → put (of_statement s) (of_block Empty) ≡ put (of_block Empty) (of_statement s)) where
  block_end : (xs : List Stmt) (x : Stmt) → of_block (block_of (xs ++ x ∷ []))
      ≡ put (of_block (block_of xs)) (of_statement (statement_of x))
  block_end [] x = then_is (statement_of x) Empty ∙ alone (statement_of x)
  block_end (s ∷ xs) x =
      then_is (statement_of s) (block_of (xs ++ x ∷ [])) ∙ ap (put (of_statement (statement_of s))) (block_end xs x)
      ∙ assoc (of_statement (statement_of s)) (of_block (block_of xs)) (of_statement (statement_of x))
      ∙ ap (λ v. put v (of_statement (statement_of x))) (sym (then_is (statement_of s) (block_of xs)))

  pub block_more : (xs : List Stmt) (i : ℕ) (x : Stmt) → i < length xs → x ≡ get_or xs i x
      → of_block (block_of (take (i + 1) xs)) ≡ put (of_block (block_of (take i xs))) (of_statement (statement_of x))
  block_more xs i x h e =
      ap (λ ys. of_block (block_of ys)) (take_more xs i x h) ∙ block_end (take i xs) (get_or xs i x)
      ∙ ap (λ s. put (of_block (block_of (take i xs))) (of_statement (statement_of s))) (sym e)

capped_assoc : (a b c : ℕ) → capped_cost (a + capped_cost (b + c)) ≡ capped_cost (capped_cost (a + b) + c)
capped_assoc a b c = omega arith

capped_alone : (n : ℕ) → capped_cost (n + 0) ≡ capped_cost (0 + n)
capped_alone n = omega arith

pub block_cost_more : (m : Measure) (xs : List Stmt) (i : ℕ) (x : Stmt) → i < length xs → x ≡ get_or xs i x
    → block_cost m (block_of (take (i + 1) xs)) ≡ capped_cost (block_cost m (block_of (take i xs))
    + statement_cost m (statement_of x))
block_cost_more m = block_more (block_cost m) (statement_cost m) (λ a b. capped_cost (a + b)) (λ s rest. refl)
    capped_assoc (λ s. capped_alone (statement_cost m s))

-- the turns of a loop, where each sum on the way stops at the greatest number of 32 bits
pub turns_sum : (turns block one all sum : ℕ) → one ≡ min (block + 6) (2 ^ 32 - 1) → all
    ≡ min (turns * one) (2 ^ 32 - 1) → sum ≡ min (4 + all) (2 ^ 32 - 1) → capped_cost sum
    ≡ capped_cost (4 + turns * (block + 6))
turns_sum zero block one all sum o a s = omega (arith, zero-mul one, zero-mul (block + 6))
turns_sum (suc k) block one all sum o a s = either (cases_order (block + 6) (2 ^ 32))
  where
    grows : (n : ℕ) → n ≤ suc k * n
    grows n = omega arith

    whole : block + 6 < 2 ^ 32 → capped_cost sum ≡ capped_cost (4 + suc k * (block + 6))
    whole few =
        let same : one ≡ block + 6 = omega arith in
        let product : suc k * one ≡ suc k * (block + 6) = ap (λ n. suc k * n) same in
        omega arith

    stopped : 2 ^ 32 ≤ block + 6 → capped_cost sum ≡ capped_cost (4 + suc k * (block + 6))
    stopped many = omega (arith, grows one, grows (block + 6))

    either : (block + 6 ≡ 2 ^ 32) ⊎ ((block + 6 < 2 ^ 32) ⊎ (2 ^ 32 < block + 6)) → capped_cost sum
        ≡ capped_cost (4 + suc k * (block + 6))
    either (inl same) = stopped (omega arith)
    either (inr (inl less)) = whole less
    either (inr (inr more)) = stopped (omega arith)

-- over expressions
module _ {V : Type 0} (of_all : List Expression → V) (of_one : Expression → V) (put : V → V → V)
    (cons_is : (e : Expression) (es : List Expression) → of_all (e ∷ es) ≡ put (of_one e) (of_all es))
    (assoc : (a b c : V) → put a (put b c) ≡ put (put a b) c)
    (alone : (e : Expression) → put (of_one e) (of_all []) ≡ put (of_all []) (of_one e)) where
  expressions_end : (es : List Expression) (e : Expression) → of_all (es ++ e ∷ []) ≡ put (of_all es) (of_one e)
  expressions_end [] e = cons_is e [] ∙ alone e
  expressions_end (x ∷ es) e = cons_is x (es ++ e ∷ []) ∙ ap (put (of_one x)) (expressions_end es e)
      ∙ assoc (of_one x) (of_all es) (of_one e) ∙ ap (λ v. put v (of_one e)) (sym (cons_is x es))

  pub expressions_more : (xs : List Expr) (i : ℕ) (x : Expr) → i < length xs → x ≡ get_or xs i x
      → of_all (map expression_of (take (i + 1) xs)) ≡ put (of_all (map expression_of (take i xs)))
      (of_one (expression_of x))
  expressions_more xs i x h e =
      ap of_all (map_more expression_of xs i x h) ∙ expressions_end (map expression_of (take i xs))
      (expression_of (get_or xs i x))
      ∙ ap (λ y. put (of_all (map expression_of (take i xs))) (of_one (expression_of y))) (sym e)

pub expressions_cost_more : (xs : List Expr) (i : ℕ) (x : Expr) → i < length xs → x ≡ get_or xs i x
    → expressions_cost (map expression_of (take (i + 1) xs)) ≡ capped_cost
    (expressions_cost (map expression_of (take i xs)) + expression_cost (expression_of x))
expressions_cost_more = expressions_more expressions_cost expression_cost (λ a b. capped_cost (a + b)) (λ e es. refl)
    capped_assoc (λ e. capped_alone (expression_cost e))

pub spawns_more : (xs : List Stmt) (i : ℕ) (x : Stmt) → i < length xs → x ≡ get_or xs i x
    → spawns (block_of (take (i + 1) xs)) ≡ spawns (block_of (take i xs)) ++ statement_spawns (statement_of x)
spawns_more = block_more spawns statement_spawns (λ a b. a ++ b) (λ s rest. refl) (λ a b c. sym (append_assoc a b c))
    (λ s. append-nil (statement_spawns s))

-- what of a list of tasks is put together from the parts of the list
pub tasks_more : {V : Type 0} (of_tasks : List Task → List V)
    → ((xs ys : List Task) → of_tasks (xs ++ ys) ≡ of_tasks xs ++ of_tasks ys)
    → (xs : List code.Task) (i : ℕ) (x : code.Task) → i < length xs → x ≡ get_or xs i x
    → of_tasks (map task_of (take (i + 1) xs)) ≡ of_tasks (map task_of (take i xs)) ++ of_tasks (task_of x ∷ [])
tasks_more of_tasks append xs i x h e =
    ap of_tasks (map_more task_of xs i x h) ∙ append (map task_of (take i xs)) (task_of (get_or xs i x) ∷ [])
    ∙ ap (λ y. of_tasks (map task_of (take i xs)) ++ of_tasks (task_of y ∷ [])) (sym e)

one_if : (b : Bool) → cond b 1 0 ≡ from_bool b
one_if true = refl
one_if false = refl

-- how many tasks pass
pub count_task_more : (test : Task → Bool) (xs : List code.Task) (i : ℕ) (x : code.Task) → i < length xs → x
    ≡ get_or xs i x
    → count_by test (map task_of (take (i + 1) xs)) ≡ count_by test (map task_of (take i xs))
    + from_bool (test (task_of x))
count_task_more test xs i x h e =
    ap (count_by test) (map_more task_of xs i x h) ∙ sum_by_push (λ t. cond (test t) 1 0) (map task_of (take i xs))
    (task_of (get_or xs i x))
    ∙ ap (λ y. count_by test (map task_of (take i xs)) + cond (test (task_of y)) 1 0) (sym e)
    ∙ ap (λ k. count_by test (map task_of (take i xs)) + k) (one_if (test (task_of x)))

-- no more than were looked at
pub count_task_few : (test : Task → Bool) (xs : List code.Task) (i : ℕ) → count_by test (map task_of (take i xs)) ≤ i
count_task_few test xs i = omega (
  arith,
  count_by-le-length test (map task_of (take i xs)),
  length-map (take i xs) task_of,
  length-take i xs,
)

pub from_bool_most : (b : Bool) → from_bool b ≤ 1
from_bool_most true = omega arith
from_bool_most false = omega arith
