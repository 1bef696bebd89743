-- Costs and sizes are plain sums up to the cap.
use Rattle.std.proofs.Common.{◌≡◌, ℕ, ◌+◌, ◌*◌, ◌<◌, ◌≤◌, ◌⊎◌, zero, suc, max, Bool, true, false, List, [], ◌∷◌}
use Rattle.std.proofs.Common.{if◌then◌else◌, sym, ap, zero-mul, ⊎_elim, inl, inr, ◌∙◌, arith}
use Rattle.std.proofs.Math.Nat.{min-eq_left}
use Rattle.std.proofs.lemmas.Bool.{cases_order}
use Rattle.rt_app.specs.Tree.{Expression, Num, Read, Oper, Spawn, Soon, After, Cancel, Move, Value, Calc, Now, Call}
use Rattle.rt_app.specs.Tree.{Statement, Bind, Assign, Branch, Repeat, Locked, Emit, Pend, Spawns, Block, Empty, Then}
use Rattle.rt_app.specs.Cost.{Measure, capped_cost, branch_cost, counted_turns, expression_cost, expressions_cost}
use Rattle.rt_app.specs.Cost.{spawn_cost}
use Rattle.rt_app.specs.Cost.{bind_cost, statement_cost, block_cost}
use Rattle.rt_app.specs.Steps.{expression_steps, expressions_steps, spawn_steps, bind_steps, statement_steps}
use Rattle.rt_app.specs.Steps.{block_steps, CapSteps}

capped_expression : (e : Expression) → expression_cost e ≡ capped_cost (expression_steps e)
capped_expression (Num n) = omega arith
capped_expression (Read atom at) = omega arith
capped_expression (Oper o left right) = omega (arith, capped_expression left, capped_expression right)

capped_expressions : (es : List Expression) → expressions_cost es ≡ capped_cost (expressions_steps es)
capped_expressions [] = omega arith
capped_expressions (e ∷ es) = omega (arith, capped_expression e, capped_expressions es)

-- turns of a capped block pass the cap where those of the block do
capped_turns : (t s : ℕ) → capped_cost (4 + t * (capped_cost s + 6)) ≡ capped_cost (4 + t * (s + 6))
capped_turns zero s = ap (λ n. capped_cost (4 + n)) (zero-mul (capped_cost s + 6) ∙ sym (zero-mul (s + 6)))
capped_turns (suc k) s = ⊎_elim (λ h. ap (λ n. capped_cost (4 + suc k * (n + 6))) (min-eq_left h)) many
    (either (cases_order s 1000001))
  where
    either : (s ≡ 1000001) ⊎ ((s < 1000001) ⊎ (1000001 < s)) → (s ≤ 1000001) ⊎ (1000001 < s)
    either (inl same) = inl (omega arith)
    either (inr (inl less)) = inl (omega arith)
    either (inr (inr more)) = inr more

    grows : (n : ℕ) → n ≤ suc k * n
    grows n = omega arith

    many : 1000001 < s → capped_cost (4 + suc k * (capped_cost s + 6)) ≡ capped_cost (4 + suc k * (s + 6))
    many more = omega (arith, grows (capped_cost s + 6), grows (s + 6))

capped_branch : (m : Measure) (a b e : ℕ) → capped_cost (e + 2 + branch_cost m (capped_cost a) (capped_cost b))
    ≡ capped_cost (e + 2 + branch_cost m a b)
capped_branch m a b e = one m.is_size
  where
    one : (is_size : Bool) → capped_cost (e + 2 + (if is_size then capped_cost a
        + capped_cost b else max (capped_cost a) (capped_cost b))) ≡ capped_cost
        (e + 2 + (if is_size then a + b else max a b))
    one true = omega arith
    one false = omega arith

module _ (m : Measure) where
  capped_spawn : (s : Spawn) → spawn_cost m s ≡ capped_cost (spawn_steps m s)
  capped_spawn (Soon task args at) = omega (arith, capped_expressions args)
  capped_spawn (After word delay task args at) = omega (arith, capped_expression delay, capped_expressions args)
  capped_spawn (Cancel word task handle at) = omega (arith, capped_expression handle)
  capped_spawn (Move word delay task handle at) = omega (arith, capped_expression delay, capped_expression handle)

  capped_bind : (v : Value) → bind_cost m v ≡ capped_cost (bind_steps m v)
  capped_bind (Calc e) = omega (arith, capped_expression e)
  capped_bind (Now at) = omega arith
  capped_bind (Call s) = omega (arith, capped_spawn s)

  mutual
    capped_statement : (s : Statement) → statement_cost m s ≡ capped_cost (statement_steps m s)
    capped_statement (Bind x v) = capped_bind v
    capped_statement (Assign x e at) = omega (arith, capped_expression e)
    capped_statement (Branch e first second) =
        ap (λ n. capped_cost (expression_cost e + 2 + n))
        (λ i. branch_cost m (capped_block first i) (capped_block second i))
        ∙ capped_branch m (block_steps m first) (block_steps m second) (expression_cost e)
        ∙ omega (arith, capped_expression e)
    capped_statement (Repeat x first last turn) =
        ap (λ n. capped_cost (4 + counted_turns m first last * (n + 6))) (capped_block turn)
        ∙ capped_turns (counted_turns m first last) (block_steps m turn)
    capped_statement (Locked r inner at) = omega (arith, capped_block inner)
    capped_statement (Emit e) = omega (arith, capped_expression e)
    capped_statement (Pend i) = omega arith
    capped_statement (Spawns s) = capped_spawn s

    capped_block : (b : Block) → block_cost m b ≡ capped_cost (block_steps m b)
    capped_block Empty = omega arith
    capped_block (Then s rest) = omega (arith, capped_statement s, capped_block rest)

pub cap_steps : CapSteps
cap_steps = record {
  expressions = capped_expression;
  spawns = capped_spawn;
  statements = capped_statement;
  blocks =
      capped_block;
}
