-- The statements and blocks of texts are printable, not too deep inside each other, and not too many.
use Rattle.std.proofs.Common.{◌≡◌, ℕ, zero, suc, ◌+◌, ◌-◌, ◌<◌, ◌≤◌, List, [], ◌∷◌, ◌++◌, Option, None, refl, arith}
use Rattle.std.specs.List.{AllByRecursion}
use Rattle.rt_ids.specs.declared.limit.Limit.{Limit}
use Rattle.rt_ids.specs.declared.limit.Limit.TheVariants as limit
use Rattle.rt_ids.specs.declared.limits.TheConstants.{NESTING, STATEMENTS, TURNS}
use Rattle.rt_ast.specs.Tree.{Statement, Block, Empty, Then, Spawn}
use Rattle.rt_ast.specs.PrintableBody.{IsPrintableExpression, IsPrintableSpawn, IsPrintableValue, IsPrintableStatement}
use Rattle.rt_ast.specs.PrintableBody.{ArePrintable, inner_blocks, blocks_of, statements_in, statements_of}
use Rattle.rt_grammar.specs.Tokens.{free}
use Rattle.rt_grammar.specs.Limits.{statement_limit, nesting_limit}
use Rattle.rt_grammar.specs.Spawn.{arguments, handle, soon, delayed_spawn, cancel, move, spawn, value}
use Rattle.rt_grammar.specs.Simple.{Counted, bind, assign, emit, pend, call}
use Rattle.rt_grammar.specs.Statement.{Blocks, branch, loop, further, lock, statement, joined_block, braced_block}
use Rattle.rt_grammar.specs.Statement.{block}
use Rattle.rt_grammar.specs.Statement.{inside}
use Rattle.rt_parse.proofs.Keeps.{Keeps, keeps_gives, keeps_then, keeps_or, keeps_or_else, keeps_never, keeps_repeat}
use Rattle.rt_parse.proofs.Keeps.{keeps_all}
use Rattle.rt_parse.proofs.KeepsTokens.{first_free, second_free, not_above, still_below, keeps_word, keeps_sign}
use Rattle.rt_parse.proofs.KeepsTokens.{keeps_name, keeps_number, keeps_list}
use Rattle.rt_parse.proofs.KeepsExpression.{keeps_expression}

few_before : (before : ℕ) → statement_limit before ≡ None → before < STATEMENTS
few_before before e = still_below STATEMENTS before limit.Statements e

not_too_deep : (nesting : ℕ) → nesting_limit nesting ≡ None → nesting ≤ NESTING
not_too_deep nesting e = not_above nesting NESTING limit.Nesting e

-- Spawns and values.

keeps_arguments : (most : ℕ) → Keeps (arguments most) (AllByRecursion IsPrintableExpression)
keeps_arguments most = keeps_then keeps_sign (λ at under. keeps_list (AllByRecursion IsPrintableExpression)
    (keeps_all (λ n. keeps_expression most)) [] tt)

-- a printable spawn, whose first word passes no limit
record IsSpawnTaken (what : Option Limit) (s : Spawn) : Type 0 where
  printable : IsPrintableSpawn s
  free : what ≡ None

keeps_soon : (most : ℕ) (what : Option Limit) → Keeps (soon most what) (IsSpawnTaken what)
keeps_soon most what =
    keeps_then keeps_word (λ at under. keeps_then keeps_name (λ task h. keeps_then (keeps_arguments most) (λ args all.
    keeps_gives (record { printable = (h.name, all); free = under }))))

keeps_after : (most : ℕ) (what : Option Limit) → Keeps (delayed_spawn most what) (IsSpawnTaken what)
keeps_after most what =
    keeps_then keeps_word (λ at under. keeps_then keeps_sign
    (λ opened k. keeps_then (keeps_expression most) (λ delay d. keeps_then keeps_sign (λ closed k.
    keeps_then keeps_name (λ task h. keeps_then (keeps_arguments most)
    (λ args all. keeps_gives (record { printable = (d, h.name, all); free = under })))))))

keeps_handle : (most : ℕ) → Keeps (handle most) IsPrintableExpression
keeps_handle most = keeps_then keeps_sign (λ opened under. keeps_then (keeps_expression most) (λ e h.
    keeps_then keeps_sign (λ closed under. keeps_gives h)))

keeps_cancel : (most : ℕ) (what : Option Limit) → Keeps (cancel most what) (IsSpawnTaken what)
keeps_cancel most what =
    keeps_then keeps_word (λ at under. keeps_then keeps_name (λ task h. keeps_then (keeps_handle most) (λ e k.
    keeps_gives (record { printable = (h.name, k); free = under }))))

keeps_move : (most : ℕ) (what : Option Limit) → Keeps (move most what) (IsSpawnTaken what)
keeps_move most what =
    keeps_then keeps_word (λ at under. keeps_then keeps_sign (λ opened k. keeps_then (keeps_expression most) (λ delay d.
    keeps_then keeps_sign (λ closed k. keeps_then keeps_name (λ task h. keeps_then (keeps_handle most) (λ e g.
    keeps_gives (record { printable = (d, h.name, g); free = under })))))))

keeps_spawn : (most : ℕ) (what : Option Limit) → Keeps (spawn most what) (IsSpawnTaken what)
keeps_spawn most what = keeps_or (keeps_soon most what)
    (keeps_or (keeps_after most what) (keeps_or (keeps_cancel most what) (keeps_move most what)))

keeps_value : (most : ℕ) → Keeps (value most) IsPrintableValue
keeps_value most =
    keeps_or (keeps_then keeps_word (λ at under. keeps_gives tt))
    (keeps_or (keeps_then (keeps_spawn most free) (λ s h. keeps_gives h.printable))
    (keeps_then (keeps_expression most) (λ e h. keeps_gives h)))

-- What is kept of a statement and of a block after so many statements: a block of this nesting, or a statement in one.

record IsStatementKept (nesting before : ℕ) (s : Counted Statement) : Type 0 where
  printable : IsPrintableStatement s.0
  shallow : inner_blocks s.0 + nesting ≤ NESTING
  count : s.1 ≡ before + statements_in s.0
  few : s.1 ≤ STATEMENTS

pub record IsBlockKept (nesting before : ℕ) (b : Counted Block) : Type 0 where
  pub printable : ArePrintable b.0
  pub shallow : blocks_of b.0 + nesting ≤ suc NESTING
  pub count : b.1 ≡ before + statements_of b.0
  pub few : b.1 ≤ STATEMENTS

record KeepsBlocks (blocks : Blocks) : Type 0 where
  kept : (nesting before : ℕ) → before ≤ STATEMENTS → Keeps (blocks nesting before) (IsBlockKept nesting before)

block_counts : (b : Block) → 1 ≤ blocks_of b
block_counts Empty = omega arith
block_counts (Then s rest) = omega arith

-- Statements.

module _ (nesting before : ℕ) (deep : nesting ≤ NESTING) where
  -- a statement with no block in it
  plain_kept : (s : Statement) → IsPrintableStatement s → inner_blocks s ≡ 0 → statements_in s ≡ 1
      → statement_limit before ≡ None → IsStatementKept nesting before (s, suc before)
  plain_kept s h none one under =
      let below = few_before before under in
      record { printable = h; shallow = omega arith; count = omega arith; few = omega arith }

  keeps_bind : (most : ℕ) → Keeps (bind most before) (IsStatementKept nesting before)
  keeps_bind most =
      keeps_then keeps_word (λ at under. keeps_then keeps_name
      (λ x h. keeps_then keeps_sign (λ equals k. keeps_then (keeps_value most) (λ v g.
      keeps_then keeps_sign (λ end k. keeps_gives (plain_kept _ (h.name, g) refl refl under))))))

  keeps_assign : (most : ℕ) → Keeps (assign most before) (IsStatementKept nesting before)
  keeps_assign most =
      keeps_then keeps_name (λ x h. keeps_then keeps_sign (λ equals k. keeps_then (keeps_expression most) (λ e g.
      keeps_then keeps_sign (λ end k. keeps_gives (plain_kept _ (h.name, g) refl refl h.free)))))

  keeps_emit : (most : ℕ) → Keeps (emit most before) (IsStatementKept nesting before)
  keeps_emit most =
      keeps_then keeps_word (λ at under. keeps_then (keeps_expression most)
      (λ e g. keeps_then keeps_sign (λ end k. keeps_gives (plain_kept _ g refl refl under))))

  keeps_pend : Keeps (pend before) (IsStatementKept nesting before)
  keeps_pend =
      keeps_then keeps_word (λ at under. keeps_then keeps_name
      (λ irq h. keeps_then keeps_sign (λ end k. keeps_gives (plain_kept _ h.name refl refl under))))

  keeps_call : (most : ℕ) → Keeps (call most before) (IsStatementKept nesting before)
  keeps_call most = keeps_then (keeps_spawn most (statement_limit before))
      (λ s h. keeps_then keeps_sign (λ end k. keeps_gives (plain_kept _ h.printable refl refl h.free)))

  -- statements with blocks in them
  module _ (most : ℕ) (blocks insides : Blocks) (keeps : KeepsBlocks blocks) (keeps' : KeepsBlocks insides) where
    keeps_branch : Keeps (branch most blocks nesting before) (IsStatementKept nesting before)
    keeps_branch =
        keeps_then keeps_word (λ at under.
        let below = few_before before under in
        keeps_then (keeps_expression most) (λ e g.
        keeps_then (keeps.kept (suc nesting) (suc before) (omega arith)) (λ first h.
        let some = block_counts first.0 in
        keeps_then (keeps_or_else {P = IsBlockKept (suc nesting) first.1}
        (record { printable = tt; shallow = omega arith; count = omega arith; few = h.few })
        (keeps_then keeps_word (λ at under. keeps.kept (suc nesting) first.1 h.few))) (λ second k.
        keeps_gives (record {
          printable = (g, h.printable, k.printable);
          shallow = omega arith;
          count = omega arith;
          few = k.few;
        })))))

    keeps_loop : Keeps (loop blocks nesting before) (IsStatementKept nesting before)
    keeps_loop =
        keeps_then keeps_word (λ at under.
        let below = few_before before under in
        keeps_then keeps_name (λ x h. keeps_then keeps_word
        (λ among k. keeps_then keeps_number (λ first m. keeps_then keeps_sign (λ dots k.
        keeps_then keeps_number (λ last n. keeps_then (keeps.kept (suc nesting) (suc before) (omega arith)) (λ turn b.
        keeps_gives (record {
          printable = (
            h.name,
            m.number,
            n.number,
            not_above (last.value - first.value) TURNS limit.Turns n.free,
            b.printable,
          );
          shallow = omega arith;
          count = omega arith;
          few = b.few;
        }))))))))

    keeps_lock : Keeps (lock insides nesting before) (IsStatementKept nesting before)
    keeps_lock =
        keeps_then keeps_word (λ at under.
        let below = few_before before under in
        keeps_then keeps_name (λ r h. keeps_then (keeps'.kept (suc nesting) (suc before) (omega arith)) (λ inner b.
        keeps_gives (record {
          printable = (h.name, b.printable);
          shallow = omega arith;
          count = omega arith;
          few =
              b.few;
        }))))

    keeps_statement : Keeps (statement most blocks insides nesting before) (IsStatementKept nesting before)
    keeps_statement =
        keeps_or (keeps_bind most) (keeps_or (keeps_assign most)
        (keeps_or keeps_branch (keeps_or keeps_loop (keeps_or keeps_lock
        (keeps_or (keeps_emit most) (keeps_or keeps_pend (keeps_call most)))))))

-- Blocks.

printable_with : (xs : List Statement) (s : Statement) → ArePrintable (joined_block xs) → IsPrintableStatement s
    → ArePrintable (joined_block (xs ++ s ∷ []))
printable_with [] s all h = (h, tt)
printable_with (x ∷ xs) s (first, all) h = (first, printable_with xs s all h)

blocks_with : (xs : List Statement) (s : Statement) (nesting most : ℕ) → blocks_of (joined_block xs) + nesting ≤ most
    → 1
    + inner_blocks s + nesting ≤ most → blocks_of (joined_block (xs ++ s ∷ [])) + nesting ≤ most
blocks_with [] s nesting most h k = omega arith
blocks_with (x ∷ xs) s nesting most h k =
    let rest : blocks_of (joined_block (xs ++ s ∷ [])) + nesting ≤ most =
    blocks_with xs s nesting most (omega arith) k in
    omega arith

statements_with : (xs : List Statement) (s : Statement) → statements_of (joined_block (xs ++ s ∷ []))
    ≡ statements_of (joined_block xs) + statements_in s
statements_with [] s = omega arith
statements_with (x ∷ xs) s = omega (arith, statements_with xs s)

-- the statements of a block so far
abbrev AreKept : ℕ → ℕ → Counted (List Statement) → Type 0
AreKept nesting before all = IsBlockKept nesting before (joined_block all.0, all.1)

one_more_kept : (nesting before : ℕ) (all : Counted (List Statement)) (s : Counted Statement)
    → AreKept nesting before all → IsStatementKept nesting all.1 s → AreKept nesting before (all.0 ++ s.0 ∷ [], s.1)
one_more_kept nesting before all s h k = record {
  printable = printable_with all.0 s.0 h.printable k.printable;
  shallow = blocks_with all.0 s.0 nesting (suc NESTING) h.shallow (omega arith);
  count = omega (arith, statements_with all.0 s.0);
  few = k.few;
}

module _ (most : ℕ) (blocks insides : Blocks) (keeps : KeepsBlocks blocks) (keeps' : KeepsBlocks insides)
    (nesting before : ℕ) (few : before ≤ STATEMENTS) where
  keeps_braced : Keeps (braced_block most blocks insides nesting before) (IsBlockKept nesting before)
  keeps_braced =
      keeps_then keeps_sign (λ at under.
      let deep = not_too_deep nesting under in
      keeps_then (keeps_repeat (AreKept nesting before) (λ all h. keeps_then
      (keeps_statement nesting all.1 deep most blocks insides keeps keeps')
      (λ s k. keeps_gives (one_more_kept nesting before all s h k)))
      ([], before) (record { printable = tt; shallow = omega arith; count = omega arith; few = few })) (λ all h.
      keeps_then keeps_sign (λ end k. keeps_gives h)))

  keeps_further : Keeps (further insides nesting before) (IsBlockKept nesting before)
  keeps_further =
      keeps_then keeps_sign (λ at under. keeps_then keeps_name (λ r h.
      let deep = not_too_deep nesting (first_free (nesting_limit nesting) (statement_limit before) h.free) in
      let below = few_before before (second_free (nesting_limit nesting) (statement_limit before) h.free) in
      keeps_then (keeps'.kept (suc nesting) (suc before) (omega arith)) (λ inner b.
      keeps_gives (record {
        printable = ((h.name, b.printable), tt);
        shallow = omega arith;
        count = omega arith;
        few =
            b.few;
      }))))

record KeepsBoth (most deep : ℕ) : Type 0 where
  blocks : KeepsBlocks (block most deep)
  insides : KeepsBlocks (inside most deep)

keeps_both : (most deep : ℕ) → KeepsBoth most deep
keeps_both most zero = record {
  blocks = record { kept = λ nesting before few. keeps_never };
  insides =
      record { kept = λ nesting before few. keeps_never };
}
keeps_both most (suc deep) =
    let inner = keeps_both most deep in
    let blocks = block most deep in
    let insides = inside most deep in
    record {
      blocks = record {
        kept = λ nesting before few. keeps_braced most blocks insides inner.blocks inner.insides nesting
            before few;
      };
      insides = record {
        kept = λ nesting before few. keeps_or (keeps_braced most blocks insides inner.blocks inner.insides nesting
            before few) (keeps_further most blocks insides inner.blocks inner.insides nesting before few);
      };
    }

-- the block of a body
pub keeps_block : (most : ℕ) → Keeps (block most most 1 0) (IsBlockKept 1 0)
keeps_block most = (keeps_both most most).blocks.kept 1 0 (omega arith)
