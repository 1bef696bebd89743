-- Statements and blocks with more parentheses and more blocks allowed inside each other.
use Rattle.std.proofs.Common.{ℕ, zero, suc, ◌≤◌, codes, List, [], ◌∷◌, ◌++◌, Option, arith}
use Rattle.rt_ids.specs.declared.limit.Limit.{Limit}
use Rattle.rt_ast.specs.Tree.{Statement, Then, Locked, Empty, Branch, Repeat, Bind, Assign, Emit, Spawns, Calc, Call}
use Rattle.rt_ast.specs.Tree.{Now, Soon, After, Cancel, Move}
use Rattle.rt_grammar.specs.Language.{gives, ◌>>=◌, ◌>>◌}
use Rattle.rt_grammar.specs.Tokens.{free, first_of, word, limited_word, sign, limited_sign, name, limited_name, number}
use Rattle.rt_grammar.specs.Tokens.{limited_number}
use Rattle.rt_grammar.specs.Limits.{statement_limit, nesting_limit, turn_limit}
use Rattle.rt_grammar.specs.Spawn.{arguments, handle, soon, delayed_spawn, cancel, move, spawn, value}
use Rattle.rt_grammar.specs.Simple.{Counted, bind, assign, emit, pend, call}
use Rattle.rt_grammar.specs.Statement.{Blocks, branch, loop, further, lock, statement, one_more, joined_block}
use Rattle.rt_grammar.specs.Statement.{braced_block}
use Rattle.rt_grammar.specs.Statement.{block, inside}
use Rattle.rt_parse.proofs.Larger.{Grows, grows_same, grows_never, grows_then, grows_behind, grows_before, grows_or}
use Rattle.rt_parse.proofs.Larger.{grows_or_else, grows_repeat, grows_list, grows_adds}
use Rattle.rt_parse.proofs.LargerExpression.{larger_expression}

pub larger_arguments : (m n : ℕ) → m ≤ n → Grows (arguments m) (arguments n)
larger_arguments m n most = grows_behind (sign (codes "(")) (λ at. grows_list (codes ")")
    (grows_adds (λ before. larger_expression m n most)) [])

pub larger_soon : (m n : ℕ) → m ≤ n → (what : Option Limit) → Grows (soon m what) (soon n what)
larger_soon m n most what =
    grows_behind (limited_word (codes "spawn") what) (λ at.
    grows_behind name (λ task. grows_before (λ args. gives (Soon task args)) (larger_arguments m n most)))

pub larger_after : (m n : ℕ) → m ≤ n → (what : Option Limit) → Grows (delayed_spawn m what) (delayed_spawn n what)
larger_after m n most what =
    grows_behind (limited_word (codes "spawn_after") what) (λ at.
    grows_behind (sign (codes "(")) (λ opened.
    grows_then (larger_expression m n most) (λ delay.
    grows_behind (sign (codes ")")) (λ closed.
    grows_behind name (λ task. grows_before (λ args. gives (After at delay task args)) (larger_arguments m n most))))))

larger_handle : (m n : ℕ) → m ≤ n → Grows (handle m) (handle n)
larger_handle m n most =
    grows_behind (sign (codes "(")) (λ at. grows_before (λ e. sign (codes ")") >> gives e) (larger_expression m n most))

larger_cancel : (m n : ℕ) → m ≤ n → (what : Option Limit) → Grows (cancel m what) (cancel n what)
larger_cancel m n most what =
    grows_behind (limited_word (codes "cancel") what) (λ at.
    grows_behind name (λ task. grows_before (λ h. gives (Cancel at task h)) (larger_handle m n most)))

larger_move : (m n : ℕ) → m ≤ n → (what : Option Limit) → Grows (move m what) (move n what)
larger_move m n most what =
    grows_behind (limited_word (codes "reschedule_after") what) (λ at.
    grows_behind (sign (codes "(")) (λ opened.
    grows_then (larger_expression m n most) (λ delay.
    grows_behind (sign (codes ")")) (λ closed.
    grows_behind name (λ task. grows_before (λ h. gives (Move at delay task h)) (larger_handle m n most))))))

pub larger_spawn : (m n : ℕ) → m ≤ n → (what : Option Limit) → Grows (spawn m what) (spawn n what)
larger_spawn m n most what = grows_or (larger_soon m n most what)
    (grows_or (larger_after m n most what) (grows_or (larger_cancel m n most what) (larger_move m n most what)))

pub larger_value : (m n : ℕ) → m ≤ n → Grows (value m) (value n)
larger_value m n most =
    grows_or (grows_same (word (codes "now") >>= λ at. gives (Now at)))
    (grows_or (grows_before (λ s. gives (Call s)) (larger_spawn m n most free))
    (grows_before (λ e. gives (Calc e)) (larger_expression m n most)))

pub larger_bind : (m n : ℕ) → m ≤ n → (before : ℕ) → Grows (bind m before) (bind n before)
larger_bind m n most before =
    grows_behind (limited_word (codes "let") (statement_limit before)) (λ at.
    grows_behind name (λ x.
    grows_behind (sign (codes "=")) (λ equals.
    grows_before (λ v. sign (codes ";") >> gives (Bind x v, suc before)) (larger_value m n most))))

pub larger_assign : (m n : ℕ) → m ≤ n → (before : ℕ) → Grows (assign m before) (assign n before)
larger_assign m n most before =
    grows_behind (limited_name (statement_limit before)) (λ x.
    grows_behind (sign (codes "=")) (λ equals.
    grows_before (λ e. sign (codes ";") >> gives (Assign x e, suc before)) (larger_expression m n most)))

pub larger_emit : (m n : ℕ) → m ≤ n → (before : ℕ) → Grows (emit m before) (emit n before)
larger_emit m n most before =
    grows_behind (limited_word (codes "emit") (statement_limit before)) (λ at.
    grows_before (λ e. sign (codes ";") >> gives (Emit e, suc before)) (larger_expression m n most))

pub larger_call : (m n : ℕ) → m ≤ n → (before : ℕ) → Grows (call m before) (call n before)
larger_call m n most before = grows_before (λ s. sign (codes ";") >> gives (Spawns s, suc before))
    (larger_spawn m n most (statement_limit before))

-- each of some blocks is one of others
abbrev pub BlocksGrow : Blocks → Blocks → Type 0
BlocksGrow inner wider = (nesting before : ℕ) → Grows (inner nesting before) (wider nesting before)

pub larger_branch : (m n : ℕ) → m ≤ n → {inner wider : Blocks} → BlocksGrow inner wider → (nesting before : ℕ)
    → Grows (branch m inner nesting before) (branch n wider nesting before)
larger_branch m n most grows nesting before =
    grows_behind (limited_word (codes "if") (statement_limit before)) (λ at.
    grows_then (larger_expression m n most) (λ e.
    grows_then (grows (suc nesting) (suc before)) (λ first.
    grows_before (λ second. gives (Branch e first.0 second.0, second.1))
    (grows_or_else (Empty, first.1) (grows_behind (word (codes "else")) (λ at. grows (suc nesting) first.1))))))

pub grows_loop : {inner wider : Blocks} → BlocksGrow inner wider → (nesting before : ℕ)
    → Grows (loop inner nesting before) (loop wider nesting before)
grows_loop grows nesting before =
    grows_behind (limited_word (codes "for") (statement_limit before)) (λ at.
    grows_behind name (λ x.
    grows_behind (word (codes "in")) (λ among.
    grows_behind number (λ first.
    grows_behind (sign (codes "..")) (λ dots.
    grows_behind (limited_number (turn_limit first.value)) (λ last.
    grows_before (λ turn. gives (Repeat x first.value last.value turn.0, turn.1))
    (grows (suc nesting) (suc before))))))))

pub grows_further : {inner wider : Blocks} → BlocksGrow inner wider → BlocksGrow (further inner) (further wider)
grows_further grows nesting before =
    grows_behind (sign (codes ",")) (λ at.
    grows_behind (limited_name (first_of (nesting_limit nesting) (statement_limit before))) (λ r.
    grows_before (λ inner. gives (Then (Locked r inner.0) Empty, inner.1)) (grows (suc nesting) (suc before))))

pub grows_lock : {inner wider : Blocks} → BlocksGrow inner wider → (nesting before : ℕ)
    → Grows (lock inner nesting before) (lock wider nesting before)
grows_lock grows nesting before =
    grows_behind (limited_word (codes "lock") (statement_limit before)) (λ at.
    grows_behind name (λ r.
    grows_before (λ inner. gives (Locked r inner.0, inner.1)) (grows (suc nesting) (suc before))))

pub larger_statement : (m n : ℕ) → m ≤ n → {blocks blocks' insides insides' : Blocks} → BlocksGrow blocks blocks'
    → BlocksGrow insides insides'
    → (nesting before : ℕ) → Grows (statement m blocks insides nesting before)
    (statement n blocks' insides' nesting before)
larger_statement m n most blocks insides nesting before =
    grows_or (larger_bind m n most before)
    (grows_or (larger_assign m n most before)
    (grows_or (larger_branch m n most blocks nesting before)
    (grows_or (grows_loop blocks nesting before)
    (grows_or (grows_lock insides nesting before)
    (grows_or (larger_emit m n most before)
    (grows_or (grows_same (pend before)) (larger_call m n most before)))))))

pub larger_one_more : (m n : ℕ) → m ≤ n → {blocks blocks' insides insides' : Blocks} → BlocksGrow blocks blocks'
    → BlocksGrow insides insides'
    → (nesting : ℕ) (so_far : Counted (List Statement)) → Grows (one_more m blocks insides nesting so_far)
    (one_more n blocks' insides' nesting so_far)
larger_one_more m n most blocks insides nesting so_far =
    grows_before (λ s. gives (so_far.0 ++ s.0 ∷ [], s.1)) (larger_statement m n most blocks insides nesting so_far.1)

pub larger_braced : (m n : ℕ) → m ≤ n → {blocks blocks' insides insides' : Blocks} → BlocksGrow blocks blocks'
    → BlocksGrow insides insides'
    → BlocksGrow (braced_block m blocks insides) (braced_block n blocks' insides')
larger_braced m n most blocks insides nesting before =
    grows_behind (limited_sign (codes "{") (nesting_limit nesting)) (λ at.
    grows_before (λ all. sign (codes "}") >> gives (joined_block all.0, all.1))
    (grows_repeat (larger_one_more m n most blocks insides nesting) ([], before)))

-- what is in braces and what follows a lock's name grow together
record BothGrow (m deep n deeper : ℕ) : Type 0 where
  blocks : BlocksGrow (block m deep) (block n deeper)
  insides : BlocksGrow (inside m deep) (inside n deeper)

both_grow : (m n : ℕ) → m ≤ n → (deep deeper : ℕ) → deep ≤ deeper → BothGrow m deep n deeper
both_grow m n most zero deeper depth = record {
  blocks = λ nesting before. grows_never _;
  insides =
      λ nesting before. grows_never _;
}
both_grow m n most (suc deep) zero depth = absurd (omega arith)
both_grow m n most (suc deep) (suc deeper) depth =
    let inner : BothGrow m deep n deeper = both_grow m n most deep deeper (omega arith) in
    let braces : BlocksGrow (block m (suc deep)) (block n (suc deeper)) =
    larger_braced m n most inner.blocks inner.insides in
    record {
      blocks = braces;
      insides = λ nesting before. grows_or (braces nesting before) (grows_further inner.insides nesting before);
    }

pub larger_block : (m n : ℕ) → m ≤ n → (deep deeper : ℕ) → deep ≤ deeper → BlocksGrow (block m deep) (block n deeper)
larger_block m n most deep deeper depth = (both_grow m n most deep deeper depth).blocks
