-- The tokens of statements and blocks.
use Rattle.std.proofs.Common.{ℕ, zero, suc, codes, [], Option}
use Rattle.rt_ids.specs.declared.limit.Limit.{Limit}
use Rattle.rt_grammar.specs.Tokens.{free}
use Rattle.rt_grammar.specs.Limits.{turn_limit}
use Rattle.rt_grammar.specs.Spawn.{arguments, handle, soon, delayed_spawn, cancel, move, spawn, value}
use Rattle.rt_grammar.specs.Simple.{bind, assign, emit, pend, call}
use Rattle.rt_grammar.specs.Statement.{Blocks, branch, loop, further, lock, statement, braced_block, block, inside}
use Rattle.rt_parse.proofs.Known.{Known, known_gives, known_then, known_or, known_or_else, known_never, known_repeat}
use Rattle.rt_parse.proofs.Known.{known_word, known_sign, known_name, known_number, known_list, known_adds}
use Rattle.rt_parse.proofs.Known.{known_expression}

known_arguments : (most : ℕ) → Known (arguments most)
known_arguments most = known_then known_sign (λ at. known_list (codes ")")
    (known_adds (λ before. known_expression most)) [])

known_soon : (most : ℕ) (what : Option Limit) → Known (soon most what)
known_soon most what = known_then known_word (λ at. known_then (known_name _)
    (λ task. known_then (known_arguments most) (λ args. known_gives _)))

known_after : (most : ℕ) (what : Option Limit) → Known (delayed_spawn most what)
known_after most what = known_then known_word (λ at. known_then known_sign
    (λ paren. known_then (known_expression most) (λ delay. known_then known_sign
    (λ end. known_then (known_name _) (λ task. known_then (known_arguments most) (λ args. known_gives _))))))

known_handle : (most : ℕ) → Known (handle most)
known_handle most =
    known_then known_sign (λ at. known_then (known_expression most) (λ e. known_then known_sign (λ end. known_gives e)))

known_cancel : (most : ℕ) (what : Option Limit) → Known (cancel most what)
known_cancel most what = known_then known_word
    (λ at. known_then (known_name _) (λ task. known_then (known_handle most) (λ h. known_gives _)))

known_move : (most : ℕ) (what : Option Limit) → Known (move most what)
known_move most what =
    known_then known_word (λ at. known_then known_sign (λ paren. known_then (known_expression most)
    (λ delay. known_then known_sign (λ end. known_then (known_name _)
    (λ task. known_then (known_handle most) (λ h. known_gives _))))))

known_spawn : (most : ℕ) (what : Option Limit) → Known (spawn most what)
known_spawn most what = known_or (known_soon most what)
    (known_or (known_after most what) (known_or (known_cancel most what) (known_move most what)))

known_value : (most : ℕ) → Known (value most)
known_value most = known_or (known_then known_word (λ at. known_gives _))
    (known_or (known_then (known_spawn most free) (λ s. known_gives _))
    (known_then (known_expression most) (λ e. known_gives _)))

known_bind : (most n : ℕ) → Known (bind most n)
known_bind most n = known_then known_word (λ at. known_then (known_name _)
    (λ x. known_then known_sign (λ at. known_then (known_value most)
    (λ v. known_then known_sign (λ end. known_gives _)))))

known_assign : (most n : ℕ) → Known (assign most n)
known_assign most n = known_then (known_name _) (λ x. known_then known_sign
    (λ at. known_then (known_expression most) (λ e. known_then known_sign (λ end. known_gives _))))

known_emit : (most n : ℕ) → Known (emit most n)
known_emit most n = known_then known_word (λ at. known_then (known_expression most)
    (λ e. known_then known_sign (λ end. known_gives _)))

known_pend : (n : ℕ) → Known (pend n)
known_pend n = known_then known_word (λ at. known_then (known_name _)
    (λ irq. known_then known_sign (λ end. known_gives _)))

known_call : (most n : ℕ) → Known (call most n)
known_call most n = known_then (known_spawn most _) (λ s. known_then known_sign (λ end. known_gives _))

module _ (most : ℕ) (blocks insides : Blocks) (known : (nesting n : ℕ) → Known (blocks nesting n))
    (known' : (nesting n : ℕ) → Known (insides nesting n)) (nesting n : ℕ) where
  known_branch : Known (branch most blocks nesting n)
  known_branch = known_then known_word (λ at. known_then (known_expression most)
      (λ e. known_then (known _ _) (λ first. known_then (known_or_else _ (known_then known_word (λ at. known _ _)))
      (λ second. known_gives _))))

  known_loop : Known (loop blocks nesting n)
  known_loop = known_then known_word (λ at. known_then (known_name _)
      (λ x. known_then known_word (λ at. known_then (known_number (λ n. free))
      (λ first. known_then known_sign (λ at. known_then (known_number (turn_limit first.value))
      (λ last. known_then (known _ _) (λ turn. known_gives _)))))))

  known_further : Known (further insides nesting n)
  known_further = known_then known_sign (λ at. known_then (known_name _)
      (λ r. known_then (known' _ _) (λ inner. known_gives _)))

  known_lock : Known (lock insides nesting n)
  known_lock = known_then known_word (λ at. known_then (known_name _)
      (λ r. known_then (known' _ _) (λ inner. known_gives _)))

  known_statement : Known (statement most blocks insides nesting n)
  known_statement = known_or (known_bind most n) (known_or (known_assign most n)
      (known_or known_branch (known_or known_loop (known_or known_lock
      (known_or (known_emit most n) (known_or (known_pend n) (known_call most n)))))))

module _ (most : ℕ) (blocks insides : Blocks) (known : (nesting n : ℕ) → Known (blocks nesting n))
    (known' : (nesting n : ℕ) → Known (insides nesting n)) (nesting n : ℕ) where
  known_braced : Known (braced_block most blocks insides nesting n)
  known_braced = known_then known_sign
      (λ at. known_then (known_repeat (λ s. known_then (known_statement most blocks insides known known' nesting s.1)
      (λ x. known_gives _)) _) (λ all. known_then known_sign (λ end. known_gives _)))

record KnownBlocks (most deep : ℕ) : Type 0 where
  blocks : (nesting n : ℕ) → Known (block most deep nesting n)
  insides : (nesting n : ℕ) → Known (inside most deep nesting n)

known_blocks : (most deep : ℕ) → KnownBlocks most deep
known_blocks most zero = record { blocks = λ nesting n. known_never; insides = λ nesting n. known_never }
known_blocks most (suc deep) =
    let below = known_blocks most deep in
    record {
      blocks = λ nesting n. known_braced most (block most deep) (inside most deep) below.blocks below.insides nesting n;
      insides = λ nesting n. known_or (known_braced most (block most deep) (inside most deep) below.blocks below.insides
          nesting n) (known_further most (block most deep) (inside most deep) below.blocks below.insides nesting n);
    }

pub known_block : (most deep nesting n : ℕ) → Known (block most deep nesting n)
known_block most deep = (known_blocks most deep).blocks
