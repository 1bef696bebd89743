-- The readers of statements take a token at least.
use Rattle.std.proofs.Common.{ℕ, zero, suc, ◌-◌, codes, List, [], length, Option, None}
use Rattle.rt_lex.specs.Token.{is_this_word, is_this_sign}
use Rattle.rt_ids.specs.declared.limit.Limit.{Limit}
use Rattle.rt_ast.specs.Tree.{Statement, Block}
use Rattle.rt_grammar.specs.Simple.{Counted}
use Rattle.rt_parse.specs.Inside.Reading.{Reader, begins_with, repeat_at, fault_found_at}
use Rattle.rt_parse.specs.Inside.ReadingList.{adds_at}
use Rattle.rt_parse.specs.Inside.ReadingExpression.{is_name, expression_at}
use Rattle.rt_parse.specs.Inside.ReadingSpawn.{arguments_at, enclosed_expression_at, delayed_task_at, soon_at, after_at}
use Rattle.rt_parse.specs.Inside.ReadingSpawn.{cancel_at}
use Rattle.rt_parse.specs.Inside.ReadingSpawn.{move_at, spawn_at, now_at, call_value_at, calc_at, value_at, is_spawn}
use Rattle.rt_parse.specs.Inside.ReadingSimple.{bind_at, assign_at, emit_at, pend_at, call_at}
use Rattle.rt_parse.specs.Inside.ReadingNested.{else_at, branch_at, loop_at, further_at, lock_at}
use Rattle.rt_parse.specs.Inside.ReadingStatement.{statement_at, one_more_at, is_inside, braced_block_at}
use Rattle.rt_parse.specs.Inside.ReadingStatement.{closed_block_at, nothing_at, block_at, inside_at}
use Rattle.rt_parse.proofs.Shorter.{IsShorter, IsNoLonger, shorter_no_longer, shorter_then, no_longer_then}
use Rattle.rt_parse.proofs.Shorter.{no_longer_ok, shorter_err, shorter_if, no_longer_if, shorter_token}
use Rattle.rt_parse.proofs.Shorter.{no_longer_repeat}
use Rattle.rt_parse.proofs.ShorterExpression.{shorter_expression}
use Rattle.rt_parse.proofs.Lists.{no_longer_items, shorter_adds}

pub shorter_arguments : IsShorter arguments_at
unfolding arguments_at
shorter_arguments =
    shorter_then (shorter_token _ _) (λ _ tokens. no_longer_items (codes ")") (adds_at (λ before. expression_at))
    (λ xs. shorter_no_longer (shorter_adds (λ before. expression_at) (λ before. shorter_expression) xs))
    (length tokens) [] tokens)

shorter_enclosed : IsShorter enclosed_expression_at
unfolding enclosed_expression_at
shorter_enclosed = shorter_then (shorter_token _ _) (λ _. no_longer_then (shorter_no_longer shorter_expression)
    (λ _. no_longer_then (shorter_no_longer (shorter_token _ _)) (λ _. no_longer_ok _)))

shorter_delayed : IsShorter delayed_task_at
unfolding delayed_task_at
shorter_delayed = shorter_then shorter_enclosed
    (λ _. no_longer_then (shorter_no_longer (shorter_token _ _)) (λ _. no_longer_ok _))

pub shorter_soon : (what : Option Limit) → IsShorter (soon_at what)
unfolding soon_at
shorter_soon what =
    shorter_then (shorter_token _ _) (λ _. no_longer_then (shorter_no_longer (shorter_token _ _))
    (λ _. no_longer_then (shorter_no_longer shorter_arguments) (λ _. no_longer_ok _)))

pub shorter_after : (what : Option Limit) → IsShorter (after_at what)
unfolding after_at
shorter_after what =
    shorter_then (shorter_token _ _) (λ _. no_longer_then (shorter_no_longer shorter_delayed)
    (λ _. no_longer_then (shorter_no_longer shorter_arguments) (λ _. no_longer_ok _)))

shorter_cancel : (what : Option Limit) → IsShorter (cancel_at what)
unfolding cancel_at
shorter_cancel what =
    shorter_then (shorter_token _ _) (λ _. no_longer_then (shorter_no_longer (shorter_token _ _))
    (λ _. no_longer_then (shorter_no_longer shorter_enclosed) (λ _. no_longer_ok _)))

shorter_move : (what : Option Limit) → IsShorter (move_at what)
unfolding move_at
shorter_move what =
    shorter_then (shorter_token _ _) (λ _. no_longer_then (shorter_no_longer shorter_delayed)
    (λ _. no_longer_then (shorter_no_longer shorter_enclosed) (λ _. no_longer_ok _)))

pub shorter_spawn : (what : Option Limit) → IsShorter (spawn_at what)
unfolding spawn_at
shorter_spawn what =
    shorter_if (begins_with (is_this_word (codes "spawn"))) _ _ (shorter_soon what)
    (shorter_if (begins_with (is_this_word (codes "spawn_after"))) _ _ (shorter_after what)
    (shorter_if (begins_with (is_this_word (codes "cancel"))) _ _ (shorter_cancel what) (shorter_move what)))

pub shorter_value : IsShorter value_at
unfolding value_at now_at call_value_at calc_at
shorter_value =
    shorter_if (begins_with (is_this_word (codes "now"))) _ _ (shorter_then (shorter_token _ _) (λ _. no_longer_ok _))
    (shorter_if (begins_with is_spawn) _ _ (shorter_then (shorter_spawn None) (λ _. no_longer_ok _))
    (shorter_then shorter_expression (λ _. no_longer_ok _)))

pub shorter_bind : (room : ℕ) → IsShorter (bind_at room)
unfolding bind_at
shorter_bind room =
    shorter_then (shorter_token _ _) (λ _. no_longer_then (shorter_no_longer (shorter_token _ _))
    (λ _. no_longer_then (shorter_no_longer (shorter_token _ _))
    (λ _. no_longer_then (shorter_no_longer shorter_value)
    (λ _. no_longer_then (shorter_no_longer (shorter_token _ _)) (λ _. no_longer_ok _)))))

pub shorter_assign : (room : ℕ) → IsShorter (assign_at room)
unfolding assign_at
shorter_assign room =
    shorter_then (shorter_token _ _) (λ _. no_longer_then (shorter_no_longer (shorter_token _ _))
    (λ _. no_longer_then (shorter_no_longer shorter_expression)
    (λ _. no_longer_then (shorter_no_longer (shorter_token _ _)) (λ _. no_longer_ok _))))

pub shorter_emit : (room : ℕ) → IsShorter (emit_at room)
unfolding emit_at
shorter_emit room =
    shorter_then (shorter_token _ _) (λ _. no_longer_then (shorter_no_longer shorter_expression)
    (λ _. no_longer_then (shorter_no_longer (shorter_token _ _)) (λ _. no_longer_ok _)))

pub shorter_pend : (room : ℕ) → IsShorter (pend_at room)
unfolding pend_at
shorter_pend room =
    shorter_then (shorter_token _ _) (λ _. no_longer_then (shorter_no_longer (shorter_token _ _))
    (λ _. no_longer_then (shorter_no_longer (shorter_token _ _)) (λ _. no_longer_ok _)))

pub shorter_call : (room : ℕ) → IsShorter (call_at room)
unfolding call_at
shorter_call room =
    shorter_then (shorter_spawn _) (λ _. no_longer_then (shorter_no_longer (shorter_token _ _)) (λ _. no_longer_ok _))

-- readers of blocks that take a token at least
abbrev AreShorter : (ℕ → Reader (Counted Block)) → Type 0
AreShorter block = (room : ℕ) → IsShorter (block room)

pub no_longer_else : (block : ℕ → Reader (Counted Block)) → AreShorter block → (room : ℕ)
    → IsNoLonger (else_at block room)
unfolding else_at
no_longer_else block h room =
    no_longer_if (begins_with (is_this_word (codes "else"))) _ _
    (shorter_no_longer (shorter_then (shorter_token _ _) (λ _. shorter_no_longer (h room)))) (no_longer_ok _)

pub shorter_branch : (block : ℕ → Reader (Counted Block)) → AreShorter block → (room : ℕ)
    → IsShorter (branch_at block room)
unfolding branch_at
shorter_branch block h room =
    shorter_then (shorter_token _ _) (λ _. no_longer_then (shorter_no_longer shorter_expression)
    (λ _. no_longer_then (shorter_no_longer (h (room - 1)))
    (λ first. no_longer_then (no_longer_else block h first.1) (λ _. no_longer_ok _))))

pub shorter_loop : (block : ℕ → Reader (Counted Block)) → AreShorter block → (room : ℕ) → IsShorter (loop_at block room)
unfolding loop_at
shorter_loop block h room =
    shorter_then (shorter_token _ _) (λ _. no_longer_then (shorter_no_longer (shorter_token _ _))
    (λ _. no_longer_then (shorter_no_longer (shorter_token _ _))
    (λ _. no_longer_then (shorter_no_longer (shorter_token _ _))
    (λ _. no_longer_then (shorter_no_longer (shorter_token _ _))
    (λ _. no_longer_then (shorter_no_longer (shorter_token _ _))
    (λ _. no_longer_then (shorter_no_longer (h (room - 1))) (λ _. no_longer_ok _)))))))

pub shorter_further : (inside : ℕ → Reader (Counted Block)) → AreShorter inside → (left room : ℕ)
    → IsShorter (further_at inside left room)
unfolding further_at
shorter_further inside h left room =
    shorter_then (shorter_token _ _) (λ _. no_longer_then (shorter_no_longer (shorter_token _ _))
    (λ _. no_longer_then (shorter_no_longer (h (room - 1))) (λ _. no_longer_ok _)))

pub shorter_lock : (inside : ℕ → Reader (Counted Block)) → AreShorter inside → (room : ℕ)
    → IsShorter (lock_at inside room)
unfolding lock_at
shorter_lock inside h room =
    shorter_then (shorter_token _ _) (λ _. no_longer_then (shorter_no_longer (shorter_token _ _))
    (λ _. no_longer_then (shorter_no_longer (h (room - 1))) (λ _. no_longer_ok _)))

pub shorter_statement : (block inside : ℕ → Reader (Counted Block)) → AreShorter block → AreShorter inside → (room : ℕ)
    → IsShorter (statement_at block inside room)
unfolding statement_at
shorter_statement block inside h k room =
    shorter_if (begins_with is_name) _ _ (shorter_assign room)
    (shorter_if (begins_with (is_this_word (codes "let"))) _ _ (shorter_bind room)
    (shorter_if (begins_with (is_this_word (codes "if"))) _ _ (shorter_branch block h room)
    (shorter_if (begins_with (is_this_word (codes "for"))) _ _ (shorter_loop block h room)
    (shorter_if (begins_with (is_this_word (codes "lock"))) _ _ (shorter_lock inside k room)
    (shorter_if (begins_with (is_this_word (codes "emit"))) _ _ (shorter_emit room)
    (shorter_if (begins_with (is_this_word (codes "pend"))) _ _ (shorter_pend room) (shorter_call room)))))))

pub shorter_one_more : (block inside : ℕ → Reader (Counted Block)) → AreShorter block → AreShorter inside
    → (so_far : Counted (List Statement)) → IsShorter (one_more_at block inside so_far)
unfolding one_more_at
shorter_one_more block inside h k so_far =
    shorter_then (shorter_statement block inside h k so_far.1) (λ _. no_longer_ok _)

pub shorter_braced : (block inside : ℕ → Reader (Counted Block)) → AreShorter block → AreShorter inside → (room : ℕ)
    → IsShorter (braced_block_at block inside room)
unfolding braced_block_at
shorter_braced block inside h k room =
    shorter_then (shorter_token _ _) (λ _. no_longer_then {reader =
    λ ts. repeat_at is_inside (one_more_at block inside) (length ts) ([], room) ts}
    (λ ts. no_longer_repeat is_inside (one_more_at block inside)
    (λ so_far. shorter_no_longer (shorter_one_more block inside h k so_far)) (length ts) ([], room) ts)
    (λ _. no_longer_then (shorter_no_longer (shorter_token _ _)) (λ _. no_longer_ok _)))

pub shorter_closed_block : IsShorter closed_block_at
unfolding closed_block_at
shorter_closed_block =
    shorter_then (shorter_token _ _) (λ _. shorter_no_longer (shorter_err (Counted Block) fault_found_at))

shorter_nothing : AreShorter nothing_at
shorter_nothing room = shorter_err (Counted Block) fault_found_at

mutual
  unfolding block_at

  pub shorter_block : (left : ℕ) → AreShorter (block_at left)
  shorter_block zero room = shorter_closed_block
  shorter_block (suc left) room = shorter_braced (block_at left) (inside_at left) (shorter_block left)
      (shorter_inside left) room

  pub shorter_inside : (left : ℕ) → AreShorter (inside_at left)
  shorter_inside zero room = shorter_if (begins_with (is_this_sign (codes ","))) _ _
      (shorter_further nothing_at shorter_nothing 0 room) shorter_closed_block
  shorter_inside (suc left) room =
      shorter_if (begins_with (is_this_sign (codes ","))) _ _
      (shorter_further (inside_at left) (shorter_inside left) (suc left) room)
      (shorter_braced (block_at left) (inside_at left) (shorter_block left) (shorter_inside left) room)
