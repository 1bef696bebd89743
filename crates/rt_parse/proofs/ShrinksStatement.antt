-- Expressions, statements and blocks that pass no limit need no more parentheses and blocks than the limits let
-- through.
use Rattle.std.proofs.Common.{◌≡◌, ℕ, zero, suc, ◌+◌, ◌≤◌, Bool, true, false, codes, List, [], ◌∷◌, length, Option}
use Rattle.std.proofs.Common.{Some, refl, ap, arith}
use Rattle.std.specs.Prelude.{nat_lt}
use Rattle.rt_ids.specs.declared.limit.Limit.{Limit}
use Rattle.rt_ids.specs.declared.limit.Limit.TheVariants as limit
use Rattle.rt_ids.specs.declared.limits.TheConstants.{PARENTHESES, NESTING, NAME_BYTES}
use Rattle.rt_grammar.specs.Language.{Language, gives}
use Rattle.rt_grammar.specs.Tokens.{free, limit_if, first_of, name_limit}
use Rattle.rt_grammar.specs.Expression.{Operand, Signs, operator, comparisons, strengths, chains, comparison, atom}
use Rattle.rt_grammar.specs.Expression.{ends, expression}
use Rattle.rt_grammar.specs.Limits.{statement_limit, nesting_limit, turn_limit}
use Rattle.rt_grammar.specs.Spawn.{arguments, handle, soon, delayed_spawn, cancel, move, spawn, value}
use Rattle.rt_grammar.specs.Simple.{bind, assign, emit, pend, call}
use Rattle.rt_grammar.specs.Statement.{Blocks, branch, loop, further, lock, statement, braced_block, block, inside}
use Rattle.rt_parse.proofs.Exact.{IsInhabited}
use Rattle.rt_parse.proofs.ExactThen.{some_then}
use Rattle.rt_parse.proofs.ExactStarts.{some_token, some_gives}
use Rattle.rt_parse.proofs.ExactSigns.{means_name}
use Rattle.rt_parse.proofs.ExactExpression.{means_ops}
use Rattle.rt_parse.proofs.ExactAtom.{plain_some}
use Rattle.rt_parse.proofs.ReadsClosed.{IsAlways}
use Rattle.rt_parse.proofs.ReadsExpression.{parens_some, the_limit}
use Rattle.rt_parse.proofs.ReadsBlock.{further_some, nested_is, block_some, inside_some}
use Rattle.rt_parse.proofs.Shrinks.{Shrinks, shrinks_same, shrinks_never, shrinks_then, shrinks_or, shrinks_left}
use Rattle.rt_parse.proofs.Shrinks.{shrinks_repeat, shrinks_gives, shrinks_word, shrinks_sign, shrinks_name}
use Rattle.rt_parse.proofs.Shrinks.{shrinks_number, shrinks_list, shrinks_adds, shrinks_closed}

-- Expressions.

shrinks_operator : (signs : Signs) → (signs ≡ [] → ⊥) → Shrinks (operator signs) (operator signs)
shrinks_operator signs some = shrinks_same (some_token (means_ops signs some))

abbrev have_signs : List Signs → Bool
have_signs [] = true
have_signs ([] ∷ stronger) = false
have_signs ((x ∷ signs) ∷ stronger) = have_signs stronger

shrinks_chains : (all : List Signs) {atom atom' : Language Operand} → have_signs all ≡ true → Shrinks atom atom'
    → Shrinks (chains all atom) (chains all atom')
shrinks_chains [] have shrinks = shrinks
shrinks_chains ([] ∷ stronger) have shrinks = absurd cc
shrinks_chains ((x ∷ signs) ∷ stronger) have shrinks = shrinks_then (shrinks_chains stronger have shrinks)
    (shrinks_repeat (λ left. shrinks_then (shrinks_operator (x ∷ signs) (λ e. absurd cc))
    (λ o. shrinks_then (shrinks_chains stronger have shrinks) (λ right. shrinks_gives _))))

shrinks_comparison : {A : Type 0} {atom atom' : Language Operand} {ended : Operand → Bool → Language A}
    → Shrinks atom atom' → ((e : Operand) (compares : Bool) → IsInhabited (ended e compares))
    → Shrinks (comparison atom ended) (comparison atom' ended)
shrinks_comparison shrinks ended = shrinks_then (shrinks_chains strengths refl shrinks)
    (λ left. shrinks_or (shrinks_same (ended left false))
    (shrinks_then (shrinks_operator comparisons (λ e. absurd cc))
    (λ o. shrinks_then (shrinks_chains strengths refl shrinks) (λ right. shrinks_same (ended _ true)))))

-- where so many parentheses may still be opened
shrinks_atom : (left most most' opened : ℕ) → left + opened ≡ PARENTHESES → suc left ≤ most'
    → Shrinks (atom most opened) (atom most' opened)
shrinks_atom left most zero opened e le = absurd (omega arith)
shrinks_atom left zero (suc most') opened e le = shrinks_left _ plain_some
shrinks_atom zero (suc most) (suc most') opened e le = shrinks_or (shrinks_same plain_some)
    (shrinks_closed (λ x. (limit.Parentheses, the_limit opened e)) (parens_some most' opened _))
shrinks_atom (suc left) (suc most) (suc most') opened e le = shrinks_or (shrinks_same plain_some)
    (shrinks_then shrinks_sign (λ at. shrinks_then (shrinks_comparison {ended = λ e compares. gives e}
    (shrinks_atom left most most' (suc opened) (omega arith) (omega arith)) (λ e compares. some_gives e))
    (λ inner. shrinks_then shrinks_sign (λ end. shrinks_gives _))))

module _ (most most' : ℕ) (enough : suc PARENTHESES ≤ most') where
  shrinks_expression : Shrinks (expression most) (expression most')
  shrinks_expression = shrinks_comparison {ended = λ e compares. ends (e, compares)}
      (shrinks_atom PARENTHESES most most' 0 (omega arith) enough) (λ e compares. (_, _, (refl, refl)))

  shrinks_arguments : Shrinks (arguments most) (arguments most')
  shrinks_arguments = shrinks_then shrinks_sign (λ at. shrinks_list (codes ")")
      (shrinks_adds (λ before. shrinks_expression)) [])

  shrinks_soon : (what : Option Limit) → Shrinks (soon most what) (soon most' what)
  shrinks_soon what = shrinks_then shrinks_word (λ at. shrinks_then (shrinks_name free)
      (λ task. shrinks_then shrinks_arguments (λ args. shrinks_gives _)))

  shrinks_after : (what : Option Limit) → Shrinks (delayed_spawn most what) (delayed_spawn most' what)
  shrinks_after what = shrinks_then shrinks_word (λ at. shrinks_then shrinks_sign
      (λ paren. shrinks_then shrinks_expression (λ delay. shrinks_then shrinks_sign
      (λ end. shrinks_then (shrinks_name free) (λ task. shrinks_then shrinks_arguments (λ args. shrinks_gives _))))))

  shrinks_handle : Shrinks (handle most) (handle most')
  shrinks_handle = shrinks_then shrinks_sign
      (λ at. shrinks_then shrinks_expression (λ e. shrinks_then shrinks_sign (λ end. shrinks_gives e)))

  shrinks_cancel : (what : Option Limit) → Shrinks (cancel most what) (cancel most' what)
  shrinks_cancel what = shrinks_then shrinks_word
      (λ at. shrinks_then (shrinks_name free) (λ task. shrinks_then shrinks_handle (λ h. shrinks_gives _)))

  shrinks_move : (what : Option Limit) → Shrinks (move most what) (move most' what)
  shrinks_move what =
      shrinks_then shrinks_word (λ at. shrinks_then shrinks_sign (λ paren. shrinks_then shrinks_expression
      (λ delay. shrinks_then shrinks_sign (λ end. shrinks_then (shrinks_name free)
      (λ task. shrinks_then shrinks_handle (λ h. shrinks_gives _))))))

  shrinks_spawn : (what : Option Limit) → Shrinks (spawn most what) (spawn most' what)
  shrinks_spawn what =
      shrinks_or (shrinks_soon what) (shrinks_or (shrinks_after what)
      (shrinks_or (shrinks_cancel what) (shrinks_move what)))

  shrinks_value : Shrinks (value most) (value most')
  shrinks_value = shrinks_or (shrinks_then shrinks_word (λ at. shrinks_gives _))
      (shrinks_or (shrinks_then (shrinks_spawn free) (λ s. shrinks_gives _))
      (shrinks_then shrinks_expression (λ e. shrinks_gives _)))

  shrinks_bind : (n : ℕ) → Shrinks (bind most n) (bind most' n)
  shrinks_bind n = shrinks_then shrinks_word (λ at. shrinks_then (shrinks_name free)
      (λ x. shrinks_then shrinks_sign (λ at. shrinks_then shrinks_value
      (λ v. shrinks_then shrinks_sign (λ end. shrinks_gives _)))))

  shrinks_assign : (n : ℕ) → Shrinks (assign most n) (assign most' n)
  shrinks_assign n = shrinks_then (shrinks_name (statement_limit n))
      (λ x. shrinks_then shrinks_sign (λ at. shrinks_then shrinks_expression
      (λ e. shrinks_then shrinks_sign (λ end. shrinks_gives _))))

  shrinks_emit : (n : ℕ) → Shrinks (emit most n) (emit most' n)
  shrinks_emit n = shrinks_then shrinks_word (λ at. shrinks_then shrinks_expression
      (λ e. shrinks_then shrinks_sign (λ end. shrinks_gives _)))

  shrinks_pend : (n : ℕ) → Shrinks (pend n) (pend n)
  shrinks_pend n = shrinks_then shrinks_word (λ at. shrinks_then (shrinks_name free)
      (λ irq. shrinks_then shrinks_sign (λ end. shrinks_gives _)))

  shrinks_call : (n : ℕ) → Shrinks (call most n) (call most' n)
  shrinks_call n = shrinks_then (shrinks_spawn (statement_limit n))
      (λ s. shrinks_then shrinks_sign (λ end. shrinks_gives _))

  module _ (blocks blocks' insides insides' : Blocks) (nesting : ℕ)
      (shrinks : (n : ℕ) → Shrinks (blocks (suc nesting) n) (blocks' (suc nesting) n))
      (shrinks' : (n : ℕ) → Shrinks (insides (suc nesting) n) (insides' (suc nesting) n)) (n : ℕ) where
    shrinks_branch : Shrinks (branch most blocks nesting n) (branch most' blocks' nesting n)
    shrinks_branch = shrinks_then shrinks_word (λ at. shrinks_then shrinks_expression
        (λ e. shrinks_then (shrinks _) (λ first. shrinks_then
        (shrinks_or (shrinks_gives _) (shrinks_then shrinks_word (λ at. shrinks _))) (λ second. shrinks_gives _))))

    shrinks_loop : Shrinks (loop blocks nesting n) (loop blocks' nesting n)
    shrinks_loop = shrinks_then shrinks_word (λ at. shrinks_then (shrinks_name free)
        (λ x. shrinks_then shrinks_word (λ at. shrinks_then (shrinks_number (λ n. free))
        (λ first. shrinks_then shrinks_sign (λ at.
        shrinks_then (shrinks_number (turn_limit first.value))
        (λ last. shrinks_then (shrinks _) (λ turn. shrinks_gives _)))))))

    shrinks_further : Shrinks (further insides nesting n) (further insides' nesting n)
    shrinks_further = shrinks_then shrinks_sign (λ at. shrinks_then
        (shrinks_name (first_of (nesting_limit nesting) (statement_limit n)))
        (λ r. shrinks_then (shrinks' _) (λ inner. shrinks_gives _)))

    shrinks_lock : Shrinks (lock insides nesting n) (lock insides' nesting n)
    shrinks_lock = shrinks_then shrinks_word (λ at. shrinks_then (shrinks_name free)
        (λ r. shrinks_then (shrinks' _) (λ inner. shrinks_gives _)))

    shrinks_statement : Shrinks (statement most blocks insides nesting n) (statement most' blocks' insides' nesting n)
    shrinks_statement = shrinks_or (shrinks_bind n) (shrinks_or (shrinks_assign n)
        (shrinks_or shrinks_branch (shrinks_or shrinks_loop
        (shrinks_or shrinks_lock (shrinks_or (shrinks_emit n) (shrinks_or (shrinks_pend n) (shrinks_call n)))))))

  module _ (blocks blocks' insides insides' : Blocks) (nesting : ℕ)
      (shrinks : (n : ℕ) → Shrinks (blocks (suc nesting) n) (blocks' (suc nesting) n))
      (shrinks' : (n : ℕ) → Shrinks (insides (suc nesting) n) (insides' (suc nesting) n)) (n : ℕ) where
    shrinks_braced : Shrinks (braced_block most blocks insides nesting n)
        (braced_block most' blocks' insides' nesting n)
    shrinks_braced = shrinks_then shrinks_sign (λ at. shrinks_then
        (shrinks_repeat (λ s. shrinks_then (shrinks_statement blocks blocks' insides insides' nesting shrinks shrinks'
        s.1) (λ x. shrinks_gives _)) _) (λ all. shrinks_then shrinks_sign (λ end. shrinks_gives _)))

  record ShrinksBlocks (deep deep' nesting : ℕ) : Type 0 where
    blocks : (n : ℕ) → Shrinks (block most deep nesting n) (block most' deep' nesting n)
    insides : (n : ℕ) → Shrinks (inside most deep nesting n) (inside most' deep' nesting n)

  always : (nesting n : ℕ) → zero + nesting ≡ suc NESTING → IsAlways
      (name_limit (first_of (nesting_limit nesting) (statement_limit n)))
  always nesting n e x = go (nat_lt NAME_BYTES (length x.name)) (nesting_limit nesting) (nested_is zero nesting e)
    where
      go : (long : Bool) (what : Option Limit) → what ≡ Some limit.Nesting → (passed : Limit)
          × (first_of (limit_if long limit.Name) (first_of what (statement_limit n)) ≡ Some passed)
      go true what f = (limit.Name, refl)
      go false what f = (limit.Nesting, ap (λ (w : Option Limit). first_of w (statement_limit n)) f)

  -- where so many blocks may still be opened
  shrinks_blocks : (left deep deep' nesting : ℕ) → left + nesting ≡ suc NESTING → 3 + NESTING ≤ deep' + nesting
      → ShrinksBlocks deep deep' nesting
  shrinks_blocks left deep zero nesting e le = absurd (omega arith)
  shrinks_blocks zero deep (suc zero) nesting e le = absurd (omega arith)
  shrinks_blocks (suc left) deep (suc zero) nesting e le = absurd (omega arith)
  shrinks_blocks left zero (suc (suc deep')) nesting e le =
      record {
        blocks = λ n. shrinks_never (block_some most' (suc deep') nesting n);
        insides =
            λ n. shrinks_never (inside_some most' (suc deep') nesting n);
      }
  shrinks_blocks zero (suc deep) (suc (suc deep')) nesting e le = record {
    blocks = λ n. closed n;
    insides = λ n. shrinks_or (closed n) (shrinks_then shrinks_sign
        (λ at. shrinks_closed (always nesting n e) (some_then (some_token means_name)
        (λ r. further_some most' (block most' (suc deep')) (inside most' (suc deep')) nesting
        (inside_some most' deep' (suc nesting)) n r))));
  }
    where
      closed : (n : ℕ) → Shrinks (block most (suc deep) nesting n) (block most' (suc (suc deep')) nesting n)
      closed n = shrinks_closed (λ x. (limit.Nesting, nested_is zero nesting e))
          (block_some most' (suc deep') nesting n)
  shrinks_blocks (suc left) (suc deep) (suc (suc deep')) nesting e le =
      let below = shrinks_blocks left deep (suc deep') (suc nesting) (omega arith) (omega arith) in
      let first = shrinks_braced (block most deep) (block most' (suc deep')) (inside most deep)
      (inside most' (suc deep')) nesting below.blocks below.insides in
      record {
        blocks = first;
        insides = λ n. shrinks_or (first n) (shrinks_further (block most deep) (block most' (suc deep'))
            (inside most deep) (inside most' (suc deep')) nesting below.blocks below.insides n);
      }

  -- the block of a body
  pub shrinks_block : Shrinks (block most most 1 0) (block most' most' 1 0)
  shrinks_block = (shrinks_blocks NESTING most most' 1 (omega arith) (omega arith)).blocks 0
