-- The grammar is monotone in its bound: an application with at most so many parentheses and blocks inside each other is
-- one with at most more.
use Rattle.std.proofs.Common.{ℕ, ◌≤◌, codes, List, [], Some, None}
use Rattle.rt_ids.specs.declared.limit.Limit.TheVariants as limit
use Rattle.rt_ids.specs.declared.limits.TheConstants.{TASKS}
use Rattle.rt_ast.specs.Tree.{App}
use Rattle.rt_grammar.specs.Mark.{Mark}
use Rattle.rt_grammar.specs.Language.{gives}
use Rattle.rt_grammar.specs.Tokens.{word, limited_word, name}
use Rattle.rt_grammar.specs.Limits.{at_most}
use Rattle.rt_grammar.specs.Resources.{interrupts, monotonic, shared_resources, locals}
use Rattle.rt_grammar.specs.Options.{Owner, OfInit, OfIdle, OfTask, options}
use Rattle.rt_grammar.specs.Bodies.{parameters, body_with, thread_body, task}
use Rattle.rt_grammar.specs.Declaration.{head, application}
use Rattle.rt_parse.proofs.Larger.{Grows, grows_behind, grows_before, grows_then, grows_or_else, grows_repeat}
use Rattle.rt_parse.proofs.Larger.{grows_adds}
use Rattle.rt_parse.proofs.LargerStatement.{larger_block}

pub larger_thread_body : (m n : ℕ) → m ≤ n → (owner : Owner) (text : List ℕ)
    → Grows (thread_body m owner text) (thread_body n owner text)
larger_thread_body m n most owner text =
    grows_or_else None (grows_behind (word text) (λ at.
    grows_behind (options owner) (λ o.
    grows_before (λ b. gives (Some (body_with o b.0 at))) (larger_block m n most m n most 1 0))))

pub larger_task : (m n : ℕ) → m ≤ n → (before : ℕ) → Grows (task m before) (task n before)
larger_task m n most before =
    grows_behind (limited_word (codes "task") (at_most TASKS limit.Tasks before)) (λ at.
    grows_behind name (λ x.
    grows_behind (options OfTask) (λ o.
    grows_behind parameters (λ args.
    grows_before (λ b. gives (record {
      name = x;
      binds = o.binds;
      priority = o.priority;
      capacity = o.capacity;
      args =
          args;
      body = body_with o b.0 x.at;
    })) (larger_block m n most m n most 1 0)))))

pub larger_application : (m n : ℕ) → m ≤ n → Grows (application m) (application n)
larger_application m n most =
    grows_behind head (λ first.
    grows_behind interrupts (λ irqs.
    grows_behind monotonic (λ mono.
    grows_behind shared_resources (λ ss.
    grows_behind locals (λ ls.
    grows_then (larger_thread_body m n most OfInit (codes "init")) (λ init.
    grows_then (larger_thread_body m n most OfIdle (codes "idle")) (λ idle.
    grows_before _ (grows_repeat (grows_adds (larger_task m n most)) []))))))))

pub larger : (m n : ℕ) → m ≤ n → (marks : List Mark) (app : App) → application m marks app → application n marks app
larger m n most marks app = (larger_application m n most).into marks app
