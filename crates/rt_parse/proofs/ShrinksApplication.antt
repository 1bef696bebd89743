-- Applications that pass no limit are within each bound that the limits are met before.
use Rattle.std.proofs.Common.{ℕ, suc, ◌≤◌, false, codes, List, [], None}
use Rattle.rt_ids.specs.declared.limits.TheConstants.{PARENTHESES}
use Rattle.rt_grammar.specs.Tokens.{free}
use Rattle.rt_grammar.specs.Resources.{interrupts, monotonic, shared_resources, locals}
use Rattle.rt_grammar.specs.Options.{Owner, OfInit, OfIdle, OfTask, options}
use Rattle.rt_grammar.specs.Bodies.{parameters, thread_body, task}
use Rattle.rt_grammar.specs.Declaration.{head, application}
use Rattle.rt_parse.proofs.Exact.{IsInhabited}
use Rattle.rt_parse.proofs.ExactStarts.{some_gives, some_left}
use Rattle.rt_parse.proofs.ReadsFeatures.{head_form}
use Rattle.rt_parse.proofs.ReadsHead.{interrupts_form}
use Rattle.rt_parse.proofs.Shrinks.{Shrinks, shrinks_same, shrinks_then, shrinks_or, shrinks_repeat, shrinks_gives}
use Rattle.rt_parse.proofs.Shrinks.{shrinks_word, shrinks_name, shrinks_adds}
use Rattle.rt_parse.proofs.ShrinksStatement.{shrinks_block}

head_some : IsInhabited head
head_some = (head_form {B = ℕ} {before = λ t. false}).some

interrupts_some : IsInhabited interrupts
interrupts_some = (interrupts_form {B = ℕ} {before = λ t. false}).some

shrinks_options : (owner : Owner) → Shrinks (options owner) (options owner)
shrinks_options owner = shrinks_same (some_left (some_gives _))

shrinks_parameters : Shrinks parameters parameters
shrinks_parameters = shrinks_same (some_left (some_gives []))

module _ (most most' : ℕ) (enough : suc PARENTHESES ≤ most') where
  shrinks_thread_body : (owner : Owner) (first : List ℕ) → Shrinks (thread_body most owner first)
      (thread_body most' owner first)
  shrinks_thread_body owner first = shrinks_or (shrinks_gives None)
      (shrinks_then shrinks_word (λ at. shrinks_then (shrinks_options owner)
      (λ o. shrinks_then (shrinks_block most most' enough) (λ b. shrinks_gives _))))

  shrinks_task : (n : ℕ) → Shrinks (task most n) (task most' n)
  shrinks_task n = shrinks_then shrinks_word (λ at. shrinks_then (shrinks_name free)
      (λ x. shrinks_then (shrinks_options OfTask) (λ o. shrinks_then shrinks_parameters
      (λ args. shrinks_then (shrinks_block most most' enough) (λ b. shrinks_gives _)))))

  pub shrinks_application : Shrinks (application most) (application most')
  shrinks_application = shrinks_then (shrinks_same head_some)
      (λ first. shrinks_then (shrinks_same interrupts_some)
      (λ irqs. shrinks_then (shrinks_same {L = monotonic} (some_left (some_gives None))) (λ mono.
      shrinks_then (shrinks_same {L = shared_resources} (some_left (some_gives [])))
      (λ ss. shrinks_then (shrinks_same {L = locals} (some_left (some_gives []))) (λ ls.
      shrinks_then (shrinks_thread_body OfInit (codes "init"))
      (λ init. shrinks_then (shrinks_thread_body OfIdle (codes "idle"))
      (λ idle. shrinks_then (shrinks_repeat (shrinks_adds shrinks_task) []) (λ tasks. shrinks_gives _))))))))
