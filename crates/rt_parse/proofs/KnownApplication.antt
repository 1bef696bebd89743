-- The tokens of applications.
use Rattle.std.proofs.Common.{ℕ, true, false, codes, List, [], ◌-◌, None}
use Rattle.std.specs.List.{AllByRecursion}
use Rattle.rt_ids.specs.declared.limit.Limit.TheVariants as limit
use Rattle.rt_ids.specs.declared.limits.TheConstants.{IRQ_NUMBERS, LEAST_BITS, MOST_BITS, CAPACITY}
use Rattle.rt_ast.specs.Tree.{App}
use Rattle.rt_grammar.specs.Mark.{Mark}
use Rattle.rt_grammar.specs.Tokens.{free, names}
use Rattle.rt_grammar.specs.Text.{text}
use Rattle.rt_grammar.specs.Limits.{within}
use Rattle.rt_grammar.specs.Resources.{interrupt, interrupts, monotonic, first_value, lock_free, locked_resource}
use Rattle.rt_grammar.specs.Resources.{shared_resources, local, locals}
use Rattle.rt_grammar.specs.Options.{Owner, OfInit, OfIdle, OfTask, Options, listed_resource, option, options}
use Rattle.rt_grammar.specs.Bodies.{thread_body, parameters, task}
use Rattle.rt_grammar.specs.Declaration.{dispatchers, fpu, head, application}
use Rattle.rt_parse.proofs.Known.{Known, IsToken, known_gives, known_then, known_or, known_or_else, known_only_if}
use Rattle.rt_parse.proofs.Known.{known_repeat, known_word, known_sign, known_this_name, known_name, known_number}
use Rattle.rt_parse.proofs.Known.{known_list, known_adds}
use Rattle.rt_parse.proofs.KnownStatement.{known_block}

known_names : Known names
known_names = known_then known_sign (λ at. known_list (codes "]") (known_adds (λ before. known_name free)) [])

known_dispatchers : Known dispatchers
known_dispatchers = known_or_else [] (known_then known_sign
    (λ at. known_then known_word (λ at. known_then known_sign (λ at. known_names))))

known_fpu : Known fpu
known_fpu = known_or_else false (known_then known_sign (λ at. known_then known_this_name (λ at. known_then known_sign
    (λ at. known_then known_this_name (λ at. known_gives true)))))

known_head : Known head
known_head = known_then known_word (λ at. known_then (known_name _)
    (λ x. known_then known_sign (λ at. known_then known_word (λ at. known_then known_sign (λ at.
    known_then (known_number (within LEAST_BITS MOST_BITS limit.Bits)) (λ bits. known_then known_dispatchers (λ ds.
    known_then known_fpu (λ on. known_then known_sign (λ at. known_then known_sign (λ at. known_gives _))))))))))

known_interrupt : (n : ℕ) → Known (interrupt n)
known_interrupt n = known_then (known_name _) (λ x. known_then known_sign
    (λ at. known_then (known_number (within 0 (IRQ_NUMBERS - 1) limit.Interrupt)) (λ n. known_gives _)))

known_interrupts : Known interrupts
known_interrupts = known_then known_word (λ at. known_then known_sign (λ at. known_list (codes "}")
    (known_adds known_interrupt) []))

known_monotonic : Known monotonic
known_monotonic = known_or_else None (known_then known_word
    (λ at. known_then known_sign (λ at. known_then known_word
    (λ at. known_then known_sign (λ at. known_then (known_name _) (λ irq.
    known_then known_sign (λ at. known_then known_word (λ at. known_then known_sign
    (λ at. known_then (known_number (λ n. free)) (λ n. known_then known_sign
    (λ at. known_then known_sign (λ at. known_gives _))))))))))))

known_first_value : Known first_value
known_first_value = known_then known_sign (λ at. known_then (known_number (λ n. free)) (λ n. known_gives _))

known_lock_free : (n : ℕ) → Known (lock_free n)
known_lock_free n = known_then known_word (λ at. known_then (known_name _)
    (λ x. known_then known_first_value (λ first. known_gives _)))

known_locked : (n : ℕ) → Known (locked_resource n)
known_locked n = known_then (known_name _) (λ x. known_then known_first_value (λ first. known_gives _))

known_shared : Known shared_resources
known_shared = known_or_else [] (known_then known_word (λ at. known_then known_sign (λ at. known_list (codes "}")
    (known_adds (λ before. known_or (known_lock_free before) (known_locked before))) [])))

known_local : (n : ℕ) → Known (local n)
known_local n = known_then (known_name _) (λ x. known_then known_first_value (λ first. known_gives _))

known_locals : Known locals
known_locals = known_or_else [] (known_then known_word (λ at. known_then known_sign (λ at. known_list (codes "}")
    (known_adds known_local) [])))

known_listed : Known listed_resource
known_listed = known_or (known_then known_sign (λ at. known_then (known_name _) (λ x. known_gives _)))
    (known_then (known_name _) (λ x. known_gives _))

known_option : (owner : Owner) (o : Options) → Known (option owner o)
known_option owner o =
    known_or (known_only_if _ (known_then known_word (λ at. known_then known_sign
    (λ at. known_then (known_name _) (λ x. known_gives _)))))
    (known_or (known_only_if _ (known_then known_word (λ at. known_then known_sign
    (λ at. known_then (known_number (λ n. free)) (λ n. known_gives _)))))
    (known_or (known_only_if _ (known_then known_word (λ at. known_then known_sign
    (λ at. known_then (known_number (within 1 CAPACITY limit.Capacity)) (λ n. known_gives _)))))
    (known_or (known_only_if _ (known_then known_word (λ at. known_then known_sign
    (λ at. known_then known_sign (λ at. known_then (known_list (codes "]") (known_adds (λ before. known_listed)) [])
    (λ xs. known_gives _))))))
    (known_only_if _ (known_then known_word (λ at. known_then known_sign
    (λ at. known_then known_names (λ xs. known_gives _))))))))

known_options : (owner : Owner) → Known (options owner)
known_options owner = known_or_else _ (known_then known_sign (λ at. known_list (codes ")") (known_option owner) _))

known_thread_body : (most : ℕ) (owner : Owner) (first : List ℕ) → Known (thread_body most owner first)
known_thread_body most owner first = known_or_else None (known_then known_word
    (λ at. known_then (known_options owner) (λ o. known_then (known_block most most 1 0) (λ b. known_gives _))))

known_parameters : Known parameters
known_parameters = known_or_else [] (known_then known_word
    (λ at. known_then (known_name _)
    (λ x. known_repeat (λ xs. known_then known_sign (λ at. known_then (known_name _) (λ x. known_gives _))) _)))

known_task : (most n : ℕ) → Known (task most n)
known_task most n = known_then known_word (λ at. known_then (known_name _)
    (λ x. known_then (known_options OfTask) (λ o. known_then known_parameters
    (λ args. known_then (known_block most most 1 0) (λ b. known_gives _)))))

known_application : (most : ℕ) → Known (application most)
known_application most = known_then known_head (λ first. known_then known_interrupts
    (λ irqs. known_then known_monotonic (λ mono. known_then known_shared (λ ss. known_then known_locals (λ ls.
    known_then (known_thread_body most OfInit (codes "init"))
    (λ init. known_then (known_thread_body most OfIdle (codes "idle"))
    (λ idle. known_then (known_repeat (known_adds (known_task most)) []) (λ tasks. known_gives _))))))))

-- no text of the grammar has a byte that no token begins with
pub text_known : (marks : List Mark) (app : App) → text marks app → AllByRecursion IsToken marks
text_known marks app l = (known_application l.0).known marks app l.1
