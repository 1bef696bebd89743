-- The law: the tree of a text keeps the limits.
use Rattle.std.proofs.Common.{ℕ, codes, [], Option, Some, None, refl}
use Rattle.rt_ast.specs.Tree.{Body}
use Rattle.rt_ast.specs.Printable.{IfThere, IsPrintableBody, IsPrintableTask, IsPrintableInit, IsPrintable}
use Rattle.rt_lex.specs.Tokens.{tokens}
use Rattle.rt_lex.proofs.Parts.{tokens_longest}
use Rattle.rt_grammar.specs.Options.{OfInit, OfIdle}
use Rattle.rt_grammar.specs.Declaration.{application}
use Rattle.rt_parse.specs.Laws.{TextsKeepLimits}
use Rattle.rt_parse.proofs.Keeps.{Keeps, AreFew, none_are_few, sound_marks, keeps_gives, keeps_then, keeps_repeat}
use Rattle.rt_parse.proofs.KeepsDeclaration.{IsBodyKept, keeps_head, keeps_interrupts, keeps_monotonic, keeps_shared}
use Rattle.rt_parse.proofs.KeepsDeclaration.{keeps_locals, keeps_thread_body, keeps_tasks}

init_printable : (init : Option Body) → IfThere (IsBodyKept OfInit) init → IfThere IsPrintableInit init
init_printable None h = tt
init_printable (Some b) h = (h.printable, h.none refl)

idle_printable : (idle : Option Body) → IfThere (IsBodyKept OfIdle) idle → IfThere IsPrintableBody idle
idle_printable None h = tt
idle_printable (Some b) h = h.printable

keeps_application : (most : ℕ) → Keeps (application most) IsPrintable
keeps_application most =
    keeps_then keeps_head (λ first a. keeps_then keeps_interrupts
    (λ irqs b. keeps_then keeps_monotonic (λ mono c. keeps_then keeps_shared
    (λ ss d. keeps_then keeps_locals (λ ls e.
    keeps_then (keeps_thread_body most OfInit (codes "init"))
    (λ init f. keeps_then (keeps_thread_body most OfIdle (codes "idle")) (λ idle g.
    keeps_then (keeps_repeat (AreFew IsPrintableTask _) (keeps_tasks most) [] (none_are_few IsPrintableTask _))
    (λ tasks h.
    keeps_gives (record {
      name = a.name;
      bits = a.bits;
      dispatchers = a.dispatchers;
      irqs = b.all;
      few_irqs = b.few;
      mono = c;
      shared = d.all;
      few_shared = d.few;
      locals = e.all;
      few_locals = e.few;
      init = init_printable init f;
      idle = idle_printable idle g;
      tasks = h.all;
      few_tasks = h.few;
    })))))))))

pub the_law : TextsKeepLimits
the_law src app t = (keeps_application t.read.spelled.0).kept t.read.marks app t.read.spelled.1
    (sound_marks src t.read.marks (tokens src) [] t.read.whole t.read.within (tokens_longest src))
