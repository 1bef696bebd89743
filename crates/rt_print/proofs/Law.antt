-- The law: the canonical text of a printable tree is read as the tree.
use Rattle.std.proofs.Common.{◌≡◌, ℕ, List, [], ◌++◌, refl, append_assoc, append-nil}
use Rattle.std.specs.Prelude.{codes, flat_map}
use Rattle.rt_ast.specs.Tree.{App}
use Rattle.rt_ast.specs.Bare.{bare, bare_irq, bare_mono, bare_resource, bare_local, bare_body, bare_task}
use Rattle.rt_ast.specs.Canonical.{canonical, head_text, irqs_text, mono_text, shared_text, locals_text, body_text}
use Rattle.rt_ast.specs.Canonical.{task_text}
use Rattle.rt_ast.specs.Printable.{IsPrintable}
use Rattle.rt_grammar.specs.Language.{repeat}
use Rattle.rt_grammar.specs.Tokens.{adds}
use Rattle.rt_grammar.specs.Resources.{interrupts, monotonic, shared_resources, locals}
use Rattle.rt_grammar.specs.Options.{OfInit, OfIdle}
use Rattle.rt_grammar.specs.Bodies.{thread_body, task}
use Rattle.rt_grammar.specs.Declaration.{head, application}
use Rattle.rt_print.specs.ReadsBack.{ReadsBack, CanonicalTextsAreReadAsTheirTrees}
use Rattle.rt_print.proofs.Reading.{Reads, read_gives, read_then, read_same}
use Rattle.rt_print.proofs.Declared.{IsHead, head_reads}
use Rattle.rt_print.proofs.Resources.{AreAll, IsMaybe, irqs_read, mono_reads, shared_reads, locals_read}
use Rattle.rt_print.proofs.Bodies.{init_reads, idle_reads, tasks_read}

parts : (h i m s l n d t : List ℕ) → (((((((h ++ i) ++ m) ++ s) ++ l) ++ n) ++ d) ++ t) ≡ h
    ++ (i ++ (m ++ (s ++ (l ++ (n ++ (d ++ (t ++ [])))))))
parts h i m s l n d t = simp (append_assoc, append-nil) refl

abbrev IsApp : App → App → Type 0
IsApp a u = bare u ≡ bare a

application_reads : (a : App) → IsPrintable a → Reads (application 16) (IsApp a) (canonical a) []
application_reads a h =
    let P = IsApp a in
    let T = flat_map task_text a.tasks ++ [] in
    let D = body_text (codes "idle") a.idle ++ T in
    let N = body_text (codes "init") a.init ++ D in
    let L = locals_text a.locals ++ N in
    let S = shared_text a.shared ++ L in
    let M = mono_text a.mono ++ S in
    let I = irqs_text a.irqs ++ M in
    let H = head_text a ++ I in
    read_same (application 16) P H (canonical a) []
    (parts (head_text a) (irqs_text a.irqs) (mono_text a.mono) (shared_text a.shared) (locals_text a.locals)
    (body_text (codes "init") a.init) (body_text (codes "idle") a.idle) (flat_map task_text a.tasks))
    (read_then head _ (IsHead a) P H I [] (head_reads a I h.name h.bits.0 h.bits.1 h.dispatchers) (λ first e1.
    read_then interrupts _ (AreAll bare_irq a.irqs) P I M [] (irqs_read a.irqs M h.irqs h.few_irqs) (λ irqs e2.
    read_then monotonic _ (IsMaybe bare_mono a.mono) P M S [] (mono_reads a.mono S h.mono) (λ mono e3.
    read_then shared_resources _ (AreAll bare_resource a.shared) P S L []
    (shared_reads a.shared L h.shared h.few_shared) (λ ss e4.
    read_then locals _ (AreAll bare_local a.locals) P L N [] (locals_read a.locals N h.locals h.few_locals) (λ ls e5.
    read_then (thread_body 16 OfInit (codes "init")) _ (IsMaybe bare_body a.init) P N D [] (init_reads a.init D h.init)
    (λ init e6.
    read_then (thread_body 16 OfIdle (codes "idle")) _ (IsMaybe bare_body a.idle) P D T [] (idle_reads a.idle T h.idle)
    (λ idle e7.
    read_then (repeat (adds (task 16)) []) _ (AreAll bare_task a.tasks) P T [] []
    (tasks_read a.tasks [] h.tasks h.few_tasks) (λ tasks e8.
    read_gives P (record {
      name = first.name;
      bits = first.bits;
      fpu = first.fpu;
      dispatchers = first.dispatchers;
      irqs = irqs;
      mono = mono;
      shared = ss;
      locals = ls;
      init = init;
      idle = idle;
      tasks = tasks;
    }) []
    (rw (e1.name, e1.bits, e1.fpu, e1.dispatchers, e2, e3, e4, e5, e6, e7, e8) refl))))))))))

reads_back : (a : App) → IsPrintable a → ReadsBack a
reads_back a h =
    let r = application_reads a h 0 in
    (r.meaning, record { marks = r.marks; spelled = (16, r.means); whole = r.fits; within = r.within }, r.holds)

pub the_law : CanonicalTextsAreReadAsTheirTrees
the_law a h =
    let r = reads_back a h in (r, λ short. (r.0, record { short = short; read = r.1 }, r.2))
