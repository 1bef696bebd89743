-- The reader of a whole application is exact, for each bound of the grammar that the limits are met before.
use Rattle.std.proofs.Common.{◌≡◌, ℕ, suc, ◌≤◌, Bool, true, false, List, [], length, Option, None, Err, refl, arith}
use Rattle.std.specs.Prelude.{codes, bytes_eq}
use Rattle.rt_ids.specs.declared.limits.TheConstants.{PARENTHESES}
use Rattle.rt_lex.specs.Token.{Token, is_this_word}
use Rattle.rt_ast.specs.declared.app.IrqTree.{IrqTree}
use Rattle.rt_ast.specs.declared.app.MonoTree.{MonoTree}
use Rattle.rt_ast.specs.declared.app.SharedTree.{SharedTree}
use Rattle.rt_ast.specs.declared.app.LocalTree.{LocalTree}
use Rattle.rt_ast.specs.Tree.{App, Body, Task}
use Rattle.rt_grammar.specs.Language.{Language, gives, ◌>>=◌, or_else, repeat}
use Rattle.rt_grammar.specs.Tokens.{adds}
use Rattle.rt_grammar.specs.Resources.{shared_resources, locals}
use Rattle.rt_grammar.specs.Options.{OfInit, OfIdle}
use Rattle.rt_grammar.specs.Bodies.{thread_body, task}
use Rattle.rt_grammar.specs.Declaration.{Head, application}
use Rattle.rt_parse.specs.Inside.Reading as reading
use Rattle.rt_parse.specs.Inside.Reading.{fault_found_at, token_at}
use Rattle.rt_parse.specs.Inside.ReadingList.{adds_at}
use Rattle.rt_parse.specs.Inside.ReadingBodies.{task_at}
use Rattle.rt_parse.specs.Inside.ReadingDeclaration.{application_at, text_at}
use Rattle.rt_parse.proofs.Exact.{IsExact, Avoids, Starts, nothing}
use Rattle.rt_parse.proofs.ExactLaws.{then_then'}
use Rattle.rt_parse.proofs.ExactThen.{Avoids-smaller}
use Rattle.rt_parse.proofs.ExactStarts.{starts_then, avoids_apart, avoids_within, avoids_gives_then, avoids_or_then}
use Rattle.rt_parse.proofs.ExactStarts.{avoids_repeat_then, some_repeat}
use Rattle.rt_parse.proofs.ExactRepeat.{reads_repeat}
use Rattle.rt_parse.proofs.ExactEnds.{exact_whole}
use Rattle.rt_parse.proofs.ExactSigns.{words_apart}
use Rattle.rt_parse.proofs.ReadsWords.{adds_reads}
use Rattle.rt_parse.proofs.ReadsForm.{Form, form_then, form_seq, form_map, form_fewer, form_goes}
use Rattle.rt_parse.proofs.ReadsFeatures.{head_form}
use Rattle.rt_parse.proofs.ReadsHead.{resources_of, local_resources_of, shared_starts, locals_starts, interrupts_form}
use Rattle.rt_parse.proofs.ReadsHead.{monotonic_form, shared_form, locals_form}
use Rattle.rt_parse.proofs.ReadsTask.{thread_of, thread_starts, thread_body_form, task_starts, task_form}

-- any token
abbrev anything : {A : Type 0} → A → Token → Bool
anything x t = true

-- an application from one of its parts on

abbrev tasks_on : ℕ → (List Task → App) → Language App
tasks_on most f = repeat (adds (task most)) [] >>= λ tasks. gives (f tasks)

abbrev idle_on : ℕ → (Option Body → List Task → App) → Language App
idle_on most f = thread_body most OfIdle (codes "idle") >>= λ idle. tasks_on most (f idle)

abbrev init_on : ℕ → (Option Body → Option Body → List Task → App) → Language App
init_on most f = thread_body most OfInit (codes "init") >>= λ init. idle_on most (f init)

abbrev locals_on : ℕ → (List LocalTree → Option Body → Option Body → List Task → App) → Language App
locals_on most f = locals >>= λ ls. init_on most (f ls)

abbrev shared_on : ℕ → (List SharedTree → List LocalTree → Option Body → Option Body → List Task → App) → Language App
shared_on most f = shared_resources >>= λ ss. locals_on most (f ss)

-- What follows a part that may be left out does not begin with its word.

optional_apart : {A B C : Type 0} (text other : List ℕ) (x : A) (L : Language A) (M : A → Language B)
    (K : B → Language C) → bytes_eq other text ≡ false → Starts (is_this_word other) L
    → Avoids (is_this_word text) (M x >>= K) → Avoids (is_this_word text) (or_else x L >>= M >>= K)
optional_apart text other x L M K apart starts avoids = avoids_within (is_this_word text) (then_then' (or_else x L) M K)
    (avoids_or_then (is_this_word text) (gives x) L (λ x. M x >>= K)
    (avoids_gives_then (is_this_word text) x (λ x. M x >>= K) avoids)
    (avoids_apart (is_this_word other) (is_this_word text) (words_apart other text apart) starts (λ x. M x >>= K)))

module _ {B : Type 0} (most : ℕ) (K : App → Language B) (none : (y : App) → Avoids (anything y) (K y)) (text : List ℕ)
    (no_task : bytes_eq (codes "task") text ≡ false) where
  tasks_apart : (f : List Task → App) → Avoids (is_this_word text) (tasks_on most f >>= K)
  tasks_apart f = avoids_within (is_this_word text) (then_then' (repeat (adds (task most)) [])
      (λ tasks. gives (f tasks)) K)
      (avoids_repeat_then (is_this_word text) (adds (task most)) [] (λ tasks. gives (f tasks) >>= K)
      (avoids_gives_then (is_this_word text) (f []) K (Avoids-smaller (is_this_word text) (λ t. true) (λ t e. refl)
      (K (f [])) (none (f []))))
      (avoids_apart (is_this_word (codes "task")) (is_this_word text) (words_apart (codes "task") text no_task)
      (starts_then _ (task_starts most 0)) (λ x. repeat (adds (task most)) x >>= λ tasks. gives (f tasks) >>= K)))

  idle_apart : bytes_eq (codes "idle") text ≡ false → (f : Option Body → List Task → App)
      → Avoids (is_this_word text) (idle_on most f >>= K)
  unfolding thread_of
  idle_apart no_idle f = optional_apart text (codes "idle") None (thread_of most OfIdle (codes "idle"))
      (λ idle. tasks_on most (f idle)) K no_idle (thread_starts most OfIdle (codes "idle")) (tasks_apart (f None))

  init_apart : bytes_eq (codes "init") text ≡ false → bytes_eq (codes "idle") text ≡ false
      → (f : Option Body → Option Body → List Task → App) → Avoids (is_this_word text) (init_on most f >>= K)
  unfolding thread_of
  init_apart no_init no_idle f = optional_apart text (codes "init") None (thread_of most OfInit (codes "init"))
      (λ init. idle_on most (f init)) K no_init (thread_starts most OfInit (codes "init")) (idle_apart no_idle (f None))

  locals_apart : bytes_eq (codes "local") text ≡ false → bytes_eq (codes "init") text ≡ false
      → bytes_eq (codes "idle") text ≡ false
      → (f : List LocalTree → Option Body → Option Body → List Task → App)
      → Avoids (is_this_word text) (locals_on most f >>= K)
  unfolding local_resources_of
  locals_apart no_local no_init no_idle f = optional_apart text (codes "local") [] local_resources_of
      (λ ls. init_on most (f ls)) K no_local locals_starts (init_apart no_init no_idle (f []))

  shared_apart : bytes_eq (codes "shared") text ≡ false → bytes_eq (codes "local") text ≡ false
      → bytes_eq (codes "init") text ≡ false → bytes_eq (codes "idle") text ≡ false
      → (f : List SharedTree → List LocalTree → Option Body → Option Body → List Task → App)
      → Avoids (is_this_word text) (shared_on most f >>= K)
  unfolding resources_of
  shared_apart no_shared no_local no_init no_idle f = optional_apart text (codes "shared") [] resources_of
      (λ ss. locals_on most (f ss)) K no_shared shared_starts (locals_apart no_local no_init no_idle (f []))

abbrev app_is : Head → List IrqTree → Option MonoTree → List SharedTree → List LocalTree → Option Body → Option Body
    → List Task → App
app_is first irqs mono ss ls init idle tasks = record {
  name = first.name;
  bits = first.bits;
  fpu = first.fpu;
  dispatchers = first.dispatchers;
  irqs = irqs;
  mono = mono;
  shared = ss;
  locals = ls;
  init = init;
  idle = idle;
  tasks = tasks;
}

task_none : (n : ℕ) → task_at n [] ≡ Err (fault_found_at [])
unfolding task_at token_at
task_none n = refl

module _ {B : Type 0} (most : ℕ) (enough : suc PARENTHESES ≤ most) where
  tasks_form : {before : Token → Bool} → Form B before (λ xs. is_this_word (codes "task"))
      (λ xs. is_this_word (codes "task")) (λ n. n) (λ xs. xs)
      (repeat (adds (task most)) []) (λ tokens. reading.repeat_at (is_this_word (codes "task")) (adds_at task_at)
      (length tokens) [] tokens)
  tasks_form = record {
    reads = reads_repeat (is_this_word (codes "task")) (adds_at task_at)
        (λ xs. starts_then _ (task_starts most (length xs)))
        (adds_reads (task most) task_at task_none (λ n. (task_form most enough n).reads)) [];
    some = some_repeat (adds (task most)) [];
  }

  pub application_form : {before : Token → Bool} → Form B before anything nothing suc (λ x. x) (application most)
      application_at
  unfolding application_at
  application_form = form_fewer (λ n. omega arith)
      (form_then _ head_form
      (λ first. form_then _ interrupts_form
      (λ irqs. form_seq _ monotonic_form
      (λ mono. form_seq _ shared_form
      (λ ss. form_seq _ locals_form
      (λ ls. form_seq _ (thread_body_form most enough OfInit (codes "init"))
      (λ init. form_seq _ (thread_body_form most enough OfIdle (codes "idle"))
      (λ idle. form_map (app_is first irqs mono ss ls init idle) (app_is first irqs mono ss ls init idle)
      (form_goes (λ xs t e. refl) tasks_form) (λ tasks. refl))
      (λ idle K avoids. tasks_apart most K avoids (codes "idle") refl (app_is first irqs mono ss ls init idle)))
      (λ init K avoids. idle_apart most K avoids (codes "init") refl refl (app_is first irqs mono ss ls init)))
      (λ ls K avoids. init_apart most K avoids (codes "local") refl refl refl (app_is first irqs mono ss ls)))
      (λ ss K avoids. locals_apart most K avoids (codes "shared") refl refl refl refl (app_is first irqs mono ss)))
      (λ mono K avoids. shared_apart most K avoids (codes "monotonic") refl refl refl refl refl
      (app_is first irqs mono)))))

-- The reader of a text is exact for the applications of each such bound.
pub text_exact : (most : ℕ) → suc PARENTHESES ≤ most → (n : ℕ) → IsExact (application most) text_at n
unfolding text_at
text_exact most enough n = exact_whole (λ n. omega arith) (application_form most enough).reads n
