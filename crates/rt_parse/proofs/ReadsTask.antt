-- The readers of bodies and tasks.
use Rattle.std.proofs.Common.{◌≡◌, ℕ, zero, suc, ◌≤◌, Bool, true, false, List, [], ◌∷◌, ◌++◌, length, Option, Some}
use Rattle.std.proofs.Common.{None, refl, arith}
use Rattle.std.specs.Prelude.{codes, ◌||◌}
use Rattle.rt_lemmas.proofs.Bools.{or_left, or_right, or_neither}
use Rattle.rt_ids.specs.declared.limit.Limit.TheVariants as limit
use Rattle.rt_ids.specs.declared.limits.TheConstants.{PARENTHESES, TASKS, ARGUMENTS}
use Rattle.rt_lex.specs.Token.{Token, is_this_word, is_this_sign}
use Rattle.rt_ast.specs.declared.ident.Ident.{Ident}
use Rattle.rt_ast.specs.Tree.{Body, Task, Block}
use Rattle.rt_grammar.specs.Language.{Language, gives, ◌>>=◌, repeat}
use Rattle.rt_grammar.specs.Tokens.{free, word, name}
use Rattle.rt_grammar.specs.Limits.{nesting_limit, at_most}
use Rattle.rt_grammar.specs.Simple.{Counted}
use Rattle.rt_grammar.specs.Statement.{block, inside}
use Rattle.rt_grammar.specs.Options.{Options, Owner, OfTask, options}
use Rattle.rt_grammar.specs.Bodies.{body_with, thread_body, parameter, parameters, task}
use Rattle.rt_parse.specs.Inside.ReadingBodies.{thread_at, thread_body_at, argument_at, parameters_at}
use Rattle.rt_parse.specs.Inside.ReadingBodies.{task_arguments_at, task_at, body_block_at}
use Rattle.rt_parse.proofs.Exact.{IsInhabited, Avoids, Starts, nothing}
use Rattle.rt_parse.proofs.ExactThen.{reads_after}
use Rattle.rt_parse.proofs.ExactLaws.{then_then'}
use Rattle.rt_parse.proofs.ExactStarts.{starts_then, avoids_apart, avoids_within, avoids_gives_then, avoids_or_then}
use Rattle.rt_parse.proofs.ExactStarts.{some_repeat}
use Rattle.rt_parse.proofs.ExactRepeat.{reads_repeat}
use Rattle.rt_parse.proofs.ExactSigns.{starts_sign, starts_word, signs_apart, word_no_sign, sign_no_word}
use Rattle.rt_parse.proofs.ReadsSpawn.{spent}
use Rattle.rt_parse.proofs.ReadsBlock.{braced_starts, block_some, body_block_reads}
use Rattle.rt_parse.proofs.ReadsForm.{Form, form_word, form_sign, form_name, form_then, form_seq, form_map, form_fewer}
use Rattle.rt_parse.proofs.ReadsForm.{form_goes, form_optional}
use Rattle.rt_parse.proofs.ReadsOptions.{options_form}

-- a body's block

body_starts : (most deep nesting n : ℕ) → Starts (is_this_sign (codes "{")) (block most deep nesting n)
body_starts most zero nesting n = λ marks y l. absurd l
body_starts most (suc deep) nesting n = braced_starts most (block most deep) (inside most deep) nesting
    (nesting_limit nesting) n

body_some : (most deep nesting n : ℕ) → 1 ≤ deep → IsInhabited (block most deep nesting n)
body_some most zero nesting n le = absurd (omega arith)
body_some most (suc deep) nesting n le = block_some most deep nesting n

body_form : {B : Type 0} {before : Token → Bool} (most : ℕ) → suc PARENTHESES ≤ most
    → Form B before nothing nothing suc spent (block most most 1 0) body_block_at
body_form most le = record {
  reads = reads_after (body_block_reads most le);
  some =
      body_some most most 1 0 (omega arith);
}

-- what follows options or parameters begins with the sign of a block
behind_block : {A B : Type 0} (goes : Token → Bool) → ((t : Token) → is_this_sign (codes "{") t ≡ true → goes t ≡ false)
    → (most : ℕ) (M : Counted Block → Language A) (K : A → Language B) → Avoids goes (block most most 1 0 >>= M >>= K)
behind_block goes apart most M K = avoids_apart (is_this_sign (codes "{")) goes apart
    (starts_then M (body_starts most most 1 0)) K

unfoldable pub thread_of : ℕ → Owner → List ℕ → Language (Option Body)
thread_of most owner text = word text >>= λ at. options owner >>= λ o. block most most 1 0 >>= λ b. gives
    (Some (body_with o b.0 at))

pub thread_starts : (most : ℕ) (owner : Owner) (text : List ℕ) → Starts (is_this_word text) (thread_of most owner text)
unfolding thread_of
thread_starts most owner text = starts_then _ (starts_word text free)

thread_form : {B : Type 0} {before : Token → Bool} (most : ℕ) → suc PARENTHESES ≤ most → (owner : Owner) (text : List ℕ)
    → Form B before nothing nothing suc (λ x. x) (thread_of most owner text) (thread_at owner text)
unfolding thread_of thread_at
thread_form most le owner text = form_fewer (λ n. omega arith)
    (form_then _ form_word (λ at. form_seq _ (options_form owner)
    (λ o. form_map (λ b. Some (body_with o b.0 at)) (λ b. Some (body_with o b.0 at)) (body_form most le) (λ b. refl))
    (λ o K avoids. behind_block (is_this_sign (codes "("))
    (signs_apart (codes "{") (codes "(") refl) most (λ b. gives (Some (body_with o b.0 at))) K)))

pub thread_body_form : {B : Type 0} {before : Token → Bool} (most : ℕ) → suc PARENTHESES ≤ most
    → (owner : Owner) (text : List ℕ)
    → Form B before (λ x. is_this_word text) nothing (λ n. n) (λ x. x) (thread_body most owner text)
    (thread_body_at owner text)
unfolding thread_body_at thread_of
thread_body_form most le owner text = form_optional (is_this_word text) None (thread_starts most owner text) (λ t e. e)
    (λ n. omega arith) (form_goes {goes = nothing} (λ x t e. absurd cc) (thread_form most le owner text))

argument_form : {B : Type 0} {before : Token → Bool} (xs : List Ident)
    → Form B before nothing nothing suc (λ x. x) (parameter xs) (argument_at xs)
unfolding argument_at
argument_form xs = form_fewer (λ n. omega arith)
    (form_then _ form_sign (λ at. form_map (λ x. xs ++ x ∷ []) (λ x. xs ++ x ∷ [])
    (form_name (at_most ARGUMENTS limit.Arguments (length xs))) (λ x. refl)))

abbrev more_arguments : List Ident → Token → Bool
more_arguments xs t = is_this_word (codes "with") t || is_this_sign (codes ",") t

parameters_of : Language (List Ident)
parameters_of = word (codes "with") >>= λ at. name >>= λ x. repeat parameter (x ∷ [])

parameters_starts : Starts (is_this_word (codes "with")) parameters_of
unfolding parameters_of
parameters_starts = starts_then _ (starts_word (codes "with") free)

parameters_form : {B : Type 0} {before : Token → Bool} → Form B before (λ xs. is_this_sign (codes ","))
    (λ xs. is_this_sign (codes ",")) suc (λ x. x) parameters_of parameters_at
unfolding parameters_of parameters_at
parameters_form = form_fewer (λ n. omega arith)
    (form_then _ form_word (λ at. form_then _ (form_name free)
    (λ x. record {
      reads = reads_repeat (is_this_sign (codes ",")) argument_at
          (λ xs. starts_then _ (starts_sign (codes ",") free)) (λ xs. (argument_form xs).reads) (x ∷ []);
      some =
          some_repeat parameter (x ∷ []);
    })))

arguments_form : {B : Type 0} {before : Token → Bool}
    → Form B before more_arguments nothing (λ n. n) (λ x. x) parameters
    task_arguments_at
unfolding task_arguments_at parameters_of
arguments_form = form_optional (is_this_word (codes "with")) [] parameters_starts
    (λ t e. or_left (is_this_word (codes "with") t) (is_this_sign (codes ",") t) e) (λ n. omega arith)
    (form_goes {goes = λ xs. is_this_sign (codes ",")} (λ xs t e. or_right (is_this_word (codes "with") t)
    (is_this_sign (codes ",") t) e) parameters_form)

block_no_argument : (xs : List Ident) (t : Token) → is_this_sign (codes "{") t ≡ true → more_arguments xs t ≡ false
block_no_argument xs t e = or_neither (is_this_word (codes "with") t) (is_this_sign (codes ",") t)
    (sign_no_word (codes "{") (codes "with") t e) (signs_apart (codes "{") (codes ",") refl t e)

-- after options come parameters or the block
arguments_apart : {A B : Type 0} (most : ℕ) (M : List Ident → Counted Block → Language A) (K : A → Language B)
    → Avoids (is_this_sign (codes "(")) (parameters >>= (λ args. block most most 1 0 >>= M args) >>= K)
unfolding parameters_of
arguments_apart most M K = avoids_within (is_this_sign (codes "("))
    (then_then' parameters (λ args. block most most 1 0 >>= M args) K)
    (avoids_or_then (is_this_sign (codes "(")) (gives []) parameters_of (λ args. block most most 1 0 >>= M args >>= K)
    (avoids_gives_then (is_this_sign (codes "(")) [] (λ args. block most most 1 0 >>= M args >>= K)
    (behind_block (is_this_sign (codes "(")) (signs_apart (codes "{") (codes "(") refl) most (M []) K))
    (avoids_apart (is_this_word (codes "with")) (is_this_sign (codes "("))
    (word_no_sign (codes "with") (codes "(")) parameters_starts (λ args. block most most 1 0 >>= M args >>= K)))

abbrev task_is : Ident → Options → List Ident → Counted Block → Task
task_is x o args b = record {
  name = x;
  binds = o.binds;
  priority = o.priority;
  capacity = o.capacity;
  args = args;
  body = body_with o b.0 x.at;
}

pub task_starts : (most n : ℕ) → Starts (is_this_word (codes "task")) (task most n)
task_starts most n = starts_then (λ at. name >>= λ x. options OfTask >>= λ o. parameters >>= λ args. block most most 1 0
    >>= λ b. gives (task_is x o args b)) (starts_word (codes "task") (at_most TASKS limit.Tasks n))

pub task_form : {B : Type 0} {before : Token → Bool} (most : ℕ) → suc PARENTHESES ≤ most → (n : ℕ)
    → Form B before nothing nothing suc (λ x. x) (task most n) (task_at n)
unfolding task_at
task_form most le n = form_fewer (λ n. omega arith)
    (form_then _ form_word (λ at. form_then _ (form_name free)
    (λ x. form_seq _ (options_form OfTask)
    (λ o. form_seq _ arguments_form
    (λ args. form_map (task_is x o args) (task_is x o args) (body_form most le) (λ b. refl))
    (λ args K avoids. behind_block (more_arguments args) (block_no_argument args) most (λ b. gives (task_is x o args b))
    K))
    (λ o K avoids. arguments_apart most (λ args b. gives (task_is x o args b)) K))))
