-- The readers of the first declaration and of the whole application.
use Rattle.std.specs.Prelude.{ℕ, Bool, true, false, codes, List, [], ◌∷◌, length, Option, Result, Ok, Err}
use Rattle.std.specs.Prelude.{if◌then◌else◌}
use Rattle.rt_ids.specs.declared.limit.Limit.TheVariants as limit
use Rattle.rt_ids.specs.declared.limits.TheConstants.{LEAST_BITS, MOST_BITS}
use Rattle.rt_lex.specs.Token.{Token, is_this_word, is_this_name, is_this_sign}
use Rattle.rt_ast.specs.declared.ident.Ident.{Ident}
use Rattle.rt_ast.specs.declared.app.IrqTree.{IrqTree}
use Rattle.rt_ast.specs.declared.app.MonoTree.{MonoTree}
use Rattle.rt_ast.specs.declared.app.SharedTree.{SharedTree}
use Rattle.rt_ast.specs.declared.app.LocalTree.{LocalTree}
use Rattle.rt_ast.specs.Tree.{App, Body, Task}
use Rattle.rt_grammar.specs.Limits.{within}
use Rattle.rt_grammar.specs.Options.{OfInit, OfIdle}
use Rattle.rt_grammar.specs.Declaration.{Head}
use Rattle.rt_parse.specs.declared.stop.Found.{Found}
use Rattle.rt_parse.specs.Inside.Reading.{Reader, ◌>>=◌, begins_with, fault_found_at, repeat_at, word_at, sign_at}
use Rattle.rt_parse.specs.Inside.Reading.{name_at}
use Rattle.rt_parse.specs.Inside.Reading.{this_name_at, limited_number_at}
use Rattle.rt_parse.specs.Inside.ReadingList.{adds_at, names_at}
use Rattle.rt_parse.specs.Inside.ReadingResources.{interrupts_at, monotonic_at, shared_resources_at, locals_at}
use Rattle.rt_parse.specs.Inside.ReadingBodies.{thread_body_at, task_at}

-- the dispatchers after their comma
unfoldable pub dispatchers_at : Reader (List Ident)
dispatchers_at tokens = do
  a ← word_at (codes "dispatchers") tokens
  b ← sign_at (codes "=") a.1
  names_at b.1

-- the floating-point extension after its comma
unfoldable pub extension_at : Reader Bool
extension_at tokens = do
  a ← this_name_at (codes "fpu") tokens
  b ← sign_at (codes "=") a.1
  c ← this_name_at (codes "on") b.1
  Ok (true, c.1)

-- the floating-point extension from its comma on
abbrev pub comma_extension_at : Reader Bool
comma_extension_at tokens = do
  a ← sign_at (codes ",") tokens
  extension_at a.1

-- whether the extension is there, after the dispatchers
unfoldable pub fpu_at : Reader Bool
fpu_at tokens = if begins_with (is_this_sign (codes ",")) tokens then comma_extension_at tokens else Ok (false, tokens)

-- The dispatchers, and whether the extension is there. Both parts begin with a comma, so the token after the first
-- comma decides which of them comes.
abbrev pub Features : Type 0
Features = List Ident × Bool

-- the extension alone, after its comma
abbrev pub alone_at : Reader Features
alone_at tokens = do
  on ← extension_at tokens
  Ok (([], on.0), on.1)

-- the dispatchers after their comma, and the extension if it is there
abbrev pub dispatcher_features_at : Reader Features
dispatcher_features_at tokens = do
  ds ← dispatchers_at tokens
  on ← fpu_at ds.1
  Ok ((ds.0, on.0), on.1)

-- what follows the first comma: the extension alone, or the dispatchers first
unfoldable pub behind_comma_at : Reader Features
behind_comma_at tokens = if begins_with (is_this_name (codes "fpu")) tokens then alone_at tokens
    else dispatcher_features_at tokens

-- both parts from the first comma on
abbrev pub comma_features_at : Reader Features
comma_features_at tokens = do
  a ← sign_at (codes ",") tokens
  behind_comma_at a.1

-- both parts, if a comma comes next
unfoldable pub features_at : Reader Features
features_at tokens = if begins_with (is_this_sign (codes ",")) tokens then comma_features_at tokens
    else Ok (([], false), tokens)

-- the first declaration after its priority bits
abbrev pub head_rest_at : Ident → ℕ → Reader Head
head_rest_at name bits tokens = do
  fs ← features_at tokens
  e ← sign_at (codes ")") fs.1
  f ← sign_at (codes ";") e.1
  Ok (record { name = name; bits = bits; dispatchers = fs.0.0; fpu = fs.0.1 }, f.1)

-- the first declaration from its parenthesis on
abbrev pub priority_bits_at : Ident → Reader Head
priority_bits_at name tokens = do
  b ← sign_at (codes "(") tokens
  c ← word_at (codes "bits") b.1
  d ← sign_at (codes "=") c.1
  bits ← limited_number_at (within LEAST_BITS MOST_BITS limit.Bits) d.1
  head_rest_at name bits.0.value bits.1

-- the first declaration
unfoldable pub head_at : Reader Head
head_at tokens = do
  a ← word_at (codes "app") tokens
  x ← name_at a.1
  priority_bits_at x.0 x.1

-- what is declared before the bodies
pub record Declared : Type 0 where
  pub first : Head
  pub irqs : List IrqTree
  pub mono : Option MonoTree
  pub shared : List SharedTree
  pub locals : List LocalTree

-- an application of what was read of it
abbrev pub app_is : Declared → Option Body → Option Body → List Task → App
app_is d init idle tasks = record {
  name = d.first.name;
  bits = d.first.bits;
  fpu = d.first.fpu;
  dispatchers = d.first.dispatchers;
  irqs = d.irqs;
  mono = d.mono;
  shared = d.shared;
  locals = d.locals;
  init = init;
  idle = idle;
  tasks = tasks;
}

-- the bodies of an application, after what it declares
abbrev pub bodies_at : Declared → Reader App
bodies_at d tokens = do
  init ← thread_body_at OfInit (codes "init") tokens
  idle ← thread_body_at OfIdle (codes "idle") init.1
  tasks ← repeat_at (is_this_word (codes "task")) (adds_at task_at) (length idle.1) [] idle.1
  Ok (app_is d init.0 idle.0 tasks.0, tasks.1)

-- an application after its first declaration
abbrev pub declarations_at : Head → Reader App
declarations_at first tokens = do
  irqs ← interrupts_at tokens
  mono ← monotonic_at irqs.1
  ss ← shared_resources_at mono.1
  ls ← locals_at ss.1
  bodies_at (record { first = first; irqs = irqs.0; mono = mono.0; shared = ss.0; locals = ls.0 }) ls.1

-- an application
unfoldable pub application_at : Reader App
application_at tokens = do
  first ← head_at tokens
  declarations_at first.0 first.1

-- whether no token is left
abbrev pub is_end : List Token → Bool
is_end [] = true
is_end (t ∷ tokens) = false

-- an application after which no token is left
abbrev pub whole_at : App → List Token → Result App Found
whole_at app tokens = if is_end tokens then Ok app else Err (fault_found_at tokens)

-- all of the tokens
unfoldable pub text_at : List Token → Result App Found
text_at tokens = do
  app ← application_at tokens
  whole_at app.0 app.1
