-- The first declaration, and the whole application. The language is this project's own. It declares what the `app`
-- attribute of RTIC 1 declares, in one text without Rust around it.
--   App = "app" Name "(" "bits" "=" Num [ "," "dispatchers" "=" "[" List(Name) "]" ] [ "," "fpu" "=" "on" ] ")" ";"
--         Interrupts [ Monotonic ] [ Shared ] [ Local ] [ Init ] [ Idle ] { Task }
-- `fpu` and `on` are names, which stay free for anything else.
use Rattle.std.specs.Prelude.{ℕ, Bool, true, false, codes, List, []}
use Rattle.rt_ids.specs.declared.limit.Limit.TheVariants as limit
use Rattle.rt_ids.specs.declared.limits.TheConstants.{LEAST_BITS, MOST_BITS}
use Rattle.rt_ast.specs.declared.ident.Ident.{Ident}
use Rattle.rt_ast.specs.Tree.{App}
use Rattle.rt_grammar.specs.Language.{Language, gives, ◌>>=◌, ◌>>◌, or_else, repeat}
use Rattle.rt_grammar.specs.Tokens.{word, sign, name, this_name, limited_number, adds, names}
use Rattle.rt_grammar.specs.Limits.{within}
use Rattle.rt_grammar.specs.Resources.{interrupts, monotonic, shared_resources, locals}
use Rattle.rt_grammar.specs.Options.{OfInit, OfIdle}
use Rattle.rt_grammar.specs.Bodies.{thread_body, task}

-- the option that lists the dispatchers, or nothing
abbrev pub dispatchers : Language (List Ident)
dispatchers = or_else [] (do
  sign (codes ",")
  word (codes "dispatchers")
  sign (codes "=")
  names)

-- the floating-point extension of the core
abbrev pub fpu : Language Bool
fpu = or_else false (do
  sign (codes ",")
  this_name (codes "fpu")
  sign (codes "=")
  this_name (codes "on")
  gives true)

-- what the first declaration says
pub record Head : Type 0 where
  pub name : Ident
  pub bits : ℕ
  pub dispatchers : List Ident
  pub fpu : Bool

-- the first declaration: the name of the application and its options
abbrev pub head : Language Head
head = do
  word (codes "app")
  x ← name
  sign (codes "(")
  word (codes "bits")
  sign (codes "=")
  bits ← limited_number (within LEAST_BITS MOST_BITS limit.Bits)
  ds ← dispatchers
  has_fpu ← fpu
  sign (codes ")")
  sign (codes ";")
  gives (record { name = x; bits = bits.value; dispatchers = ds; fpu = has_fpu })

-- an application with at most so many parentheses and so many blocks inside each other
abbrev pub application : ℕ → Language App
application most = do
  first ← head
  irqs ← interrupts
  mono ← monotonic
  ss ← shared_resources
  ls ← locals
  init ← thread_body most OfInit (codes "init")
  idle ← thread_body most OfIdle (codes "idle")
  tasks ← repeat (adds (task most)) []
  gives (record {
    name = first.name;
    bits = first.bits;
    dispatchers = first.dispatchers;
    fpu = first.fpu;
    irqs = irqs;
    mono = mono;
    shared = ss;
    locals = ls;
    init = init;
    idle = idle;
    tasks = tasks;
  })
