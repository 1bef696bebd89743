-- What an application declares before its bodies: interrupts, the monotonic, shared and local resources.
--   Interrupts = "interrupts" "{" List(Name "=" Num) "}"
--   Monotonic = "monotonic" "(" "binds" "=" Name "," "priority" "=" Num ")" ";"
--   Shared = "shared" "{" List([ "lock_free" ] Name "=" Num) "}"   Local = "local" "{" List(Name "=" Num) "}"
-- All but the interrupts may be left out.
use Rattle.std.specs.Prelude.{ℕ, ◌-◌, true, false, codes, List, [], Option, Some, None}
use Rattle.rt_ids.specs.declared.limit.Limit.TheVariants as limit
use Rattle.rt_ids.specs.declared.limits.TheConstants.{SHARED, LOCALS, IRQS, IRQ_NUMBERS}
use Rattle.rt_ast.specs.declared.app.IrqTree.{IrqTree}
use Rattle.rt_ast.specs.declared.app.MonoTree.{MonoTree}
use Rattle.rt_ast.specs.declared.app.SharedTree.{SharedTree}
use Rattle.rt_ast.specs.declared.app.LocalTree.{LocalTree}
use Rattle.rt_grammar.specs.Language.{Language, gives, ◌>>=◌, ◌>>◌, ◌or◌, or_else}
use Rattle.rt_grammar.specs.Tokens.{word, limited_word, sign, name, limited_name, number, limited_number, list, adds}
use Rattle.rt_grammar.specs.Limits.{within, at_most}

-- the declaration of an interrupt, after so many others
abbrev pub interrupt : ℕ → Language IrqTree
interrupt before = do
  x ← limited_name (at_most IRQS limit.Interrupts before)
  sign (codes "=")
  n ← limited_number (within 0 (IRQ_NUMBERS - 1) limit.Interrupt)
  gives (record { name = x; number = n })

-- the declared interrupts, which every application has
abbrev pub interrupts : Language (List IrqTree)
interrupts = do
  word (codes "interrupts")
  sign (codes "{")
  list (codes "}") (adds interrupt) []

-- the monotonic, or nothing
abbrev pub monotonic : Language (Option MonoTree)
monotonic = or_else None (do
  word (codes "monotonic")
  sign (codes "(")
  word (codes "binds")
  sign (codes "=")
  irq ← name
  sign (codes ",")
  word (codes "priority")
  sign (codes "=")
  n ← number
  sign (codes ")")
  sign (codes ";")
  gives (Some (record { binds = irq; priority = n })))

-- the first value of a resource
abbrev pub first_value : Language ℕ
first_value = do
  sign (codes "=")
  n ← number
  gives n.value

-- a shared resource that is `lock_free`, after so many others
abbrev pub lock_free : ℕ → Language SharedTree
lock_free before = do
  limited_word (codes "lock_free") (at_most SHARED limit.Shared before)
  x ← name
  n ← first_value
  gives (record { name = x; first = n; lock_free = true })

-- a shared resource that is accessed under its lock, after so many others
abbrev pub locked_resource : ℕ → Language SharedTree
locked_resource before = do
  x ← limited_name (at_most SHARED limit.Shared before)
  n ← first_value
  gives (record { name = x; first = n; lock_free = false })

-- the shared resources, or nothing
abbrev pub shared_resources : Language (List SharedTree)
shared_resources = or_else [] (do
  word (codes "shared")
  sign (codes "{")
  list (codes "}") (adds (λ before. lock_free before or locked_resource before)) [])

-- a local resource, after so many others
abbrev pub local : ℕ → Language LocalTree
local before = do
  x ← limited_name (at_most LOCALS limit.Locals before)
  n ← first_value
  gives (record { name = x; first = n })

-- the local resources, or nothing
abbrev pub locals : Language (List LocalTree)
locals = or_else [] (do
  word (codes "local")
  sign (codes "{")
  list (codes "}") (adds local) [])
