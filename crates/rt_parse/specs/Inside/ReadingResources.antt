-- The readers of interrupts, the monotonic, shared and local resources.
use Rattle.std.specs.Prelude.{ℕ, ◌-◌, true, false, codes, List, [], length, Option, Some, None, Ok, if◌then◌else◌}
use Rattle.rt_ids.specs.declared.limit.Limit.TheVariants as limit
use Rattle.rt_ids.specs.declared.limits.TheConstants.{SHARED, LOCALS, IRQS, IRQ_NUMBERS}
use Rattle.rt_lex.specs.Token.{is_this_word}
use Rattle.rt_ast.specs.declared.ident.Ident.{Ident}
use Rattle.rt_ast.specs.declared.app.IrqTree.{IrqTree}
use Rattle.rt_ast.specs.declared.app.MonoTree.{MonoTree}
use Rattle.rt_ast.specs.declared.app.SharedTree.{SharedTree}
use Rattle.rt_ast.specs.declared.app.LocalTree.{LocalTree}
use Rattle.rt_grammar.specs.Limits.{within, at_most}
use Rattle.rt_parse.specs.Inside.Reading.{Reader, ◌>>=◌, begins_with, limited_word_at, word_at, sign_at}
use Rattle.rt_parse.specs.Inside.Reading.{limited_name_at, name_at, number_at, limited_number_at}
use Rattle.rt_parse.specs.Inside.ReadingList.{items_at, adds_at}

-- a declared interrupt after so many others
unfoldable pub interrupt_at : ℕ → Reader IrqTree
interrupt_at before tokens = do
  x ← limited_name_at (at_most IRQS limit.Interrupts before) tokens
  a ← sign_at (codes "=") x.1
  n ← limited_number_at (within 0 (IRQ_NUMBERS - 1) limit.Interrupt) a.1
  Ok (record { name = x.0; number = n.0 }, n.1)

-- the declared interrupts
unfoldable pub interrupts_at : Reader (List IrqTree)
interrupts_at tokens = do
  a ← word_at (codes "interrupts") tokens
  b ← sign_at (codes "{") a.1
  items_at (codes "}") (adds_at interrupt_at) (length b.1) [] b.1

-- a monotonic's priority, after its interrupt
abbrev pub clock_priority_at : Ident → Reader (Option MonoTree)
clock_priority_at irq tokens = do
  e ← sign_at (codes ",") tokens
  f ← word_at (codes "priority") e.1
  g ← sign_at (codes "=") f.1
  n ← number_at g.1
  h ← sign_at (codes ")") n.1
  i ← sign_at (codes ";") h.1
  Ok (Some (record { binds = irq; priority = n.0 }), i.1)

-- the monotonic from its word on
unfoldable pub clock_at : Reader (Option MonoTree)
clock_at tokens = do
  a ← word_at (codes "monotonic") tokens
  b ← sign_at (codes "(") a.1
  c ← word_at (codes "binds") b.1
  d ← sign_at (codes "=") c.1
  irq ← name_at d.1
  clock_priority_at irq.0 irq.1

-- the monotonic, if its word comes next
unfoldable pub monotonic_at : Reader (Option MonoTree)
monotonic_at tokens = if begins_with (is_this_word (codes "monotonic")) tokens then clock_at tokens
    else Ok (None, tokens)

-- the first value of a resource
unfoldable pub first_value_at : Reader ℕ
first_value_at tokens = do
  a ← sign_at (codes "=") tokens
  n ← number_at a.1
  Ok (n.0.value, n.1)

-- a shared resource that is `lock_free`, after so many others
unfoldable pub lock_free_at : ℕ → Reader SharedTree
lock_free_at before tokens = do
  a ← limited_word_at (codes "lock_free") (at_most SHARED limit.Shared before) tokens
  x ← name_at a.1
  n ← first_value_at x.1
  Ok (record { name = x.0; first = n.0; lock_free = true }, n.1)

-- a shared resource that is not `lock_free`, after so many others
unfoldable pub locked_resource_at : ℕ → Reader SharedTree
locked_resource_at before tokens = do
  x ← limited_name_at (at_most SHARED limit.Shared before) tokens
  n ← first_value_at x.1
  Ok (record { name = x.0; first = n.0; lock_free = false }, n.1)

-- a shared resource after so many others
unfoldable pub resource_at : ℕ → Reader SharedTree
resource_at before tokens =
    if begins_with (is_this_word (codes "lock_free")) tokens then lock_free_at before tokens
    else locked_resource_at before tokens

-- the shared resources from their word on
unfoldable pub resources_at : Reader (List SharedTree)
resources_at tokens = do
  a ← word_at (codes "shared") tokens
  b ← sign_at (codes "{") a.1
  items_at (codes "}") (adds_at resource_at) (length b.1) [] b.1

-- the shared resources, if their word comes next
unfoldable pub shared_resources_at : Reader (List SharedTree)
shared_resources_at tokens = if begins_with (is_this_word (codes "shared")) tokens then resources_at tokens else Ok
    ([], tokens)

-- a local resource after so many others
unfoldable pub local_at : ℕ → Reader LocalTree
local_at before tokens = do
  x ← limited_name_at (at_most LOCALS limit.Locals before) tokens
  n ← first_value_at x.1
  Ok (record { name = x.0; first = n.0 }, n.1)

-- the local resources from their word on
unfoldable pub local_resources_at : Reader (List LocalTree)
local_resources_at tokens = do
  a ← word_at (codes "local") tokens
  b ← sign_at (codes "{") a.1
  items_at (codes "}") (adds_at local_at) (length b.1) [] b.1

-- the local resources, if their word comes next
unfoldable pub locals_at : Reader (List LocalTree)
locals_at tokens = if begins_with (is_this_word (codes "local")) tokens then local_resources_at tokens
    else Ok ([], tokens)
