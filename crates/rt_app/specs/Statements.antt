-- The rules on statements: shared resources (Baker, 1991; the RTIC 1 book), spawns, time, and what can be assigned to.
-- An unknown name breaks none of them, because it has a refusal of its own.
use Rattle.std.specs.Prelude.{ℕ, ◌==◌, Bool, true, false, not, ◌&&◌, ◌||◌, List, [], ◌++◌, length, flat_map, find}
use Rattle.std.specs.Prelude.{slice_get, Option, is_none}
use Rattle.std.specs.List.{list_any}
use Rattle.rt_ids.specs.declared.ids.BodyId.{BodyId}
use Rattle.rt_ids.specs.declared.ids.BodyId.TheVariants as body
use Rattle.rt_ids.specs.declared.rule.Rule.TheVariants as rule
use Rattle.rt_app.specs.declared.expr.Atom.{Atom}
use Rattle.rt_app.specs.declared.expr.Atom.TheVariants as atom
use Rattle.rt_app.specs.declared.body.Listed.{Listed}
use Rattle.rt_app.specs.declared.violation.Violation.{Violation}
use Rattle.rt_app.specs.Tree.{Expression, Spawn, Soon, After, Cancel, Move, Task, App}
use Rattle.rt_app.specs.Bodies.{Member, members}
use Rattle.rt_app.specs.Level.{is_software}
use Rattle.rt_ids.specs.Lists.{is_some_and}
use Rattle.rt_app.specs.Violation.{when}
use Rattle.rt_app.specs.Declarations.{is_known}
use Rattle.rt_app.specs.Listing.{is_lock_free}
use Rattle.rt_app.specs.Use.{Use, Reads, Writes, Locks, MakesSpawn, AsksTime, Placed, uses, loops}

-- whether a body is `init`, in which interrupts are masked
abbrev pub is_init : BodyId → Bool
is_init body.Init = true
is_init body.Idle = false
is_init (body.Task t) = false

-- the first listing of a resource by a body
abbrev pub listing_in : Member → ℕ → Option Listed
listing_in m r = find (λ l. l.resource == r) m.body.shared

-- whether a body reaches a resource by locking it, as it lists it
abbrev pub is_lockable : App → Member → ℕ → Bool
is_lockable app m r = is_some_and (λ l. not l.by_ref && not (is_lock_free app r)) (listing_in m r)

-- whether a body reaches a resource without a lock, as it lists it
abbrev pub is_free : App → Member → ℕ → Bool
is_free app m r = is_some_and (λ l. l.by_ref || is_lock_free app r) (listing_in m r)

-- whether a body uses a shared resource where it may not: it is not `init`, it may not go without a lock, and it is not
-- inside a lock of a resource that it lists to be locked
abbrev pub is_outside : App → Member → List ℕ → Atom → Bool
is_outside app m locked (atom.Var x) = false
is_outside app m locked (atom.Local n) = false
is_outside app m locked (atom.Shared r) =
    is_known r
    && (not (is_init m.id) && not (is_free app m r || (is_lockable app m r && list_any (λ q. q == r) locked)))

-- whether a lock is misplaced: `init` locks nothing, any other body only what it lists to be locked
abbrev pub is_misplaced_lock : App → Member → ℕ → Bool
is_misplaced_lock app m r = is_known r && (is_init m.id || not (is_lockable app m r))

-- whether a lock is of a resource that is locked already
abbrev pub is_inside_itself : List ℕ → ℕ → Bool
is_inside_itself locked r = is_known r && list_any (λ q. q == r) locked

-- what may not be assigned to: the variable of a loop, and what a body other than `init` lists to be read alone
abbrev pub is_fixed : Member → Atom → Bool
is_fixed m (atom.Var x) = list_any (λ y. y == x) (loops m.body.block)
is_fixed m (atom.Local n) = false
is_fixed m (atom.Shared r) = is_known r && (not (is_init m.id) && is_some_and (λ l. l.by_ref) (listing_in m r))

-- whether a task is a software task that takes as many arguments
abbrev pub takes_arguments : List Expression → Task → Bool
takes_arguments args t = is_software t && (length args == t.args)

-- whether a spawn is of a hardware task, or has another number of arguments than its task
abbrev pub is_bad_spawn : App → ℕ → List Expression → Bool
is_bad_spawn app n args = is_known n && not (is_some_and (takes_arguments args) (slice_get app.tasks n))

-- whether a message that is cancelled or moved is of a hardware task
abbrev pub is_bad_message : App → ℕ → Bool
is_bad_message app n = is_known n && not (is_some_and is_software (slice_get app.tasks n))

-- the rules that a spawn, a `cancel` or a `reschedule_after` breaks: all but a spawn at once want a monotonic
abbrev pub spawn_breaks : App → Spawn → List Violation
spawn_breaks app (Soon task args at) = when (is_bad_spawn app task args) rule.NotSoftware at
spawn_breaks app (After word delay task args at) =
    when (is_none app.mono) rule.NoMonotonic word ++ when (is_bad_spawn app task args) rule.NotSoftware at
spawn_breaks app (Cancel word task handle at) =
    when (is_none app.mono) rule.NoMonotonic word ++ when (is_bad_message app task) rule.NotSoftware at
spawn_breaks app (Move word delay task handle at) =
    when (is_none app.mono) rule.NoMonotonic word ++ when (is_bad_message app task) rule.NotSoftware at

-- the rules that a use breaks, where these resources are locked
abbrev pub use_breaks : App → Member → List ℕ → Use → List Violation
use_breaks app m locked (Reads x at) = when (is_outside app m locked x) rule.OutsideLock at
use_breaks app m locked (Writes x at) =
    when (is_outside app m locked x) rule.OutsideLock at ++ when (is_fixed m x) rule.NotWritable at
use_breaks app m locked (Locks r at) =
    when (is_misplaced_lock app m r) rule.OutsideLock at
    ++ when (is_inside_itself locked r) rule.LockedInsideItself at
use_breaks app m locked (MakesSpawn s) = spawn_breaks app s
use_breaks app m locked (AsksTime at) = when (is_none app.mono) rule.NoMonotonic at

-- the rules that a use breaks at its place in the text
abbrev pub breaks : App → Member → Placed → List Violation
breaks app m p = use_breaks app m p.locked p.what

-- every rule on statements that is broken
abbrev pub statements : App → List Violation
statements app = flat_map (λ m. flat_map (breaks app m) (uses [] m.body.block)) (members app)
