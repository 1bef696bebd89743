-- What it means for a body that no rule is broken, in the terms of RTIC 1 (the RTIC 1 book, resources and software
-- tasks) and of Baker (Stack-Based Scheduling of Realtime Processes, 1991): the body reaches a shared resource in a
-- section of it, or without one where it may; each section's ceiling is at least the body's priority, and none lies in
-- a section of the same resource; a loop's variable is set by its loop alone. The rules are lists of violations; this
-- follows the statements.
use Rattle.std.specs.Prelude.{◌≡◌, ℕ, ◌+◌, ◌-◌, ◌^◌, ◌<◌, ◌≤◌, ◌⊎◌, true, false, Contains, List, [], ◌∷◌, length, map}
use Rattle.std.specs.Prelude.{slice_get, Some}
use Rattle.std.specs.List.{AllByRecursion}
use Rattle.rt_ids.specs.Lists.{is_some_and}
use Rattle.rt_ids.specs.declared.limits.TheConstants.{TURNS}
use Rattle.rt_ids.specs.declared.ids.Section.TheVariants as section
use Rattle.rt_app.specs.declared.app.Mono.{Mono}
use Rattle.rt_app.specs.declared.expr.Atom.{Atom}
use Rattle.rt_app.specs.declared.expr.Atom.TheVariants as atom
use Rattle.rt_app.specs.Tree.{Expression, Num, Read, Oper, Spawn, Soon, After, Cancel, Move, Value, Calc, Now, Call}
use Rattle.rt_app.specs.Tree.{Statement, Bind, Assign, Branch, Repeat, Locked, Emit, Pend, Spawns, Block, Empty, Then}
use Rattle.rt_app.specs.Tree.{Task, App}
use Rattle.rt_app.specs.Variables.{variables, variables_in}
use Rattle.rt_app.specs.Bodies.{Member}
use Rattle.rt_app.specs.Level.{is_software, is_armed}
use Rattle.rt_app.specs.Ceiling.{ceiling}
use Rattle.rt_app.specs.Statements.{is_init, listing_in, is_lockable, is_free}

module _ (app : App) (m : Member) where
  -- inside sections of these resources, innermost first, the body may read what a name stands for
  abbrev pub IsReached : List ℕ → Atom → Type 0
  IsReached locked (atom.Var x) = x < m.args + variables m.body.block
  IsReached locked (atom.Shared r) =
      (r < length app.shared) × ((is_init m.id ≡ true)
      ⊎ ((is_free app m r ≡ true) ⊎ ((is_lockable app m r ≡ true) × Contains locked r)))
  IsReached locked (atom.Local n) = (n < length app.locals) × Contains (map (λ o. o.local) m.body.local) n

  -- the body may change what a name stands for: no variable of a loop round it, and nothing that it lists to be read
  -- alone
  abbrev pub IsChangeable : List ℕ → Atom → Type 0
  IsChangeable fixed (atom.Var x) = ¬ Contains fixed x
  IsChangeable fixed (atom.Shared r) = (is_init m.id ≡ true) ⊎ (is_some_and (λ l. l.by_ref) (listing_in m r) ≡ false)
  IsChangeable fixed (atom.Local n) = Unit {0}

  -- the body may read all that the names of an expression stand for, and the literals are of 32 bits
  abbrev pub AreReached : List ℕ → Expression → Type 0
  AreReached locked (Num n) = n < 2 ^ 32
  AreReached locked (Read x at) = IsReached locked x
  AreReached locked (Oper o left right) = AreReached locked left × AreReached locked right

  -- a spawn of a software task with these arguments; the body enters the section of the task's free places
  pub record SpawnsTask (locked : List ℕ) (n : ℕ) (args : List Expression) (t : Task) : Type 0 where
    pub is_there : slice_get app.tasks n ≡ Some t
    pub software : is_software t ≡ true
    pub arguments : length args ≡ t.args
    pub reached : AllByRecursion (AreReached locked) args
    pub within : m.priority ≤ ceiling app (section.Free n)

  -- a message of a software task by its handle; the body enters the section of the timer queue
  pub record AddressesMessage (locked : List ℕ) (n : ℕ) (handle : Expression) (t : Task) : Type 0 where
    pub is_there : slice_get app.tasks n ≡ Some t
    pub software : is_software t ≡ true
    pub reached : AreReached locked handle
    pub timed : (mono : Mono) × (app.mono ≡ Some mono)
    pub within : m.priority ≤ ceiling app section.Timer

  -- a spawn goes on in the section of the ready queue of its task's level, or in that of the timer queue; a cancel in
  -- that of the task's free places
  abbrev pub IsSoundSpawn : List ℕ → Spawn → Type 0
  IsSoundSpawn locked (Soon n args at) =
      (t : Task) × SpawnsTask locked n args t × (m.priority ≤ ceiling app (section.Ready t.priority))
  IsSoundSpawn locked (After word delay n args at) =
      (t : Task) × SpawnsTask locked n args t × AreReached locked delay × (is_armed app n ≡ true)
      × ((mono : Mono) × (app.mono ≡ Some mono))
      × (m.priority ≤ ceiling app section.Timer)
  IsSoundSpawn locked (Cancel word n handle at) =
      (t : Task) × AddressesMessage locked n handle t × (m.priority ≤ ceiling app (section.Free n))
  IsSoundSpawn locked (Move word delay n handle at) =
      (t : Task) × AddressesMessage locked n handle t × AreReached locked delay

  -- what a variable is bound to is sound: `now` wants a monotonic
  abbrev pub IsSoundValue : List ℕ → Value → Type 0
  IsSoundValue locked (Calc e) = AreReached locked e
  IsSoundValue locked (Now at) = (mono : Mono) × (app.mono ≡ Some mono)
  IsSoundValue locked (Call s) = IsSoundSpawn locked s

  -- a lock is sound: the resource is declared, the body is not `init` and lists it to be locked, the ceiling is at
  -- least the body's priority, and the lock lies in no lock of the same resource
  pub record IsSoundLock (locked : List ℕ) (r : ℕ) : Type 0 where
    pub is_there : r < length app.shared
    pub no_init : is_init m.id ≡ false
    pub lockable : is_lockable app m r ≡ true
    pub within : m.priority ≤ ceiling app (section.Res r)
    pub once : ¬ Contains locked r

  -- a statement is sound, where the body has so many variables before it, inside sections of these resources, and in
  -- loops of these variables
  abbrev mutual
    pub IsSoundStatement : ℕ → List ℕ → List ℕ → Statement → Type 0
    IsSoundStatement n locked fixed (Bind x v) = (x ≡ n) × IsSoundValue locked v
    IsSoundStatement n locked fixed (Assign x e at) = IsReached locked x × IsChangeable fixed x × AreReached locked e
    IsSoundStatement n locked fixed (Branch e first second) =
        AreReached locked e × IsSoundBlock n locked fixed first × IsSoundBlock (n + variables first) locked fixed second
    IsSoundStatement n locked fixed (Repeat x first last turn) =
        (x ≡ n) × (first < 2 ^ 32) × (last < 2 ^ 32) × (last - first ≤ TURNS)
        × IsSoundBlock (n + 1) locked (x ∷ fixed) turn
    IsSoundStatement n locked fixed (Locked r inner at) = IsSoundLock locked r × IsSoundBlock n (r ∷ locked) fixed inner
    IsSoundStatement n locked fixed (Emit e) = AreReached locked e
    IsSoundStatement n locked fixed (Pend i) = i < length app.irqs
    IsSoundStatement n locked fixed (Spawns s) = IsSoundSpawn locked s

    -- each statement of a block is sound, with the variables of those before it counted
    pub IsSoundBlock : ℕ → List ℕ → List ℕ → Block → Type 0
    IsSoundBlock n locked fixed Empty = Unit {0}
    IsSoundBlock n locked fixed (Then s rest) =
        IsSoundStatement n locked fixed s × IsSoundBlock (n + variables_in s) locked fixed rest

  -- the whole body is sound; its arguments are its first variables
  abbrev pub IsSoundBody : Type 0
  IsSoundBody = IsSoundBlock m.args [] [] m.body.block
