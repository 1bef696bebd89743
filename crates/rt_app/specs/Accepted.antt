-- The applications that are accepted, as they show it themselves: they break no rule and keep the limits, their names
-- are names and differ, each number in them is the index of something that is declared, a variable is in scope where it
-- is read or assigned, and the body lists the local resources that it uses, as a task of RTIC 1 does.
use Rattle.std.specs.Prelude.{◌≡◌, ℕ, ◌+◌, ◌<◌, Contains, List, [], ◌∷◌, length, map, Option, Some, None}
use Rattle.std.specs.List.{AllByRecursion, range_with_len}
use Rattle.rt_ids.specs.Lists.{AreDifferent}
use Rattle.rt_app.specs.declared.app.Mono.{Mono}
use Rattle.rt_app.specs.declared.expr.Atom.{Atom}
use Rattle.rt_app.specs.declared.expr.Atom.TheVariants.{Var, Shared, Local}
use Rattle.rt_app.specs.Tree.{Expression, Num, Read, Oper, Spawn, Soon, After, Cancel, Move, Value, Calc, Now, Call}
use Rattle.rt_app.specs.Tree.{Statement, Bind, Assign, Branch, Repeat, Locked, Emit, Pend, Spawns, Block, Empty, Then}
use Rattle.rt_app.specs.Tree.{Body, Task, App}
use Rattle.rt_app.specs.Variables.{variables, variables_in}
use Rattle.rt_app.specs.Limits.{KeepsLimits}
use Rattle.rt_app.specs.Names.{HasNames}
use Rattle.rt_app.specs.Rules.{violations}

-- in a body that lists these local resources
module _ (app : App) (listed : List ℕ) where
  -- a name is meant: it is of a variable in scope, of a shared resource, or of a local resource that the body lists
  abbrev pub IsMeant : List ℕ → Atom → Type 0
  IsMeant visible (Var x) = Contains visible x
  IsMeant visible (Shared r) = r < length app.shared
  IsMeant visible (Local n) = (n < length app.locals) × Contains listed n

  -- each name in an expression is meant
  abbrev pub AreMeant : List ℕ → Expression → Type 0
  AreMeant visible (Num n) = Unit {0}
  AreMeant visible (Read atom at) = IsMeant visible atom
  AreMeant visible (Oper o left right) = AreMeant visible left × AreMeant visible right

  -- the task of a spawn is declared, and the names in its delay, its arguments and its handle are meant
  abbrev pub IsSpawnPlaced : List ℕ → Spawn → Type 0
  IsSpawnPlaced visible (Soon task args at) = (task < length app.tasks) × AllByRecursion (AreMeant visible) args
  IsSpawnPlaced visible (After word delay task args at) =
      AreMeant visible delay × (task < length app.tasks) × AllByRecursion (AreMeant visible) args
  IsSpawnPlaced visible (Cancel word task handle at) = (task < length app.tasks) × AreMeant visible handle
  IsSpawnPlaced visible (Move word delay task handle at) =
      AreMeant visible delay × (task < length app.tasks) × AreMeant visible handle

  -- the names in the value of a `let` are meant, and the task of its spawn is declared
  abbrev pub IsValuePlaced : List ℕ → Value → Type 0
  IsValuePlaced visible (Calc e) = AreMeant visible e
  IsValuePlaced visible (Now at) = Unit {0}
  IsValuePlaced visible (Call s) = IsSpawnPlaced visible s

  -- the variables in scope after a statement, before which the body has so many
  abbrev pub visible_after : ℕ → List ℕ → Statement → List ℕ
  visible_after n visible (Bind x v) = n ∷ visible
  visible_after n visible (Assign x e at) = visible
  visible_after n visible (Branch e first second) = visible
  visible_after n visible (Repeat x first last turn) = visible
  visible_after n visible (Locked r inner at) = visible
  visible_after n visible (Emit e) = visible
  visible_after n visible (Pend i) = visible
  visible_after n visible (Spawns s) = visible

  -- a statement names only what is declared, what is in scope, or what the body lists; the body has so many variables
  -- before it, and these are in scope
  abbrev mutual
    pub IsStatementPlaced : ℕ → List ℕ → Statement → Type 0
    IsStatementPlaced n visible (Bind x v) = (x ≡ n) × IsValuePlaced visible v
    IsStatementPlaced n visible (Assign x e at) = IsMeant visible x × AreMeant visible e
    IsStatementPlaced n visible (Branch e first second) =
        AreMeant visible e × IsBlockPlaced n visible first × IsBlockPlaced (n + variables first) visible second
    IsStatementPlaced n visible (Repeat x first last turn) = (x ≡ n) × IsBlockPlaced (n + 1) (n ∷ visible) turn
    IsStatementPlaced n visible (Locked r inner at) = (r < length app.shared) × IsBlockPlaced n visible inner
    IsStatementPlaced n visible (Emit e) = AreMeant visible e
    IsStatementPlaced n visible (Pend i) = i < length app.irqs
    IsStatementPlaced n visible (Spawns s) = IsSpawnPlaced visible s

    -- each statement of a block is such, with the variables in scope after those before it
    pub IsBlockPlaced : ℕ → List ℕ → Block → Type 0
    IsBlockPlaced n visible Empty = Unit {0}
    IsBlockPlaced n visible (Then s rest) =
        IsStatementPlaced n visible s × IsBlockPlaced (n + variables_in s) (visible_after n visible s) rest

module _ (app : App) where
  -- a body that takes so many arguments lists only what is declared, and its statements name only what they may
  pub record IsBodyPlaced (args : ℕ) (b : Body) : Type 0 where
    pub shared : AllByRecursion (λ l. l.resource < length app.shared) b.shared
    pub local : AllByRecursion (λ o. o.local < length app.locals) b.local
    -- it lists nothing twice
    pub shared_once : AreDifferent (map (λ l. l.resource) b.shared)
    pub local_once : AreDifferent (map (λ o. o.local) b.local)
    pub block : IsBlockPlaced app (map (λ o. o.local) b.local) args (range_with_len 0 args) b.block

  -- `idle`, where it is declared, takes no arguments, and names only what it may
  abbrev pub IsThreadPlaced : Option Body → Type 0
  IsThreadPlaced None = Unit {0}
  IsThreadPlaced (Some b) = IsBodyPlaced 0 b

  -- `init` uses every shared resource by its name, and lists none
  abbrev pub IsInitPlaced : Option Body → Type 0
  IsInitPlaced None = Unit {0}
  IsInitPlaced (Some b) = IsBodyPlaced 0 b × (b.shared ≡ [])

  -- the interrupt that a hardware task binds is declared
  abbrev pub IsBindingPlaced : Option ℕ → Type 0
  IsBindingPlaced None = Unit {0}
  IsBindingPlaced (Some irq) = irq < length app.irqs

  -- the interrupt of the monotonic is declared
  abbrev pub IsMonoPlaced : Option Mono → Type 0
  IsMonoPlaced None = Unit {0}
  IsMonoPlaced (Some mono) = mono.irq < length app.irqs

  -- a task binds a declared interrupt, if any, and its body names only what it may
  abbrev pub IsTaskPlaced : Task → Type 0
  IsTaskPlaced t = IsBindingPlaced t.binds × IsBodyPlaced t.args t.body

-- an application that breaks no rule, keeps the limits, and names only what is declared
pub record IsAccepted (app : App) : Type 0 where
  pub rules : violations app ≡ []
  pub limits : KeepsLimits app
  pub names : HasNames app
  pub dispatchers : AllByRecursion (λ d. d.irq < length app.irqs) app.dispatchers
  pub mono : IsMonoPlaced app app.mono
  pub init : IsInitPlaced app app.init
  pub idle : IsThreadPlaced app app.idle
  pub tasks : AllByRecursion (IsTaskPlaced app) app.tasks
