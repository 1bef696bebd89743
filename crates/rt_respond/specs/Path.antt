-- Which jobs come of which requests: the graph of releases, in which each path is a chain of jobs that release one
-- another (Tindell and Clark, 1994, on transactions). A path goes through each handler whose task holds a `pend` of the
-- next, or a `spawn` of its task, whether or not that is ever done.
use Rattle.std.specs.Prelude.{◌≡◌, Bool, true, if◌then◌else◌}
use Rattle.rt_ids.specs.Choice.{IsIn}
use Rattle.rt_app.specs.Tree.{App}
use Rattle.rt_respond.specs.Handlers.{handlers, handled_block, is_at}
use Rattle.rt_respond.specs.Pends.{block_pends, block_spawns}
use Rattle.rt_respond.specs.declared.handler.Handler.{Handler}

module _ (app : App) where
  -- the body of a handler holds a `pend` of another, or a `spawn` of its task
  abbrev pub releases : Handler → Handler → Bool
  releases h g =
      if g.is_dispatcher then block_spawns g.task (handled_block app h) else block_pends g.irq (handled_block app h)

  -- a path leads from a handler to another, or to itself
  pub data Leads : Handler → Handler → Type 0 where
    Here : (h : Handler) → Leads h h
    Next : (h g k : Handler) → IsIn (handlers app) g → releases h g ≡ true → Leads g k → Leads h k

  -- a handler is on a path from one to another
  pub record IsOnPath (from to h : Handler) : Type 0 where
    pub declared : IsIn (handlers app) h
    pub before : Leads from h
    pub behind : Leads h to

  -- the handler that stands last in the order, of all those on paths from one to another
  pub record IsLowest (from to lowest : Handler) : Type 0 where
    pub on : IsOnPath from to lowest
    pub last : (h : Handler) → IsOnPath from to h → is_at lowest h ≡ true
