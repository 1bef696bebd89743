-- What a request asks for at a handler of the order, with all jobs at it that come of the request: core steps, or
-- messages of a task. This is a transaction of Tindell and Clark (Holistic Schedulability Analysis for Distributed Hard
-- Real-Time Systems, 1994), in which a job releases others, by a `pend` or by a message that is ready at once. A
-- release downwards is counted with its root, so it has no jitter. What is below the handler asks for nothing there. A
-- step more than the cost takes the interrupt.
use Rattle.std.specs.Prelude.{ℕ, zero, suc, ◌+◌, ◌-◌, ◌==◌, ◌&&◌, Bool, length, find, Option, Some, None}
use Rattle.std.specs.Prelude.{if◌then◌else◌}
use Rattle.rt_app.specs.Tree.{Spawn, Soon, After, Cancel, Move, Value, Calc, Now, Call}
use Rattle.rt_app.specs.Tree.{Statement, Bind, Assign, Branch, Repeat, Locked, Emit, Pend, Spawns, Block, Empty, Then}
use Rattle.rt_app.specs.Tree.{Body, App}
use Rattle.rt_respond.specs.Number.{plus, greater_of, times}
use Rattle.rt_respond.specs.Handlers.{handlers, handled_block, is_at}
use Rattle.rt_respond.specs.declared.handler.Quantity.{Quantity}
use Rattle.rt_respond.specs.declared.handler.Quantity.TheVariants as counted
use Rattle.rt_respond.specs.declared.handler.Handler.{Handler}
use Rattle.rt_respond.specs.declared.handler.Release.{Release}
use Rattle.rt_respond.specs.declared.handler.Release.TheVariants as released

-- where a release asks for so much
module _ (asks : Release → Option ℕ) where
  -- what a spawn releases; messages that are armed are left for later
  abbrev pub spawn_sends : Spawn → Option ℕ
  spawn_sends (Soon task args at) = asks (released.Message task)
  spawn_sends (After word delay task args at) = Some 0
  spawn_sends (Cancel word task handle at) = Some 0
  spawn_sends (Move word delay task handle at) = Some 0

  -- what the value of a `let` releases
  abbrev pub value_sends : Value → Option ℕ
  value_sends (Calc e) = Some 0
  value_sends (Now at) = Some 0
  value_sends (Call s) = spawn_sends s

  -- what a statement releases at most: of a branch the greater block, of a loop all turns
  abbrev mutual
    pub statement_sends : Statement → Option ℕ
    statement_sends (Bind x v) = value_sends v
    statement_sends (Assign x e at) = Some 0
    statement_sends (Branch e first second) = greater_of (block_sends first) (block_sends second)
    statement_sends (Repeat x first last turn) = times (last - first) (block_sends turn)
    statement_sends (Locked r inner at) = block_sends inner
    statement_sends (Emit e) = Some 0
    statement_sends (Pend i) = asks (released.Request i)
    statement_sends (Spawns s) = spawn_sends s

    -- what a block releases at most
    pub block_sends : Block → Option ℕ
    block_sends Empty = Some 0
    block_sends (Then s rest) = plus (statement_sends s) (block_sends rest)

  -- what `init` releases, where it is declared
  abbrev pub body_sends : Option Body → Option ℕ
  body_sends None = Some 0
  body_sends (Some b) = block_sends b.block

-- of a handler, where there is one, so much; an interrupt that is not enabled is never taken
abbrev pub handler_asks : (Handler → Option ℕ) → Option Handler → Option ℕ
handler_asks works None = Some 0
handler_asks works (Some h) = works h

-- a handler is that of a release
abbrev pub takes : Release → Handler → Bool
takes (released.Request irq) h = h.irq == irq
takes (released.Message task) h = h.task == task

-- what a release asks for, where its handler asks for so much; the form has no `pend` of a dispatcher's interrupt
abbrev pub release_asks : App → (Handler → Option ℕ) → Release → Option ℕ
release_asks app works r = handler_asks works (find (takes r) (handlers app))

-- what counts of a job: its core steps with the step of the take, or whether it runs a message of a task
abbrev pub weight : Quantity → Handler → ℕ
weight counted.Steps h = h.steps + 1
weight (counted.Messages task) h = if h.is_dispatcher && (h.task == task) then 1 else 0

-- what counts of core steps
abbrev pub steps_weight : Quantity → ℕ → ℕ
steps_weight counted.Steps steps = steps
steps_weight (counted.Messages task) steps = 0

-- at a handler
module _ (app : App) (what : Quantity) (i : Handler) where
  -- The work of a request, where one job after another releases the next so many times at most. There is no number
  -- where they go on.
  unfoldable pub work_within : ℕ → Handler → Option ℕ
  work_within zero h = None
  work_within (suc depth) h =
      if is_at i h then plus (Some (weight what h))
      (block_sends (release_asks app (work_within depth)) (handled_block app h))
      else Some 0

  -- The work of a request. Where more jobs release one another in a row than there are handlers, one comes back to
  -- itself, and there is no number.
  abbrev pub work : Handler → Option ℕ
  work h = work_within (length (handlers app)) h

  -- what a release asks for
  abbrev pub release_work : Release → Option ℕ
  release_work r = release_asks app work r

  -- what code releases: a block, and `init`
  abbrev pub sends : Block → Option ℕ
  sends b = block_sends release_work b

  -- what `init` releases, which is there once it ends
  abbrev pub start : Option ℕ
  start = body_sends release_work app.init
