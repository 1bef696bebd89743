-- The ready queue of a level of software tasks, as code finds it (the RTIC 1 book, software tasks and their
-- dispatchers): where its ring lies in memory, how its section masks, and which interrupt serves the level.
use Rattle.std.specs.Prelude.{ℕ}
use Rattle.rt_ids.specs.declared.ids.Section.TheVariants as section
use Rattle.rt_app.specs.Tree.{App}
use Rattle.rt_app.specs.Sending.{dispatcher_number}
use Rattle.rt_app.specs.Layout.{ready_at, ready_room}
use Rattle.rt_gen_queue.specs.Guards.{guard_of}
use Rattle.rt_gen_queue.specs.declared.queue.ReadyQueue.{ReadyQueue}

-- the ready queue of a level
abbrev pub queue_at : App → ℕ → ReadyQueue
queue_at app p = record {
  level = p;
  at = ready_at app p;
  room = ready_room app p;
  guard = guard_of app (section.Ready p);
  irq = dispatcher_number app p;
}
