-- What code takes in numbers, as docs/BOUNDS.md has them, and the number of a name that is not declared. Everything else names them.
use Rattle.std.specs.Prelude.{◌≡◌, ◌≤◌}
use Rattle.rt_ids.specs.declared.limits.TheConstants.{IRQS, TASKS, SHARED, LOCALS}
use Rattle.rt_app.specs.declared.TheConstants.{UNKNOWN}
use Rattle.rt_app.specs.declared.costs.TheConstants.{SPAWN_COST, SPAWN_AFTER_COST, MESSAGE_COST, HANDLE_COST, FREE_COST}
use Rattle.rt_app.specs.declared.costs.TheConstants.{HANDLE_MESSAGE_COST, READY_COST, READY_TASK_COST}
use Rattle.rt_app.specs.declared.costs.TheConstants.{TIMER_SECTION_COST, HANDLE_SECTION_COST, DISPATCHER_COST}
use Rattle.rt_app.specs.declared.costs.TheConstants.{TIMER_COST, TIMER_TASK_COST, LOOP_COST, TURN_COST, SIZED_MESSAGES}
use Rattle.rt_app.specs.declared.costs.TheConstants.{DISPATCHER_TASK_SIZE, TIMER_TASK_SIZE, THREAD_SIZE, SPAWN_WORDS}
use Rattle.rt_app.specs.declared.costs.TheConstants.{TIMER_QUEUE_WORDS, DISPATCHER_WORDS, TIMER_WORDS, PRIORITIES}
use Rattle.rt_app.specs.declared.costs.TheConstants.{BRIEF_INIT_COST}

-- core steps, instructions, words of frames, and priorities
pub record TellCosts : Type 0 where
  pub spawn : SPAWN_COST ≡ 128
  pub spawn_after : SPAWN_AFTER_COST ≡ 192
  pub message : MESSAGE_COST ≡ 48
  pub by_handle : HANDLE_COST ≡ 256
  pub by_handle_message : HANDLE_MESSAGE_COST ≡ 96
  pub free_section : FREE_COST ≡ 48
  pub ready_section : READY_COST ≡ 48
  pub ready_task : READY_TASK_COST ≡ 8
  pub timer_section : TIMER_SECTION_COST ≡ 80
  pub by_handle_section : HANDLE_SECTION_COST ≡ 128
  pub dispatcher : DISPATCHER_COST ≡ 128
  pub timer : TIMER_COST ≡ 192
  pub timer_task : TIMER_TASK_COST ≡ 8
  pub for_loop : LOOP_COST ≡ 4
  pub turn : TURN_COST ≡ 6
  pub sized_messages : SIZED_MESSAGES ≡ 8
  pub dispatcher_task_size : DISPATCHER_TASK_SIZE ≡ 64
  pub timer_task_size : TIMER_TASK_SIZE ≡ 32
  pub brief_init : BRIEF_INIT_COST ≡ 900000
  pub thread_size : THREAD_SIZE ≡ 2
  pub spawn_words : SPAWN_WORDS ≡ 16
  pub timer_queue_words : TIMER_QUEUE_WORDS ≡ 24
  pub dispatcher_words : DISPATCHER_WORDS ≡ 16
  pub timer_words : TIMER_WORDS ≡ 24
  pub priorities : PRIORITIES ≡ 256

-- the number of a name that is not declared, which is that of no interrupt, task or resource that is
pub record TellUnknown : Type 0 where
  pub unknown : UNKNOWN ≡ 255
  pub no_irq : IRQS ≤ UNKNOWN
  pub no_task : TASKS ≤ UNKNOWN
  pub no_shared : SHARED ≤ UNKNOWN
  pub no_local : LOCALS ≤ UNKNOWN
