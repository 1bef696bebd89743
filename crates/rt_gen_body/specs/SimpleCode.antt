-- The code of the statements that hold no block, instruction by instruction: spawns, bindings, assignments, and what is
-- emitted.
use Rattle.std.specs.Prelude.{ℕ, ◌+◌, Bool, ◌&&◌, is_some, List, [], ◌∷◌, ◌++◌, length, slice_get, if◌then◌else◌}
use Rattle.rt_ids.specs.Lists.{is_some_and}
use Rattle.rt_app.specs.declared.expr.Atom.{Atom}
use Rattle.rt_app.specs.Level.{is_software}
use Rattle.rt_app.specs.Tree.{App, Expression, Spawn, Soon, After, Cancel, Move, Value, Calc, Now, Call}
use Rattle.rt_code.specs.declared.instr.Instr.TheVariants as instr
use Rattle.rt_gen_queue.specs.Line.{Line, plain}
use Rattle.rt_gen_queue.specs.SpawnCode.{spawn_code}
use Rattle.rt_gen_timer.specs.TimerCode.{after_code, cancel_code, move_code}
use Rattle.rt_gen_body.specs.declared.spawn.Timed.{Timed}
use Rattle.rt_gen_body.specs.declared.spawn.Timed.TheVariants as timed
use Rattle.rt_gen_body.specs.ValueCode.{Context, store, value_code, arguments_code}

-- the expressions of a spawn, in the order of the text: its delay, its arguments or its handle
abbrev pub values_of : Spawn → List Expression
values_of (Soon n args offset) = args
values_of (After word delay n args offset) = delay ∷ args
values_of (Cancel word n handle offset) = handle ∷ []
values_of (Move word delay n handle offset) = delay ∷ handle ∷ []

-- the code of a `spawn_after`, a `cancel` and a `reschedule_after`
abbrev pub timed_lines : Timed → App → ℕ → ℕ → ℕ → ℕ → List Line
timed_lines timed.After app n threshold slot at = after_code app n threshold slot at
timed_lines timed.Cancel app n threshold slot at = cancel_code app n threshold slot at
timed_lines timed.Move app n threshold slot at = move_code app n threshold slot at

module _ (c : Context) where
  -- the code of a spawn whose arguments are in their slots, at a static preemption threshold, from an address on; none
  -- where the task is no software task
  abbrev pub message_code : ℕ → ℕ → ℕ → List Line
  message_code threshold at n =
      if is_some_and is_software (slice_get c.app.tasks n) then spawn_code c.app n threshold c.spawns at else []

  -- whether there is a timer queue that may hold messages of a task
  abbrev pub is_timed : ℕ → Bool
  is_timed n = is_some c.app.mono && is_some_and is_software (slice_get c.app.tasks n)

  -- the code of a call that goes to the timer queue, whose delay, arguments and handle are in their slots; none where
  -- no timer queue may hold messages of the task
  abbrev pub timed_code : Timed → ℕ → ℕ → ℕ → List Line
  timed_code kind threshold at n = if is_timed n then timed_lines kind c.app n threshold c.spawns at else []

  -- The values of a spawn come into the slots of spawns from the first on, in the order of the text.
  abbrev pub values_code : Spawn → List Line
  values_code s = arguments_code c (values_of s) c.spawns

  -- the code of a spawn whose values are in their slots
  abbrev pub goes_code : ℕ → ℕ → Spawn → List Line
  goes_code threshold at (Soon n args offset) = message_code threshold at n
  goes_code threshold at (After word delay n args offset) = timed_code timed.After threshold at n
  goes_code threshold at (Cancel word n handle offset) = timed_code timed.Cancel threshold at n
  goes_code threshold at (Move word delay n handle offset) = timed_code timed.Move threshold at n

  -- the whole code of a spawn: its values, and then what it does with them
  abbrev pub send_code : ℕ → ℕ → Spawn → List Line
  send_code threshold at s =
      let front : List Line = values_code s in
      front ++ goes_code threshold (at + length front) s

  -- a `let` of a variable
  abbrev pub bind_code : ℕ → ℕ → ℕ → Value → List Line
  bind_code threshold at x (Calc e) = value_code c e ++ plain (instr.Copy x c.expressions) ∷ []
  bind_code threshold at x (Now offset) = plain (instr.Clock x) ∷ []
  bind_code threshold at x (Call s) = send_code threshold at s ++ plain (instr.Copy x c.spawns) ∷ []

  -- an assignment
  abbrev pub assign_code : Atom → Expression → List Line
  assign_code x e = value_code c e ++ plain (store c x c.expressions) ∷ []

  -- an `emit`
  abbrev pub emit_code : Expression → List Line
  emit_code e = value_code c e ++ plain (instr.Emit c.expressions) ∷ []
