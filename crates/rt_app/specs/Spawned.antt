-- The spawns that a body holds, and what each form of them asks of the queues (the RTIC 1 book, software tasks and the
-- monotonic: `spawn`, `spawn_after`, and of a spawn's handle `cancel` and `reschedule_after`).
use Rattle.std.specs.Prelude.{ℕ, Bool, true, false, List, [], ◌∷◌, ◌++◌}
use Rattle.rt_app.specs.Tree.{Spawn, Soon, After, Cancel, Move, Value, Calc, Now, Call, Statement, Bind, Assign, Branch}
use Rattle.rt_app.specs.Tree.{Repeat, Locked, Emit, Pend, Spawns, Block, Empty, Then}

-- the spawn of the value of a `let`, where it is one
abbrev pub value_spawns : Value → List Spawn
value_spawns (Calc e) = []
value_spawns (Now at) = []
value_spawns (Call s) = s ∷ []

-- the spawns of a statement in order of the text, those of inner blocks too
abbrev mutual
  pub statement_spawns : Statement → List Spawn
  statement_spawns (Bind x v) = value_spawns v
  statement_spawns (Assign x e at) = []
  statement_spawns (Branch e first second) = spawns first ++ spawns second
  statement_spawns (Repeat x first last turn) = spawns turn
  statement_spawns (Locked r inner at) = spawns inner
  statement_spawns (Emit e) = []
  statement_spawns (Pend i) = []
  statement_spawns (Spawns s) = s ∷ []

  -- the spawns of a block in order of the text
  pub spawns : Block → List Spawn
  spawns Empty = []
  spawns (Then s rest) = statement_spawns s ++ spawns rest

-- whether a message becomes ready at once
abbrev pub makes_ready : Spawn → Bool
makes_ready (Soon task args at) = true
makes_ready (After word delay task args at) = false
makes_ready (Cancel word task handle at) = false
makes_ready (Move word delay task handle at) = false

-- whether a message is armed
abbrev pub arms_message : Spawn → Bool
arms_message (Soon task args at) = false
arms_message (After word delay task args at) = true
arms_message (Cancel word task handle at) = false
arms_message (Move word delay task handle at) = false

-- whether a place of the task is taken or given back, in the section of its free places
abbrev pub uses_places : Spawn → Bool
uses_places (Soon task args at) = true
uses_places (After word delay task args at) = true
uses_places (Cancel word task handle at) = true
uses_places (Move word delay task handle at) = false

-- whether the section of the timer queue is entered
abbrev pub uses_timer : Spawn → Bool
uses_timer (Soon task args at) = false
uses_timer (After word delay task args at) = true
uses_timer (Cancel word task handle at) = true
uses_timer (Move word delay task handle at) = true

-- the task whose message it is
abbrev pub target : Spawn → ℕ
target (Soon task args at) = task
target (After word delay task args at) = task
target (Cancel word task handle at) = task
target (Move word delay task handle at) = task
