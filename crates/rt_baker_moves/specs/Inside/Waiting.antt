-- What becomes of the interrupts that wait as one comes to be pending, or is taken (Baker, Stack-Based Scheduling of
-- Realtime Processes, 1991). The definition lists them anew from all that are pending.
use Rattle.std.specs.Prelude.{ℕ, ◌==◌, nat_lt, if◌then◌else◌, List, [], ◌∷◌, Option, Some, None}
use Rattle.rt_app.specs.Tree.{App}
use Rattle.rt_laws.specs.Preemption.{goes_before}
use Rattle.rt_laws.specs.Services.{priority_of}
use Rattle.rt_baker_moves.specs.Waiting.{insert_before}

-- the interrupts that wait once this one is pending: where something serves it, it waits before the first over which it
-- would be taken
abbrev pub waiting_with : App → ℕ → List ℕ → List ℕ
waiting_with app irq waiting = if nat_lt 0 (priority_of app irq) then insert_before (goes_before app) irq waiting else
    waiting

-- a list without the first item that is this number
abbrev pub without : ℕ → List ℕ → List ℕ
without n [] = []
without n (x ∷ xs) = if x == n then xs else x ∷ without n xs

-- an interrupt, where there is one, and where its priority is above this ceiling
abbrev pub if_above : (ℕ → ℕ) → ℕ → Option ℕ → Option ℕ
if_above priority ceiling None = None
if_above priority ceiling (Some irq) = if nat_lt ceiling (priority irq) then Some irq else None
