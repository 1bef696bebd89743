-- The words of what items show: a first word, and what stands behind it. They are this project's own.
use Rattle.std.specs.Prelude.{ℕ, ◌≤◌, codes, List, [], ◌∷◌, ◌++◌, length, map, Some, None}
use Rattle.rt_lines.specs.Operand.{IrqName, TaskName, BodyName, LockName, QueueName, SectionName}
use Rattle.rt_lines.specs.Table.{Row, row, Alone, One, Two, Three, OneOrTwo, AndNumbers, Operand, Number32, Number8}
use Rattle.rt_trace.specs.declared.item.What.{What}
use Rattle.rt_trace.specs.declared.item.What.TheVariants as what

-- what the core and its interrupt controller show
abbrev pub core_rows : List (Row What)
core_rows =
    row (codes "pend") (One IrqName what.Pend)
    ∷ row (codes "tick") (Alone what.Tick)
    ∷ row (codes "alarm") (Alone what.Alarm)
    ∷ row (codes "set") (Alone what.AlarmSet)
    ∷ row (codes "take") (Two IrqName Number32 what.Take)
    ∷ row (codes "ret") (One IrqName what.Ret)
    ∷ row (codes "post") (One IrqName what.Post)
    ∷ row (codes "clock") (One Number32 what.Clock)
    ∷ row (codes "trap") (One Number8 what.Trap)
    ∷ []

-- what bodies and their messages show; a queue is left without a value, a resource with its value
abbrev pub body_rows : List (Row What)
body_rows =
    row (codes "enter") (One SectionName what.Enter)
    ∷ row (codes "leave") (OneOrTwo QueueName (λ x. what.Leave x None) LockName Number32 (λ x v. what.Leave x (Some v)))
    ∷ row (codes "emit") (One Number32 what.Emit)
    ∷ row (codes "ok") (One TaskName what.Placed)
    ∷ row (codes "full") (One TaskName what.Full)
    ∷ row (codes "ready") (One TaskName what.Ready)
    ∷ row (codes "start") (AndNumbers TaskName 4 what.Start)
    ∷ row (codes "free") (One TaskName what.Free)
    ∷ row (codes "arm") (Two TaskName Number32 what.Arm)
    ∷ row (codes "fire") (One TaskName what.Fire)
    ∷ row (codes "cancel") (Two TaskName Number32 what.Cancel)
    ∷ row (codes "move") (Three TaskName Number32 Number32 what.Move)
    ∷ row (codes "end") (One BodyName what.End)
    ∷ []

-- what an item can show
abbrev pub rows : List (Row What)
rows = core_rows ++ body_rows

-- a first word, and the operands behind it
abbrev pub written : What → List ℕ × List Operand
written (what.Pend i) = (codes "pend", (IrqName, i) ∷ [])
written what.Tick = (codes "tick", [])
written what.Alarm = (codes "alarm", [])
written what.AlarmSet = (codes "set", [])
written (what.Take i depth) = (codes "take", (IrqName, i) ∷ (Number32, depth) ∷ [])
written (what.Ret i) = (codes "ret", (IrqName, i) ∷ [])
written (what.Enter x) = (codes "enter", (SectionName, x) ∷ [])
written (what.Leave x None) = (codes "leave", (QueueName, x) ∷ [])
written (what.Leave x (Some v)) = (codes "leave", (LockName, x) ∷ (Number32, v) ∷ [])
written (what.Emit v) = (codes "emit", (Number32, v) ∷ [])
written (what.Placed t) = (codes "ok", (TaskName, t) ∷ [])
written (what.Full t) = (codes "full", (TaskName, t) ∷ [])
written (what.Ready t) = (codes "ready", (TaskName, t) ∷ [])
written (what.Start t args) = (codes "start", (TaskName, t) ∷ map (λ n. (Number32, n)) args)
written (what.Free t) = (codes "free", (TaskName, t) ∷ [])
written (what.Post i) = (codes "post", (IrqName, i) ∷ [])
written (what.Clock v) = (codes "clock", (Number32, v) ∷ [])
written (what.Arm t v) = (codes "arm", (TaskName, t) ∷ (Number32, v) ∷ [])
written (what.Fire t) = (codes "fire", (TaskName, t) ∷ [])
written (what.Cancel t h) = (codes "cancel", (TaskName, t) ∷ (Number32, h) ∷ [])
written (what.Move t h v) = (codes "move", (TaskName, t) ∷ (Number32, h) ∷ (Number32, v) ∷ [])
written (what.End b) = (codes "end", (BodyName, b) ∷ [])
written (what.Trap k) = (codes "trap", (Number8, k) ∷ [])

-- the first word
abbrev pub first : What → List ℕ
first w = (written w).0

-- the operands behind it
abbrev pub operands : What → List Operand
operands w = (written w).1

-- a message carries at most four values
abbrev pub HasFewValues : What → Type 0
HasFewValues (what.Start t args) = length args ≤ 4
HasFewValues w = Unit {0}
