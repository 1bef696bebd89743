-- The demonstration application of so many hardware tasks, byte by byte. It is this project's own: hardware tasks of
-- twelve priorities, which share four resources and send messages to two software tasks, to one at once and to the
-- other by the timer.
use Rattle.std.specs.Prelude.{ℕ, ◌+◌, ◌%◌, List, ◌++◌, flat_map, codes, decimal}
use Rattle.rt_ids.specs.Lists.{numbers_below}

-- bytes and a number in decimal
abbrev pub text_with_number : List ℕ → ℕ → List ℕ
text_with_number bytes n = bytes ++ decimal n

-- the interrupt of hardware task k, behind those that are always declared
abbrev pub interrupt : ℕ → List ℕ
interrupt k = text_with_number (codes ", I") k ++ text_with_number (codes " = ") k

-- what is always declared
abbrev pub head : List ℕ
head =
    codes "app demo(bits = 4, dispatchers = [D0, D1]);\n"
    ++ codes "interrupts { D0 = 200, D1 = 201, TM = 202"

-- what stands behind the declared interrupts of tasks, whatever their number
abbrev pub common : List ℕ
common =
    codes " }\n"
    ++ codes "monotonic(binds = TM, priority = 10);\n"
    ++ codes "shared { r0 = 0, r1 = 0, r2 = 0, r3 = 0 }\n"
    ++ codes "idle(shared = [r0]) {\n"
    ++ codes "    lock r0 {\n"
    ++ codes "        emit r0;\n"
    ++ codes "    }\n"
    ++ codes "}\n"
    ++ codes "task work(priority = 1, capacity = 16, shared = [r1]) with x {\n"
    ++ codes "    lock r1 {\n"
    ++ codes "        r1 = r1 + x;\n"
    ++ codes "    }\n"
    ++ codes "}\n"
    ++ codes "task later(priority = 2, capacity = 8, shared = [r2]) with x {\n"
    ++ codes "    lock r2 {\n"
    ++ codes "        r2 = r2 + x;\n"
    ++ codes "        emit r2;\n"
    ++ codes "    }\n"
    ++ codes "}\n"

-- Hardware task k: its name and options, its lock of resource k mod 4, and its messages.
abbrev pub options : ℕ → List ℕ
options k =
    text_with_number (codes "task h") k ++ text_with_number (codes "(binds = I") k
    ++ text_with_number (codes ", priority = ") (3 + k % 12)
    ++ text_with_number (codes ", shared = [r") (k % 4) ++ codes "]) {\n"

-- the section of a task: it adds the task's number to the resource that it locks
abbrev pub section : ℕ → List ℕ
section k =
    text_with_number (codes "    lock r") (k % 4) ++ text_with_number (codes " {\n        r") (k % 4)
    ++ text_with_number (codes " = r") (k % 4) ++ text_with_number (codes " + ") k ++ codes ";\n    }\n"

-- the messages of a task: one at once, and one after a delay, both with the task's number
abbrev pub messages : ℕ → List ℕ
messages k =
    text_with_number (codes "    spawn work(") k ++ text_with_number (codes ");\n    spawn_after(") k
    ++ text_with_number (codes ") later(") k ++ codes ");\n}\n"

-- the whole text of a task
abbrev pub demo_task : ℕ → List ℕ
demo_task k = options k ++ section k ++ messages k

-- the application of n hardware tasks
abbrev pub demo : ℕ → List ℕ
demo n = head ++ flat_map interrupt (numbers_below n) ++ common ++ flat_map demo_task (numbers_below n)
