-- The interrupts that wait in Baker's machine (Stack-Based Scheduling of Realtime Processes, 1991): they are pending,
-- and something serves them. An auditor keeps them in the order in which they would be taken. The machine has no such
-- list: whenever one may be taken, it chooses among all that are declared.
use Rattle.std.specs.Prelude.{ℕ, nat_lt, Bool, false, ◌&&◌, if◌then◌else◌, List, [], ◌∷◌, map, slice_index_or}
use Rattle.rt_app.specs.Tree.{App}
use Rattle.rt_laws.specs.Preemption.{goes_before}
use Rattle.rt_laws.specs.Services.{priority_of}

-- a list with one item more, before the first that it beats
abbrev pub insert_before : {A : Type 0} → (A → A → Bool) → A → List A → List A
insert_before beats x [] = x ∷ []
insert_before beats x (y ∷ ys) = if beats x y then x ∷ y ∷ ys else y ∷ insert_before beats x ys

-- those of a list that pass, each before those that it beats
abbrev pub chosen_in_order : {A : Type 0} → (A → Bool) → (A → A → Bool) → List A → List A
chosen_in_order passes beats [] = []
chosen_in_order passes beats (x ∷ xs) =
    if passes x then insert_before beats x (chosen_in_order passes beats xs) else chosen_in_order passes beats xs

-- whether an interrupt is pending, and something serves it
abbrev pub waits : App → List Bool → ℕ → Bool
waits app pending irq = slice_index_or pending irq false && nat_lt 0 (priority_of app irq)

-- the declared interrupts that are pending and served, in the order in which they would be taken
unfoldable pub waiting_irqs : App → List Bool → List ℕ
waiting_irqs app pending = chosen_in_order (waits app pending) (goes_before app) (map (λ d. d.number) app.irqs)
