-- The names that maps in order of insertion keep, with a table of interrupts by their numbers.
use Rattle.std.specs.Prelude.{◌≡◌, ℕ, ◌==◌, List, map, position, Option, Some, None, slice_index_or, slice_set}
use Rattle.std.specs.Prelude.{unwrap_or, Vec}
use Rattle.std.specs.Global.{Global}
use Rattle.rt_ids.specs.Names.{Names, AreNames}

-- the bytes of a name that a map keeps
abbrev pub text : Vec ℕ Global → List ℕ
text name = name.items

-- the names that three maps keep: of interrupts with their numbers, of tasks and of shared resources
abbrev pub kept_names : List (Vec ℕ Global × ℕ) → List (Vec ℕ Global) → List (Vec ℕ Global) → Names
kept_names irqs tasks shared = record {
  irqs = map (λ irq. (text irq.0, irq.1)) irqs;
  tasks = map text tasks;
  shared = map text shared;
}

-- a table has, for each number, the index of the first of these interrupts that has this number
abbrev pub AreFirsts : List (Option ℕ) → List (Vec ℕ Global × ℕ) → Type 0
AreFirsts firsts irqs = (number : ℕ) → slice_index_or firsts number None ≡ position (λ irq. irq.1 == number) irqs

-- the table with this index for a number that had none
abbrev pub with_first : List (Option ℕ) → ℕ → ℕ → List (Option ℕ)
with_first firsts number index = slice_set firsts number (Some (unwrap_or (slice_index_or firsts number None) index))

-- what three maps keep are names that an application may declare, and the table is that of the interrupts
pub record AreKept (irqs : List (Vec ℕ Global × ℕ)) (table : List (Option ℕ)) (tasks shared : List (Vec ℕ Global))
    : Type 0 where
  pub names : AreNames (kept_names irqs tasks shared)
  pub firsts : AreFirsts table irqs
