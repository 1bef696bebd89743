-- The rules on declarations: priorities, interrupts, dispatchers, local resources, hardware tasks. An unknown name
-- breaks none of them, because it has a refusal of its own.
use Rattle.std.specs.Prelude.{ℕ, ◌==◌, ◌^◌, nat_lt, nat_le, Bool, not, ◌&&◌, ◌||◌, List, [], ◌∷◌, ◌++◌, length, map}
use Rattle.std.specs.Prelude.{flat_map, Option, Some, None, if◌then◌else◌}
use Rattle.std.specs.List.{list_any}
use Rattle.rt_ids.specs.declared.rule.Rule.TheVariants as rule
use Rattle.rt_app.specs.declared.TheConstants.{UNKNOWN}
use Rattle.rt_app.specs.declared.app.Mono.{Mono}
use Rattle.rt_app.specs.declared.body.Owned.{Owned}
use Rattle.rt_app.specs.declared.violation.Violation.{Violation}
use Rattle.rt_app.specs.Tree.{Task, App}
use Rattle.rt_app.specs.Bodies.{Member, members}
use Rattle.rt_app.specs.Level.{is_software, levels}
use Rattle.rt_app.specs.Violation.{when}

-- whether a number is that of something declared
abbrev pub is_known : ℕ → Bool
is_known n = not (n == UNKNOWN)

-- whether a number is a priority of a task or of the monotonic: from 1 to 2^bits
abbrev pub is_priority : ℕ → ℕ → Bool
is_priority bits p = nat_le 1 p && nat_le p (2 ^ bits)

-- the violation of the monotonic, where its priority is out of range
abbrev pub mono_priority : ℕ → Option Mono → List Violation
mono_priority bits None = []
mono_priority bits (Some mono) = when (not (is_priority bits mono.priority)) rule.PriorityOutOfRange mono.priority_at

-- the violation of a task, where its priority is out of range
abbrev pub task_priority : ℕ → Task → List Violation
task_priority bits t = when (not (is_priority bits t.priority)) rule.PriorityOutOfRange t.priority_at

-- every priority that is out of range
abbrev pub priorities : App → List Violation
priorities app = mono_priority app.bits app.mono ++ flat_map (task_priority app.bits) app.tasks

-- a number that is used for something, and where
pub record Used : Type 0 where
  pub number : ℕ
  pub at : ℕ

-- the uses of a number that some use before has, where these numbers are used before them all
abbrev pub used_twice : List ℕ → List Used → List Violation
used_twice before [] = []
used_twice before (u ∷ us) =
    when (list_any (λ n. n == u.number) before) rule.InterruptUsedTwice u.at ++ used_twice (u.number ∷ before) us

-- what an interrupt is used for, where it is known
abbrev pub use_of : ℕ → ℕ → List Used
use_of irq at = if is_known irq then record { number = irq; at = at } ∷ [] else []

-- the monotonic uses its interrupt, where there is one
abbrev pub mono_use : Option Mono → List Used
mono_use None = []
mono_use (Some mono) = use_of mono.irq mono.at

-- a hardware task uses the interrupt that it binds
abbrev pub bound_use : Option ℕ → ℕ → List Used
bound_use None at = []
bound_use (Some irq) at = use_of irq at

-- the uses of interrupts: as a dispatcher's, as the monotonic's, and as a hardware task's; no interrupt may have two
abbrev pub interrupt_uses : App → List Used
interrupt_uses app =
    flat_map (λ d. use_of d.irq d.at) app.dispatchers
    ++ (mono_use app.mono ++ flat_map (λ t. bound_use t.binds t.binds_at) app.tasks)

-- the numbers of the declared interrupts, no two of which may be one
abbrev pub number_uses : App → List Used
number_uses app = map (λ d. record { number = d.number; at = d.number_at }) app.irqs

-- every second use of an interrupt, and every second interrupt of a number
abbrev pub interrupts : App → List Violation
interrupts app = used_twice [] (interrupt_uses app) ++ used_twice [] (number_uses app)

-- the violation where there are fewer dispatchers than levels of software tasks
abbrev pub dispatchers : App → List Violation
dispatchers app = when (nat_lt (length app.dispatchers) (length (levels app))) rule.TooFewDispatchers app.name_at

-- whether a body lists a local resource
abbrev pub owns : ℕ → Member → Bool
owns n m = list_any (λ o. o.local == n) m.body.local

-- the violation of a local resource that a body before lists too
abbrev pub owned_before : List Member → Owned → List Violation
owned_before before o = when (is_known o.local && list_any (owns o.local) before) rule.LocalInTwoTasks o.at

-- every local resource that a second body lists; the bodies before these are in the first list
abbrev pub owned_twice : List Member → List Member → List Violation
owned_twice before [] = []
owned_twice before (m ∷ ms) = flat_map (owned_before before) m.body.local ++ owned_twice (m ∷ before) ms

-- whether a hardware task has a capacity or arguments, which are for software tasks
abbrev pub is_mixed : Task → Bool
is_mixed t = not (is_software t) && (t.has_capacity || nat_lt 0 t.args)

-- every hardware task that has a capacity or arguments
abbrev pub hardware_tasks : App → List Violation
hardware_tasks app = flat_map (λ t. when (is_mixed t) rule.NotSoftware t.at) app.tasks

-- every rule on declarations that is broken
abbrev pub declarations : App → List Violation
declarations app =
    priorities app ++ (interrupts app ++ (dispatchers app ++ (owned_twice [] (members app) ++ hardware_tasks app)))
