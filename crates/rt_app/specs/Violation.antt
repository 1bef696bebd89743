-- Rules that are broken, each with the offset of its place, and the first of them: the one at the smallest offset,
-- and at one offset the one of the smallest refusal number.
use Rattle.std.specs.Prelude.{◌≡◌, ℕ, ◌<◌, ◌≤◌, ◌⊎◌, Bool, List, [], ◌∷◌, Contains, if◌then◌else◌}
use Rattle.std.specs.List.{AllByRecursion}
use Rattle.rt_ids.specs.declared.rule.Rule.{Rule}
use Rattle.rt_ids.specs.declared.rule.Rule.TheVariants as rule
use Rattle.rt_app.specs.declared.violation.Violation.{Violation}

-- the number of a rule's refusal, as `E05` has 5
abbrev pub rank : Rule → ℕ
rank rule.UnknownName = 5
rank rule.DeclaredTwice = 6
rank rule.PriorityOutOfRange = 7
rank rule.InterruptUsedTwice = 8
rank rule.TooFewDispatchers = 9
rank rule.LocalInTwoTasks = 10
rank rule.OutsideLock = 11
rank rule.LockedInsideItself = 12
rank rule.SharedAndExclusive = 13
rank rule.LockFreeAtTwoPriorities = 14
rank rule.NotSoftware = 15
rank rule.NoMonotonic = 16
rank rule.TooLongBody = 17
rank rule.NotWritable = 18

-- the violation of a rule at an offset, where the rule is broken there
abbrev pub when : Bool → Rule → ℕ → List Violation
when broken what at = if broken then record { at = at; rule = what } ∷ [] else []

-- a violation is at a smaller offset than another, or at the same offset and of no greater refusal number
abbrev pub IsNotAfter : Violation → Violation → Type 0
IsNotAfter v w = (v.at < w.at) ⊎ ((v.at ≡ w.at) × (rank v.rule ≤ rank w.rule))

-- the violation that is reported: it is one of these, and no other comes before it
pub record IsFirst (all : List Violation) (v : Violation) : Type 0 where
  pub is_one : Contains all v
  pub first : AllByRecursion (IsNotAfter v) all
