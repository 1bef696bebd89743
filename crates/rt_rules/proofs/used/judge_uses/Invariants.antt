-- The numbers that are in are those of the uses so far, and the violations of the uses that are left come behind the
-- first one so far.
use Rattle.std.proofs.Common.{◌≡◌, ℕ, ◌==◌, List, [], drop}
use Rattle.std.specs.List.{list_any}
use Rattle.rt_app.specs.Declarations.{used_twice}
use Rattle.rt_rules.specs.Inside.First.{first_of}
use Rattle.rt_rules.specs.Inside.Tables.{has}
use Rattle.rt_rules.proofs.used.judge_uses.Given as goal

abbrev pub invariant-loop-item : goal.invariant-loop-item
invariant-loop-item l =
    (before : List ℕ) × ((k : ℕ) → has l.used k ≡ list_any (λ n. n == k) before)
    × (first_of l.first (used_twice before (drop l.item-index l.uses)) ≡ first_of l.fn.first (used_twice [] l.uses))
