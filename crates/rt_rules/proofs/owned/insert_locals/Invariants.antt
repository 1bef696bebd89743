-- The numbers that are in are those of before and of the listings so far.
use Rattle.std.proofs.Common.{◌≡◌, ℕ, ◌==◌, ◌||◌, take}
use Rattle.std.specs.List.{list_any}
use Rattle.rt_rules.specs.Inside.Tables.{has}
use Rattle.rt_rules.proofs.owned.insert_locals.Given as goal

abbrev pub invariant-loop-item : goal.invariant-loop-item
invariant-loop-item l = (k : ℕ) → has l.owned k ≡ (list_any (λ o. o.local == k) (take l.item-index l.locals)
    || has l.fn.owned k)
