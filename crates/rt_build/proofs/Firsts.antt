-- A list has one first violation at the most.
use Rattle.std.proofs.Common.{◌≡◌, ◌==◌, ℕ, inl, inr, List, [], refl, sym, ap, subst, ◌∙◌, arith, Contains}
use Rattle.std.proofs.Common.{if◌then◌else◌}
use Rattle.rt_lemmas.proofs.Membership.{all_has, contains_none}
use Rattle.rt_ids.specs.declared.rule.Rule.{Rule}
use Rattle.rt_ids.specs.declared.rule.Rule.TheVariants as rule
use Rattle.rt_app.specs.declared.violation.Violation.{Violation}
use Rattle.rt_app.specs.Violation.{rank, IsNotAfter, IsFirst}

-- the rule of a number
abbrev of_rank : ℕ → Rule
of_rank n =
    if n == 5 then rule.UnknownName else if n == 6 then rule.DeclaredTwice else if n == 7 then rule.PriorityOutOfRange
    else if n == 8 then rule.InterruptUsedTwice
    else if n == 9 then rule.TooFewDispatchers else if n == 10 then rule.LocalInTwoTasks else if n == 11 then
    rule.OutsideLock else if n == 12 then rule.LockedInsideItself
    else if n == 13 then rule.SharedAndExclusive else if n == 14 then rule.LockFreeAtTwoPriorities else if n == 15 then
    rule.NotSoftware else if n == 16 then rule.NoMonotonic
    else if n == 17 then rule.TooLongBody else rule.NotWritable

of_rank_is : (r : Rule) → of_rank (rank r) ≡ r
of_rank_is rule.UnknownName = refl
of_rank_is r = refl

rank_tells : (r s : Rule) → rank r ≡ rank s → r ≡ s
rank_tells r s e = sym (of_rank_is r) ∙ ap of_rank e ∙ of_rank_is s

-- two that are not after each other are the same
same : (v w : Violation) → IsNotAfter v w → IsNotAfter w v → v ≡ w
same v w (inl a) (inl b) = absurd (omega arith)
same v w (inl a) (inr b) = let e = b.0 in absurd (omega arith)
same v w (inr a) (inl b) = let e = a.0 in absurd (omega arith)
same v w (inr a) (inr b) =
    let p = a.1 in let q = b.1 in
    let e : v.rule ≡ w.rule = rank_tells v.rule w.rule (omega arith) in
    let at = a.0 in λ i. record { at = at i; rule = e i }

pub one_first : (vs : List Violation) (v w : Violation) → IsFirst vs v → IsFirst vs w → v ≡ w
one_first vs v w a b = same v w (all_has (IsNotAfter v) vs w a.first b.is_one)
    (all_has (IsNotAfter w) vs v b.first a.is_one)

-- nothing is broken where nothing is the first
pub no_first : (vs : List Violation) (v : Violation) → vs ≡ [] → IsFirst vs v → ⊥
no_first vs v none first = contains_none v (subst (λ us. Contains us v) none first.is_one)
