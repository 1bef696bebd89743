-- What is left is of the names to come.
use Rattle.std.proofs.Common.{◌≡◌, ◌++◌, [], map, reverse, take, drop}
use Rattle.rt_resolve.specs.NameRules.{declared_twice}
use Rattle.rt_resolve.proofs.twice.push_declared_twice.Given as goal

abbrev pub invariant-loop-i : goal.invariant-loop-i
invariant-loop-i l =
    l.faults.items ++ declared_twice (reverse (map (λ x. x.now) (take l.i l.idents)))
    (map (λ x. x.now) (drop l.i l.idents)) ≡ l.fn.faults.items ++ declared_twice [] (map (λ x. x.now) l.idents)
