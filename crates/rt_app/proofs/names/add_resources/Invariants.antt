use Rattle.std.proofs.Common.{◌≡◌, map, take}
use Rattle.rt_app.proofs.names.add_resources.Given as goal

abbrev pub invariant-loop-r : goal.invariant-loop-r
invariant-loop-r l = l.names ≡ record l.initial.names { shared = take l.r-index (map (λ r. r.name) l.shared) }
