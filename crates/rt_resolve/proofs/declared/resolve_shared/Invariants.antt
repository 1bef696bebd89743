-- The resources so far are resolved.
use Rattle.std.proofs.Common.{◌≡◌, map, take}
use Rattle.rt_resolve.specs.Resolved as meant
use Rattle.rt_resolve.proofs.declared.resolve_shared.Given as goal

abbrev pub invariant-loop-r : goal.invariant-loop-r
invariant-loop-r l = l.resolved.items ≡ map meant.resolved_shared (take l.r-index l.shared)
