-- The resources and the faults so far are those of the listings so far.
use Rattle.std.proofs.Common.{◌≡◌, ◌++◌, map, flat_map, take}
use Rattle.rt_ast.specs.View as written
use Rattle.rt_resolve.specs.Scope as named
use Rattle.rt_resolve.specs.Resolved as meant
use Rattle.rt_resolve.specs.Misnamed as wrong
use Rattle.rt_resolve.proofs.listing.resolve_local.Given as goal

abbrev pub invariant-loop-x : goal.invariant-loop-x
invariant-loop-x l = record {
  owned : l.resolved.items ≡ map (meant.resolved_local (written.app_of l.app)) (take l.x-index l.listed);
  faults : l.faults.items ≡ l.fn.faults.items ++ flat_map
      (λ x. wrong.if_unknown (named.local_named (written.app_of l.app) x.name) x.at) (take l.x-index l.listed);
}
