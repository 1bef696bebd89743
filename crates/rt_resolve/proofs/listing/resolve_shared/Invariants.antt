-- The resources and the faults so far are those of the listings so far.
use Rattle.std.proofs.Common.{◌≡◌, ◌++◌, map, flat_map, take}
use Rattle.rt_ast.specs.View as written
use Rattle.rt_resolve.specs.Scope as named
use Rattle.rt_resolve.specs.Resolved as meant
use Rattle.rt_resolve.specs.Misnamed as wrong
use Rattle.rt_resolve.proofs.listing.resolve_shared.Given as goal

abbrev pub invariant-loop-l : goal.invariant-loop-l
invariant-loop-l l = record {
  listed : l.resolved.items ≡ map (meant.resolved_listing (written.app_of l.app)) (take l.l-index l.listed);
  faults : l.faults.items ≡ l.fn.faults.items ++ flat_map
      (λ x. wrong.if_unknown (named.shared_resource_named (written.app_of l.app) x.name.name) x.name.at)
      (take l.l-index l.listed);
}
