-- The names so far.
use Rattle.std.proofs.Common.{◌≡◌, ◌++◌, map, take}
use Rattle.rt_resolve.proofs.twice.push_names.Given as goal

abbrev pub invariant-loop-d : goal.invariant-loop-d
invariant-loop-d g l = map (λ x. x.now) l.idents.items ≡ map (λ x. x.now) l.fn.idents.items
    ++ map g.T.Named.ident (take l.d-index l.declared)
