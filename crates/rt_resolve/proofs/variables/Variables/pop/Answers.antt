use Rattle.std.proofs.Common.{rules}
use Rattle.rt_resolve.proofs.Bound.{last_known, popped_indexed}
use Rattle.rt_resolve.proofs.variables.Variables.pop.Goals as goal

pub restore-requires : goal.restore-requires
restore-requires c = last_known c.self.inside.bindings.items c.pop.new.self.items c.self.inside.meanings
    c.self.inside.outer c.in-Some.binding c.self.invariant c.in-Some.ensures.items

pub invariant_of-self : goal.invariant_of-self
invariant_of-self c = popped_indexed c.self.inside.bindings.items c.pop.new.self.items c.self.inside.meanings
    c.restore.new.meanings c.self.inside.outer c.in-Some.binding c.self.invariant c.in-Some.ensures.items
    (search rules) c.restore.ensures
