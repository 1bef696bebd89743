use Rattle.std.proofs.Common.{reverse, ◌∙◌, ap}
use Rattle.std.proofs.lemmas.List.{length-reverse}
use Rattle.rt_resolve.proofs.Bound.{is_within, is_here}
use Rattle.rt_resolve.proofs.variables.Variables.has_here.Goals as goal

pub returns-in-Some : goal.returns-in-Some
returns-in-Some c =
    rw (← c.self.view_is, ← length-reverse c.self.inside.bindings.items)
    (ap (is_within c.self.inside.outer) (c.in-Some.ensures.value ∙ c.self.invariant.meanings c.args.name.now)
    ∙ is_here c.args.name.now c.self.inside.outer (reverse c.self.inside.bindings.items))

pub returns-in-None : goal.returns-in-None
returns-in-None c =
    rw (← c.self.view_is, ← length-reverse c.self.inside.bindings.items)
    (ap (is_within c.self.inside.outer) (c.in-None.ensures.value ∙ c.self.invariant.meanings c.args.name.now)
    ∙ is_here c.args.name.now c.self.inside.outer (reverse c.self.inside.bindings.items))
