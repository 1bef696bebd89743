use Rattle.std.proofs.Common.{reverse, ◌∙◌, ap, option_map}
use Rattle.rt_resolve.proofs.Bound.{number_is}
use Rattle.rt_resolve.proofs.variables.Variables.number_of.Goals as goal

pub returns-in-Some : goal.returns-in-Some
returns-in-Some c =
    rw (← c.self.view_is) (ap (option_map (λ m. m.number)) (c.in-Some.ensures.value
    ∙ c.self.invariant.meanings c.args.name.now) ∙ number_is c.args.name.now (reverse c.self.inside.bindings.items))

pub returns-in-None : goal.returns-in-None
returns-in-None c =
    rw (← c.self.view_is) (ap (option_map (λ m. m.number)) (c.in-None.ensures.value
    ∙ c.self.invariant.meanings c.args.name.now) ∙ number_is c.args.name.now (reverse c.self.inside.bindings.items))
