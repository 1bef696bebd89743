use Rattle.std.proofs.Common.{reverse, ◌∙◌, ap, is_some}
use Rattle.rt_resolve.proofs.Bound.{is_known}
use Rattle.rt_resolve.proofs.variables.Variables.has.Goals as goal

pub returns : goal.returns
returns c = rw (← c.self.view_is) (c.contains_key.ensures ∙ ap is_some (c.self.invariant.meanings c.args.name.now)
    ∙ is_known c.args.name.now (reverse c.self.inside.bindings.items))
