use Rattle.std.proofs.Common.{ap, ◌∙◌, sym}
use Rattle.rt_actions.specs.Action.{effect}
use Rattle.rt_baker_work.specs.declared.action.Action.{Action}
use Rattle.rt_baker_work.specs.Actions.{action_of}
use Rattle.rt_baker_work.specs.Store.{contents}
use Rattle.rt_baker_work.proofs.store.Store.effect.Goals as goal

pub returns-in-Start : goal.returns-in-Start
returns-in-Start c = c.start.ensures c.in-Start._message
    ∙ ap (λ (a : Action). effect (action_of a) (contents c.args.self.now)) (sym c.in-Start.is)

pub returns-in-Fire : goal.returns-in-Fire
returns-in-Fire c = c.fire.ensures c.in-Fire._message
    ∙ ap (λ (a : Action). effect (action_of a) (contents c.args.self.now)) (sym c.in-Fire.is)
