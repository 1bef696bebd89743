use Rattle.std.proofs.Common.{◌≡◌, None, sym, ◌∙◌, rules}
use Rattle.rt_core.proofs.Happening.{waiting_steps}
use Rattle.rt_core.proofs.machine.Core.waits.Goals as goal

pub returns-then-matches : goal.returns-then-matches
returns-then-matches c = λ none.
    let is : c.irq_to_take.result ≡ None = search rules in
    waiting_steps c.args.self.now.image c.args.self.now.core (search rules) (sym c.irq_to_take.ensures ∙ is)
