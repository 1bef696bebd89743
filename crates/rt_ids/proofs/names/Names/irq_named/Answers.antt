use Rattle.std.proofs.Common.{ap, ◌∙◌, bytes_eq}
use Rattle.rt_ids.specs.Names.{irq_of}
use Rattle.rt_ids.proofs.Declared.{looked_up}
use Rattle.rt_ids.proofs.names.Names.irq_named.Goals as goal

pub returns : goal.returns
returns c =
    c.copied.ensures ∙ c.get.ensures.value ∙ looked_up (bytes_eq c.args.name.now) c.self.inside.irqs.entries
    ∙ ap (λ names. irq_of names c.args.name.now) c.self.view_is
