use Rattle.std.proofs.Common.{sym, ap, ◌∙◌, bytes_eq}
use Rattle.rt_ids.specs.Inside.Kept.{text}
use Rattle.rt_ids.specs.Names.{task_index}
use Rattle.rt_ids.proofs.Lists.{position-map}
use Rattle.rt_ids.proofs.names.Names.task_named.Goals as goal

pub returns-in-Some : goal.returns-in-Some
returns-in-Some c =
    sym c.in-Some.is ∙ c.get_index_of.ensures.index
    ∙ sym (position-map text (bytes_eq c.args.name.now) c.self.inside.tasks.keys)
    ∙ ap (λ names. task_index names c.args.name.now) c.self.view_is

pub returns-in-None : goal.returns-in-None
returns-in-None c =
    sym c.in-None.is ∙ c.get_index_of.ensures.index
    ∙ sym (position-map text (bytes_eq c.args.name.now) c.self.inside.tasks.keys)
    ∙ ap (λ names. task_index names c.args.name.now) c.self.view_is
