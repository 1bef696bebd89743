use Rattle.std.proofs.Common.{ap, ◌∙◌}
use Rattle.rt_ids.specs.Priority.{hardware}
use Rattle.rt_code.specs.Image.{Image}
use Rattle.rt_bounds.proofs.Covering.{used_priority}
use Rattle.rt_bounds.proofs.bounding.is_used.Goals as goal

pub returns : goal.returns
returns c = used_priority c.args.image.now c.args.priority c.hw-value.result c.is_value_used.result c.requires.least
    (c.hw-value.ensures ∙ ap (λ (i : Image). hardware i.bits c.args.priority) c.image.view_is) c.is_value_used.ensures
