use Rattle.std.proofs.Common.{◌∙◌}
use Rattle.rt_ceil.proofs.Filled.{untouched_is}
use Rattle.rt_ceil.proofs.tables.Tables.new.Goals as goal

pub returns : goal.returns
returns c =
    untouched_is c.args.app.now c.in_ok-zeros.field-0.items c.in_ok-zeros-2.field-0.items c.in_ok-zeros-3.field-0.items
    c.len.result c.len-2.result c.in_ok-zeros.ensures (c.len.ensures ∙ c.args.app.now.shared.ok.0)
    c.in_ok-zeros-2.ensures (c.len-2.ensures ∙ c.args.app.now.tasks.ok.0) c.in_ok-zeros-3.ensures
