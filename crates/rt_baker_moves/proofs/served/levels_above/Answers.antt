use Rattle.std.proofs.Common.{rules, tests, nat_lt, ◌∙◌}
use Rattle.std.proofs.lemmas.Iterator.{YieldsList-from_slice}
use Rattle.std.proofs.lemmas.Iterator.Consumers.{YieldsList-from_filter, count_from_yields_List}
use Rattle.rt_app.specs.declared.ceilings.ReadyCeiling.{ReadyCeiling}
use Rattle.rt_baker_moves.proofs.Serving.{above_filtered}
use Rattle.rt_baker_moves.proofs.served.levels_above.Goals as goal

pub returns : goal.returns
returns c =
    let test = λ (r : ReadyCeiling). nat_lt c.args.level r.level in
    count_from_yields_List c.filter.result c.count.result c.count.ensures.ran (YieldsList-from_filter _ test
    (YieldsList-from_slice c.args.rows.now cc) c.filter.ensures.closure (λ x r q k. search (rules, tests)))
    ∙ above_filtered c.args.level c.args.rows.now
