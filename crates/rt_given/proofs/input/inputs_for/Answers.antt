use Rattle.std.proofs.Common.{rules, tests, Bool}
use Rattle.std.proofs.lemmas.Iterator.{YieldsList-from_slice}
use Rattle.std.proofs.lemmas.Iterator.Consumers.{YieldsList-from_filter, count_from_yields_List}
use Rattle.rt_app.specs.View.{app_of}
use Rattle.rt_board.specs.declared.board.Input.{Input}
use Rattle.rt_given.specs.Given.{is_for}
use Rattle.rt_given.proofs.input.inputs_for.Goals as goal

pub returns : goal.returns
returns c =
    let test : Input → Bool = is_for (app_of c.args.app.now) c.args.irq in
    count_from_yields_List c.filter.result c.count.result c.count.ensures.ran (YieldsList-from_filter _ test
    (YieldsList-from_slice c.args.inputs.now cc) c.filter.ensures.closure (λ x r q k. search (rules, tests)))
