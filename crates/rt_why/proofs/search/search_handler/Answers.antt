use Rattle.std.proofs.Common.{sym}
use Rattle.rt_points.specs.Leading.{Enters}
use Rattle.rt_judge.proofs.Looking.{if_ok_weaker}
use Rattle.rt_why.proofs.Clearing.{cleared_handler, cleared_nowhere, finds_weaker}
use Rattle.rt_why.proofs.search.search_handler.Goals as goal

pub search_from_entry-requires-clause-point : goal.search_from_entry-requires-clause-point
search_from_entry-requires-clause-point c = Enters c.args.index c.in-Some.handler (sym c.in-Some.ensures)

pub returns-in-Some : goal.returns-in-Some
returns-in-Some c =
    let img = c.args.image.now in
    if_ok_weaker c.search_from_entry.result _ _ (λ found. finds_weaker img c.args.wanted.now _ _ found (λ walked.
    cleared_handler img c.args.index c.in-Some.handler c.args.wanted.now (sym c.in-Some.ensures) walked))
    c.search_from_entry.ensures

pub returns-in-None : goal.returns-in-None
returns-in-None c = cleared_nowhere c.args.image.now c.args.index c.args.wanted.now (sym c.in-None.ensures)
