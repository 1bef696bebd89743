use Rattle.std.proofs.lemmas.Result.{err_from_is_err_and}
use Rattle.rt_ast.specs.View.{app_of}
use Rattle.rt_top.specs.Reads.{given_by}
use Rattle.rt_top.specs.Inside.Using.{HasUse}
use Rattle.rt_top.proofs.Texts.{accepted_result, tree_is_refused}
use Rattle.rt_top.proofs.reading.read_accepted.Goals as goal

pub returns-clause-reads : goal.returns-clause-reads
returns-clause-reads g c =
    let read = c.in_ok-written.ensures in
    accepted_result (given_by g.S.Source.past c.args.source.now c.read_tree.new.source)
    (app_of c.in_ok-written.written.tree) c.in_ok-written.written.text.items read.1.0 read.1.1
    (HasUse g.S.Source.past g.S.Source.left g.S.Source.faults c.args.source.now c.read_tree.new.source) read.0 read.0.1
    c.judged_app.result c.judged_app.ensures.ok c.judged_app.ensures.broken

pub returns-in_err-written-clause-reads : goal.returns-in_err-written-clause-reads
returns-in_err-written-clause-reads g c =
    let p = err_from_is_err_and c.from_residual.result c.from_residual.ensures.1 in
    rw (p.1, p.2) (tree_is_refused (given_by g.S.Source.past c.args.source.now c.read_tree.new.source) _ _
    c.in_err-written.ensures)
