use Rattle.std.proofs.Common.{ap, ◌∙◌}
use Rattle.std.proofs.lemmas.Result.{err_from_is_err_and}
use Rattle.rt_app.specs.View.{app_of}
use Rattle.rt_target.specs.Reading.{wanting}
use Rattle.rt_target.proofs.Targets.{refused_too, refused_behind}
use Rattle.rt_target.proofs.reading.read_target.Goals as goal

pub returns-in_err-setup-clause-refused : goal.returns-in_err-setup-clause-refused
returns-in_err-setup-clause-refused c =
    let p = err_from_is_err_and c.from_residual.result c.from_residual.ensures.1 in
    rw (p.1, p.2) (refused_too (app_of c.args.app.now) c.args.bytes.now _ c.in_err-setup.ensures.refused)

pub returns-in-Some-clause-refused : goal.returns-in-Some-clause-refused
returns-in-Some-clause-refused c =
    refused_behind (app_of c.args.app.now) c.args.bytes.now c.in_ok-setup.setup c.in_ok-setup.line c.in-Some.cause
    c.in_ok-setup.ensures.read c.in_ok-setup.ensures.count (c.in-Some.ensures ∙ ap wanting c.facts.ensures)
