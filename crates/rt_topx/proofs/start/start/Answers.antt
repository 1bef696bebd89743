use Rattle.std.proofs.Common.{◌≡◌, ap, refl, subst, ◌∙◌}
use Rattle.std.proofs.lemmas.Result.{err_from_is_err_and}
use Rattle.rt_app.specs.Names.{names_of}
use Rattle.rt_app.specs.View.{app_of}
use Rattle.rt_code.specs.Image.{Image}
use Rattle.rt_ids.specs.declared.status.Status.TheVariants as status
use Rattle.rt_script.specs.Script.{HasNames}
use Rattle.rt_given.specs.Given.{asked}
use Rattle.rt_given.specs.Reading.{IsGivenText}
use Rattle.rt_top.specs.Inside.Using.{for_memory, stop}
use Rattle.rt_top.specs.Reads.{given_by}
use Rattle.rt_topx.proofs.start.start.Goals as goal

pub returns-clause-reads : goal.returns-clause-reads
returns-clause-reads g c t is of_board =
    let app = app_of c.args.app.now in
    let gave = given_by g.S.Source.past c.args.source.now c.read_script_of.new.source in
    let named : c.behind-core.inside.names ≡ names_of app =
    ap (λ (i : Image). i.names) c.behind-core.view_is ∙ ap (λ (i : Image). i.names) c.image.ensures
    ∙ c.in-Ok.ensures.image.tables.names in
    let read = c.in_ok-script.ensures.reads t is of_board named in
    (read.0, subst (λ n. IsGivenText n app c.args.board.now gave c.in_ok-script.script) named read.1)

pub returns-clause-names : goal.returns-clause-names
returns-clause-names g c =
    subst (λ n. HasNames n (asked c.in_ok-script.script))
    (ap (λ (i : Image). i.names) c.behind-core.view_is ∙ ap (λ (i : Image). i.names) c.image.ensures)
    c.in_ok-script.ensures.names

pub returns-in_default-clause-reads : goal.returns-in_default-clause-reads
returns-in_default-clause-reads g c t is of_board = stop status.Memory (for_memory refl)

pub returns-in_err-script-clause-reads : goal.returns-in_err-script-clause-reads
returns-in_err-script-clause-reads g c t is of_board =
    let named : c.behind-core.inside.names ≡ names_of (app_of c.args.app.now) =
    ap (λ (i : Image). i.names) c.behind-core.view_is ∙ ap (λ (i : Image). i.names) c.image.ensures
    ∙ c.in-Ok.ensures.image.tables.names in
    let p = err_from_is_err_and c.from_residual.result c.from_residual.ensures.1 in
    rw (p.1, p.2) (c.in_err-script.ensures.reads t is of_board named)
