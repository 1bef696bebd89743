use Rattle.std.proofs.Common.{refl, subst, ◌∙◌}
use Rattle.rt_ids.specs.declared.status.Status.TheVariants as status
use Rattle.rt_lines.specs.Refusal.{too_long, refused_at}
use Rattle.rt_app.specs.View.{app_of}
use Rattle.rt_given.specs.Reading.{IsGivenText, IsRefused}
use Rattle.rt_given.specs.declared.refusal.Cause.TheVariants as cause
use Rattle.rt_top.specs.Reads.{given_by}
use Rattle.rt_top.specs.Inside.Using.{stop}
use Rattle.rt_topx.specs.Kinds as kind
use Rattle.rt_topx.specs.Refusal.{SaysScript}
use Rattle.rt_topx.specs.Rticx.{rticx_program}
use Rattle.rt_top.proofs.Conducting.{refusal_reads}
use Rattle.rt_topx.proofs.Conducting.{refused_beside}
use Rattle.rt_topx.proofs.start.read_script_of.Goals as goal

pub returns-in-Ok-None-clause-reads : goal.returns-in-Ok-None-clause-reads
returns-in-Ok-None-clause-reads g c t is of_board named =
    let read = rw c.in-Ok-None.field-0-is at c.in-Ok-None.ensures in
    refusal_reads rticx_program kind.Script t _ _ read.0 read.0.1 status.Text (SaysScript (refused_at 1 cause.TooLong))
    (λ line says. (refl, refused_beside _ is _ of_board (refused_at 1 cause.TooLong) (too_long read.1) says))
    c.refuse_script.result c.refuse_script.ensures

pub returns-in-Err-clause-reads : goal.returns-in-Err-clause-reads
returns-in-Err-clause-reads g c t is of_board named = stop c.in-Err.status c.in-Err.ensures

pub returns-in-Ok-clause-reads : goal.returns-in-Ok-clause-reads
returns-in-Ok-clause-reads g c t is of_board named =
    let read = rw c.in-Ok-Some.field-0-is at c.in-Ok-Some.ensures in (
      read.0,
      subst (λ text. IsGivenText c.args.names.now (app_of c.args.app.now) c.args.board.now text
          c.in-Ok.script) (c.deref.ensures.value ∙ read.1) c.in-Ok.ensures.read,
    )

pub returns-clause-reads : goal.returns-clause-reads
returns-clause-reads g c t is of_board named =
    let read = rw c.in-Ok-Some.field-0-is at c.in-Ok-Some.ensures in
    let app = app_of c.args.app.now in
    let gave = given_by g.S.Source.past c.args.source.now c.read_within.new.source in
    let refusal = c.in-Err-read_given.refusal in
    let refused = subst (λ n. IsRefused n app c.args.board.now gave refusal) named
    (subst (λ text. IsRefused c.args.names.now app c.args.board.now text refusal) (c.deref.ensures.value ∙ read.1)
    c.in-Err-read_given.ensures.refused) in
    refusal_reads rticx_program kind.Script t gave _ read.0 read.0.1 status.Text (SaysScript refusal)
    (λ line says. (refl, refused_beside app is _ of_board refusal refused says))
    c.refuse_script-in-Err-read_given.result c.refuse_script-in-Err-read_given.ensures
