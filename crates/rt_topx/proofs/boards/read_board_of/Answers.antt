use Rattle.std.proofs.Common.{refl, sym, subst, ◌∙◌}
use Rattle.rt_ids.specs.declared.status.Status.TheVariants as status
use Rattle.rt_lines.specs.Refusal.{too_long, refused_at}
use Rattle.rt_app.specs.View.{app_of}
use Rattle.rt_target.specs.Reading.{IsSetupOf, IsRefused}
use Rattle.rt_target.specs.declared.refusal.Cause.TheVariants as cause
use Rattle.rt_top.specs.Inside.Using.{for_memory, stop}
use Rattle.rt_top.proofs.Conducting.{refused_over, refusal_reads}
use Rattle.rt_topx.specs.Kinds as kind
use Rattle.rt_topx.specs.Refusal.{SaysBoard}
use Rattle.rt_topx.specs.Rticx.{rticx_program}
use Rattle.rt_topx.proofs.boards.read_board_of.Goals as goal

pub returns-in_default-clause-reads : goal.returns-in_default-clause-reads
returns-in_default-clause-reads g c t is = stop status.Memory (for_memory refl)

pub returns-in-Ok-None-clause-reads : goal.returns-in-Ok-None-clause-reads
returns-in-Ok-None-clause-reads g c t is =
    let read = rw c.in-Ok-None.field-0-is at c.in-Ok-None.ensures in
    refusal_reads rticx_program kind.Board t _ _ read.0 read.0.1 status.Text (SaysBoard (refused_at 1 cause.TooLong))
    (λ line says. (refl, refused_over _ is (refused_at 1 cause.TooLong) (too_long read.1) says)) c.refuse_board.result
    c.refuse_board.ensures

pub returns-in-Err-clause-reads : goal.returns-in-Err-clause-reads
returns-in-Err-clause-reads g c t is = stop c.in-Err.status c.in-Err.ensures

pub returns-in-Ok-read_setup-clause-reads : goal.returns-in-Ok-read_setup-clause-reads
returns-in-Ok-read_setup-clause-reads g c t is =
    let read = rw c.in-Ok-Some.field-0-is at c.in-Ok-Some.ensures in (
      read.0,
      (
        c.in-Ok-read_setup.setup,
        sym c.into_board.ensures,
        subst (λ text. IsSetupOf (app_of c.args.app.now) text c.in-Ok-read_setup.setup)
            (c.deref.ensures.value ∙ read.1) c.in-Ok-read_setup.ensures.read,
      ),
    )

pub returns-clause-reads : goal.returns-clause-reads
returns-clause-reads g c t is =
    let read = rw c.in-Ok-Some.field-0-is at c.in-Ok-Some.ensures in
    let refusal = c.in-Err-read_setup.refusal in
    let refused = subst (λ text. IsRefused (app_of c.args.app.now) text refusal) (c.deref.ensures.value ∙ read.1)
    c.in-Err-read_setup.ensures.refused in
    refusal_reads rticx_program kind.Board t _ _ read.0 read.0.1 status.Text (SaysBoard refusal)
    (λ line says. (refl, refused_over _ is refusal refused says)) c.refuse_board-in-Err-read_setup.result
    c.refuse_board-in-Err-read_setup.ensures
