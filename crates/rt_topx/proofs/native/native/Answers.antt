use Rattle.std.proofs.Common.{inl, inr, refl, subst, ◌∙◌}
use Rattle.rt_ids.specs.declared.status.Status.TheVariants as status
use Rattle.rt_lines.specs.Refusal.{too_long, refused_at}
use Rattle.rt_app.specs.View.{app_of}
use Rattle.rt_target.specs.Reading.{IsTargetOf, IsTargetRefused}
use Rattle.rt_target.specs.declared.refusal.Cause.TheVariants as cause
use Rattle.rt_inputs.proofs.Free.{runs_with_inputs_are_good}
use Rattle.rt_top.specs.Program.{inputs}
use Rattle.rt_top.specs.Inside.Using.{for_memory, stop}
use Rattle.rt_top.specs.Reads.{given_by}
use Rattle.rt_top.proofs.Conducting.{refused_over, refusal_reads}
use Rattle.rt_top.proofs.Giving.{replies_as}
use Rattle.rt_topx.specs.Kinds as kind
use Rattle.rt_topx.specs.Executable.{IsMade}
use Rattle.rt_topx.specs.Refusal.{SaysBoard}
use Rattle.rt_topx.specs.Rticx.{rticx_program}
use Rattle.rt_topx.proofs.native.native.Goals as goal

pub returns-in_default : goal.returns-in_default
returns-in_default g c first third is = inr (stop status.Memory (for_memory refl))

pub returns-in-Ok-None : goal.returns-in-Ok-None
returns-in-Ok-None g c first third is =
    let t = inputs first (given_by g.S.Source.past c.args.source.now c.read_within.new.source) third in
    let read = rw c.in-Ok-None.field-0-is at c.in-Ok-None.ensures in
    inr (refusal_reads rticx_program kind.Target t _ _ read.0 read.0.1 status.Text
    (SaysBoard (refused_at 1 cause.TooLong))
    (λ line says. (refl, refused_over _ is (refused_at 1 cause.TooLong) (too_long read.1) says))
    c.refuse_board.result c.refuse_board.ensures)

pub returns-in-Err : goal.returns-in-Err
returns-in-Err g c first third is = inr (stop c.in-Err.status c.in-Err.ensures)

pub returns-in-Ok-read_target : goal.returns-in-Ok-read_target
returns-in-Ok-read_target g c first third is =
    let app = app_of c.args.app.now in
    let gave = given_by g.S.Source.past c.args.source.now c.read_within.new.source in
    let setup = c.in-Ok-read_target.setup in
    let read = rw c.in-Ok-Some.field-0-is at c.in-Ok-Some.ensures in
    let of_board = subst (λ text. IsTargetOf app text setup) (c.deref.ensures.value ∙ read.1)
    c.in-Ok-read_target.ensures.read in
    inl (
      read.0,
      (app, is, setup, of_board),
      replies_as c.make.result c.make.ensures (λ ended bytes made. record {
        app = app;
        of_text = is;
        image = made.0;
        is = made.1;
        setup = setup;
        of_board = of_board;
        inputs = c.in-Ok-read_target.ensures.inputs;
        good =
            runs_with_inputs_are_good app made.0 made.1.accepted made.1.of_application setup.board
            c.in-Ok-read_target.ensures.inputs;
        made =
            subst (λ text. IsMade app made.0 text setup ended bytes)
            (c.deref-in-Ok-read_target.ensures.value ∙ read.1) made.2;
        simulates = made.3;
      }),
    )

pub returns : goal.returns
returns g c first third is =
    let t = inputs first (given_by g.S.Source.past c.args.source.now c.read_within.new.source) third in
    let read = rw c.in-Ok-Some.field-0-is at c.in-Ok-Some.ensures in
    let refusal = c.in-Err-read_target.refusal in
    let refused = subst (λ text. IsTargetRefused (app_of c.args.app.now) text refusal)
    (c.deref.ensures.value ∙ read.1) c.in-Err-read_target.ensures.refused in
    inr (refusal_reads rticx_program kind.Target t _ _ read.0 read.0.1 status.Text (SaysBoard refusal)
    (λ line says. (refl, refused_over _ is refusal refused says)) c.refuse_board-in-Err-read_target.result
    c.refuse_board-in-Err-read_target.ensures)

pub make-requires-clause-whole : goal.make-requires-clause-whole
make-requires-clause-whole g c = c.in-Ok-read_target.ensures.read.whole
