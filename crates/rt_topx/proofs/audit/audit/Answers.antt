use Rattle.std.proofs.Common.{◌++◌, codes, decimal, inl, inr, ap, ◌∙◌}
use Rattle.rt_app.specs.View.{app_of}
use Rattle.rt_baker.specs.declared.verdict.Verdict.TheVariants as judged
use Rattle.rt_top.specs.Program.{inputs}
use Rattle.rt_top.specs.Reads.{given_by}
use Rattle.rt_top.proofs.Giving.{replies_as}
use Rattle.rt_topx.proofs.audit.audit.Goals as goal

pub returns-in-Ok-Yes-default : goal.returns-in-Ok-Yes-default
returns-in-Ok-Yes-default g c first second is of_board =
    let t = inputs first second (given_by g.S.Source.past c.args.source.now c.judge_source.new.source) in
    let app = app_of c.args.app.now in
    let board = c.args.board.now in
    let read = c.in-Ok-Yes-default.ensures t is of_board in
    let j = rw c.in-Ok-Yes-default.field-0-0-is at read.1 in
    inl (
      read.0,
      (app, is, board, of_board, j.told, j.read),
      replies_as c.reply_number.result c.reply_number.ensures (λ ended bytes says. record {
        app = app;
        of_text = is;
        board = board;
        of_board = of_board;
        told = j.told;
        read = j.read;
        verdict = judged.Yes;
        is = j.is;
        says = (says.0, says.1 ∙ ap (λ k. codes "yes " ++ decimal k ++ codes "\n") j.counted);
      }),
    )

pub returns-in-Ok-No-default : goal.returns-in-Ok-No-default
returns-in-Ok-No-default g c first second is of_board =
    let t = inputs first second (given_by g.S.Source.past c.args.source.now c.judge_source.new.source) in
    let app = app_of c.args.app.now in
    let board = c.args.board.now in
    let read = c.in-Ok-No-default.ensures t is of_board in
    let j = rw c.in-Ok-No-default.field-0-0-is at read.1 in
    inl (
      read.0,
      (app, is, board, of_board, j.told, j.read),
      replies_as c.reply_number-in-Ok-No-default.result c.reply_number-in-Ok-No-default.ensures
          (λ ended bytes says. record {
            app = app;
            of_text = is;
            board = board;
            of_board = of_board;
            told = j.told;
            read = j.read;
            verdict = judged.No c.in-Ok-No-default.number;
            is = j.is;
            says = says;
          }),
    )

pub returns-in-Err : goal.returns-in-Err
returns-in-Err g c first second is of_board =
    let t = inputs first second (given_by g.S.Source.past c.args.source.now c.judge_source.new.source) in
    inr (c.in-Err.ensures t is of_board)
