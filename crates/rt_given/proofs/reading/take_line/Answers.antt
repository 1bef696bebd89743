use Rattle.std.proofs.Common.{sym, ◌∙◌}
use Rattle.rt_app.specs.View.{app_of}
use Rattle.rt_given.proofs.Told.{said_right}
use Rattle.rt_given.proofs.reading.take_line.Goals as goal

pub push-requires : goal.push-requires
push-requires c =
    let said = sym c.read_given_line.ensures ∙ c.in-Ok-Some.is in
    (rw (said, c.in-Ok-Some.field-0-is)
    at (said_right c.args.names.now (app_of c.args.app.now) c.args.board.now c.args.line.now)).device
