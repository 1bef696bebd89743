use Rattle.std.proofs.Common.{List, ap, sym, subst, ◌∙◌}
use Rattle.rt_app.specs.View.{app_of}
use Rattle.rt_script.specs.Script.{HasName, HasNames}
use Rattle.rt_script.specs.declared.line.Line.{Line}
use Rattle.rt_inputs.proofs.Scripted.{can_run}
use Rattle.rt_live_inputs.specs.Boxes.{plain}
use Rattle.rt_live_inputs.proofs.Made.{plain_whole}
use Rattle.rt_live_inputs.proofs.running.live.Goals as goal

pub of-requires : goal.of-requires
of-requires g c =
    subst (λ (ls : List Line). HasNames c.args.core.now.image.names ls)
    (sym (c.in-Ok.ensures ∙ ap plain c.lines-lines.ensures.lines))
    (plain_whole (HasName c.args.core.now.image.names) c.args.script.now c.requires.declared)

pub run-requires-clause-can : goal.run-requires-clause-can
run-requires-clause-can g c κs within =
    can_run (app_of c.args.app.now) c.args.core.now c.requires.accepted c.requires.image c.args.board.now
    c.requires.inputs c.requires.fresh c.requires.lines
