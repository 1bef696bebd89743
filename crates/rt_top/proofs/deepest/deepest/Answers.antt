use Rattle.std.proofs.Common.{sym}
use Rattle.rt_app.specs.View.{app_of}
use Rattle.rt_ids.specs.declared.status.Status.TheVariants as status
use Rattle.rt_top.specs.Outputs.{no_line, TellsDeepest, reaches_bound, no_script}
use Rattle.rt_top.proofs.Giving.{line_tells}
use Rattle.rt_top.proofs.deepest.deepest.Goals as goal

pub returns-in-Ok-Some : goal.returns-in-Ok-Some
returns-in-Ok-Some c =
    reaches_bound c.in-Ok-Some.text.items (sym (rw c.in-Ok-Some.field-0-is at c.in-Ok-Some.ensures.form))
    (rw c.in-Ok-Some.field-0-is at c.in-Ok-Some.ensures.reached)

pub returns-in-Ok-None : goal.returns-in-Ok-None
returns-in-Ok-None c =
    line_tells status.No no_line (TellsDeepest (app_of c.args.app.now))
    (no_script (sym (rw c.in-Ok-None.field-0-is at c.in-Ok-None.ensures.form))) c.line.result c.line.ensures
