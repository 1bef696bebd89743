use Rattle.std.proofs.Common.{arith, ◌+◌, sym, ap, ◌∙◌}
use Rattle.rt_lines.specs.Refusal.{too_long, first_wrong, no_memory}
use Rattle.rt_lines.proofs.Reading.{line_more, wrong_line}
use Rattle.rt_app.specs.View.{app_of}
use Rattle.rt_target.specs.Reading.{setup_reader}
use Rattle.rt_target.specs.Wording.{with_line}
use Rattle.rt_target.proofs.Fine.{lead_fine}
use Rattle.rt_target.proofs.reading.read_lines.Goals as goal

pub returns-then-bytes-clause-refused : goal.returns-then-bytes-clause-refused
returns-then-bytes-clause-refused c = too_long (omega arith)

pub loop-rest-preserved : goal.loop-rest-preserved
loop-rest-preserved c =
    let step = rw c.in-Ok-Ok.field-0-is at c.in-Ok-Ok.ensures.taken in
    line_more (setup_reader (app_of c.args.app.now)) c.args.bytes.now c.loop-rest.rest.now c.first_line.result.1.now
    c.first_line.result.0.now c.loop-rest.number c.loop-rest.setup c.take_line.new.setup c.loop-rest.invariant
    c.first_line.ensures.lines c.first_line.ensures.shorter
    (ap (λ names. with_line names (app_of c.args.app.now) c.loop-rest.setup c.first_line.result.0.now)
    (sym c.requires) ∙ step)

pub returns-in-Ok-Err-clause-refused : goal.returns-in-Ok-Err-clause-refused
returns-in-Ok-Err-clause-refused c =
    let step = rw c.in-Ok-Err.field-0-is at c.in-Ok-Err.ensures.taken in
    first_wrong (c.loop-rest.number + 1) c.in-Ok-Err.cause
    (wrong_line (setup_reader (app_of c.args.app.now)) c.args.bytes.now c.loop-rest.rest.now
    c.first_line.result.1.now c.first_line.result.0.now c.loop-rest.number c.loop-rest.setup c.in-Ok-Err.cause
    c.loop-rest.invariant c.first_line.ensures.lines (omega arith)
    (ap (λ names. with_line names (app_of c.args.app.now) c.loop-rest.setup c.first_line.result.0.now)
    (sym c.requires) ∙ step))

pub returns-in-Err-clause-refused : goal.returns-in-Err-clause-refused
returns-in-Err-clause-refused c = no_memory

pub returns-clause-inputs : goal.returns-clause-inputs
returns-clause-inputs c =
    (lead_fine (app_of c.args.app.now) c.loop-rest.invariant.before c.loop-rest.setup c.loop-rest.invariant.lead).inputs

pub returns-clause-facts : goal.returns-clause-facts
returns-clause-facts c =
    (lead_fine (app_of c.args.app.now) c.loop-rest.invariant.before c.loop-rest.setup
    c.loop-rest.invariant.lead).facts
