use Rattle.std.proofs.Common.{arith, ◌+◌}
use Rattle.rt_lines.proofs.Reading.{line_more, wrong_line}
use Rattle.rt_image_times.specs.Text.{image_limits_reader, too_long, first_wrong, no_memory}
use Rattle.rt_image_times.proofs.Telling.{lead_fine}
use Rattle.rt_image_times.proofs.reading.read_image_limits.Goals as goal

pub returns-then-bytes-clause-refused : goal.returns-then-bytes-clause-refused
returns-then-bytes-clause-refused c = too_long (omega arith)

pub loop-rest-preserved : goal.loop-rest-preserved
loop-rest-preserved c =
    line_more (image_limits_reader c.args.image.now) c.args.bytes.now c.loop-rest.rest.now c.first_line.result.1.now
    c.first_line.result.0.now c.loop-rest.number c.loop-rest.limits c.take_line.new.limits c.loop-rest.invariant
    c.first_line.ensures.lines c.first_line.ensures.shorter (rw c.in-Ok-Ok.field-0-is at c.in-Ok-Ok.ensures.taken)

pub returns-in-Ok-Err-clause-refused : goal.returns-in-Ok-Err-clause-refused
returns-in-Ok-Err-clause-refused c =
    rw c.refusal.ensures
    (first_wrong (c.loop-rest.number + 1) c.in-Ok-Err.wrong
    (wrong_line (image_limits_reader c.args.image.now) c.args.bytes.now c.loop-rest.rest.now
    c.first_line.result.1.now c.first_line.result.0.now c.loop-rest.number c.loop-rest.limits c.in-Ok-Err.wrong
    c.loop-rest.invariant c.first_line.ensures.lines (omega arith)
    (rw c.in-Ok-Err.field-0-is at c.in-Ok-Err.ensures.taken)))

pub returns-in-Err-clause-refused : goal.returns-in-Err-clause-refused
returns-in-Err-clause-refused c = no_memory

pub returns-clause-fine : goal.returns-clause-fine
returns-clause-fine c = lead_fine c.args.image.now c.loop-rest.invariant.before c.loop-rest.limits
    c.loop-rest.invariant.lead
