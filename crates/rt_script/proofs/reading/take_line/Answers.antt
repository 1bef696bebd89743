use Rattle.std.proofs.Common.{sym, ◌∙◌}
use Rattle.rt_script.proofs.Declared.{line_right}
use Rattle.rt_script.proofs.reading.take_line.Goals as goal

pub push-requires : goal.push-requires
push-requires c =
    let asked = sym c.read_line.ensures ∙ c.in-Ok-Some.is in
    (rw (asked, c.in-Ok-Some.field-0-is) at (line_right c.args.names.now c.args.line.now)).1
