use Rattle.std.proofs.Common.{sym, ◌∙◌}
use Rattle.rt_bounds.specs.Inside.Holdings.{Line}
use Rattle.rt_bounds.proofs.holding.write_at.Goals as goal

pub returns-in-Some : goal.returns-in-Some
returns-in-Some c = Line c.in-Some.line (sym c.line_at.ensures ∙ c.in-Some.is) c.write_of.ensures
