use Rattle.std.proofs.Common.{sym, subst}
use Rattle.rt_script.specs.Script.{line_events}
use Rattle.rt_script.specs.declared.line.Line.{Line}
use Rattle.rt_count.specs.Inside.Counting.{Counted}
use Rattle.rt_count.proofs.counting.count_line.Goals as goal

pub returns-in-Ticks-clause-counted : goal.returns-in-Ticks-clause-counted
returns-in-Ticks-clause-counted c =
    subst (λ (l : Line). Counted (line_events l) c.args.core.now c.tick_on.new.core c.args.summary.now
    c.args.summary.now) (sym c.in-Ticks.is)
    (c.tick_on.ensures.counted c.args.summary.now)

pub returns-in-Pends-clause-counted : goal.returns-in-Pends-clause-counted
returns-in-Pends-clause-counted c =
    subst (λ (l : Line). Counted (line_events l) c.args.core.now c.arrive_on.new.core c.args.summary.now
    c.args.summary.now) (sym c.in-Pends.is)
    (c.arrive_on.ensures.counted c.args.summary.now)

pub returns-in-Device-clause-counted : goal.returns-in-Device-clause-counted
returns-in-Device-clause-counted c =
    subst (λ (l : Line). Counted (line_events l) c.args.core.now c.arrive_on-in-Device.new.core c.args.summary.now
    c.args.summary.now) (sym c.in-Device.is)
    (c.arrive_on-in-Device.ensures.counted c.args.summary.now)
