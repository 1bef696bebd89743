use Rattle.std.proofs.Common.{take}
use Rattle.rt_script.specs.Script.{events}
use Rattle.rt_count.specs.Inside.Counting.{Counted}
use Rattle.rt_count.specs.Joining.{CountsAtMost}
use Rattle.rt_count.proofs.counting.count_lines.Given as goal

abbrev pub invariant-loop-line : goal.invariant-loop-line
invariant-loop-line l = record {
  counted : Counted (events (take l.line-index l.lines)) l.fn.core l.core l.fn.summary l.summary;
  within : CountsAtMost l.core.steps l.summary;
}
