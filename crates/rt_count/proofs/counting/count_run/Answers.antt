use Rattle.std.proofs.Common.{◌≤◌, List, ap, subst, arith}
use Rattle.rt_ids.specs.declared.limits.TheConstants.{SCRIPT_EVENTS}
use Rattle.rt_script.specs.Script.{events, count}
use Rattle.rt_script.specs.declared.line.Line.{Line}
use Rattle.rt_run.proofs.Known.{steps_below}
use Rattle.rt_run.proofs.Scripted.{events_length}
use Rattle.rt_count.specs.Inside.Counting.{Counted}
use Rattle.rt_count.proofs.Following.{run_is, within_more}
use Rattle.rt_count.proofs.counting.count_run.Goals as goal

pub returns-clause-counts : goal.returns-clause-counts
returns-clause-counts c =
    let core = c.args.core.now in
    let after = c.count_lines.new.core in
    let none = c.of_silent_runs-summary.result in
    let all = c.count_lines.new.summary in
    run_is c.args.script.now core after none all 1 c.requires c.of_silent_runs-summary.ensures
    (subst (λ (s : List Line). Counted (events s) core after none all) c.lines.ensures.lines
    c.count_lines.ensures.counted)

pub returns-clause-within : goal.returns-clause-within
returns-clause-within c =
    let script = c.lines.result.now in
    let after = c.count_lines.new.core in
    let few : after.steps ≤ SCRIPT_EVENTS = omega (
      arith,
      c.count_lines.ensures.counted.leads.steps,
      c.requires.steps,
      steps_below (events script),
      events_length script,
      ap count c.lines.ensures.lines,
      c.lines.ensures.script.few,
    ) in
    within_more after.steps SCRIPT_EVENTS c.count_lines.new.summary few c.count_lines.ensures.within
