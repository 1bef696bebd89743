use Rattle.std.proofs.Common.{◌≡◌, ◌<◌, List, length, take, ap, subst, arith}
use Rattle.std.proofs.lemmas.List.{take_all}
use Rattle.rt_core.specs.Core.{Core}
use Rattle.rt_script.specs.Script.{events}
use Rattle.rt_script.specs.declared.line.Line.{Line}
use Rattle.rt_run.proofs.Known.{steps_below, ticks_below, time_led}
use Rattle.rt_run.proofs.Scripted.{room}
use Rattle.rt_count.specs.Inside.Counting.{Counted}
use Rattle.rt_count.proofs.Following.{nothing_yet, line_more}
use Rattle.rt_count.proofs.counting.count_lines.Goals as goal

pub loop-line-init : goal.loop-line-init
loop-line-init c = record {
  counted = nothing_yet c.args.core.now c.args.summary.now;
  within = c.requires.within;
}

pub count_line-requires-clause-few : goal.count_line-requires-clause-few
count_line-requires-clause-few c =
    let script = c.args.lines.now in
    let i = c.loop-line.line-index in
    let at : i < length script = omega arith in
    omega (
      arith,
      c.loop-line.invariant.counted.leads.steps,
      c.requires.fresh.steps,
      steps_below (events (take i script)),
      room script i c.line-item.result at c.line-item.is c.requires.script,
    )

pub count_line-requires-clause-early : goal.count_line-requires-clause-early
count_line-requires-clause-early c =
    let script = c.args.lines.now in
    let i = c.loop-line.line-index in
    let at : i < length script = omega arith in
    omega (
      arith,
      time_led (events (take i script)) c.args.core.now _ c.loop-line.invariant.counted.leads,
      ap (λ (k : Core). k.time) c.requires.fresh.core,
      ticks_below (events (take i script)),
      room script i c.line-item.result at c.line-item.is c.requires.script,
    )

pub loop-line-preserved : goal.loop-line-preserved
loop-line-preserved c =
    let script = c.args.lines.now in
    let i = c.loop-line.line-index in
    let at : i < length script = omega arith in
    record {
      counted =
          line_more script i c.line-item.result at c.line-item.is c.args.core.now c.loop-line.core
          c.count_line.new.core c.args.summary.now c.loop-line.summary c.count_line.new.summary
          c.loop-line.invariant.counted c.count_line.ensures.counted;
      within = c.count_line.ensures.within;
    }

pub returns-clause-counted : goal.returns-clause-counted
returns-clause-counted c =
    let script = c.args.lines.now in
    let all : take c.loop-line.line-index script ≡ script = take_all c.loop-line.line-index script (omega arith) in
    subst (λ (s : List Line). Counted (events s) c.args.core.now c.loop-line.core c.args.summary.now
    c.loop-line.summary)
    all c.loop-line.invariant.counted
