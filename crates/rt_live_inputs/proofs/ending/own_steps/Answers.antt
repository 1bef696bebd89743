use Rattle.std.proofs.Common.{take, ap, ◌∙◌, arith}
use Rattle.std.proofs.Math.Facts.{Fits-of_lt}
use Rattle.std.proofs.lemmas.List.{take_all}
use Rattle.rt_live_inputs.specs.Looking.{own_steps}
use Rattle.rt_live_inputs.proofs.Steps.{line_few, own_few, own_more}
use Rattle.rt_live_inputs.proofs.Lines.{events_within}
use Rattle.rt_live_inputs.proofs.ending.own_steps.Goals as goal

pub overflow_add-steps : goal.overflow_add-steps
overflow_add-steps c =
    let lines = c.args.lines.now in
    let i = c.loop-line.line-index in
    let line = c.line-item.result in
    Fits-of_lt (omega (
      arith,
      c.loop-line.invariant,
      own_few (take i lines),
      events_within lines i line c.loop-line-test.true c.line-item.is,
      line_few line,
      c.steps_in.ensures,
      c.from-steps.ensures,
      c.requires.few,
    ))

pub loop-line-preserved : goal.loop-line-preserved
loop-line-preserved c =
    omega (
      arith,
      c.loop-line.invariant,
      own_more c.args.lines.now c.loop-line.line-index c.line-item.result c.loop-line-test.true c.line-item.is,
      c.steps_in.ensures,
      c.from-steps.ensures,
    )

pub returns : goal.returns
returns c =
    c.loop-line.invariant ∙ ap own_steps (take_all c.loop-line.line-index c.args.lines.now (omega arith))
